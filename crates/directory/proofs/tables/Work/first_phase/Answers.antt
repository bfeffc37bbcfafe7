-- By what is read and written.
use Rattle.std.proofs.Common.{List, refl, sym, ap, ◌∙◌}
use Rattle.protocol.specs.declared.record.Line.{Line}
use Rattle.protocol.specs.Room.{is_at_primary}
use Rattle.directory.proofs.Begun.{five, begins-locking, begins-idle, begins-checking}
use Rattle.directory.proofs.tables.Work.first_phase.Goals as goal

pub returns-then-not-is_empty : goal.returns-then-not-is_empty
returns-then-not-is_empty c = λ few. begins-locking c.args.plan.now c.args.self.now few _ refl refl
    (c.locked_machines.ensures ∙ ap (λ (ls : List Line). five (is_at_primary c.args.plan.now ls)) c.as_slice.ensures.lines)
    (sym c.if-not-is_empty.ensures)

pub returns-then-is_empty : goal.returns-then-is_empty
returns-then-is_empty c = λ few. begins-idle c.args.plan.now c.args.self.now (sym c.if-is_empty.ensures) (sym c.if-not-is_empty.ensures)

pub returns-else-is_empty : goal.returns-else-is_empty
returns-else-is_empty c = λ few. begins-checking c.args.plan.now c.args.self.now (sym c.if-is_empty.ensures) (sym c.if-not-is_empty.ensures)
