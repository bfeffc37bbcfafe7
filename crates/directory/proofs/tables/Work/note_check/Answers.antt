-- Each way out of a check.
use Rattle.std.proofs.Common.{sym, subst}
use Rattle.protocol.specs.declared.call.Outcome.TheVariants.{Aborted}
use Rattle.directory.specs.declared.tables.Phase.{Phase}
use Rattle.directory.specs.Progress.{AfterCheck}
use Rattle.directory.proofs.Working.{moved}
use Rattle.directory.proofs.Progressing.{check-fails-idle, check-fails, check-more, check-commits, check-ends}
use Rattle.directory.proofs.tables.Work.note_check.Goals as goal
use Rattle.directory.proofs.tables.Work.note_check.Goals.{then-is_empty, else-is_empty}

pub returns-then-not-current : goal.returns-then-not-current
returns-then-not-current c =
    let After = λ (ph : Phase). AfterCheck c.args.self.now c.args.count c.args.current (moved c.args.self.now ph) Aborted in
    elim c.if-is_empty.branch [
      | then-is_empty w ↦
          subst After (sym w.self-is) (check-fails-idle c.args.self.now c.args.count c.args.current c.if-not-current.true (sym w.if-is_empty.ensures))
      | else-is_empty w ↦
          subst After (sym w.self-is) (check-fails c.args.self.now c.args.count c.args.current c.if-not-current.true (sym w.if-is_empty.ensures))
    ]

pub returns-in-Some : goal.returns-in-Some
returns-in-Some c = check-more c.args.self.now c.args.count c.args.current c.if-not-current.false _ _ c.in-Some.ensures

pub returns-then-is_empty-2 : goal.returns-then-is_empty-2
returns-then-is_empty-2 c = check-commits c.args.self.now c.args.count c.args.current c.if-not-current.false c.in_default.ensures (sym c.if-is_empty-2.ensures)

pub returns : goal.returns
returns c = check-ends c.args.self.now c.args.count c.args.current c.if-not-current.false c.in_default.ensures (sym c.if-is_empty-2.ensures)
