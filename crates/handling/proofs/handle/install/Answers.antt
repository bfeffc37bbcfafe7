-- The lines of the LOCK are installed.
use Rattle.std.proofs.Common.{◌≡◌, ◌∙◌, List, length, sym, subst}
use Rattle.protocol.specs.declared.record.Line.{Line}
use Rattle.protocol.specs.Lines.{install_lines}
use Rattle.protocol.specs.Kept.{Lines}
use Rattle.handling.proofs.Handles.{locked-fit, fit}
use Rattle.handling.proofs.handle.install.Goals as goal

pub returns : goal.returns
returns g c = λ s long.
    let p = c.args.plan.now in
    let ws = g.P.Memory.words c.args.primaries.now in
    let lines = c.as_slice.ensures.lines ∙ c.locked_lines-lines.ensures s.stands in
    let good = subst (Lines p) (sym lines) (locked-fit p c.args.log.now.ring.now c.args.log.now.slots.now c.args.number s) in
    subst
    (λ (ls : List Line). (g.P.Memory.words c.install_lines.new.memory ≡ install_lines ws ls) × (c.install_lines.result ≡ length ls))
    lines
    (c.install_lines.ensures.all_fit (fit p c.as_slice.result.now ws (g.P.Memory.words c.install_lines.new.memory) good long))
