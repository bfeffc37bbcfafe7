-- Those lines of the LOCK that the coordinator holds are freed.
use Rattle.std.proofs.Common.{◌≡◌, suc, ◌∙◌, List, length, sym, subst}
use Rattle.protocol.specs.declared.record.Line.{Line}
use Rattle.protocol.specs.Lines.{held_lines, free_lines}
use Rattle.protocol.specs.Kept.{Lines}
use Rattle.handling.proofs.Handles.{locked-fit, released}
use Rattle.handling.proofs.handle.release.Goals as goal

pub returns : goal.returns
returns g c = λ s long few.
    let p = c.args.plan.now in
    let ws = g.P.Memory.words c.args.primaries.now in
    let lines = c.as_slice.ensures.lines ∙ c.locked_lines-lines.ensures s.stands in
    let good = subst (Lines p) (sym lines) (locked-fit p c.args.log.now.ring.now c.args.log.now.slots.now c.args.number s) in
    subst
    (λ (ls : List Line). (g.P.Memory.words c.free_lines.new.memory ≡ free_lines ws (held_lines ws (suc c.args.c) ls)) × (c.free_lines.result ≡ length (held_lines ws (suc c.args.c) ls)))
    lines
    (released p c.as_slice.result.now ws (g.P.Memory.words c.free_lines.new.memory) good long c.args.c c.saturating_add.result c.saturating_add.ensures few c.free_lines.result c.free_lines.ensures.all_fit)
