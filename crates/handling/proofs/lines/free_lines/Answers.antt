use Rattle.std.proofs.Common.{rules}
use Rattle.handling.proofs.Freeing.{left-more, left-none, frees-held}
use Rattle.handling.proofs.lines.free_lines.Goals as goal

pub loop-line-preserved : goal.loop-line-preserved
loop-line-preserved g c = (
  search rules,
  left-more c.args.holder _ _ (g.M.Memory.words c.loop-line.memory) _ c.loop-line.freed c.args.lines.now c.loop-line.line-index _ c.free_line.result
      c.loop-line-test.true c.free_line.ensures.answers c.free_line.ensures.after c.loop-line.invariant.1,
)

pub returns : goal.returns
returns g c =
    let done = left-none c.args.holder _ _ (g.M.Memory.words c.loop-line.memory) c.loop-line.freed c.args.lines.now c.loop-line.line-index c.loop-line-test.false c.loop-line.invariant.1 in
    record { after = done.0; counts = done.1; all_fit = frees-held c.args.holder (g.M.Memory.words c.args.memory.now) _ _ c.args.lines.now done.0 done.1 }
