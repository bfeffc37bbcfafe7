use Rattle.std.proofs.Common.{rules}
use Rattle.handling.proofs.Installing.{left-more, left-none, installs-all}
use Rattle.handling.proofs.lines.install_lines.Goals as goal

pub loop-line-preserved : goal.loop-line-preserved
loop-line-preserved g c = (
  search rules,
  left-more _ _ _ (g.M.Memory.words c.loop-line.memory) _ c.loop-line.installed c.args.lines.now c.loop-line.line-index _ c.install_line.result
      c.loop-line-test.true c.install_line.ensures.answers c.install_line.ensures.after c.loop-line.invariant.1,
)

pub returns : goal.returns
returns g c =
    let done = left-none _ _ _ (g.M.Memory.words c.loop-line.memory) c.loop-line.installed c.args.lines.now c.loop-line.line-index c.loop-line-test.false c.loop-line.invariant.1 in
    record { after = done.0; counts = done.1; all_fit = installs-all (g.M.Memory.words c.args.memory.now) _ _ c.args.lines.now done.0 done.1 }
