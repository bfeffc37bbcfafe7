use Rattle.std.proofs.Common.{rules}
use Rattle.handling.proofs.BackingUp.{left-more, left-none, backs-up-fit}
use Rattle.handling.proofs.lines.back_up_lines.Goals as goal

pub loop-line-preserved : goal.loop-line-preserved
loop-line-preserved g c = (
  search rules,
  left-more c.args.plan.now c.args.m _ _ _ (g.F.Memory.words c.loop-line.firsts) (g.S.Memory.words c.loop-line.seconds) _ _ c.loop-line.puts c.args.lines.now c.loop-line.line-index _ c.back_up_line.result
      c.loop-line-test.true c.back_up_line.ensures c.loop-line.invariant.1,
)

pub returns : goal.returns
returns g c =
    let fs = g.F.Memory.words c.loop-line.firsts in
    let ss = g.S.Memory.words c.loop-line.seconds in
    let after = left-none c.args.plan.now c.args.m _ _ _ fs ss c.loop-line.puts c.args.lines.now c.loop-line.line-index c.loop-line-test.false c.loop-line.invariant.1 in
    record { after = after; few = search rules; all_fit = backs-up-fit c.args.plan.now c.args.m _ _ c.args.lines.now _ _ fs ss c.loop-line.puts after }
