-- The loop makes the calls in their order.
use Rattle.std.proofs.Common.{◌∙◌, arith}
use Rattle.service.proofs.Running.{runs-next}
use Rattle.service.proofs.owner.Directory.run.Goals as goal

pub loop-call-preserved : goal.loop-call-preserved
loop-call-preserved g c =
    let plan = c.loop-call.invariant.2 in (
      omega (arith, c.push_reserved.ensures.len, c.loop-call.invariant.0),
      omega (arith, c.push_reserved.ensures.capacity, c.loop-call.invariant.1),
      c.call-answer.ensures.plan ∙ plan,
      runs-next _ _ _ _ _ c.args.calls.now c.loop-call.call-index _ _ _ _ plan c.loop-call-test.true c.loop-call.invariant.3 c.call-answer.ensures.does c.push_reserved.ensures.items,
    )
