-- Each way out of poll.
use Rattle.std.proofs.Common.{arith}
use Rattle.protocol.specs.declared.call.Refusal.TheVariants.{NoMachine}
use Rattle.directory.specs.View.{World, world}
use Rattle.directory.proofs.Doing.{inside, handed-on, hands-on, refused-so, machine-missing}
use Rattle.directory.proofs.Pairs as pairs
use Rattle.directory.proofs.Polling.{poll-beyond, nothing-polled, polls}
use Rattle.directory.proofs.poll.poll.Goals as goal

pub returns-in_err-admit : goal.returns-in_err-admit
returns-in_err-admit g c = handed-on _ (world _ _ _ _ _ _) _ _ _ c.from_residual.ensures.1 c.in_err-admit.ensures.answers

pub returns-in_err-admit_machine : goal.returns-in_err-admit_machine
returns-in_err-admit_machine g c =
    let missing = machine-missing c.args.plan.now c.args.m _ c.in_err-admit_machine.ensures.answers in
    hands-on _ (world _ _ _ _ _ _) _ _ _ c.from_residual-in_err-admit_machine.ensures.1
    (refused-so _ (world _ _ _ _ _ _) _ _ NoMachine missing.0 (poll-beyond _ (world _ _ _ _ _ _) _ _ (inside _ (world _ _ _ _ _ _) _ c.in_ok-admit.ensures.answers) missing.1))

pub slots_of-slots-requires : goal.slots_of-slots-requires
slots_of-slots-requires g c =
    let w : World = (world c.args.coordinators.now c.args.records.now c.args.replies.now (g.P.Memory.words c.args.primaries.now) (g.F.Memory.words c.args.firsts.now) (g.S.Memory.words c.args.seconds.now)) in
    pairs.log-end c.args.plan.now w c.args.c c.args.m (inside c.args.plan.now w c.args.c c.in_ok-admit.ensures.answers) c.in_ok-admit_machine.ensures.within

pub bounds-own-m : goal.bounds-own-m
bounds-own-m g c =
    let w : World = (world c.args.coordinators.now c.args.records.now c.args.replies.now (g.P.Memory.words c.args.primaries.now) (g.F.Memory.words c.args.firsts.now) (g.S.Memory.words c.args.seconds.now)) in
    pairs.below-five c.args.plan.now w c.args.c c.args.m (inside c.args.plan.now w c.args.c c.in_ok-admit.ensures.answers) c.in_ok-admit_machine.ensures.within

pub returns-in_default : goal.returns-in_default
returns-in_default g c =
    let w : World = (world c.args.coordinators.now c.args.records.now c.args.replies.now (g.P.Memory.words c.args.primaries.now) (g.F.Memory.words c.args.firsts.now) (g.S.Memory.words c.args.seconds.now)) in
    let in' = inside c.args.plan.now w c.args.c c.in_ok-admit.ensures.answers in
    nothing-polled c.args.plan.now w c.args.c c.args.m in' c.in_ok-admit_machine.ensures.within c.index-coordinators-c.result
    _ c.slots_of-slots.ensures c.in_default.ensures

pub slice_bounds-places-end : goal.slice_bounds-places-end
slice_bounds-places-end g c =
    let w : World = (world c.args.coordinators.now c.args.records.now c.args.replies.now (g.P.Memory.words c.args.primaries.now) (g.F.Memory.words c.args.firsts.now) (g.S.Memory.words c.args.seconds.now)) in
    let in' = inside c.args.plan.now w c.args.c c.in_ok-admit.ensures.answers in
    pairs.places-within c.args.plan.now w c.args.c c.args.m in' c.in_ok-admit_machine.ensures.within _ c.block_of-block.ensures.block

pub pass-requires : goal.pass-requires
pass-requires g c =
    let w : World = (world c.args.coordinators.now c.args.records.now c.args.replies.now (g.P.Memory.words c.args.primaries.now) (g.F.Memory.words c.args.firsts.now) (g.S.Memory.words c.args.seconds.now)) in
    pairs.below-five c.args.plan.now w c.args.c c.args.m (inside c.args.plan.now w c.args.c c.in_ok-admit.ensures.answers) c.in_ok-admit_machine.ensures.within

pub returns : goal.returns
returns g c =
    let w : World = (world c.args.coordinators.now c.args.records.now c.args.replies.now (g.P.Memory.words c.args.primaries.now) (g.F.Memory.words c.args.firsts.now) (g.S.Memory.words c.args.seconds.now)) in
    let in' = inside c.args.plan.now w c.args.c c.in_ok-admit.ensures.answers in
    polls c.args.plan.now w c.args.c c.args.m in' c.in_ok-admit_machine.ensures.within (g.met.P.Memory.proper c.args.primaries.now) c.index-coordinators-c-2.result c.index-coordinators-c.result
    _ c.slots_of-slots.ensures
    _ (pairs.places-are c.args.plan.now w c.args.c c.args.m in' c.in_ok-admit_machine.ensures.within _ c.block_of-block.ensures.block _ (omega arith)) _ c.block_of-block.ensures.block _ (omega arith)
    c.in-Some.found c.in-Some.ensures c.handle-done.result.count c.handle-done.result.reply _ _ _ c.handle-done.ensures
    c.pass.new.self c.pass.new.places c.pass.ensures
    _ c.polled.ensures
