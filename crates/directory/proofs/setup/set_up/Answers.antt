-- Every refusal leaves all as it was, and an accepted set_up leaves the protocol's start.
use Rattle.std.proofs.Common.{arith}
use Rattle.directory.specs.View.{world}
use Rattle.directory.proofs.Plans.{sizes-of}
use Rattle.directory.proofs.Setups.{bad-plan, bad-tables, sized-so, sets-up}
use Rattle.directory.proofs.setup.set_up.Goals as goal

pub returns-in_default : goal.returns-in_default
returns-in_default g c = bad-plan _ (world _ _ _ _ _ _) c.in_default.ensures

pub returns-in_default-tables_ok : goal.returns-in_default-tables_ok
returns-in_default-tables_ok g c = bad-tables _ (world _ _ _ _ _ _) c.in-true.ensures c.in_default-tables_ok.ensures

pub reset-requires : goal.reset-requires
reset-requires g c = (sizes-of _ c.in-true.ensures).start

pub reset-requires-2 : goal.reset-requires-2
reset-requires-2 g c = (sizes-of _ c.in-true.ensures).start

pub reset-requires-3 : goal.reset-requires-3
reset-requires-3 g c = (sizes-of _ c.in-true.ensures).start

pub returns : goal.returns
returns g c =
    sized-so c.args.plan.now (world _ _ _ _ _ _) _ _ _ c.size.ensures.words
    (sets-up c.args.plan.now (world c.args.coordinators.now c.args.records.now c.args.replies.now (g.P.Memory.words c.args.primaries.now) (g.F.Memory.words c.args.firsts.now) (g.S.Memory.words c.args.seconds.now))
    c.in-true.ensures c.in-true-tables_ok.ensures c.fresh.result c.fresh.ensures _ _ _ _ c.reset.ensures c.reset-2.ensures c.reset-3.ensures _ (omega arith) (c.fill.ensures.after (λ y same. same)))
