-- Each way out of send.
use Rattle.std.proofs.Common.{sym}
use Rattle.directory.specs.View.{world}
use Rattle.directory.proofs.Doing.{inside, handed-on, hands-on, answered-so}
use Rattle.directory.proofs.Pairs.{below-five, slots-within}
use Rattle.directory.proofs.Sending.{send-refused, send-full, sends}
use Rattle.directory.proofs.send.send.Goals as goal

pub returns-in_err-admit : goal.returns-in_err-admit
returns-in_err-admit g c = handed-on _ (world _ _ _ _ _ _) _ _ _ c.from_residual.ensures.1 c.in_err-admit.ensures.answers

pub returns-in_err-kind : goal.returns-in_err-kind
returns-in_err-kind g c =
    hands-on _ (world _ _ _ _ _ _) _ _ _ c.from_residual-in_err-kind.ensures.1
    (send-refused _ (world _ _ _ _ _ _) _ (inside _ (world _ _ _ _ _ _) _ c.in_ok-admit.ensures.answers) c.index-coordinators-c.result _ c.in_err-kind.ensures)

pub bounds-own-m : goal.bounds-own-m
bounds-own-m g c = below-five _ (world _ _ _ _ _ _) _ _ (inside _ (world _ _ _ _ _ _) _ c.in_ok-admit.ensures.answers) c.in_ok-kind.ensures.0

pub returns-in_default : goal.returns-in_default
returns-in_default g c =
    send-full _ (world _ _ _ _ _ _) _ (inside _ (world _ _ _ _ _ _) _ c.in_ok-admit.ensures.answers) c.index-coordinators-c.result
    _ c.in_ok-kind.ensures.1.0 c.in_ok-kind.ensures.1.1 _ c.in_ok-kind.ensures.1.2 c.in_ok-kind.ensures.0 (sym c.in_default.ensures)

pub bounds-own-m-2 : goal.bounds-own-m-2
bounds-own-m-2 g c = below-five _ (world _ _ _ _ _ _) _ _ (inside _ (world _ _ _ _ _ _) _ c.in_ok-admit.ensures.answers) c.in_ok-kind.ensures.0

pub append_in-requires-clause-within : goal.append_in-requires-clause-within
append_in-requires-clause-within g c =
    slots-within _ (world _ _ _ _ _ _) _ _ (inside _ (world _ _ _ _ _ _) _ c.in_ok-admit.ensures.answers) c.in_ok-kind.ensures.0 _ c.block_of-block.ensures.block

pub go_on-outcome-requires : goal.go_on-outcome-requires
go_on-outcome-requires g c = below-five _ (world _ _ _ _ _ _) _ _ (inside _ (world _ _ _ _ _ _) _ c.in_ok-admit.ensures.answers) c.in_ok-kind.ensures.0

pub returns : goal.returns
returns g c =
    answered-so _ (world _ _ _ _ _ _) _ _ _ _ c.new.ensures
    (sends _ (world _ _ _ _ _ _) _ (inside _ (world _ _ _ _ _ _) _ c.in_ok-admit.ensures.answers) c.index-coordinators-c.result
    _ c.in_ok-kind.ensures.1.0 c.in_ok-kind.ensures.1.1 _ c.in_ok-kind.ensures.1.2 c.in_ok-kind.ensures.0
    c.index-coordinators-c-2.result (g.met.P.Memory.proper c.args.primaries.now) (sym c.in-true.ensures)
    _ c.block_of-block.ensures.block _ _ _ c.append_in.ensures c.record_due-sent.ensures
    _ c.go_on-outcome.ensures.stands _ c.into.ensures _ c.go_on-outcome.ensures.reports)
