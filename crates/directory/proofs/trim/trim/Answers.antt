-- Each way out of trim.
use Rattle.std.proofs.Common.{true, refl}
use Rattle.protocol.specs.declared.call.Refusal.TheVariants.{NoMachine}
use Rattle.directory.specs.View.{world}
use Rattle.directory.proofs.Doing.{inside, handed-on, hands-on, refused-so, answered-so, machine-missing}
use Rattle.directory.proofs.Pairs.{below-five, log-end, slots-within}
use Rattle.directory.proofs.Trimming.{trim-beyond, trim-closed, trim-refused, trims-log}
use Rattle.directory.proofs.trim.trim.Goals as goal

pub returns-in_err-admit : goal.returns-in_err-admit
returns-in_err-admit g c = handed-on _ (world _ _ _ _ _ _) _ _ _ c.from_residual.ensures.1 c.in_err-admit.ensures.answers

pub returns-in_err-admit_machine : goal.returns-in_err-admit_machine
returns-in_err-admit_machine g c =
    let missing = machine-missing c.args.plan.now c.args.m _ c.in_err-admit_machine.ensures.answers in
    hands-on _ (world _ _ _ _ _ _) _ _ _ c.from_residual-in_err-admit_machine.ensures.1
    (refused-so _ (world _ _ _ _ _ _) _ _ NoMachine missing.0 (trim-beyond _ (world _ _ _ _ _ _) _ _ (inside _ (world _ _ _ _ _ _) _ c.in_ok-admit.ensures.answers) missing.1))

pub returns-in_default : goal.returns-in_default
returns-in_default g c =
    trim-closed _ (world _ _ _ _ _ _) _ _ (inside _ (world _ _ _ _ _ _) _ c.in_ok-admit.ensures.answers) c.in_ok-admit_machine.ensures.within c.index-coordinators-c.result
    c.in_default.not-Idle c.in_default.not-Open

pub bounds-own-m : goal.bounds-own-m
bounds-own-m g c = below-five _ (world _ _ _ _ _ _) _ _ (inside _ (world _ _ _ _ _ _) _ c.in_ok-admit.ensures.answers) c.in_ok-admit_machine.ensures.within

pub slots_of-slots-requires : goal.slots_of-slots-requires
slots_of-slots-requires g c = log-end _ (world _ _ _ _ _ _) _ _ (inside _ (world _ _ _ _ _ _) _ c.in_ok-admit.ensures.answers) c.in_ok-admit_machine.ensures.within

pub returns-in_err-may_trim : goal.returns-in_err-may_trim
returns-in_err-may_trim g c =
    hands-on _ (world _ _ _ _ _ _) _ _ _ c.from_residual-in_err-may_trim.ensures.1
    (trim-refused _ (world _ _ _ _ _ _) _ _ (inside _ (world _ _ _ _ _ _) _ c.in_ok-admit.ensures.answers) c.in_ok-admit_machine.ensures.within c.index-coordinators-c.result c.in-Idle.is _ c.slots_of-slots.ensures _ c.in_err-may_trim.ensures)

pub bounds-own-m-2 : goal.bounds-own-m-2
bounds-own-m-2 g c = below-five _ (world _ _ _ _ _ _) _ _ (inside _ (world _ _ _ _ _ _) _ c.in_ok-admit.ensures.answers) c.in_ok-admit_machine.ensures.within

pub append_in-requires-clause-within : goal.append_in-requires-clause-within
append_in-requires-clause-within g c = slots-within _ (world _ _ _ _ _ _) _ _ (inside _ (world _ _ _ _ _ _) _ c.in_ok-admit.ensures.answers) c.in_ok-admit_machine.ensures.within _ c.block_of-block.ensures.block

pub returns : goal.returns
returns g c =
    answered-so _ (world _ _ _ _ _ _) _ _ _ _ c.new.ensures
    (trims-log _ (world _ _ _ _ _ _) _ _ (inside _ (world _ _ _ _ _ _) _ c.in_ok-admit.ensures.answers) c.in_ok-admit_machine.ensures.within c.index-coordinators-c.result c.in-Idle.is
    _ c.slots_of-slots.ensures
    true c.in_ok-may_trim.ensures.0 refl (g.met.P.Memory.proper c.args.primaries.now) c.index-coordinators-c-2.result c.in_ok-may_trim.ensures.1
    _ c.block_of-block.ensures.block _ _ _ c.append_in.ensures c.record_due-sent.ensures _ c.last_given-number.ensures)
