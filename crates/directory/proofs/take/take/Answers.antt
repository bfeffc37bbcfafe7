-- Each way out of take.
use Rattle.std.proofs.Common.{refl, arith, rules}
use Rattle.protocol.specs.declared.call.Refusal.TheVariants.{NoMachine}
use Rattle.directory.specs.View.{world}
use Rattle.directory.proofs.Plans.{sizes-of}
use Rattle.directory.proofs.Doing.{inside, handed-on, hands-on, refused-so, answered-so, machine-missing}
use Rattle.directory.proofs.Pairs.{queue-end}
use Rattle.directory.proofs.Taking.{take_beyond, take-closed, take-nothing, takes-reply}
use Rattle.directory.proofs.take.take.Goals as goal

pub returns-in_err-admit : goal.returns-in_err-admit
returns-in_err-admit g c = handed-on _ (world _ _ _ _ _ _) _ _ _ c.from_residual.ensures.1 c.in_err-admit.ensures.answers

pub returns-in_err-admit_machine : goal.returns-in_err-admit_machine
returns-in_err-admit_machine g c =
    let missing = machine-missing c.args.plan.now c.args.m _ c.in_err-admit_machine.ensures.answers in
    hands-on _ (world _ _ _ _ _ _) _ _ _ c.from_residual-in_err-admit_machine.ensures.1
    (refused-so _ (world _ _ _ _ _ _) _ _ NoMachine missing.0 (take_beyond _ (world _ _ _ _ _ _) _ _ (inside _ (world _ _ _ _ _ _) _ c.in_ok-admit.ensures.answers) missing.1))

pub returns-in_default : goal.returns-in_default
returns-in_default g c =
    take-closed _ (world _ _ _ _ _ _) _ _ (inside _ (world _ _ _ _ _ _) _ c.in_ok-admit.ensures.answers) c.in_ok-admit_machine.ensures.within _ refl c.index-coordinators-c.result c.in_default.not-Locking

pub slots_of-slots-requires : goal.slots_of-slots-requires
slots_of-slots-requires g c = queue-end _ (world _ _ _ _ _ _) _ _ (inside _ (world _ _ _ _ _ _) _ c.in_ok-admit.ensures.answers) c.in_ok-admit_machine.ensures.within

pub bounds-own-m : goal.bounds-own-m
bounds-own-m g c = omega (arith, c.in_ok-admit_machine.ensures.within, (sizes-of _ (inside _ (world _ _ _ _ _ _) _ c.in_ok-admit.ensures.answers).fine).machines.1)

pub returns-in_default-peek : goal.returns-in_default-peek
returns-in_default-peek g c =
    take-nothing _ (world _ _ _ _ _ _) _ _ (inside _ (world _ _ _ _ _ _) _ c.in_ok-admit.ensures.answers) c.in_ok-admit_machine.ensures.within _ c.slots_of-slots.ensures c.index-coordinators-c.result c.in-Locking.locking c.in-Locking.is c.in_default-peek.ensures.answers

pub note_reply-outcome-requires : goal.note_reply-outcome-requires
note_reply-outcome-requires g c = (sizes-of _ (inside _ (world _ _ _ _ _ _) _ c.in_ok-admit.ensures.answers).fine).machines.1

pub returns : goal.returns
returns g c =
    answered-so _ (world _ _ _ _ _ _) _ _ _ _ c.new.ensures
    (takes-reply _ (world _ _ _ _ _ _) _ _ (inside _ (world _ _ _ _ _ _) _ c.in_ok-admit.ensures.answers) c.in_ok-admit_machine.ensures.within _ c.slots_of-slots.ensures c.index-coordinators-c.result c.in-Locking.locking c.in-Locking.is
    (g.met.P.Memory.proper c.args.primaries.now) c.index-coordinators-c-2.result _ c.in-Some.ensures.answers (c.in-Some.ensures.stands refl)
    c.drop_front.result c.drop_front.new.self (search rules) (search rules) _ c.replied.ensures _ _ c.note_reply-outcome.ensures _ (search rules))
