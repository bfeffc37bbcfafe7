-- By the phase, and by whether some machine is still due a record.
use Rattle.std.proofs.Common.{refl}
use Rattle.directory.proofs.GoingOn.{goes-on, locking-on, backing-on, backing-ends, installing-on, installing-ends, aborting-on, aborting-ends}
use Rattle.directory.proofs.tables.Work.phase_from.Goals as goal

pub returns-in-Locking : goal.returns-in-Locking
returns-in-Locking c = goes-on c.args.plan.now c.args.self.now c.args.due _ _ c.in-Locking.is (locking-on c.args.plan.now c.args.self.now c.args.due c.in-Locking.locking _ refl refl refl)

pub returns-in-Some : goal.returns-in-Some
returns-in-Some c =
    goes-on c.args.plan.now c.args.self.now c.args.due _ _ c.in-Backing.is (backing-on c.args.plan.now c.args.self.now c.args.due c.in-Backing.due c.in-Some.field-0 c.in-Some.ensures.lowest)

pub returns-in-None : goal.returns-in-None
returns-in-None c = goes-on c.args.plan.now c.args.self.now c.args.due _ _ c.in-Backing.is (backing-ends c.args.plan.now c.args.self.now c.args.due c.in-Backing.due c.in-None.ensures.lowest)

pub returns-in-Some-machine_due : goal.returns-in-Some-machine_due
returns-in-Some-machine_due c =
    goes-on c.args.plan.now c.args.self.now c.args.due _ _ c.in-Installing.is
    (installing-on c.args.plan.now c.args.self.now c.args.due c.in-Installing.due c.in-Installing.reported c.in-Some-machine_due.field-0 c.in-Some-machine_due.ensures.lowest)

pub returns-in-None-machine_due : goal.returns-in-None-machine_due
returns-in-None-machine_due c =
    goes-on c.args.plan.now c.args.self.now c.args.due _ _ c.in-Installing.is
    (installing-ends c.args.plan.now c.args.self.now c.args.due c.in-Installing.due c.in-Installing.reported c.in-None-machine_due.ensures.lowest)

pub returns-in-Some-machine_due-2 : goal.returns-in-Some-machine_due-2
returns-in-Some-machine_due-2 c =
    goes-on c.args.plan.now c.args.self.now c.args.due _ _ c.in-Aborting.is
    (aborting-on c.args.plan.now c.args.self.now c.args.due c.in-Aborting.due c.in-Some-machine_due-2.field-0 c.in-Some-machine_due-2.ensures.lowest)

pub returns-in-None-machine_due-2 : goal.returns-in-None-machine_due-2
returns-in-None-machine_due-2 c =
    goes-on c.args.plan.now c.args.self.now c.args.due _ _ c.in-Aborting.is (aborting-ends c.args.plan.now c.args.self.now c.args.due c.in-Aborting.due c.in-None-machine_due-2.ensures.lowest)
