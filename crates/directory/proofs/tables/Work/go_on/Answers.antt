-- The phase goes on, and the rest stays.
use Rattle.directory.proofs.GoingOn.{gone-on}
use Rattle.directory.proofs.tables.Work.go_on.Goals as goal

pub returns-clause-stands : goal.returns-clause-stands
returns-clause-stands c = gone-on c.args.plan.now c.args.self.now c.args.m _ c.phase_from-self.ensures
