-- The transaction in the first phase of its commit.
use Rattle.std.proofs.Common.{refl, ◌∙◌}
use Rattle.directory.proofs.Working.{same-phase}
use Rattle.directory.proofs.tables.Work.begin_commit.Goals as goal

pub returns : goal.returns
returns c = λ few. record { phase = same-phase c.args.plan.now c.args.self.now c.first_phase-self.result c.args.next c.first_phase-self.result ∙ c.first_phase-self.ensures few; next = refl; reads = refl; writes = refl }
