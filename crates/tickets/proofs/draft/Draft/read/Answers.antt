-- A read leaves the draft as it stands.
use Rattle.tickets.proofs.Keeping.{read-keeps}
use Rattle.tickets.proofs.draft.Draft.read.Goals as goal

pub returns-clause-stands : goal.returns-clause-stands
returns-clause-stands g c = read-keeps _ _ _ c.args.self.now _ _ c.read.ensures.does
