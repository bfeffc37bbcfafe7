-- So does a write.
use Rattle.tickets.proofs.Keeping.{write-keeps}
use Rattle.tickets.proofs.draft.Draft.write.Goals as goal

pub returns-clause-stands : goal.returns-clause-stands
returns-clause-stands g c = write-keeps _ _ _ c.args.self.now _ _ _ c.write.ensures.does
