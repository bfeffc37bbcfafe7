-- An accepted abandon ends the transaction.
use Rattle.tickets.proofs.Keeping.{abandon-does, abandon-ends}
use Rattle.tickets.proofs.draft.Draft.abandon.Goals as goal

pub returns-clause-does : goal.returns-clause-does
returns-clause-does g c = abandon-does _ _ _ c.args.self _ _ c.abandon-answer.ensures.does c.given_up.ensures

pub returns-clause-ends : goal.returns-clause-ends
returns-clause-ends g c = abandon-ends _ _ _ c.args.self _ _ c.abandon-answer.ensures.does c.given_up.ensures
