-- The way out of open that has a draft.
use Rattle.tickets.proofs.Keeping.{open-does, open-leaves}
use Rattle.tickets.proofs.draft.Draft.open.Goals as goal

pub returns-clause-does : goal.returns-clause-does
returns-clause-does g c = open-does _ _ _ c.args.c c.in_ok-open.field-0 c.in_ok-open.ensures.does

pub returns-clause-stands : goal.returns-clause-stands
returns-clause-stands g c = λ s. (open-leaves _ _ _ c.args.c c.in_ok-open.field-0 c.in_ok-open.ensures.does s).0
