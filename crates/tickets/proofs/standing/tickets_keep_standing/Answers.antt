use Rattle.tickets.proofs.Keeping.{kept_by-others}
use Rattle.tickets.proofs.standing.tickets_keep_standing.Goals as goal

pub returns : goal.returns
returns c = kept_by-others
