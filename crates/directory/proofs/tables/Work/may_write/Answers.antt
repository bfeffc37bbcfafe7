-- The word was read, has a version to go on to, and there is a place for it among those written.
use Rattle.std.proofs.Common.{rules}
use Rattle.directory.proofs.Lookups.{found-at}
use Rattle.directory.proofs.tables.Work.may_write.Goals as goal

pub returns : goal.returns
returns c = (
  c.in-Some.ensures,
  record {
    here = found-at _ _ _ c.in-Some.ensures;
    next = search rules;
    few = λ e. search rules;
  },
)
