-- Every accepted call keeps the invariant of its coordinator.
use Rattle.protocol.proofs.Keeps.{calls-keep}
use Rattle.protocol.proofs.invariant.calls_keep_the_invariant.Goals as goal

pub returns : goal.returns
returns c = calls-keep
