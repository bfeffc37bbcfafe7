-- Set-up establishes the invariants, and every call keeps them.
use Rattle.protocol.proofs.Keeps.{always}
use Rattle.protocol.proofs.invariant.invariants_always_hold.Goals as goal

pub returns : goal.returns
returns c = always
