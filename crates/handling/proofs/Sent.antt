-- The record that is sent is the protocol's.
use Rattle.std.proofs.Common.{◌≡◌, ℕ, refl}
use Rattle.protocol.specs.declared.plan.Plan.{Plan}
use Rattle.protocol.specs.declared.record.Kind.{Kind}
use Rattle.protocol.specs.declared.record.Kind.TheVariants.{Lock, CommitBackup, CommitPrimary, Abort, Truncate}
use Rattle.protocol.specs.Coordinator.{Coordinator}
use Rattle.protocol.specs.Commit.{record_for, last_given}
use Rattle.handling.specs.Sending.{record_of}

pub record-of-is : (p : Plan) (c : ℕ) (k : Coordinator) (kind : Kind) (m : ℕ) → record_of p c (last_given k) kind m k.writes ≡ record_for p c k kind m
record-of-is p c k Lock m = refl
record-of-is p c k CommitBackup m = refl
record-of-is p c k CommitPrimary m = refl
record-of-is p c k Abort m = refl
record-of-is p c k Truncate m = refl
