-- The lines that a record of a kind has.
use Rattle.std.proofs.Common.{◌≡◌, ℕ, false, List, [], ◌∷◌, refl}
use Rattle.std.specs.List.{filter}
use Rattle.protocol.specs.declared.plan.Plan.{Plan}
use Rattle.protocol.specs.declared.record.Line.{Line}
use Rattle.protocol.specs.declared.record.Kind.{Kind}
use Rattle.protocol.specs.declared.record.Kind.TheVariants.{Lock, CommitBackup, CommitPrimary, Abort, Truncate}
use Rattle.handling.specs.Sending.{is_picked, picked}

filter-nothing : {X : Type 0} (xs : List X) → filter (λ _. false) xs ≡ []
filter-nothing [] = refl
filter-nothing (x ∷ xs) = filter-nothing xs

pub picked-is : (p : Plan) (kind : Kind) (m : ℕ) (ws : List Line) → filter (λ l. is_picked p kind m l.address) ws ≡ picked p kind m ws
picked-is p Lock m ws = refl
picked-is p CommitBackup m ws = refl
picked-is p CommitPrimary m ws = filter-nothing ws
picked-is p Abort m ws = filter-nothing ws
picked-is p Truncate m ws = filter-nothing ws
