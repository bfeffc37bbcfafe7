-- What a directory owns, as what a caller would lend.
use Rattle.std.specs.Prelude.{ℕ, Bool, true, false, List, [], ◌∷◌, Option, vec_items}
use Rattle.memory.specs.Words.{look_at}
use Rattle.protocol.specs.declared.plan.Plan.{Plan}
use Rattle.protocol.specs.Lines.{Words}
use Rattle.directory.specs.declared.tables.Phase.{Phase}
use Rattle.directory.specs.declared.tables.Phase.TheVariants.{Idle, Open, Locking, Checking, Backing, Installing, Aborting}
use Rattle.directory.specs.View.{World, world}
use Rattle.service.specs.declared.owner.Directory.{Directory}

-- the plan that it was made for
abbrev pub plan_of : {P F S : Type 0} → Directory P F S → Plan
plan_of d = d.plan

-- given the words that each memory means
abbrev pub owned : {P F S : Type 0} → (P → Words) → (F → Words) → (S → Words) → Directory P F S → World
owned p f s d = world (vec_items d.tables.coordinators) (vec_items d.tables.records) (vec_items d.tables.replies) (p d.primaries) (f d.firsts) (s d.seconds)

-- a word's copies stand at its address in the three memories: the primary, the first and the second backup
abbrev pub copies : World → ℕ → List (Option (ℕ × ℕ × ℕ))
copies w a = look_at w.primaries a ∷ look_at w.firsts a ∷ look_at w.seconds a ∷ []

-- a coordinator in this phase has no transaction
abbrev pub is_resting : Phase → Bool
is_resting Idle = true
is_resting Open = false
is_resting (Locking l) = false
is_resting (Checking passed) = false
is_resting (Backing due) = false
is_resting (Installing due reported) = false
is_resting (Aborting due) = false
