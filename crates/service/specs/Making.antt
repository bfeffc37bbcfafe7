-- What making a directory answers.
use Rattle.std.specs.Prelude.{◌≡◌, ◌*◌, Bool, true, false, ◌&&◌, length, Ok, Err, vec_items, Result, ◌==◌}
use Rattle.protocol.specs.declared.plan.Plan.{Plan}
use Rattle.protocol.specs.Plan.{is_fine, size}
use Rattle.memory.specs.declared.make.MakeError.{MakeError}
use Rattle.memory.specs.declared.make.MakeError.TheVariants as memory
use Rattle.memory.specs.declared.make.Rejected.{Rejected}
use Rattle.protocol.specs.declared.call.Refusal.TheVariants.{BadPlan}
use Rattle.protocol.specs.Lines.{Words}
use Rattle.protocol.specs.Step.{set_up}
use Rattle.directory.specs.Calls.{Ready}
use Rattle.service.specs.declared.owner.Directory.{Directory}
use Rattle.service.specs.declared.make.Unmade.{Unmade}
use Rattle.service.specs.declared.make.Unmade.TheVariants.{Refused, NoMemory}
use Rattle.service.specs.declared.owner.Tables.{Tables}
use Rattle.service.specs.Owned.{plan_of, owned}

-- just as long as the plan needs
pub record FitsTables (p : Plan) (t : Tables) : Type 0 where
  pub coordinators : length (vec_items t.coordinators) ≡ p.coordinators
  pub records : length (vec_items t.records) ≡ p.coordinators * p.machines * p.capacity
  pub replies : length (vec_items t.replies) ≡ p.coordinators * p.machines * 4

-- a memory of a size that no memory has is that of a bad plan
abbrev pub unmade : MakeError → Unmade
unmade memory.BadSize = Refused BadPlan
unmade (memory.NoMemory e) = NoMemory e

-- a fine plan gets its tables, or there is no memory for them; any other is refused
abbrev pub MakesTables : Plan → Result Tables Unmade → Type 0
MakesTables p (Ok t) = (is_fine p ≡ true) × FitsTables p t
MakesTables p (Err (Refused n)) = (is_fine p ≡ false) × (n ≡ BadPlan)
MakesTables p (Err (NoMemory e)) = is_fine p ≡ true

-- each memory has the plan's words
abbrev pub has_fitting_memories : Plan → Words → Words → Words → Bool
has_fitting_memories p a b d = length a == size p && (length b == size p && length d == size p)

-- refused as set-up refuses, or else want of memory
abbrev pub Caused : Plan → Words → Words → Words → Unmade → Type 0
Caused p a b d (Refused n) = set_up p (has_fitting_memories p a b d) ≡ Err n
Caused p a b d (NoMemory e) = is_fine p ≡ true

module _ {P F S : Type 0} (words_p : P → Words) (words_f : F → Words) (words_s : S → Words) (p : Plan) (primaries : P) (firsts : F) (seconds : S) where
  -- a directory in the protocol's start, or the memories with the words that they had, and the cause
  abbrev pub Makes : Result (Directory P F S) (Rejected Unmade (P × F × S)) → Type 0
  Makes (Ok d) =
      (plan_of d ≡ p) × (set_up p (has_fitting_memories p (words_p primaries) (words_f firsts) (words_s seconds)) ≡ Ok (size p)) × Ready p (owned words_p words_f words_s d)
  Makes (Err h) =
      (words_p h.given.0 ≡ words_p primaries) × (words_f h.given.1 ≡ words_f firsts) × (words_s h.given.2 ≡ words_s seconds) × Caused p (words_p primaries) (words_f firsts) (words_s seconds) h.error
