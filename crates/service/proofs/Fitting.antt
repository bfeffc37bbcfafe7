-- Tables made for a plan fit it, so set-up asks for the memories alone.
use Rattle.std.proofs.Common.{◌≡◌, ℕ, ◌*◌, Bool, true, false, ◌&&◌, length, Ok, Err, sym, ap, ◌∙◌, arith}
use Rattle.std.proofs.lemmas.Bool.{le-leb}
use Rattle.protocol.specs.declared.plan.Plan.{Plan}
use Rattle.protocol.specs.declared.call.Refusal.TheVariants.{BadPlan, BadTables}
use Rattle.protocol.specs.Try.{◌>>◌, unless}
use Rattle.protocol.specs.Plan.{is_fine, size}
use Rattle.protocol.specs.Lines.{Words}
use Rattle.protocol.specs.Step.{set_up}
use Rattle.protocol.proofs.Checks.{stops}
use Rattle.directory.specs.View.{World, is_fitting}
use Rattle.directory.specs.Calls.{SetsUp}
use Rattle.service.specs.declared.make.Unmade.{Unmade}
use Rattle.service.specs.declared.make.Unmade.TheVariants.{Refused, NoMemory}
use Rattle.service.specs.Making.{has_fitting_memories, MakesTables, Caused}

both : (a b : Bool) → a ≡ true → (a && b) ≡ b
both a b e = ap (λ (t : Bool). t && b) e

pub made-fit : (p : Plan) (w : World) → length w.coordinators ≡ p.coordinators → length w.records ≡ p.coordinators * p.machines * p.capacity
    → length w.replies ≡ p.coordinators * p.machines * 4 → is_fitting p w ≡ has_fitting_memories p w.primaries w.firsts w.seconds
made-fit p w a b d =
    both _ _ (le-leb p.coordinators (length w.coordinators) (omega arith))
    ∙ both _ _ (le-leb (p.coordinators * p.machines * p.capacity) (length w.records) (omega arith))
    ∙ both _ _ (le-leb (p.coordinators * p.machines * 4) (length w.replies) (omega arith))

-- the tables that set-up was lent are as long as the plan needs
pub record Long (p : Plan) (w : World) : Type 0 where
  pub coordinators : length w.coordinators ≡ p.coordinators
  pub records : length w.records ≡ p.coordinators * p.machines * p.capacity
  pub replies : length w.replies ≡ p.coordinators * p.machines * 4

module _ (p : Plan) (was after : World) (long : Long p was) where
  abbrev asks : Bool
  asks = has_fitting_memories p was.primaries was.firsts was.seconds

  told : set_up p (is_fitting p was) ≡ set_up p asks
  told = ap (set_up p) (made-fit p was long.coordinators long.records long.replies)

  accepted-size : (f g : Bool) (k : ℕ) → Ok k ≡ (unless BadPlan f >> (unless BadTables g >> Ok (size p))) → k ≡ size p
  unfolding unless ◌>>◌
  accepted-size true true k e = cc
  accepted-size true false k e = let z : ◌≡◌ {A = ℕ} 0 1 = cc in absurd (omega arith)
  accepted-size false g k e = let z : ◌≡◌ {A = ℕ} 0 1 = cc in absurd (omega arith)

  pub is-set_up : (k : ℕ) → SetsUp p was after (Ok k) → set_up p asks ≡ Ok (size p)
  is-set_up k s = sym told ∙ sym s.answers ∙ ap Ok (accepted-size (is_fine p) (is_fitting p was) k s.answers)

-- tables that were not made: the plan is refused, or there was no memory
pub caused : (p : Plan) (a b d : Words) (cause : Unmade) → MakesTables p (Err cause) → Caused p a b d cause
caused p a b d (Refused n) h = stops BadPlan _ _ h.0 ∙ ap Err (sym h.1)
caused p a b d (NoMemory e) h = h
