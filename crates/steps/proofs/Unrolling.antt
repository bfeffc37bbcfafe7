-- The steps from a position on are the one that is read there, and then the steps from behind it on.
use Rattle.std.proofs.Common.{◌≡◌, ℕ, zero, suc, ◌+◌, ◌-◌, ◌≤◌, [], ◌∷◌, length, Some, None, Ok, Err, Option, Result, sym, refl, ap, ◌∙◌, arith}
use Rattle.steps.specs.declared.fault.EntryFault.{EntryFault}
use Rattle.steps.specs.declared.sequence.Placed.{Placed}
use Rattle.steps.specs.Frames.{Position, at, end_of}
use Rattle.steps.proofs.Cutting.{nothing-behind}
use Rattle.steps.specs.Sequence.{step_of, step_at, moved, and_then, sequence, steps_from}

pub none-behind : (n : ℕ) (p : Position) → length p.file ≤ p.place → sequence n p ≡ []
unfolding sequence
none-behind zero p h = refl
none-behind (suc n) p h = ap (λ o. and_then (step_of o) (sequence n (moved p (step_of o)))) (nothing-behind p h)

-- what comes behind a step does not hang on how often it is read, if it is read as often as there are bytes
module _ (n m : ℕ) (p : Position) where
  one-read : (o : Result (Option Placed) EntryFault) → (sequence n (at p.file (end_of p)) ≡ sequence m (at p.file (end_of p)))
      → and_then o (sequence n (moved p o)) ≡ and_then o (sequence m (moved p o))
  one-read (Err f) e = refl
  one-read (Ok None) e = refl
  one-read (Ok (Some s)) e = ap (λ xs. Ok s ∷ xs) e

often-enough : (n m : ℕ) (p : Position) → length p.file ≤ p.place + n → length p.file ≤ p.place + m → sequence n p ≡ sequence m p
unfolding sequence
often-enough zero m p h k = sym (none-behind m p (omega (arith, h)))
often-enough (suc n) zero p h k = none-behind (suc n) p (omega (arith, k))
often-enough (suc n) (suc m) p h k =
    one-read n m p (step_at p) (often-enough n m (at p.file (end_of p)) (omega (arith, h)) (omega (arith, k)))

behind : (p : Position) (o : Result (Option Placed) EntryFault) → and_then o (sequence (length p.file - p.place) (moved p o)) ≡ and_then o (steps_from (moved p o))
behind p (Err f) = refl
behind p (Ok None) = refl
behind p (Ok (Some s)) =
    let q = at p.file (end_of p) in
    ap (λ xs. Ok s ∷ xs) (often-enough (length p.file - p.place) (length p.file - q.place) q (omega arith) (omega arith))

pub unrolled : (p : Position) → steps_from p ≡ and_then (step_at p) (steps_from (moved p (step_at p)))
unfolding sequence
unrolled p =
    often-enough (length p.file - p.place) (suc (length p.file - p.place)) p (omega arith) (omega arith)
    ∙ behind p (step_at p)
