-- What a file that was opened, and its first step, are told.
use Rattle.std.proofs.Common.{◌≡◌, ℕ, zero, suc, ◌≤◌, ◌-◌, Bool, true, false, cond, ltb, List, [], ◌∷◌, ◌++◌, length, Ok, Err, Some, None, Option, Result, sym, refl, ap, ◌∙◌, append-nil, arith}
use Rattle.std.proofs.lemmas.Bool.{ltb-false}
use Rattle.std.specs.Result.{result_map_both}
use Rattle.std.specs.Iterator.Adapters.{enumerate_source}
use Rattle.std.specs.declared.iter.Enumerate.{Enumerate}
use Rattle.steps.specs.declared.fault.FrameFault.TheVariants.{TooLong, BadVersion}
use Rattle.steps.specs.declared.fault.EntryFault.{EntryFault}
use Rattle.steps.specs.declared.fault.EntryFault.TheVariants.{Frame}
use Rattle.steps.specs.declared.fault.RunFault.TheVariants.{Entry as OfEntry}
use Rattle.steps.specs.declared.decode.Step.{Step}
use Rattle.steps.specs.declared.sequence.IntoIter.{IntoIter}
use Rattle.steps.specs.declared.sequence.Placed.{Placed}
use Rattle.steps.specs.Frames.{Position, at}
use Rattle.steps.specs.Reading.{steps_left}
use Rattle.steps.specs.Sequence.{step_at, moved, and_then, sequence, steps_from}
use Rattle.playback.specs.Transcript.{fault_line, start_of, first_told, steps_told, opened_told, told_by}
use Rattle.playback.specs.Playing.{Opens}

-- a step takes a byte of the file at least
longer : (n : ℕ) (r : Result (Option Placed) EntryFault) (others : List (Result Placed EntryFault)) → length others ≤ n → length (and_then r others) ≤ suc n
longer n (Err f) others l = omega arith
longer n (Ok None) others l = omega arith
longer n (Ok (Some x)) others l = omega arith

length-sequence : (n : ℕ) (p : Position) → length (sequence n p) ≤ n
unfolding sequence
length-sequence zero p = omega arith
length-sequence (suc n) p = longer n (step_at p) (sequence n (moved p (step_at p))) (length-sequence n (moved p (step_at p)))

-- a file that opens is no longer than the limit
within : (long version : Bool) (bytes : List ℕ) (start : Position) → ltb 65536 (length bytes) ≡ long
    → Ok start ≡ result_map_both (λ p. p) Frame (cond long (Err TooLong) (cond version (Ok (at bytes 1)) (Err BadVersion))) → length start.file ≤ 65536
within true version bytes start l e = cc
within false true bytes start l e =
    let same : start ≡ at bytes 1 = cc in omega (arith, ap (λ (s : Position). length s.file) same, ltb-false _ _ l)
within false false bytes start l e = cc

pub few-steps : (bytes : List ℕ) (start : Position) → Ok start ≡ start_of bytes → length (steps_from start) ≤ 65536
few-steps bytes start e =
    omega (arith, length-sequence (length start.file - start.place) start, within (ltb 65536 (length bytes)) _ bytes start refl e)

module _ (fits : ℕ → Bool) (bytes : List ℕ) where
  -- a file that does not open is told by its fault
  pub told-unopened : (f : EntryFault) → start_of bytes ≡ Err f → told_by fits bytes ≡ fault_line (OfEntry f)
  unfolding told_by
  told-unopened f e = ap (opened_told fits) e

  -- and one that opens by its steps
  pub told-opened : (steps : Enumerate IntoIter) → Opens bytes (Ok steps) → told_by fits bytes ≡ steps_told fits (steps_left (enumerate_source steps))
  unfolding told_by
  told-opened steps h = ap (opened_told fits) h.2 ∙ sym (ap (steps_told fits) h.3)

  module _ (steps : Enumerate IntoIter) (h : Opens bytes (Ok steps)) where
    abbrev left : List (Result Placed EntryFault)
    left = steps_left (enumerate_source steps)

    -- by the first of them
    pub told-none : left ≡ [] → told_by fits bytes ≡ []
    told-none e = told-opened steps h ∙ ap (steps_told fits) e

    pub told-fault : (item : Result Placed EntryFault) (rest : List (Result Placed EntryFault)) (f : EntryFault) → left ≡ item ∷ rest → item ≡ Err f
        → told_by fits bytes ≡ fault_line (OfEntry f)
    told-fault item rest f e is = told-opened steps h ∙ ap (steps_told fits) (e ∙ ap (λ i. i ∷ rest) is)

    pub told-first : (item : Result Placed EntryFault) (rest : List (Result Placed EntryFault)) (x : Placed) (s : Step) → left ≡ item ∷ rest → item ≡ Ok x → x.step ≡ s
        → told_by fits bytes ≡ first_told fits x.place rest s
    told-first item rest x s e is of = told-opened steps h ∙ ap (steps_told fits) (e ∙ ap (λ i. i ∷ rest) is) ∙ ap (first_told fits x.place rest) of

pub told-nothing : (was told : List ℕ) → told ≡ [] → was ≡ was ++ told
told-nothing was told e = sym (ap (λ cs. was ++ cs) e ∙ append-nil was)
