-- What is read of words and lines.
use Rattle.std.proofs.Common.{◌≡◌, ℕ, ◌^◌, ◌<◌, ◌≤◌, true, cond, ltb, List, length, Some, None, Option, Ok, Err, Result, sym, ap, ◌∙◌, rules, arith}
use Rattle.std.specs.Char.{is_ascii_digit}
use Rattle.std.specs.List.{list_all}
use Rattle.std.specs.Option.{ok_or}
use Rattle.steps.specs.declared.kind.EntryKind.{EntryKind}
use Rattle.steps.specs.declared.kind.UnknownName.{UnknownName}
use Rattle.std.specs.Result.{result_or, OkIff}
use Rattle.std.specs.Str.Parse.{ParsesUnsigned, digits_value}
use Rattle.std.proofs.lemmas.Bool.{lt-ltb, le-ltb, and_parts, ltb-true, cond-true, cond-false}
use Rattle.std.proofs.lemmas.Str.Parse.{IsNumeralModel, numerals_by_value, parse_digits}
use Rattle.text.specs.declared.fault.LineFault.{LineFault}
use Rattle.text.specs.declared.fault.LineFault.TheVariants.{UnknownStep, NotANumber, TooBig, WrongCount, FileTooLong, NoMemory}
use Rattle.text.specs.Faults.{Unless}
use Rattle.text.specs.Fields.{entry_of}
use Rattle.text.specs.Parsing.{step_read}
use Rattle.text.specs.Words.{and_then, numbers_read, is_numeral, number_read}

-- what follows from a fact that is not owed is not owed, either
pub unless-weaker : (e : LineFault) (P Q : Type 0) → (P → Q) → Unless e P → Unless e Q
unless-weaker UnknownStep P Q f h = f h
unless-weaker NotANumber P Q f h = f h
unless-weaker TooBig P Q f h = f h
unless-weaker (WrongCount wanted found) P Q f h = f h
unless-weaker FileTooLong P Q f h = f h
unless-weaker (NoMemory e) P Q f h = tt

-- digits and their number are those that `parse` reads
pub own : IsNumeralModel (λ ds. list_all is_ascii_digit ds ≡ true) (digits_value 10)
own = numerals_by_value _ (search rules)

not-below : (m n : ℕ) → ((m < n) → ⊥) → n ≤ m
not-below m n h = omega (arith, h)

-- what `parse` gives for digits
pub number-parsed : {E : Type 0} (w : List ℕ) (r : Result ℕ E) → ParsesUnsigned 64 10 w r → is_numeral w ≡ true → result_or r (Err TooBig) ≡ number_read w
number-parsed {E = E} w r parsed numeral = by r (parse_digits own 64 w r parsed digits)
  where
    digits : list_all is_ascii_digit w ≡ true
    digits = (and_parts (ltb 0 (length w)) (list_all is_ascii_digit w) numeral).1

    there : number_read w ≡ cond (ltb (digits_value 10 w) (2 ^ 64)) (Ok (digits_value 10 w)) (Err TooBig)
    there = cond-true (is_numeral w) _ _ numeral

    by : (r : Result ℕ E) → OkIff r ((0 < length w) × (digits_value 10 w < 2 ^ 64)) (digits_value 10 w) → result_or r (Err TooBig) ≡ number_read w
    by (Ok n) h = ap (λ k. Ok k) h.1 ∙ sym (there ∙ cond-true (ltb (digits_value 10 w) (2 ^ 64)) _ _ (lt-ltb _ _ h.0.1))
    by (Err e) h = sym (there ∙ cond-false (ltb (digits_value 10 w) (2 ^ 64)) _ _ (le-ltb _ _ (not-below (digits_value 10 w) (2 ^ 64) (λ l. h (some, l)))))
      where
        some : 0 < length w
        some = ltb-true 0 (length w) (and_parts (ltb 0 (length w)) (list_all is_ascii_digit w) numeral).0

-- the entry of a step, once its kind is known
kind-known : (o : Option EntryKind) (kind : EntryKind) → Ok kind ≡ ok_or {E = UnknownName} o (record {}) → o ≡ Some kind
kind-known None kind h = cc
kind-known (Some x) kind h = cc

pub step-known : (o : Option EntryKind) (kind : EntryKind) (ws : List (List ℕ)) → Ok kind ≡ ok_or {E = UnknownName} o (record {})
    → step_read o ws ≡ and_then (numbers_read ws) (entry_of kind)
step-known o kind ws h = ap (λ (x : Option EntryKind). step_read x ws) (kind-known o kind h)
