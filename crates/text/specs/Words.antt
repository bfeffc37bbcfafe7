-- The words of a line, and the numbers that words are.
use Rattle.std.specs.Prelude.{ℕ, ◌^◌, Bool, cond, ◌&&◌, List, [], ◌∷◌, length, Ok, Err, Result, nat_lt, ◌==◌, filter}
use Rattle.std.specs.Char.{is_ascii_digit, is_ascii_whitespace}
use Rattle.std.specs.List.{slice_split, before_first, list_all}
use Rattle.std.specs.Str.Parse.{digits_value}
use Rattle.text.specs.declared.fault.LineFault.{LineFault}
use Rattle.text.specs.declared.fault.LineFault.TheVariants.{NotANumber, TooBig}
use Rattle.text.specs.Fields.{behind}

-- what stands before the first `#`
abbrev pub uncommented : List ℕ → List ℕ
uncommented line = before_first (λ b. b == 35) line

-- the parts between blanks that are not empty
abbrev pub parts : List ℕ → List (List ℕ)
parts xs = filter (λ w. nat_lt 0 (length w)) (slice_split is_ascii_whitespace xs)

-- the words of a line
abbrev pub words : List ℕ → List (List ℕ)
words line = parts (uncommented line)

-- one decimal digit or more, and nothing else
abbrev pub is_numeral : List ℕ → Bool
is_numeral w = nat_lt 0 (length w) && list_all is_ascii_digit w

-- a number that fits eight bytes
abbrev pub number_read : List ℕ → Result ℕ LineFault
number_read w =
    cond (is_numeral w) (cond (nat_lt (digits_value 10 w) (2 ^ 64)) (Ok (digits_value 10 w)) (Err TooBig)) (Err NotANumber)

-- what follows from an answer, if there is one
abbrev pub and_then : {X Y E : Type 0} → Result X E → (X → Result Y E) → Result Y E
and_then (Ok x) f = f x
and_then (Err e) f = Err e

-- the numbers of words, up to the first that is none
abbrev pub numbers_read : List (List ℕ) → Result (List ℕ) LineFault
numbers_read [] = Ok []
numbers_read (w ∷ ws) = and_then (number_read w) (λ n. behind (n ∷ []) (numbers_read ws))
