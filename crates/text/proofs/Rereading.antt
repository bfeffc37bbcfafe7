-- A line that was written of a step is read as that step.
use Rattle.std.proofs.Common.{◌≡◌, ℕ, ◌^◌, ◌<◌, Bool, true, false, eqb, ltb, List, [], ◌∷◌, ◌++◌, map, length, take, Some, Ok, sym, refl, ap, ◌∙◌, arith}
use Rattle.std.specs.Char.{is_ascii_digit, is_ascii_whitespace}
use Rattle.std.specs.Fmt.{decimal}
use Rattle.std.specs.List.{All, AllByRecursion, flat_map, list_all}
use Rattle.std.specs.Result.{result_map_both}
use Rattle.std.specs.Str.Parse.{AllDigits, digits_value}
use Rattle.std.proofs.lemmas.Bool.{lt-ltb, ltb-true, ne_eqb, and_from, cond-true}
use Rattle.std.proofs.lemmas.Fmt.{decimal_is_IsNumeral}
use Rattle.std.proofs.lemmas.List.{append-nil, append_assoc, take_all}
use Rattle.std.proofs.lemmas.List.Elements.{All-nil, All-cons, All-append, All-weaker}
use Rattle.std.proofs.lemmas.List.Sums.{AllPass-from_list_all, position_or_len_is}
use Rattle.std.proofs.lemmas.Str.Parse.{digit_from_value}
use Rattle.steps.specs.declared.kind.EntryKind.{EntryKind}
use Rattle.steps.specs.declared.kind.EntryKind.TheVariants.{SetUp, Open, Read, Write, Abandon, Commit, Send, Poll, Take, Check, Trim}
use Rattle.steps.specs.Kinds.{first_named, kind_name, kind_named}
use Rattle.text.specs.Fields.{behind, entry_of}
use Rattle.text.specs.Parsing.{step_read, entry_read, line_read}
use Rattle.text.specs.Printing.{spaced, line}
use Rattle.text.specs.Words.{uncommented, parts, words, is_numeral, number_read, and_then, numbers_read}
use Rattle.text.proofs.Reading.{own}
use Rattle.text.proofs.Splitting.{no-blank, parts-word, parts-last}

-- ---- words of letters and digits

-- no byte of a plain word is a blank, a `#` or the end of a line, all of which are below 48
Plain : List ℕ → Type 0
Plain w = All (λ b. 47 < b) w

plain-name : (kind : EntryKind) → Plain (kind_name kind) × (0 < length (kind_name kind))
unfolding Plain
plain-name kind = (All-weaker (λ b. ltb 47 b ≡ true) (λ b. 47 < b) (ltb-true 47) (kind_name kind) (AllPass-from_list_all (ltb 47) (kind_name kind) (passes kind)), some kind)
  where
    passes : (kind : EntryKind) → list_all (ltb 47) (kind_name kind) ≡ true
    passes SetUp = refl
    passes Open = refl
    passes Read = refl
    passes Write = refl
    passes Abandon = refl
    passes Commit = refl
    passes Send = refl
    passes Poll = refl
    passes Take = refl
    passes Check = refl
    passes Trim = refl

    some : (kind : EntryKind) → 0 < length (kind_name kind)
    some SetUp = omega arith
    some Open = omega arith
    some Read = omega arith
    some Write = omega arith
    some Abandon = omega arith
    some Commit = omega arith
    some Send = omega arith
    some Poll = omega arith
    some Take = omega arith
    some Check = omega arith
    some Trim = omega arith

plain-digits : (ds : List ℕ) → AllDigits 10 ds → Plain ds
unfolding Plain
plain-digits [] h = All-nil (λ b. 47 < b)
plain-digits (d ∷ ds) h =
    let digit = digit_from_value d h.0 in
    All-cons (λ b. 47 < b) d ds (omega (arith, digit.0)) (plain-digits ds h.1)

plain-decimal : (n : ℕ) → n < 2 ^ 64 → Plain (decimal n) × (0 < length (decimal n))
plain-decimal n h = let d = decimal_is_IsNumeral n h in (plain-digits (decimal n) d.0.1, d.0.0)

-- a test that only bytes below 48 pass
plain-fails : (p : ℕ → Bool) → ((b : ℕ) → 47 < b → p b ≡ false) → (w : List ℕ) → Plain w → All (λ b. p b ≡ false) w
unfolding Plain
plain-fails p high w h = All-weaker (λ b. 47 < b) (λ b. p b ≡ false) high w h

-- what a step is written as, without the end of its line
abbrev pub body : List ℕ → List ℕ → List ℕ
body w ns = w ++ flat_map spaced ns

body-fails : (p : ℕ → Bool) → ((b : ℕ) → 47 < b → p b ≡ false) → p 32 ≡ false → (w ns : List ℕ) → Plain w → AllByRecursion (λ n. n < 2 ^ 64) ns → All (λ b. p b ≡ false) (body w ns)
body-fails p high blank w ns h fit = All-append (λ b. p b ≡ false) w (flat_map spaced ns) (plain-fails p high w h) (numbers ns fit)
  where
    numbers : (ns : List ℕ) → AllByRecursion (λ n. n < 2 ^ 64) ns → All (λ b. p b ≡ false) (flat_map spaced ns)
    numbers [] fit = All-nil (λ b. p b ≡ false)
    numbers (n ∷ ns) fit =
        All-append (λ b. p b ≡ false) (spaced n) (flat_map spaced ns)
        (All-cons (λ b. p b ≡ false) 32 (decimal n) blank (plain-fails p high (decimal n) (plain-decimal n fit.0).0))
        (numbers ns fit.1)

-- ---- the words of a line

pub is-body : (kind : EntryKind) (ns : List ℕ) → AllByRecursion (λ n. n < 2 ^ 64) ns → All (λ b. eqb b 10 ≡ false) (body (kind_name kind) ns)
is-body kind ns fit = body-fails (λ b. eqb b 10) (λ b h. ne_eqb b 10 (λ e. omega arith)) refl (kind_name kind) ns (plain-name kind).0 fit

no-comment : (xs : List ℕ) → All (λ b. eqb b 35 ≡ false) xs → uncommented xs ≡ xs
no-comment xs h =
    ap (λ n. take n xs) (position_or_len_is (λ b. eqb b 35) xs (length xs) 0 (omega arith) (λ k l. h k 0 l) (λ l. absurd (omega arith)))
    ∙ take_all (length xs) xs (omega arith)

body-parts : (w ns : List ℕ) → Plain w → 0 < length w → AllByRecursion (λ n. n < 2 ^ 64) ns → parts (body w ns) ≡ w ∷ map decimal ns
body-parts w [] h some fit =
    ap parts (append-nil w) ∙ parts-last w some (plain-fails is_ascii_whitespace (λ b l. no-blank b (omega arith)) w h)
body-parts w (n ∷ ns) h some fit =
    let d = plain-decimal n fit.0 in
    parts-word w 32 (body (decimal n) ns) some (plain-fails is_ascii_whitespace (λ b l. no-blank b (omega arith)) w h) refl
    ∙ ap (λ ws. w ∷ ws) (body-parts (decimal n) ns d.0 d.1 fit.1)

body-words : (kind : EntryKind) (ns : List ℕ) → AllByRecursion (λ n. n < 2 ^ 64) ns → words (body (kind_name kind) ns) ≡ kind_name kind ∷ map decimal ns
body-words kind ns fit =
    let name = plain-name kind in
    ap parts (no-comment (body (kind_name kind) ns) (body-fails (λ b. eqb b 35) (λ b h. ne_eqb b 35 (λ e. omega arith)) refl (kind_name kind) ns name.0 fit))
    ∙ body-parts (kind_name kind) ns name.0 name.1 fit

-- ---- what the words stand for

number-back : (n : ℕ) → n < 2 ^ 64 → number_read (decimal n) ≡ Ok n
number-back n h =
    let d = decimal_is_IsNumeral n h in
    let numeral : is_numeral (decimal n) ≡ true = and_from (ltb 0 (length (decimal n))) (list_all is_ascii_digit (decimal n)) (lt-ltb 0 (length (decimal n)) d.0.0) (own.from (decimal n) d.0.1) in
    cond-true (is_numeral (decimal n)) _ _ numeral
    ∙ cond-true (ltb (digits_value 10 (decimal n)) (2 ^ 64)) _ _ (lt-ltb _ _ (omega (arith, d.1, h)))
    ∙ ap (λ k. Ok k) d.1

numbers-back : (ns : List ℕ) → AllByRecursion (λ n. n < 2 ^ 64) ns → numbers_read (map decimal ns) ≡ Ok ns
numbers-back [] fit = refl
numbers-back (n ∷ ns) fit =
    ap (λ r. and_then r (λ k. behind (k ∷ []) (numbers_read (map decimal ns)))) (number-back n fit.0)
    ∙ ap (behind (n ∷ [])) (numbers-back ns fit.1)

name-back : (kind : EntryKind) → kind_named (kind_name kind) ≡ Some kind
unfolding first_named
name-back SetUp = refl
name-back Open = refl
name-back Read = refl
name-back Write = refl
name-back Abandon = refl
name-back Commit = refl
name-back Send = refl
name-back Poll = refl
name-back Take = refl
name-back Check = refl
name-back Trim = refl

pub line-back : (kind : EntryKind) (ns e : List ℕ) → AllByRecursion (λ n. n < 2 ^ 64) ns → entry_of kind ns ≡ Ok e → line_read (body (kind_name kind) ns) ≡ Ok (Some e)
line-back kind ns e fit entry =
    ap entry_read (body-words kind ns fit)
    ∙ ap (λ o. result_map_both Some (λ f. f) (step_read o (map decimal ns))) (name-back kind)
    ∙ ap (λ r. result_map_both Some (λ f. f) (and_then r (entry_of kind))) (numbers-back ns fit)
    ∙ ap (λ r. result_map_both Some (λ f. f) r) entry

-- the line is its body and the end of the line
pub line-is : (kind : EntryKind) (ns rest : List ℕ) → line kind ns ++ rest ≡ body (kind_name kind) ns ++ 10 ∷ rest
line-is kind ns rest =
    ap (λ xs. xs ++ rest) (sym (append_assoc (kind_name kind) (flat_map spaced ns) (10 ∷ []))) ∙ append_assoc (body (kind_name kind) ns) (10 ∷ []) rest
