-- The words that a text is cut into at blanks.
use Rattle.std.proofs.Common.{◌≡◌, ℕ, ◌<◌, ◌≤◌, true, false, ltb, leb, ◌⊎◌, inl, inr, List, [], ◌∷◌, ◌++◌, length, get_or, filter, sym, refl, ap, ◌∙◌, subst, arith}
use Rattle.std.specs.Char.{is_ascii_whitespace}
use Rattle.std.specs.List.{All, AllPass}
use Rattle.std.specs.Str.{NoCharPasses}
use Rattle.std.specs.Str.Iter.{split_ascii_whitespace_steps, split_ascii_whitespace_text, IsAsciiSeparator}
use Rattle.std.proofs.lemmas.Bool.{lt-ltb, lt-leb, and_right, or_from, cases_lt, cond-true}
use Rattle.std.proofs.lemmas.Iterator.{YieldsList}
use Rattle.std.proofs.lemmas.Iterator.Splits.{YieldsList-from_shown_while}
use Rattle.std.proofs.lemmas.List.{append-nil, nil_from_length}
use Rattle.std.proofs.lemmas.List.Elements.{All-head, All-tail, All-from_get_or}
use Rattle.std.proofs.lemmas.List.Splits.{slice_split-cons_yes, slice_split_none, slice_split_at}
use Rattle.std.proofs.lemmas.Str.{NoCharPasses-byte}
use Rattle.text.specs.Words.{parts}

-- no byte above the blank is a blank of any kind
pub no-blank : (b : ℕ) → 32 < b → is_ascii_whitespace b ≡ false
no-blank b h =
    or_from _ _
    (or_from _ _ (and_right (leb 9 b) (leb b 10) (lt-leb b 10 (omega arith))) (and_right (leb 12 b) (leb b 13) (lt-leb b 13 (omega arith))))
    (and_right (leb 32 b) (leb b 32) (lt-leb b 32 h))

-- blanks in front of words
parts-blank : (b : ℕ) (xs : List ℕ) → is_ascii_whitespace b ≡ true → parts (b ∷ xs) ≡ parts xs
parts-blank b xs h = ap (filter (λ w. ltb 0 (length w))) (slice_split-cons_yes is_ascii_whitespace b xs h)

parts-blanks : (gap xs : List ℕ) → AllPass is_ascii_whitespace gap → parts (gap ++ xs) ≡ parts xs
parts-blanks [] xs h = refl
parts-blanks (b ∷ gap) xs h =
    parts-blank b (gap ++ xs) (All-head (λ x. is_ascii_whitespace x ≡ true) b gap h)
    ∙ parts-blanks gap xs (All-tail (λ x. is_ascii_whitespace x ≡ true) b gap h)

-- a word in front of a blank, and at the end
pub parts-word : (x : List ℕ) (b : ℕ) (xs : List ℕ) → 0 < length x → All (λ y. is_ascii_whitespace y ≡ false) x → is_ascii_whitespace b ≡ true
    → parts (x ++ b ∷ xs) ≡ x ∷ parts xs
parts-word x b xs some plain blank =
    ap (filter (λ w. ltb 0 (length w))) (slice_split_at is_ascii_whitespace x b xs plain blank)
    ∙ cond-true (ltb 0 (length x)) _ _ (lt-ltb 0 (length x) some)

pub parts-last : (x : List ℕ) → 0 < length x → All (λ y. is_ascii_whitespace y ≡ false) x → parts x ≡ x ∷ []
parts-last x some plain =
    ap (filter (λ w. ltb 0 (length w))) (slice_split_none is_ascii_whitespace x plain)
    ∙ cond-true (ltb 0 (length x)) _ _ (lt-ltb 0 (length x) some)

-- the same, where a word is followed by one blank or by nothing
parts-cut : (x sep rest : List ℕ) → 0 < length x → All (λ y. is_ascii_whitespace y ≡ false) x → IsAsciiSeparator sep rest
    → parts (x ++ (sep ++ rest)) ≡ x ∷ parts rest
parts-cut x [] rest some plain s =
    let nothing : rest ≡ [] = nil_from_length rest (s.2 refl) in
    ap (λ r. parts (x ++ r)) nothing ∙ ap parts (append-nil x) ∙ parts-last x some plain ∙ ap (λ r. x ∷ parts r) (sym nothing)
parts-cut x (b ∷ []) rest some plain s = parts-word x b rest some plain (All-head (λ y. is_ascii_whitespace y ≡ true) b [] s.0)
parts-cut x (b ∷ c ∷ sep) rest some plain s = absurd (omega (arith, s.1))

plain-byte : (x : List ℕ) (i : ℕ) → NoCharPasses is_ascii_whitespace x → i < length x → is_ascii_whitespace (get_or x i 0) ≡ false
plain-byte x i h l = by (cases_lt (get_or x i 0) 128)
  where
    by : (get_or x i 0 < 128) ⊎ (128 ≤ get_or x i 0) → is_ascii_whitespace (get_or x i 0) ≡ false
    by (inl low) = NoCharPasses-byte is_ascii_whitespace x i h l low
    by (inr high) = no-blank (get_or x i 0) (omega arith)

pub parts-yielded : {s : _} (bs : List ℕ) → split_ascii_whitespace_text s ≡ bs → YieldsList split_ascii_whitespace_steps (λ x. x.now) s (parts bs)
parts-yielded {s = s} bs e =
    subst (λ (xs : List ℕ). YieldsList split_ascii_whitespace_steps (λ x. x.now) s (parts xs)) e
    (YieldsList-from_shown_while split_ascii_whitespace_steps (λ x. x.now) (λ t. parts (split_ascii_whitespace_text t)) (λ t. Unit {0})
    (λ t u h k. ap length (ap parts (sym (append-nil (split_ascii_whitespace_text t))) ∙ parts-blanks (split_ascii_whitespace_text t) [] k.0))
    (λ t x u h k. (
      tt,
      let cut = k.3 in
          ap parts cut.2
          ∙ parts-blanks cut.0 _ cut.3
          ∙ parts-cut x.now cut.1 (split_ascii_whitespace_text u) k.0 (All-from_get_or (λ y. is_ascii_whitespace y ≡ false) x.now 0 (λ i l. plain-byte x.now i k.1 l)) cut.4,
    ))
    s tt)
