-- Entries that were written as a file are read back.
use Rattle.std.proofs.Common.{◌≡◌, ℕ, ◌+◌, ◌/◌, ◌%◌, ◌<◌, true, List, [], ◌∷◌, ◌++◌, length, get_or, take, drop, Ok, sym, refl, ap, ◌∙◌, subst, arith, length-append}
use lib.Seq.{drop-append-add}
use Rattle.std.specs.Int.{w16, from_be_bytes}
use Rattle.std.specs.List.{flat_map, AllByRecursion}
use Rattle.std.proofs.lemmas.Nat.{from_be_bytes-to_be_bytes_2}
use Rattle.std.proofs.lemmas.List.{append-nil, append_assoc, get_or_at, get_or-append-add, take_at}
use Rattle.std.proofs.lemmas.Bool.{le-leb}
use Rattle.steps.specs.Bytes.{two_at}
use Rattle.steps.specs.Frames.{Position, at, opened, entry_at, passed, is_whole, end_of, entry}
use Rattle.steps.specs.Writing.{with_length, written}
use Rattle.steps.specs.Laws.{listed, handed, reached, ReadsBack}
use Rattle.steps.proofs.Cutting.{passed-whole, listed-whole, nothing-behind, opened-at}

-- an entry that was written behind `pre`
module _ (pre e rest : List ℕ) (short : length e < 65536) where
  abbrev pub behind : Position
  behind = at (pre ++ (with_length e ++ rest)) (length pre)

  size-there : two_at (pre ++ (with_length e ++ rest)) (length pre) ≡ length e
  size-there =
      let ys = with_length e ++ rest in
      let high = get_or_at pre (length e / 256 % 256) (length e % 256 ∷ (e ++ rest)) 0 (length pre) refl in
      let low = get_or-append-add pre ys 1 0 in
      ap (λ h. from_be_bytes w16 (h ∷ get_or (pre ++ ys) (length pre + 1) 0 ∷ [])) high
      ∙ ap (λ l. from_be_bytes w16 (length e / 256 % 256 ∷ l ∷ [])) low
      ∙ from_be_bytes-to_be_bytes_2 (length e) short

  pub end-there : end_of behind ≡ length (pre ++ with_length e)
  end-there = omega (arith, size-there, length-append pre (with_length e))

  pub whole-there : is_whole behind ≡ true
  whole-there =
      le-leb (end_of behind) (length (pre ++ (with_length e ++ rest)))
      (omega (arith, end-there, length-append pre (with_length e), length-append pre (with_length e ++ rest), length-append (with_length e) rest))

  pub content-there : (entry behind).content ≡ e
  content-there =
      ap (λ n. take n (drop (length pre + 2) (pre ++ (with_length e ++ rest)))) size-there
      ∙ ap (take (length e)) (drop-append-add pre (with_length e ++ rest) 2)
      ∙ take_at e rest (length e) refl

-- the entries of `es`, and then the end of the file
Back : List ℕ → ℕ → List (List ℕ) → Type 0
Back file i es = (handed (length es) (at file i) ≡ es) × (reached (length es) (at file i) ≡ at file (length file))

-- one call that hands out `e` and leaves the reader at `j`
one-call : (file : List ℕ) (i j : ℕ) (e : List ℕ) (es : List (List ℕ))
    → listed (entry_at (at file i)) ≡ e ∷ [] → passed (at file i) ≡ at file j → Back file j es → Back file i (e ∷ es)
unfolding Back handed reached
one-call file i j e es l q b = (
  ap (λ (xs : List (List ℕ)). xs ++ handed (length es) (passed (at file i))) l
      ∙ ap (λ (r : Position). e ∷ handed (length es) r) q
      ∙ ap (λ (xs : List (List ℕ)). e ∷ xs) b.0,
  ap (reached (length es)) q ∙ b.1,
)

back : (pre : List ℕ) (es : List (List ℕ)) → AllByRecursion (λ e. length e < 65536) es → Back (pre ++ flat_map with_length es) (length pre) es
unfolding Back handed reached
back pre [] h = (refl, ap (λ n. at (pre ++ []) n) (ap length (sym (append-nil pre))))
back pre (e ∷ es) h =
    let rest = flat_map with_length es in
    let file = pre ++ (with_length e ++ rest) in
    let there = whole-there pre e rest h.0 in
    one-call file (length pre) (length (pre ++ with_length e)) e es
    (listed-whole (at file (length pre)) there ∙ ap (λ xs. xs ∷ []) (content-there pre e rest h.0))
    (passed-whole (at file (length pre)) there ∙ ap (at file) (end-there pre e rest h.0))
    (subst (λ f. Back f (length (pre ++ with_length e)) es) (append_assoc pre (with_length e) rest) (back (pre ++ with_length e) es h.1))

pub reads-back : (bytes : List ℕ) (start : Position) → opened bytes ≡ Ok start → ReadsBack bytes start
unfolding Back
reads-back bytes start o es short e =
    let b = back (1 ∷ []) es short in
    let there : start ≡ at (written es) 1 = opened-at bytes start o ∙ ap (λ xs. at xs 1) e in
    record {
      same = ap (handed (length es)) there ∙ b.0;
      ends = ap (λ p. entry_at (reached (length es) p)) there ∙ ap entry_at b.1 ∙ nothing-behind (at (written es) (length (written es))) (omega arith);
    }
