-- The lines of a transaction's LOCK, installed one after the other and counted.
use Rattle.std.proofs.Common.{◌≡◌, ℕ, ◌+◌, ◌<◌, ◌≤◌, Bool, true, false, cond, List, [], ◌∷◌, length, get_or, drop, sym, refl, ap, ◌∙◌, subst, arith}
use mir.Val.{bool_byte}
use Rattle.std.specs.List.{AllByRecursion, filter}
use Rattle.std.proofs.ByRecursion.{All-weaker}
use Rattle.std.proofs.lemmas.List.{length-set, drop_more, drop_all}
use Rattle.std.proofs.lemmas.Bool.{and_from, lt-ltb}
use Rattle.protocol.specs.declared.record.Line.{Line}
use Rattle.protocol.specs.Lines.{Words, put, install_lines}
use Rattle.handling.specs.Fitting.{Fit, is_fit, fitting}

-- where all pass, a filter keeps all
pub filter-all : {X : Type 0} (p : X → Bool) (xs : List X) → AllByRecursion (λ x. p x ≡ true) xs → filter p xs ≡ xs
filter-all p [] all = refl
filter-all p (x ∷ xs) all = rw all.0 (ap (λ ys. x ∷ ys) (filter-all p xs all.1))

pub fits : (n : ℕ) (l : Line) → Fit n l → is_fit n l ≡ true
fits n l fit = and_from _ _ (lt-ltb _ _ fit.0) (lt-ltb _ _ fit.1)

fitting-all : (n : ℕ) (ls : List Line) → AllByRecursion (Fit n) ls → fitting n ls ≡ ls
fitting-all n ls fit = filter-all (is_fit n) ls (All-weaker (Fit n) _ (fits n) ls fit)

-- the line's value at the version after the one read
abbrev put_line : Words → Line → Words
put_line ws l = put ws l.address (l.version + 1) l.value

module _ (n : ℕ) (wanted : Words) (total : ℕ) where
  -- the lines left lead to the words and the count wanted
  pub record Left (ws : Words) (k : ℕ) (ls : List Line) : Type 0 where
    pub size : length ws ≡ n
    pub words : install_lines ws (fitting n ls) ≡ wanted
    pub count : k + length (fitting n ls) ≡ total

  step : (ws : Words) (k : ℕ) (l : Line) (ls : List Line) (done : Bool) → is_fit n l ≡ done → Left ws k (l ∷ ls) → Left (cond done (put_line ws l) ws) (k + bool_byte done) ls
  step ws k l ls true e left = record {
    size = length-set ws l.address _ ∙ left.size;
    words = rw e at left.words;
    count = omega (arith, rw e at left.count);
  }
  step ws k l ls false e left = record {
    size = left.size;
    words = rw e at left.words;
    count = omega (arith, rw e at left.count);
  }

  pub left-more : (ws ws' : Words) (k : ℕ) (ls : List Line) (i : ℕ) (d : Line) (done : Bool) → i < length ls → done ≡ is_fit (length ws) (get_or ls i d) → ws' ≡ cond done (put_line ws (get_or ls i d)) ws
      → Left ws k (drop i ls) → Left ws' (k + bool_byte done) (drop (i + 1) ls)
  left-more ws ws' k ls i d done lt answer after left =
      subst (λ v. Left v (k + bool_byte done) (drop (i + 1) ls)) (sym after)
      (step ws k (get_or ls i d) (drop (i + 1) ls) done (sym (answer ∙ ap (λ m. is_fit m (get_or ls i d)) left.size)) (subst (Left ws k) (drop_more ls i d lt) left))

  pub left-none : (ws : Words) (k : ℕ) (ls : List Line) (i : ℕ) → length ls ≤ i → Left ws k (drop i ls) → (ws ≡ wanted) × (k ≡ total)
  left-none ws k ls i past left = let last = subst (Left ws k) (drop_all i ls past) left in (last.words, omega (arith, last.count))

-- what is wanted where all fit
pub installs-all : (ws after : Words) (k : ℕ) (ls : List Line) → after ≡ install_lines ws (fitting (length ws) ls) → k ≡ length (fitting (length ws) ls) → AllByRecursion (Fit (length ws)) ls
    → (after ≡ install_lines ws ls) × (k ≡ length ls)
installs-all ws after k ls words count fit =
    let all = fitting-all (length ws) ls fit in (words ∙ ap (install_lines ws) all, count ∙ ap length all)
