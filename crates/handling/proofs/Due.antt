-- The machines from some number on that pass a test, and the lowest of them.
use Rattle.std.proofs.Common.{◌≡◌, ℕ, zero, suc, ◌+◌, ◌-◌, ◌<◌, ◌≤◌, Bool, true, false, cond, List, [], ◌∷◌, Some, None, sym, refl, ap, ◌∙◌, arith}
use Rattle.std.specs.List.{filter, find, range_with_len}
use Rattle.handling.specs.Sending.{first_machine}

-- those of m to n - 1 that pass
abbrev pub passing : (ℕ → Bool) → ℕ → ℕ → List ℕ
passing f n m = filter f (range_with_len m (n - m))

module _ (f : ℕ → Bool) (n m : ℕ) where
  one_more : m < n → passing f n m ≡ cond (f m) (m ∷ passing f n (m + 1)) (passing f n (m + 1))
  one_more l = let size : n - m ≡ suc (n - (m + 1)) = omega arith in ap (λ (k : ℕ). filter f (range_with_len m k)) size

-- the first that passes of k numbers from d on
pub found_first : (f : ℕ → Bool) (d k : ℕ) → find f (range_with_len d k) ≡ first_machine (filter f (range_with_len d k))
found_first f d zero = refl
found_first f d (suc k) = ap (cond (f d) (Some d)) (found_first f (d + 1) k) ∙ by_cases (f d)
  where
    by_cases : (b : Bool) → cond b (Some d) (first_machine (filter f (range_with_len (d + 1) k))) ≡ first_machine (cond b (d ∷ filter f (range_with_len (d + 1) k)) (filter f (range_with_len (d + 1) k)))
    by_cases true = refl
    by_cases false = refl

-- m is the first that passes of k numbers from d on
record First (f : ℕ → Bool) (d k m : ℕ) : Type 0 where
  above : d ≤ m
  below : m < d + k
  rest : filter f (range_with_len d k) ≡ m ∷ filter f (range_with_len (m + 1) (d + k - (m + 1)))

first_step : (f : ℕ → Bool) (d k m : ℕ) (t : Bool) → f d ≡ t → Some m ≡ first_machine (cond t (d ∷ filter f (range_with_len (d + 1) k)) (filter f (range_with_len (d + 1) k)))
    → (Some m ≡ first_machine (filter f (range_with_len (d + 1) k)) → First f (d + 1) k m) → First f d (suc k) m
first_step f d k m true q e later =
    let same : m ≡ d = cc in
    let from : d + 1 ≡ m + 1 = omega arith in
    let size : k ≡ d + suc k - (m + 1) = omega arith in
    record {
      above = omega arith;
      below = omega arith;
      rest =
          ap (λ t. cond t (d ∷ filter f (range_with_len (d + 1) k)) (filter f (range_with_len (d + 1) k))) q
          ∙ ap (λ (j : ℕ). d ∷ filter f (range_with_len j k)) from
          ∙ ap (λ (n : ℕ). d ∷ filter f (range_with_len (m + 1) n)) size
          ∙ ap (λ (j : ℕ). j ∷ filter f (range_with_len (m + 1) (d + suc k - (m + 1)))) (sym same);
    }
first_step f d k m false q e later =
    let found = later e in
    let size : d + 1 + k - (m + 1) ≡ d + suc k - (m + 1) = omega arith in
    record {
      above = omega (arith, found.above);
      below = omega (arith, found.below);
      rest =
          ap (λ t. cond t (d ∷ filter f (range_with_len (d + 1) k)) (filter f (range_with_len (d + 1) k))) q
          ∙ found.rest
          ∙ ap (λ (n : ℕ). m ∷ filter f (range_with_len (m + 1) n)) size;
    }

first-is : (f : ℕ → Bool) (d k m : ℕ) → Some m ≡ first_machine (filter f (range_with_len d k)) → First f d k m
first-is f d zero m e = let z : ◌≡◌ {A = ℕ} 0 1 = cc in absurd (omega arith)
first-is f d (suc k) m e = first_step f d k m (f d) refl e (first-is f (d + 1) k m)

-- where the lowest is m, the others are those from m + 1 on
pub due-next : (f : ℕ → Bool) (n d m : ℕ) → Some m ≡ first_machine (passing f n d) → passing f n d ≡ m ∷ passing f n (m + 1)
due-next f n d m e =
    let found = first-is f d (n - d) m e in
    let size : d + (n - d) - (m + 1) ≡ n - (m + 1) = omega (arith, found.above, found.below) in
    found.rest ∙ ap (λ (k : ℕ). m ∷ filter f (range_with_len (m + 1) k)) size

pub due-none : (f : ℕ → Bool) (n d : ℕ) → None ≡ first_machine (passing f n d) → passing f n d ≡ []
due-none f n d e = go (passing f n d) e
  where
    go : (ms : List ℕ) → None ≡ first_machine ms → ms ≡ []
    go [] e = refl
    go (m ∷ ms) e = let z : ◌≡◌ {A = ℕ} 0 1 = cc in absurd (omega arith)
