-- A region's home is in the region's own chunk of three bytes.
use Rattle.std.proofs.Common.{◌≡◌, ℕ, zero, suc, ◌+◌, ◌*◌, ◌/◌, ◌<◌, ◌≤◌, leb, List, [], ◌∷◌, length, get_or, sym, refl, ap, ◌∙◌, arith}
use Rattle.std.specs.Simd.{first_chunks}
use Rattle.std.proofs.lemmas.Bool.{le-leb, cond-true}
use Rattle.protocol.specs.declared.plan.Home.{Home}
use Rattle.steps.specs.Entries.{home}

abbrev three_at : List ℕ → ℕ → List ℕ
three_at bs i = get_or bs i 0 ∷ get_or bs (i + 1) 0 ∷ get_or bs (i + 2) 0 ∷ []

three-behind : (a b c i j : ℕ) (bs : List ℕ) → j ≡ i + 3 → three_at bs i ≡ three_at (a ∷ b ∷ c ∷ bs) j
three-behind a b c i j bs h =
    let first : j ≡ suc (suc (suc i)) = omega (arith, h) in
    let second : j + 1 ≡ suc (suc (suc (i + 1))) = omega (arith, h) in
    let third : j + 2 ≡ suc (suc (suc (i + 2))) = omega (arith, h) in
    let xs = a ∷ b ∷ c ∷ bs in
    ap (λ (k : ℕ). get_or xs k 0 ∷ get_or bs (i + 1) 0 ∷ get_or bs (i + 2) 0 ∷ []) (sym first)
    ∙ ap (λ (k : ℕ). get_or xs j 0 ∷ get_or xs k 0 ∷ get_or bs (i + 2) 0 ∷ []) (sym second)
    ∙ ap (λ (k : ℕ). get_or xs j 0 ∷ get_or xs (j + 1) 0 ∷ get_or xs k 0 ∷ []) (sym third)

chunk-at : (k r : ℕ) (bs t : List ℕ) → k * 3 ≤ length bs → r < k → get_or (first_chunks 3 k bs) r t ≡ three_at bs (3 * r)
chunk-at zero r bs t h l = absurd (omega arith)
chunk-at (suc k) r [] t h l = absurd (omega arith)
chunk-at (suc k) r (a ∷ []) t h l = absurd (omega arith)
chunk-at (suc k) r (a ∷ b ∷ []) t h l = absurd (omega arith)
chunk-at (suc k) zero (a ∷ b ∷ c ∷ bs) t h l = refl
chunk-at (suc k) (suc r) (a ∷ b ∷ c ∷ bs) t h l =
    chunk-at k r bs t (omega arith) (omega arith) ∙ three-behind a b c (3 * r) (3 * suc r) bs (omega arith)

pub in_chunk : (bs t : List ℕ) (r : ℕ) → r < length bs / 3 → t ≡ get_or (first_chunks 3 (length bs / 3) bs) r t
    → ◌≡◌ {A = Home} (record { primary = get_or t 0 0; first = get_or t 1 0; second = get_or t 2 0 }) (home bs r)
in_chunk bs t r l h =
    let n = length bs / 3 in
    let there : t ≡ three_at bs (3 * r) = h ∙ chunk-at n r bs t (omega arith) l in
    ap (λ (xs : List ℕ). record { primary = get_or xs 0 0; first = get_or xs 1 0; second = get_or xs 2 0 }) there
    ∙ sym (cond-true (leb (3 * r + 3) (length bs)) _ _ (le-leb (3 * r + 3) (length bs) (omega (arith, l))))
