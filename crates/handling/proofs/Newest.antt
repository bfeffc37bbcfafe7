-- The entries in front of a place, turned round: the newest comes first.
use Rattle.std.proofs.Common.{◌≡◌, ℕ, zero, suc, ◌+◌, List, [], ◌∷◌, ◌++◌, reverse, take, drop, ap, ◌∙◌, add-one, arith}
use Rattle.std.proofs.lemmas.List.{reverse-append}

module _ {X : Type 0} where
  take-here : (xs : List X) (i : ℕ) (x : X) (rest : List X) → drop i xs ≡ x ∷ rest → take (suc i) xs ≡ take i xs ++ x ∷ []
  take-here [] zero x rest e = let z : ◌≡◌ {A = ℕ} 0 1 = cc in absurd (omega arith)
  take-here [] (suc i) x rest e = let z : ◌≡◌ {A = ℕ} 0 1 = cc in absurd (omega arith)
  take-here (y ∷ xs) zero x rest e = let same : y ≡ x = cc in ap (λ (z : X). z ∷ []) same
  take-here (y ∷ xs) (suc i) x rest e = ap (λ (zs : List X). y ∷ zs) (take-here xs i x rest e)

  -- one place more: its entry comes first where they are turned round
  pub turned_more : (xs : List X) (i : ℕ) (x : X) (rest : List X) → drop i xs ≡ x ∷ rest → reverse (take (i + 1) xs) ≡ x ∷ reverse (take i xs)
  turned_more xs i x rest e =
      let more : take (i + 1) xs ≡ take i xs ++ x ∷ [] = rw add-one (take-here xs i x rest e) in
      ap reverse more ∙ reverse-append (take i xs) (x ∷ [])
