-- An entry of a row of rings, and of a list mapped with its indices.
use Rattle.std.proofs.Common.{◌≡◌, ℕ, zero, suc, ◌+◌, ◌*◌, ◌<◌, ◌≤◌, List, [], ◌∷◌, length, get_or, take, ap, ◌∙◌, zero-add, arith}
use Rattle.std.proofs.lemmas.List.{get_or-take, length-take}
use Rattle.ring.specs.declared.Ring.{Ring}
use Rattle.ring.specs.Rings.{mapi, row, block}
use Rattle.ring.proofs.Indexed.{length-mapi}
use Rattle.ring.specs.Contents.{empty_ring}

getD-mapi : {X Y : Type 0} (f : ℕ → X → Y) (i : ℕ) (xs : List X) (k : ℕ) (d : X) (e : Y) → k < length xs → get_or (mapi f i xs) k e ≡ f (i + k) (get_or xs k d)
getD-mapi f i [] k d e l = absurd (omega arith)
getD-mapi f i (x ∷ xs) zero d e l = ap (λ j. f j x) (omega arith)
getD-mapi f i (x ∷ xs) (suc k) d e l = getD-mapi f (i + 1) xs k d e (omega arith) ∙ ap (λ j. f j (get_or xs k d)) (omega arith)

-- entry k of the first n
pub mapi-at : {X Y : Type 0} (f : ℕ → X → Y) (n : ℕ) (xs : List X) (k : ℕ) (d : X) (e : Y) → k < n → k < length xs → get_or (mapi f 0 (take n xs)) k e ≡ f k (get_or xs k d)
mapi-at f n xs k d e a b =
    getD-mapi f 0 (take n xs) k d e (simp length-take (omega arith))
    ∙ ap (λ j. f j (get_or (take n xs) k d)) (zero-add k)
    ∙ ap (f k) (get_or-take n xs k d a)

module _ {X Y : Type 0} (f : Ring → List X → Y) (k w c : ℕ) (table : List X) (rings : List Ring) (e : Y) where
  pub row-entry : (m : ℕ) → m < w → m < length rings → get_or (row f k w c table rings) m e ≡ f (get_or rings m empty_ring) (block k (c * w + m) table)
  unfolding row
  row-entry m a b = mapi-at (λ j r. f r (block k (c * w + j) table)) w rings m empty_ring e a b

  pub row-length : w ≤ length rings → length (row f k w c table rings) ≡ w
  unfolding row
  row-length l = length-mapi _ 0 (take w rings) ∙ simp length-take (omega arith)
