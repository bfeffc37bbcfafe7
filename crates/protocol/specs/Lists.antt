-- Lists of machines, and a function changed at one place.
use Rattle.std.specs.Prelude.{ℕ, Bool, true, false, cond, not, List, [], ◌∷◌, ◌==◌, nat_eq}
use Rattle.std.specs.List.{filter, list_any}

abbrev pub is_empty : {A : Type 0} → List A → Bool
is_empty [] = true
is_empty (x ∷ xs) = false

-- a function changed at one place
abbrev pub upd : {A : Type 0} → (ℕ → A) → ℕ → A → ℕ → A
upd f i a j = cond (j == i) a (f j)

abbrev pub is_member : ℕ → List ℕ → Bool
is_member n ns = list_any (nat_eq n) ns

abbrev pub without : ℕ → List ℕ → List ℕ
without n ns = filter (λ k. not (k == n)) ns
