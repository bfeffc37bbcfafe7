-- Some element passes a test where those that pass are not none.
use Rattle.std.proofs.Common.{◌≡◌, Bool, true, false, cond, not, ◌||◌, List, [], ◌∷◌, refl}
use Rattle.std.specs.List.{filter, list_any}
use Rattle.protocol.specs.Lists.{is_empty}

pub any_is : {X : Type 0} (f : X → Bool) (xs : List X) → list_any f xs ≡ not (is_empty (filter f xs))
any_is f [] = refl
any_is f (x ∷ xs) = go (f x) (any_is f xs)
  where
    go : (b : Bool) → list_any f xs ≡ not (is_empty (filter f xs)) → (b || list_any f xs) ≡ not (is_empty (cond b (x ∷ filter f xs) (filter f xs)))
    go true rest = refl
    go false rest = rest
