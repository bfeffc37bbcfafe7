-- What holds of each element of a list, and a list as a function of the index.
use Rattle.std.proofs.Common.{◌≡◌, ℕ, zero, suc, ◌+◌, List, get_or, replicate, refl}
use Rattle.std.specs.List.{AllByRecursion}
use Rattle.ring.specs.Rings.{mapi}

-- the entries of a list, as a function
abbrev pub entries : {X : Type 0} → X → List X → ℕ → X
entries d xs i = get_or xs i d

pub all_replicate : {X : Type 0} (P : X → Type 0) (n : ℕ) (y : X) → P y → AllByRecursion P (replicate n y)
all_replicate P zero y q = tt
all_replicate P (suc n) y q = (q, all_replicate P n y q)

pub mapi-replicate : {X Y : Type 0} (f : ℕ → X → Y) (i n : ℕ) (x : X) (y : Y) → ((k : ℕ) → f k x ≡ y) → mapi f i (replicate n x) ≡ replicate n y
mapi-replicate f i zero x y e = refl
mapi-replicate f i (suc n) x y e = let here = e i in let rest = mapi-replicate f (i + 1) n x y e in cc
