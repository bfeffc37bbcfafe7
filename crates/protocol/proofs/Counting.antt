-- Tests that agree on the numbers of a range.
use Rattle.std.proofs.Common.{◌≡◌, ℕ, zero, suc, ◌+◌, ◌<◌, Bool, refl, arith}
use Rattle.std.specs.List.{list_all, filter}
use Rattle.std.specs.List.{range_with_len}

pub all_same : (f g : ℕ → Bool) (i n : ℕ) → ((m : ℕ) → m < i + n → f m ≡ g m) → list_all f (range_with_len i n) ≡ list_all g (range_with_len i n)
all_same f g i zero e = refl
all_same f g i (suc n) e = let x = e i (omega arith) in let y = all_same f g (i + 1) n (λ m l. e m (omega arith)) in cc

pub filter_same : (f g : ℕ → Bool) (i n : ℕ) → ((m : ℕ) → m < i + n → f m ≡ g m) → filter f (range_with_len i n) ≡ filter g (range_with_len i n)
filter_same f g i zero e = refl
filter_same f g i (suc n) e = let x = e i (omega arith) in let y = filter_same f g (i + 1) n (λ m l. e m (omega arith)) in cc
