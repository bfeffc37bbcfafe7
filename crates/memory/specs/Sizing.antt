-- What the laws of a make cite of its size: a number that is the length of its words bounds that length.
use Rattle.std.specs.Prelude.{◌≡◌, ℕ, ◌≤◌}
use Rattle.std.proofs.Common.{subst}

pub sized_along : (n k : ℕ) → n ≡ k → 1 ≤ n → n ≤ 65536 → (1 ≤ k) × (k ≤ 65536)
sized_along n k e some few = (subst (λ (x : ℕ). 1 ≤ x) e some, subst (λ (x : ℕ). x ≤ 65536) e few)
