-- Two plans with equal fields are equal, whatever shows that each has eight homes.
use Rattle.std.proofs.Common.{◌≡◌, ℕ, List, length, ap, subst}
use native.Mathlib.Nat.{ℕ_set}
use Rattle.protocol.specs.declared.plan.Home.{Home}
use Rattle.protocol.specs.declared.plan.Plan.{Plan}

abbrev plan_with : (m c r k s f : ℕ) (hs : List Home) → length hs ≡ 8 → Plan
plan_with m c r k s f hs p =
    record { machines = m; coordinators = c; regions = r; capacity = k; start = s; first = f; homes = hs; eight = p }

pub same-homes : (m c r k s f : ℕ) (hs gs : List Home) (p : length hs ≡ 8) (q : length gs ≡ 8) → hs ≡ gs
    → plan_with m c r k s f hs p ≡ plan_with m c r k s f gs q
same-homes m c r k s f hs gs p q e =
    let P : List Home → Type 0 = λ xs. (h : length xs ≡ 8) → plan_with m c r k s f hs p ≡ plan_with m c r k s f xs h in
    subst P e (λ h. ap (plan_with m c r k s f hs) (ℕ_set _ _ p h)) q

pub same-plan : (m c r k s t f g : ℕ) (hs gs : List Home) (p : length hs ≡ 8) (q : length gs ≡ 8) → s ≡ t → f ≡ g → hs ≡ gs
    → plan_with m c r k s f hs p ≡ plan_with m c r k t g gs q
same-plan m c r k s t f g hs gs p q es ef e =
    let h = same-homes m c r k s f hs gs p q e in cc
