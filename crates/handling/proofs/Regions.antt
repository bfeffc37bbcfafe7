-- The regions of lines: where a byte has bits for all of them, and a loop that collects them.
use Rattle.std.proofs.Common.{◌≡◌, ℕ, zero, suc, ◌+◌, ◌/◌, ◌%◌, ◌^◌, ◌<◌, ◌≤◌, Bool, true, false, ◌||◌, eqb, max, List, [], ◌∷◌, length, get_or, drop, sym, refl, ap, ◌∙◌, inl, inr, mod-lt, div-add-mod', arith}
use lib.Arith.{bin_ind}
use lib.Bits.{bit_or, or_shr, or_mod, or_zero_r}
use Rattle.std.specs.List.{AllByRecursion, list_any}
use Rattle.std.specs.Int.{bit_at}
use Rattle.std.proofs.lemmas.Bool.Decides.{eqb_tells}
use Rattle.std.proofs.lemmas.Nat.Bits.{bit_at_or, bit_at-zero, bit_at-pow_same, bit_at-pow_other}
use Rattle.std.proofs.lemmas.List.{at_drop_more, at_drop_all}
use Rattle.std.proofs.ByRecursion.{All-get_or, All-weaker}
use Rattle.protocol.specs.declared.plan.Plan.{Plan}
use Rattle.protocol.specs.declared.record.Line.{Line}
use Rattle.protocol.specs.Room.{regions_byte, one_if}
use Rattle.protocol.specs.Kept.{Fits}
use Rattle.handling.specs.Sending.{InEightRegions, SetsRegions}

by_digits : (a b : ℕ) → a / 2 ≡ b / 2 → a % 2 ≡ b % 2 → a ≡ b
by_digits a b high low = omega (arith, div-add-mod' a 2, div-add-mod' b 2)

digits-assoc : (x y z : ℕ) → x < 2 → y < 2 → z < 2 → bit_or (bit_or x y) z ≡ bit_or x (bit_or y z)
digits-assoc zero y z a b c = refl
digits-assoc (suc zero) zero z a b c = refl
digits-assoc (suc zero) (suc zero) zero a b c = refl
digits-assoc (suc zero) (suc zero) (suc zero) a b c = refl
digits-assoc (suc zero) (suc zero) (suc (suc z)) a b c = absurd (omega arith)
digits-assoc (suc zero) (suc (suc y)) z a b c = absurd (omega arith)
digits-assoc (suc (suc x)) y z a b c = absurd (omega arith)

or_assoc : (a b c : ℕ) → bit_or (bit_or a b) c ≡ bit_or a (bit_or b c)
or_assoc = bin_ind (λ (n : ℕ). (b c : ℕ) → bit_or (bit_or n b) c ≡ bit_or n (bit_or b c)) (λ b c. refl)
    (λ n half b c. by_digits _ _
    (or_shr (bit_or n b) c 1 ∙ ap (λ (x : ℕ). bit_or x (c / 2)) (or_shr n b 1) ∙ half (b / 2) (c / 2)
    ∙ sym (or_shr n (bit_or b c) 1 ∙ ap (bit_or (n / 2)) (or_shr b c 1)))
    (or_mod (bit_or n b) c 1 ∙ ap (λ (x : ℕ). bit_or x (c % 2)) (or_mod n b 1)
    ∙ digits-assoc (n % 2) (b % 2) (c % 2) (mod-lt n (omega arith)) (mod-lt b (omega arith)) (mod-lt c (omega arith))
    ∙ sym (or_mod n (bit_or b c) 1 ∙ ap (bit_or (n % 2)) (or_mod b c 1))))

-- the lines of a transaction name words of the plan's regions, eight at most
pub fit-in-eight : (p : Plan) (ws : List Line) → p.regions ≤ 8 → AllByRecursion (Fits p) ws → InEightRegions ws
fit-in-eight p ws few fit = All-weaker (Fits p) (λ (w : Line). w.address < 512) (λ w h. omega arith) ws fit

-- what is collected so far, with the regions of the rest
module _ (ls : List Line) (i byte : ℕ) (so_far : bit_or byte (regions_byte (drop i ls)) ≡ regions_byte ls) where
  pub regions-more : (d : Line) (bit : ℕ) → i < length ls → InEightRegions ls → ((get_or ls i d).address < 512 → bit ≡ 2 ^ ((get_or ls i d).address / 64))
      → bit_or (bit_or byte bit) (regions_byte (drop (i + 1) ls)) ≡ regions_byte ls
  regions-more d bit l small is =
      ap (λ (x : ℕ). bit_or (bit_or byte x) (regions_byte (drop (i + 1) ls))) (is (All-get_or (λ (k : Line). k.address < 512) ls i d l small))
      ∙ or_assoc byte (2 ^ ((get_or ls i d).address / 64)) (regions_byte (drop (i + 1) ls))
      ∙ ap (bit_or byte) (sym (at_drop_more regions_byte ls i d l))
      ∙ so_far

  pub regions-all : length ls ≤ i → byte ≡ regions_byte ls
  regions-all l = sym (or_zero_r byte) ∙ ap (bit_or byte) (sym (at_drop_all regions_byte ls i l)) ∙ so_far

one-bit : (k r : ℕ) → bit_at (2 ^ k) r ≡ one_if (eqb k r)
one-bit k r =
    elim (eqb_tells k r) [
      | inl yes' ↦ ap (bit_at (2 ^ k)) (sym yes'.1) ∙ bit_at-pow_same k ∙ ap one_if (sym yes'.0)
      | inr no' ↦ bit_at-pow_other k r (λ e. no'.1 (sym e)) ∙ ap one_if (sym no'.0)
    ]

either-bit : (a b : Bool) → max (one_if a) (one_if b) ≡ one_if (a || b)
either-bit true true = refl
either-bit true false = refl
either-bit false true = refl
either-bit false false = refl

-- the byte of the regions has the bit of each
pub sets-regions : (ls : List Line) → SetsRegions ls (regions_byte ls)
sets-regions [] r = bit_at-zero r
sets-regions (l ∷ ls) r =
    let k = l.address / 64 in
    bit_at_or (2 ^ k) (regions_byte ls) r
    ∙ ap (λ (x : ℕ). max x (bit_at (regions_byte ls) r)) (one-bit k r)
    ∙ ap (max (one_if (eqb k r))) (sets-regions ls r)
    ∙ either-bit (eqb k r) (list_any (λ (j : Line). eqb (j.address / 64) r) ls)
