-- What the laws of packed words cite: how many words there are, which word stands at an address, and that each is proper.
use Rattle.std.specs.Prelude.{◌≡◌, ℕ, ◌/◌, ◌<◌, ◌≤◌, List, length}
use Rattle.std.proofs.Common.{inl, inr, arith, lit<}
use Rattle.std.proofs.lemmas.List.FromFn.{length-map-range_with_len, get_or-map-range_with_len}
use Rattle.std.proofs.lemmas.List.{get_or_past}
use Rattle.std.proofs.lemmas.Bool.{cases_lt}
use Rattle.memory.specs.Packing.{word_in, unpacked}
use Rattle.memory.specs.Words.{blank, at, Proper}

pub length-unpacked : (bs : List ℕ) → length (unpacked bs) ≡ length bs / 16
unfolding unpacked
length-unpacked bs = length-map-range_with_len (word_in bs) 0 (length bs / 16)

pub at-unpacked : (bs : List ℕ) (a : ℕ) → a < length bs / 16 → at (unpacked bs) a ≡ word_in bs a
unfolding unpacked
at-unpacked bs a h = get_or-map-range_with_len (word_in bs) 0 (length bs / 16) a a blank h (omega arith)

pub unpacked-proper : (bs : List ℕ) (k : ℕ) → Proper (at (unpacked bs) k)
unpacked-proper bs k =
    elim (cases_lt k (length bs / 16)) [
      | inl h ↦ rw (at-unpacked bs k h) (omega arith, omega arith)
      | inr h ↦ rw (get_or_past (unpacked bs) k blank (rw (length-unpacked bs) h)) (lit< tt, lit< tt)
    ]

-- bytes from 16 to 1048576 are as many words as a memory may have
pub unpacked-sized : (bs : List ℕ) → 16 ≤ length bs → length bs ≤ 1048576 → (1 ≤ length (unpacked bs)) × (length (unpacked bs) ≤ 65536)
unpacked-sized bs some few = let words = length-unpacked bs in (omega arith, omega arith)
