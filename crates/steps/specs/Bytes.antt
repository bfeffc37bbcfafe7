-- Numbers of two and of eight bytes, the highest byte first.
use Rattle.std.specs.Prelude.{ℕ, ◌+◌, List, [], ◌∷◌, slice_index}
use Rattle.std.specs.Int.{w16, w64, from_be_bytes}

-- the number in the two bytes from the byte `i` on
abbrev pub two_at : List ℕ → ℕ → ℕ
two_at bytes i = from_be_bytes w16 (slice_index bytes i ∷ slice_index bytes (i + 1) ∷ [])

-- the number in the eight bytes from the byte `i` on
abbrev pub eight_at : List ℕ → ℕ → ℕ
eight_at bytes i =
    from_be_bytes w64
    (slice_index bytes i
    ∷ slice_index bytes (i + 1)
    ∷ slice_index bytes (i + 2)
    ∷ slice_index bytes (i + 3)
    ∷ slice_index bytes (i + 4)
    ∷ slice_index bytes (i + 5)
    ∷ slice_index bytes (i + 6)
    ∷ slice_index bytes (i + 7)
    ∷ [])
