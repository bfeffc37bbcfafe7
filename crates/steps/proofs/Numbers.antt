-- Bytes of a list, read as a number and written again.
use Rattle.std.proofs.Common.{◌≡◌, ℕ, zero, suc, ◌+◌, ◌≤◌, ◌<◌, List, [], ◌∷◌, map, length, get_or, take, drop, ap, ◌∙◌, arith, length-drop}
use Rattle.std.specs.Int.{w64, from_be_bytes}
use Rattle.std.specs.Int.Digits.{AllBelowBase}
use Rattle.std.specs.List.{range_with_len}
use Rattle.std.proofs.lemmas.List.{get_or-take, get_or-drop, length-take-le}
use Rattle.std.proofs.lemmas.List.FromFn.{fill_by_all}
use Rattle.steps.specs.Bytes.{eight_at}

-- a byte, or the 0 that is read behind the last
pub byte-at : (bs : List ℕ) → AllBelowBase 256 bs → (i : ℕ) → get_or bs i 0 < 256
byte-at [] u i = omega arith
byte-at (b ∷ bs) u zero = u.0
byte-at (b ∷ bs) u (suc i) = byte-at bs u.1 i

-- eight bytes of a list are the number that stands at their place
pub eight-there : (e : List ℕ) (i : ℕ) → i + 8 ≤ length e → from_be_bytes w64 (take 8 (drop i e)) ≡ eight_at e i
eight-there e i h =
    let bytes : take 8 (drop i e) ≡ map (λ k. get_or e (i + k) 0) (range_with_len 0 8) =
    fill_by_all (λ k. get_or e (i + k) 0) (take 8 (drop i e)) 8 0 (length-take-le 8 (drop i e) (omega (arith, length-drop i e))) (λ k l. get_or-take 8 (drop i e) k 0 l ∙ get_or-drop i e k 0) in
    let here : i + 0 ≡ i = omega arith in
    ap (from_be_bytes w64) bytes
    ∙ ap (λ j. from_be_bytes w64 (get_or e j 0 ∷ map (λ k. get_or e (i + k) 0) (range_with_len 1 7))) here
