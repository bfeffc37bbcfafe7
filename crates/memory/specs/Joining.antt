-- What the laws of two memories joined cite: how many words there are, which word stands at an address, and that each is proper.
use Rattle.std.specs.Prelude.{◌≡◌, ℕ, ◌+◌, ◌-◌, ◌<◌, ◌≤◌, min, List, ◌++◌, length}
use Rattle.std.proofs.Math.Path.{refl}
use Rattle.std.proofs.Common.{◌∙◌, inl, inr, arith, lit<, length-take}
use Rattle.std.proofs.Math.ListN.{length-append}
use Rattle.std.proofs.lemmas.List.{get_or-take, get_or_append_left, get_or-append_right, get_or_past}
use Rattle.std.proofs.lemmas.Bool.{cases_lt}
use Rattle.memory.specs.declared.word.Word.{Word}
use Rattle.memory.specs.Words.{blank, at, joined, Proper}

module _ (xs ys : List Word) where
  pub joined_length : length (joined xs ys) ≡ min 65536 (length xs + length ys)
  unfolding joined
  joined_length = simp (length-take, length-append)

  pub joined_sized : 1 ≤ length xs → (1 ≤ length (joined xs ys)) × (length (joined xs ys) ≤ 65536)
  joined_sized some = let long = joined_length in (omega arith, omega arith)

  module _ (a : ℕ) where
    pub at-joined_first : length xs ≤ 65536 → a < length xs → at (joined xs ys) a ≡ at xs a
    unfolding joined
    at-joined_first few within = get_or-take 65536 (xs ++ ys) a blank (omega arith) ∙ get_or_append_left xs ys blank a within

    pub at-joined_second : length xs ≤ a → a < 65536 → at (joined xs ys) a ≡ at ys (a - length xs)
    unfolding joined
    at-joined_second past below = get_or-take 65536 (xs ++ ys) a blank below ∙ get_or-append_right xs ys (length xs) a blank refl past

  -- the law of the whole from those of the parts
  pub joined-proper : length xs ≤ 65536 → ((k : ℕ) → Proper (at xs k)) → ((k : ℕ) → Proper (at ys k)) → (k : ℕ) → Proper (at (joined xs ys) k)
  joined-proper few firsts seconds k =
      elim (cases_lt k (length xs)) [
        | inl within ↦ rw (at-joined_first k few within) (firsts k)
        | inr past ↦ elim (cases_lt k 65536) [
          | inl below ↦ rw (at-joined_second k past below) (seconds (k - length xs))
          | inr above ↦ rw (get_or_past (joined xs ys) k blank (rw joined_length (omega arith))) (lit< tt, lit< tt)
        ]
      ]
