-- What reading a file and writing one have to do with each other.
use Rattle.std.specs.Prelude.{◌≡◌, ℕ, zero, suc, ◌<◌, List, [], ◌∷◌, ◌++◌, length, take, Some, None, Ok, Err, Option, Result}
use Rattle.std.specs.List.{AllByRecursion}
use Rattle.steps.specs.declared.fault.FrameFault.{FrameFault}
use Rattle.steps.specs.Frames.{Framed, Position, entry_at, passed}
use Rattle.steps.specs.Writing.{written}

-- the entry that one call of `next` hands out, if it hands out one
abbrev pub listed : Result (Option Framed) FrameFault → List (List ℕ)
listed (Ok (Some e)) = e.content ∷ []
listed (Ok None) = []
listed (Err f) = []

-- the entries that `n` calls of `next` hand out
unfoldable pub handed : ℕ → Position → List (List ℕ)
handed zero p = []
handed (suc n) p = listed (entry_at p) ++ handed n (passed p)

-- where the reader stands after `n` calls of `next`
unfoldable pub reached : ℕ → Position → Position
reached zero p = p
reached (suc n) p = reached n (passed p)

-- however often `next` is called: the entries handed out, written as a file, are the input up to the place reached
abbrev pub Lossless : List ℕ → Position → Type 0
Lossless bytes start = (n : ℕ) → written (handed n start) ≡ take (reached n start).place bytes

-- a reader hands out these entries, and then the file ends
pub record HandsOut (es : List (List ℕ)) (start : Position) : Type 0 where
  pub same : handed (length es) start ≡ es
  pub ends : entry_at (reached (length es) start) ≡ Ok None

-- any entries whose lengths fit two bytes, written as a file, are read back as they were
abbrev pub ReadsBack : List ℕ → Position → Type 0
ReadsBack bytes start =
    (es : List (List ℕ)) → AllByRecursion (λ e. length e < 65536) es → bytes ≡ written es → HandsOut es start
