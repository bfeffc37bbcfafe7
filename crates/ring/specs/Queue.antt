-- A plain queue: a list of entries from the front on. It grows at its end and shrinks at its front.
use Rattle.std.specs.Prelude.{◌≡◌, ℕ, ◌+◌, Bool, true, cond, ◌&&◌, List, [], ◌∷◌, ◌++◌, length, drop, fold, nat_le, nat_lt}
use Rattle.std.specs.List.{slice_get}
use Rattle.ring.specs.declared.Ring.{Ring}
use Rattle.ring.specs.declared.replay.Operation.{Operation}
use Rattle.ring.specs.declared.replay.Operation.TheVariants.{Append, DropFront}
use Rattle.ring.specs.Contents.{peeked}

module _ {X : Type 0} where
  -- the entries after one operation
  abbrev pub after : List X → Operation X → List X
  after q (Append x) = q ++ x ∷ []
  after q (DropFront n) = drop n q

  -- the entries after all of them, on a queue that was empty
  abbrev pub queued : List (Operation X) → List X
  queued os = fold after [] os

  -- an append finds fewer than `size` entries, and a drop of n finds n
  abbrev pub takes : ℕ → List X → Operation X → Bool
  takes size q (Append x) = nat_lt (length q) size
  takes size q (DropFront n) = nat_le n (length q)

  -- a queue that starts with the entries q is never over its size, and always has what is dropped
  abbrev pub takes_all : ℕ → List X → List (Operation X) → Bool
  takes_all size q [] = true
  takes_all size q (o ∷ os) = takes size q o && takes_all size (after q o) os

-- the entries of a queue, and how many operations it refused
pub record Queue (X : Type 0) : Type 0 where
  pub entries : List X
  pub refused : ℕ

abbrev pub queue : {X : Type 0} → List X → ℕ → Queue X
queue q n = record { entries = q; refused = n }

-- a queue of at most `size` entries refuses what it cannot take, and then stays as it was
abbrev pub served : {X : Type 0} → ℕ → Queue X → Operation X → Queue X
served size q o = cond (takes size q.entries o) (queue (after q.entries o) q.refused) (queue q.entries (q.refused + 1))

abbrev pub served_all : {X : Type 0} → ℕ → List (Operation X) → Queue X
served_all size os = fold (served size) (queue [] 0) os

-- no operation was refused, and a peek at any place shows what a plain queue has there
pub record Plain {X : Type 0} (os : List (Operation X)) (r : Ring) (slots : List X) (refused : ℕ) : Type 0 where
  pub none_refused : refused ≡ 0
  pub peeks : (i : ℕ) → peeked r slots i ≡ slice_get (queued os) i
