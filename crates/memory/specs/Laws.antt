-- What holds of a memory of any make, whatever requests are made of it.
use Rattle.std.specs.Prelude.{◌≡◌, ℕ, suc, ◌<◌, Bool, true, false, ◌&&◌, List, length, drop, Decides, ◌==◌, slice_index_or}
use Rattle.std.specs.List.{AllByRecursion}
use Rattle.memory.specs.declared.request.Request.{Request}
use Rattle.memory.specs.declared.request.Request.TheVariants.{Size, Look, Lock, Put, Free}
use Rattle.memory.specs.declared.request.Response.{Response}
use Rattle.memory.specs.declared.request.Response.TheVariants.{Done}
use Rattle.memory.specs.declared.word.Word.{Word}
use Rattle.memory.specs.Requests.{responses, words_after_all}
use Rattle.memory.specs.Words.{at, holds, look_at, lockable}

-- the request is made of address a
abbrev pub names : ℕ → Request → Bool
names a Size = false
names a (Look b) = b == a
names a (Lock b v h) = b == a
names a (Put b v x) = b == a
names a (Free b h) = b == a

-- the request puts the word at a, or frees it for holder h
abbrev pub releases : ℕ → ℕ → Request → Bool
releases a h Size = false
releases a h (Look b) = false
releases a h (Lock b v g) = false
releases a h (Put b v x) = b == a
releases a h (Free b g) = b == a && g == h

-- The requests qs turned the words ws into ws', and rs are the responses.
pub record Laws (ws : List Word) (qs : List Request) (rs : List Response) (ws' : List Word) : Type 0 where
  -- a memory keeps its size
  pub fixed : length ws' ≡ length ws
  -- a word that is held stays as it is and refuses every lock, as long as it is neither put nor freed for its holder
  pub held : (a : ℕ) → 0 < (at ws a).holder → AllByRecursion (λ q. releases a (at ws a).holder q ≡ false) qs →
      (at ws' a ≡ at ws a) × ((k v h : ℕ) → slice_index_or qs k Size ≡ Lock a v h → slice_index_or rs k (Done true) ≡ Done false)
  -- a put or a free that is answered yes leaves the word lockable at its version and at no other, until a request is made of it again
  pub released : (k a h : ℕ) → releases a h (slice_index_or qs k Size) ≡ true → slice_index_or rs k (Done false) ≡ Done true → AllByRecursion (λ q. names a q ≡ false) (drop (suc k) qs) →
      (v g : ℕ) → lockable ws' a v g ≡ ((at ws' a).version == v && holds g)
  -- requests made of other addresses leave what an address shows
  pub apart : (a : ℕ) → AllByRecursion (λ q. names a q ≡ false) qs → look_at ws' a ≡ look_at ws a

-- The requests qs turned the words ws into ws' and the words vs into vs', and r says whether all responses were alike.
pub record Compared (ws vs : List Word) (qs : List Request) (r : Bool) (ws' vs' : List Word) : Type 0 where
  pub answer : Decides r (responses ws qs ≡ responses vs qs)
  pub one : ws' ≡ words_after_all ws qs
  pub other : vs' ≡ words_after_all vs qs
  -- two memories that mean the same words, as two new ones of one size do, answer alike and mean the same words afterwards
  pub same : ws ≡ vs → (r ≡ true) × (ws' ≡ vs')
