-- A ring serves an append and a drop as a queue of its size does, and one after the other.
use Rattle.std.proofs.Common.{◌≡◌, ℕ, ◌+◌, ◌<◌, Bool, true, cond, ltb, leb, List, [], ◌∷◌, length, fold, sym, refl, ap, ◌∙◌, subst, arith}
use Rattle.std.specs.List.{slice_get}
use Rattle.std.proofs.lemmas.Bool.{and_parts}
use Rattle.std.proofs.lemmas.Bool.Decides.{nat_tests}
use Rattle.ring.specs.declared.Ring.{Ring}
use Rattle.ring.specs.declared.replay.Operation.{Operation}
use Rattle.ring.specs.declared.replay.Operation.TheVariants.{Append, DropFront}
use Rattle.ring.specs.Contents.{empty_ring, contents, Sound, room, holds_n}
use Rattle.ring.specs.Queue.{after, queued, takes, takes_all, Queue, queue, served, served_all, Plain}
use Rattle.ring.proofs.Rotated.{length-contents}
use Rattle.ring.proofs.Peeking.{peeked-standing}

module _ {X : Type 0} (r : Ring) (s : List X) (o : Operation X) (done : Bool) where
  pub append-answers : (e : X) → o ≡ Append e → done ≡ room r (length s) → Sound r (length s) → done ≡ takes (length s) (contents r s) o
  append-answers e is told stands =
      let long = length-contents r s stands.head stands.len in
      let same : room r (length s) ≡ ltb (length (contents r s)) (length s) = grind (arith, nat_tests) in told ∙ (same ∙ ap (takes (length s) (contents r s)) (sym is))

  pub drop-answers : (n : ℕ) → o ≡ DropFront n → done ≡ holds_n r (length s) n → Sound r (length s) → done ≡ takes (length s) (contents r s) o
  drop-answers n is told stands =
      let long = length-contents r s stands.head stands.len in
      let same : holds_n r (length s) n ≡ leb n (length (contents r s)) = grind (arith, nat_tests) in told ∙ (same ∙ ap (takes (length s) (contents r s)) (sym is))

-- a ring that starts with no entry
pub starts_sound : (r : Ring) (size : ℕ) → r ≡ empty_ring → 0 < size → Sound r size
starts_sound r size e l = subst (λ q. Sound q size) (sym e) (record { head = l; len = omega arith; cursor = omega arith })

module _ {X : Type 0} (size : ℕ) where
  served-plain : (q : List X) (n : ℕ) (os : List (Operation X)) → takes_all size q os ≡ true → fold (served size) (queue q n) os ≡ queue (fold after q os) n
  served-plain q n [] ok = refl
  served-plain q n (o ∷ os) ok =
      let parts = and_parts (takes size q o) (takes_all size (after q o) os) ok in
      ap (λ (t : Bool). fold (served size) (cond t (queue (after q o) n) (queue q (n + 1))) os) parts.0 ∙ served-plain (after q o) n os parts.1

  pub shows-plain : (os : List (Operation X)) (r : Ring) (s : List X) (n : ℕ) → Sound r (length s) → queue (contents r s) n ≡ served_all size os → takes_all size [] os ≡ true → Plain os r s n
  shows-plain os r s n stands is ok =
      let all : queue (contents r s) n ≡ queue (queued os) 0 = is ∙ served-plain [] 0 os ok in
      record {
        none_refused = ap (λ (q : Queue X). q.refused) all;
        peeks = λ i. peeked-standing r s i stands ∙ ap (λ (q : Queue X). slice_get q.entries i) all;
      }
