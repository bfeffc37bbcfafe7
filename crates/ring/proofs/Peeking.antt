-- What stands in the slot that a peek goes to, and when there is none.
use Rattle.std.proofs.Common.{◌≡◌, ℕ, ◌+◌, ◌<◌, ◌≤◌, true, false, cond, List, length, get_or, Some, None, Option, sym, ◌∙◌, ⊎_elim, arith}
use Rattle.std.specs.List.{slice_get}
use Rattle.std.proofs.lemmas.Option.{cond_some, none-some}
use Rattle.std.proofs.lemmas.Bool.{cases_Bool, cond-true, cond-false}
use Rattle.std.proofs.lemmas.Bool.Decides.{nat_tests}
use Rattle.ring.specs.declared.Ring.{Ring}
use Rattle.ring.specs.Contents.{contents, slot, Sound, fits, holds_n, peeked}
use Rattle.ring.proofs.Rotated.{contents-nth, contents-past}

pub fits-standing : (r : Ring) (size : ℕ) → Sound r size → fits r size ≡ true
fits-standing r size stands = grind (arith, nat_tests, stands.head, stands.len)

module _ {X : Type 0} (r : Ring) (s : List X) (i : ℕ) where
  fitting : fits r (length s) ≡ true → peeked r s i ≡ slice_get (contents r s) i
  fitting ok = cond-true (fits r (length s)) (slice_get (contents r s) i) None ok

  pub peeked-standing : Sound r (length s) → peeked r s i ≡ slice_get (contents r s) i
  peeked-standing stands = fitting (fits-standing r (length s) stands)

  abbrev SlotOf : Option ℕ → Type 0
  SlotOf o = o ≡ cond (holds_n r (length s) (i + 1)) (Some (slot r.head i (length s))) None

  -- a slot that was found has the entry
  pub peeked-some : (q : ℕ) (x : X) → SlotOf (Some q) → x ≡ get_or s q x → Some x ≡ peeked r s i
  peeked-some q x e w =
      let told = cond_some (holds_n r (length s) (i + 1)) (slot r.head i (length s)) q (sym e) in
      let some = told.0 in
      let head : r.head < length s = grind (arith, nat_tests) in
      let len : r.len ≤ length s = grind (arith, nat_tests) in
      let more : i < r.len = grind (arith, nat_tests) in
      let ok : fits r (length s) ≡ true = grind (arith, nat_tests) in
      contents-nth r s head len i q x more (sym told.1) w ∙ sym (fitting ok)

  pub peeked-none : SlotOf None → None ≡ peeked r s i
  peeked-none e = ⊎_elim
      (λ ok.
      let few : holds_n r (length s) (i + 1) ≡ false = ⊎_elim (λ some. absurd (none-some _ (e ∙ cond-true _ _ None some))) (λ few. few) (cases_Bool (holds_n r (length s) (i + 1))) in
      let head : r.head < length s = grind (arith, nat_tests) in
      let len : r.len ≤ length s = grind (arith, nat_tests) in
      let past : r.len ≤ i = grind (arith, nat_tests) in
      contents-past r s head len i past ∙ sym (fitting ok))
      (λ misfit. sym (cond-false (fits r (length s)) (slice_get (contents r s) i) None misfit))
      (cases_Bool (fits r (length s)))
