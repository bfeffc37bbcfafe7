-- The first entries are in the slots from the front to the end of the slice, and in those that go on at its start.
use Rattle.std.proofs.Common.{◌≡◌, ℕ, ◌+◌, ◌-◌, ◌<◌, ◌≤◌, min, true, List, [], ◌++◌, length, take, drop, sym, ap, ◌∙◌, ⊎_elim, arith}
use Rattle.std.proofs.lemmas.List.{take-append-le, take-take, take_min, take_all, append-nil}
use Rattle.std.proofs.Math.Seq.{take-append-add}
use Rattle.std.proofs.lemmas.Bool.{cases_lt, cond-true}
use Rattle.std.proofs.lemmas.Bool.Decides.{nat_tests}
use Rattle.ring.specs.declared.Ring.{Ring}
use Rattle.ring.specs.Contents.{contents, rotated, Sound, fits, first_entries}
use Rattle.ring.proofs.Rotated.{length-contents}
use Rattle.ring.proofs.Peeking.{fits-standing}

-- the first n of two lists: k of the one, and of the other what is then wanted
take_parts : {X : Type 0} (xs ys : List X) (n k : ℕ) → k ≡ min (length xs) n → take k xs ++ take (n - k) ys ≡ take n (xs ++ ys)
take_parts xs ys n k e = ⊎_elim
    (λ l. let all : k ≡ n = omega (arith, e) in let none : n - k ≡ 0 = omega (arith, e) in
    ap (λ i. take i xs ++ take (n - k) ys) all ∙ ap (λ i. take n xs ++ take i ys) none ∙ append-nil (take n xs) ∙ sym (take-append-le n xs ys (omega arith)))
    (λ l. let all : k ≡ length xs = omega (arith, e) in let more : length xs + (n - k) ≡ n = omega (arith, e) in
    ap (λ zs. zs ++ take (n - k) ys) (take_all k xs (omega arith)) ∙ sym (take-append-add xs ys (n - k)) ∙ ap (λ i. take i (xs ++ ys)) more)
    (cases_lt n (length xs))

module _ {X : Type 0} (r : Ring) (s : List X) where
  first-parts : r.head < length s → r.len ≤ length s → (m n k : ℕ) → n ≡ min m r.len → k ≡ min (length (drop r.head s)) n
      → take k (drop r.head s) ++ take (n - k) (take r.head s) ≡ take m (contents r s)
  unfolding contents
  first-parts h l m n k e w =
      take_parts (drop r.head s) (take r.head s) n k w
      ∙ sym (take-take n r.len (rotated r.head s) (omega (arith, e)))
      ∙ ap (λ i. take i (contents r s)) (e ∙ ap (min m) (sym (length-contents r s h l)))
      ∙ take_min m (contents r s)

  pub first_is : (before behind : List X) (m n k : ℕ) → before ≡ take r.head s → behind ≡ drop r.head s → n ≡ min m r.len → k ≡ min (length behind) n → fits r (length s) ≡ true
      → take k behind ++ take (n - k) before ≡ first_entries r s m
  first_is before behind m n k front back e w ok =
      let head : r.head < length s = grind (arith, nat_tests) in
      let len : r.len ≤ length s = grind (arith, nat_tests) in
      let parts = first-parts head len m n k e (w ∙ ap (λ zs. min (length zs) n) back) in
      let here : take k behind ++ take (n - k) before ≡ take m (contents r s) = cc in here ∙ sym (cond-true (fits r (length s)) (take m (contents r s)) [] ok)

  pub first-standing : (m : ℕ) → Sound r (length s) → first_entries r s m ≡ take m (contents r s)
  first-standing m stands = cond-true (fits r (length s)) (take m (contents r s)) [] (fits-standing r (length s) stands)

  pub all_standing : Sound r (length s) → first_entries r s r.len ≡ contents r s
  all_standing stands = first-standing r.len stands ∙ take_all r.len (contents r s) (omega (arith, length-contents r s stands.head stands.len))
