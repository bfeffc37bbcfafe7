-- An entry appended to a ring whose slots are a block of a table.
use Rattle.std.proofs.Common.{◌≡◌, ℕ, ◌+◌, ◌*◌, ◌≤◌, true, List, [], ◌∷◌, ◌++◌, length, take, drop, sym, ap, ◌∙◌, subst, arith, length-append, length-drop, length-take}
use borrow.Rule.Slice.PartMut.{put_mid}
use Rattle.std.proofs.lemmas.List.{take-append-drop, drop-drop}
use Rattle.std.proofs.lemmas.Slice.{take-put_mid_below, drop-put_mid}
use Rattle.ring.specs.declared.Ring.{Ring}
use Rattle.ring.specs.Contents.{contents, room, with_one_more}
use Rattle.ring.specs.Rings.{block}
use Rattle.ring.proofs.Rings.{block_same, length-block}
use Rattle.directory.specs.Slots.{Appended}

-- the part of n slots from the start of block a on, with a and n as the code counts them
pub block_cut : {X : Type 0} (table : List X) (k n a b : ℕ) → n ≡ k → a ≡ b → take n (drop (a * k) table) ≡ block k b table
unfolding block
block_cut table k n a b e is = ap (λ (z : ℕ). take n (drop (z * k) table)) is ∙ ap (λ (z : ℕ). take z (drop (b * k) table)) e

module _ {X : Type 0} (k b : ℕ) (was : Ring) (table : List X) (within : b * k + k ≤ length table) where
  -- the part of n slots from there on, with n as the code's bounds have it
  module _ (n : ℕ) (is : n ≡ k) where
    part-long : length (take n (drop (b * k) table)) ≡ k
    part-long = simp (length-take, length-drop) (omega arith)

    pub part_room : room was k ≡ true → room was (length (take n (drop (b * k) table))) ≡ true
    part_room free = ap (room was) part-long ∙ free

  module _ (after : Ring) (slots : List X) (entry : X) (ring : after ≡ with_one_more was) where
    at_block : length slots ≡ k → contents after slots ≡ contents was (block k b table) ++ entry ∷ [] → Appended k b was after table (put_mid (b * k) k table slots) entry
    at_block long holds = record {
      ring = ring;
      holds = ap (contents after) (block_same table slots k b within long) ∙ holds;
      before = take-put_mid_below (b * k) k table slots (b * k) (omega arith) (omega arith);
      behind = drop-put_mid (b * k) k table slots (b * k + k) (omega arith) (omega arith) long;
      long = simp (length-append, length-take, length-drop) (omega arith);
    }

    pub appended : (n : ℕ) → n ≡ k → length slots ≡ length (take n (drop (b * k) table)) → contents after slots ≡ contents was (take n (drop (b * k) table)) ++ entry ∷ []
        → Appended k b was after table (put_mid (b * k) n table slots) entry
    unfolding block
    appended n is long holds =
        subst (λ (j : ℕ). Appended k b was after table (put_mid (b * k) j table slots) entry) (sym is)
        (at_block (long ∙ part-long n is) (holds ∙ ap (λ (j : ℕ). contents was (take j (drop (b * k) table)) ++ entry ∷ []) is))

module _ {X : Type 0} (k b : ℕ) (was after : Ring) (table table' : List X) (entry : X) (a : Appended k b was after table table' entry) where
  -- the table is as it was but for that block
  pub put_back : table' ≡ put_mid (b * k) k table (block k b table')
  unfolding block
  put_back =
      let start = b * k in
      sym (take-append-drop start table')
      ∙ ap (λ (xs : List X). xs ++ drop start table') a.before
      ∙ ap (λ (xs : List X). take start table ++ xs)
      (sym (take-append-drop k (drop start table'))
      ∙ ap (λ (xs : List X). take k (drop start table') ++ xs) (drop-drop k start table' ∙ a.behind ∙ sym (drop-drop k start table)))

  pub long-block : b * k + k ≤ length table → length (block k b table') ≡ k
  long-block l = length-block table' k b (omega (arith, a.long))
