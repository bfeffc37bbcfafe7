-- A log goes on past its next record, and a queue takes a reply.
use Rattle.std.proofs.Common.{◌≡◌, ℕ, ◌+◌, ◌<◌, Bool, true, cond, ltb, List, [], ◌∷◌, ◌++◌, map, reverse, length, take, drop, Some, sym, refl, ap, ◌∙◌, arith}
use Rattle.std.proofs.lemmas.List.{drop-map, length-drop}
use Rattle.std.proofs.lemmas.Bool.{and_from, lt-ltb, le-leb, cond-true}
use Rattle.ring.specs.declared.Ring.{Ring}
use Rattle.ring.specs.Contents.{contents, Sound, room, holds_n, with_one_polled, without_front}
use Rattle.protocol.specs.declared.record.Record.{Record}
use Rattle.protocol.specs.declared.record.Reply.{Reply}
use Rattle.protocol.specs.declared.record.Kind.{Kind}
use Rattle.protocol.specs.declared.record.Kind.TheVariants.{Lock, CommitBackup, CommitPrimary, Abort, Truncate}
use Rattle.protocol.specs.Record.{Note, note, Log}
use Rattle.protocol.specs.Poll.{reply}
use Rattle.handling.specs.Notes.{notes, polled, NextIs}
use Rattle.handling.proofs.Newest.{turned_more}
use Rattle.handling.proofs.Peeks.{length-notes}
use Rattle.directory.specs.View.{log_of}
use Rattle.directory.specs.Polls.{passed_log, replied}

stays-in-log : (before : List Note) (r : Note) (rest : List Note) (k : Kind) → (k ≡ Truncate → ⊥) → record { polled = r ∷ before; waiting = rest } ≡ passed_log before r rest k
stays-in-log before r rest Lock n = refl
stays-in-log before r rest CommitBackup n = refl
stays-in-log before r rest CommitPrimary n = refl
stays-in-log before r rest Abort n = refl
stays-in-log before r rest Truncate n = absurd (n refl)

module _ (r : Ring) (slots : List Record) (k : Kind) (stands : Sound r (length slots)) (x : Record) (here : NextIs (notes r slots) r.cursor (Some x)) where
  abbrev rest : List Note
  rest = drop (r.cursor + 1) (notes r slots)

  abbrev Passes : Ring → Type 0
  Passes r' = log_of r' slots ≡ passed_log (polled r slots) (note x) rest k

  -- there is a record to pass
  pub more : r.cursor < r.len
  more = omega (arith, length-drop r.cursor (notes r slots), ap length here, length-notes r slots stands)

  pub advanced : (k ≡ Truncate → ⊥) → (r' : Ring) (did : Bool) → did ≡ ltb r.cursor r.len → r' ≡ cond did (with_one_polled r) r → Passes r'
  unfolding contents
  advanced n r' did answers is =
      let sure : r' ≡ with_one_polled r = is ∙ cond-true did _ _ (answers ∙ lt-ltb _ _ more) in
      ap (λ t. log_of t slots) sure
      ∙ ap (λ (ns : List Note). record { polled = ns; waiting = rest }) (turned_more (notes r slots) r.cursor (note x) _ here)
      ∙ stays-in-log (polled r slots) (note x) rest k n

  -- what `drop_front` ensures of cursor + 1 entries
  pub dropped : k ≡ Truncate → (n : ℕ) → n ≡ r.cursor + 1 → (r' : Ring) (did : Bool) → did ≡ holds_n r (length slots) n → r' ≡ cond did (without_front r (length slots) n) r
      → (did ≡ true → contents r' slots ≡ drop n (contents r slots)) → Passes r'
  dropped t n e r' did answers is holds =
      let sure : did ≡ true = answers ∙ and_from _ _ (lt-ltb _ _ stands.head) (and_from _ _ (le-leb _ _ stands.len) (le-leb _ _ (omega (arith, more)))) in
      let ring-is : r' ≡ without_front r (length slots) n = is ∙ cond-true did _ _ sure in
      let zero-cursor : r'.cursor ≡ 0 = ap (λ (q : Ring). q.cursor) ring-is ∙ omega arith in
      let left : notes r' slots ≡ rest = ap (map note) (holds sure) ∙ sym (drop-map note n (contents r slots)) ∙ ap (λ (i : ℕ). drop i (notes r slots)) e in
      let at : ℕ → List Note → Log = λ i ns. record { polled = reverse (take i ns); waiting = drop i ns } in
      ap (λ i. at i (notes r' slots)) zero-cursor ∙ ap (at 0) left ∙ ap (passed_log (polled r slots) (note x) rest) (sym t)

-- the queue takes a reply
pub appended : (q : Ring) (ys : List Reply) (n : ℕ) (granted : Bool) (q' : Ring) (ys' : List Reply) (did : Bool) → did ≡ room q (length ys)
    → (did ≡ true → contents q' ys' ≡ contents q ys ++ reply n granted ∷ []) → Sound q (length ys) → q.len < length ys → contents q' ys' ≡ replied (contents q ys) n (Some granted)
appended q ys n granted q' ys' did answers holds s l = holds (answers ∙ and_from _ _ (lt-ltb _ _ s.head) (lt-ltb _ _ l))
