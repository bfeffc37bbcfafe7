-- A loop that fills a list.
use Rattle.std.proofs.Common.{◌≡◌, ℕ, ◌+◌, ◌^◌, ◌<◌, ◌≤◌, true, ltb, List, [], ◌∷◌, ◌++◌, length, get_or, drop, set, replicate, sym, ap, ◌∙◌, arith, length-append, length-drop}
use lib.ListN.{length-replicate}
use Rattle.std.proofs.lemmas.List.{append_assoc, set_at, drop_more, replicate_more}
use Rattle.std.proofs.lemmas.Bool.{lt-ltb, and_from, cond-true}
use Rattle.memory.specs.declared.word.Word.{Word}
use Rattle.memory.specs.Words.{word, put_to, puttable}

module _ {X : Type 0} (xs : List X) (v d : X) (i : ℕ) where
  abbrev pub part : List X
  part = replicate i v ++ drop i xs

  pub filled_more : i < length xs → set part i v ≡ replicate (i + 1) v ++ drop (i + 1) xs
  filled_more lt =
      ap (λ (ds : List X). set (replicate i v ++ ds) i v) (drop_more xs i d lt)
      ∙ set_at (replicate i v) (get_or xs i d) (drop (i + 1) xs) v i (length-replicate i v)
      ∙ sym (append_assoc (replicate i v) (v ∷ []) (drop (i + 1) xs))
      ∙ ap (λ (ds : List X). ds ++ drop (i + 1) xs) (replicate_more i v)

  part_length : i ≤ length xs → length part ≡ length xs
  part_length le = simp (length-append, length-replicate, length-drop) (omega arith)

-- a put at the next address
pub reset-more : (ws vs us : List Word) (v i : ℕ) → i < length ws → v < 2 ^ 60 → vs ≡ part ws (word v 0 0) (word 0 0 0) i → us ≡ put_to vs i v 0
    → us ≡ replicate (i + 1) (word v 0 0) ++ drop (i + 1) ws
reset-more ws vs us v i lt small was did =
    let now-part = part ws (word v 0 0) (word 0 0 0) i in
    let here : puttable now-part i v ≡ true = and_from (ltb i (length now-part)) (ltb v (2 ^ 60)) (lt-ltb i (length now-part) (omega (arith, part_length ws (word v 0 0) (word 0 0 0) i (omega arith)))) (lt-ltb v (2 ^ 60) small) in
    did ∙ ap (λ (xs : List Word). put_to xs i v 0) was ∙ cond-true (puttable now-part i v) (set now-part i (word v 0 0)) now-part here ∙ filled_more ws (word v 0 0) (word 0 0 0) i lt
