-- The words of what stands before the comment.
use Rattle.std.proofs.Common.{◌≡◌, List, ℕ, map, IfOk, vec_items, ap, subst}
use Rattle.std.proofs.lemmas.Iterator.Consumers.{map_from_collect}
use Rattle.text.specs.Words.{parts}
use Rattle.text.proofs.Splitting.{parts-yielded}
use Rattle.text.proofs.words.words.Goals as goal

pub returns : goal.returns
returns c =
    subst (λ (ws : List (List ℕ)). IfOk c.collect.result (λ v. map (λ w. w.now) (vec_items v) ≡ ws))
    (ap parts c.uncommented.ensures)
    (map_from_collect c.collect.result c.collect.ensures.ran (parts-yielded c.uncommented.result.now c.split_ascii_whitespace.ensures.text))
