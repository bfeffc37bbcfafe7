-- The numbers so far, and those of the words that are left.
use Rattle.std.proofs.Common.{◌≡◌, map, drop, vec_items}
use Rattle.text.specs.Fields.{behind}
use Rattle.text.specs.Words.{numbers_read}
use Rattle.text.proofs.words.numbers.Given as goal

abbrev pub invariant-loop-word : goal.invariant-loop-word
invariant-loop-word l =
    numbers_read (map (λ w. w.now) l.words) ≡ behind (vec_items l.numbers) (numbers_read (map (λ w. w.now) (drop l.word-index l.words)))
