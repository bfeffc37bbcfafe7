-- A change of one word by what is made of it.
use Rattle.std.specs.Prelude.{◌≡◌, ℕ, Bool, true, false, List, MatchOption, Option, slice_set}
use Rattle.std.specs.Bool.{MatchBool}
use Rattle.memory.specs.declared.word.Word.{Word}
use Rattle.memory.specs.Words.{at, there}

-- `makes` says what may be made of the word at a: nothing, which is a no, or its new content.
abbrev pub Changes : (Word → Option Word → Type 0) → List Word → ℕ → Bool → List Word → Type 0
Changes makes old a answer new =
    MatchBool (there old a)
    ((o : Option Word) × makes (at old a) o × MatchOption o ((answer ≡ false) × (new ≡ old)) (λ w. (answer ≡ true) × (new ≡ slice_set old a w)))
    ((answer ≡ false) × (new ≡ old))
