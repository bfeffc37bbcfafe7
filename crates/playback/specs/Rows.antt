-- An answer as it is printed.
use Rattle.std.specs.Prelude.{◌≡◌, ℕ, List, [], ◌∷◌, ◌++◌, codes, decimal, Result}
use Rattle.protocol.specs.declared.call.Answer.{Answer}
use Rattle.protocol.specs.declared.call.Refusal.{Refusal}
use Rattle.protocol.specs.Call.{numbers}
use Rattle.playback.specs.declared.row.Row.{Row}

-- the four numbers of a row
abbrev pub row_numbers : Row → List ℕ
row_numbers r = r.refusal ∷ r.first ∷ r.second ∷ r.outcome ∷ []

-- a row has the four numbers of an answer
abbrev pub Shows : Result Answer Refusal → Row → Type 0
Shows answer row = row_numbers row ≡ numbers answer

-- numbers as they are printed, with a space between two
abbrev pub spaced : List ℕ → List ℕ
spaced [] = []
spaced (n ∷ []) = decimal n
spaced (n ∷ m ∷ ns) = decimal n ++ (codes " " ++ spaced (m ∷ ns))

-- the four numbers as they are printed
abbrev pub text : Row → List ℕ
text r = spaced (row_numbers r)
