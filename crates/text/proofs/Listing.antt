-- The line of an entry.
use Rattle.std.proofs.Common.{◌≡◌, ℕ, ◌-◌, ◌≤◌, List, [], ◌∷◌, length, get_or, take, drop, Some, Ok, sym, refl, ap, ◌∙◌, arith}
use Rattle.std.specs.List.{slice_get}
use Rattle.std.proofs.lemmas.List.{take_all}
use Rattle.steps.specs.declared.kind.EntryKind.{EntryKind}
use Rattle.steps.specs.declared.kind.EntryKind.TheVariants.{SetUp, Open, Read, Write, Abandon, Commit, Send, Poll, Take, Check, Trim}
use Rattle.steps.specs.Kinds.{kind_number, kinds}
use Rattle.text.specs.Fields.{numbers_in, regions, widths}
use Rattle.text.specs.Printing.{line, numbers_line, kind_line, entry_line}

numbered : (kind : EntryKind) → slice_get kinds (kind_number kind) ≡ Some kind
numbered SetUp = refl
numbered Open = refl
numbered Read = refl
numbered Write = refl
numbered Abandon = refl
numbered Commit = refl
numbered Send = refl
numbered Poll = refl
numbered Take = refl
numbered Check = refl
numbered Trim = refl

-- an entry that is not empty has a kind byte and fields
pub kind-and-fields : (e : List ℕ) → 1 ≤ length e → e ≡ get_or e 0 0 ∷ take (length e - 1) (drop 1 e)
kind-and-fields [] h = absurd (omega arith)
kind-and-fields (k ∷ fields) h = ap (λ xs. k ∷ xs) (sym (take_all (length (k ∷ fields) - 1) fields (omega arith)))

pub entry_line-known : (place : ℕ) (e : List ℕ) (k : ℕ) (fields : List ℕ) (kind : EntryKind) (ns : List ℕ)
    → e ≡ k ∷ fields → kind_number kind ≡ k → numbers_in (widths kind (regions kind fields)) fields ≡ Some ns → entry_line place e ≡ Ok (line kind ns)
entry_line-known place e k fields kind ns parts known numbers =
    ap (entry_line place) parts
    ∙ ap (λ n. kind_line place (slice_get kinds n) fields) (sym known)
    ∙ ap (λ o. kind_line place o fields) (numbered kind)
    ∙ ap (numbers_line place kind) numbers
