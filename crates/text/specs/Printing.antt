-- Which text a step file has.
use Rattle.std.specs.Prelude.{ℕ, zero, suc, ◌-◌, List, [], ◌∷◌, ◌++◌, length, Some, None, Ok, Err, Option, Result, codes, decimal}
use Rattle.std.specs.List.{flat_map, slice_get}
use Rattle.steps.specs.declared.fault.EntryFault.{EntryFault}
use Rattle.steps.specs.declared.fault.EntryFault.TheVariants.{Frame, UnknownKind, WrongLength}
use Rattle.steps.specs.declared.fault.FrameFault.{FrameFault}
use Rattle.steps.specs.declared.kind.EntryKind.{EntryKind}
use Rattle.steps.specs.Frames.{Framed, Position, opened, entry_at, passed}
use Rattle.steps.specs.Kinds.{kind_name, kinds}
use Rattle.text.specs.Fields.{behind, numbers_in, regions, widths}

-- a number behind a blank
abbrev pub spaced : ℕ → List ℕ
spaced n = codes " " ++ decimal n

-- the line of a step: its name and its numbers
abbrev pub line : EntryKind → List ℕ → List ℕ
line kind ns = kind_name kind ++ (flat_map spaced ns ++ codes "\n")

-- the line of an entry of a kind, if its bytes are just the fields of the kind
abbrev pub numbers_line : ℕ → EntryKind → Option (List ℕ) → Result (List ℕ) EntryFault
numbers_line place kind None = Err (WrongLength place)
numbers_line place kind (Some ns) = Ok (line kind ns)

-- the line of an entry whose kind byte is that of a kind, if one has it
abbrev pub kind_line : ℕ → Option EntryKind → List ℕ → Result (List ℕ) EntryFault
kind_line place None fields = Err (UnknownKind place)
kind_line place (Some kind) fields = numbers_line place kind (numbers_in (widths kind (regions kind fields)) fields)

-- the line of the entry at a place; one with no kind byte has a wrong length
abbrev pub entry_line : ℕ → List ℕ → Result (List ℕ) EntryFault
entry_line place [] = Err (WrongLength place)
entry_line place (k ∷ fields) = kind_line place (slice_get kinds k) fields

-- a line and then the others; behind a fault is nothing
abbrev pub and_lines : Result (List ℕ) EntryFault → Result (List ℕ) EntryFault → Result (List ℕ) EntryFault
and_lines (Err f) others = Err f
and_lines (Ok l) others = behind l others

-- the line of what the reader says, and then the others; at the end of the file is none
abbrev pub and_others : Result (Option Framed) FrameFault → Result (List ℕ) EntryFault → Result (List ℕ) EntryFault
and_others (Err f) others = Err (Frame f)
and_others (Ok None) others = Ok []
and_others (Ok (Some e)) others = and_lines (entry_line e.place e.content) others

-- the lines of the entries that `n` reads from a position on hand out, up to the end or a fault
unfoldable pub lines_within : ℕ → Position → Result (List ℕ) EntryFault
lines_within zero p = Ok []
lines_within (suc n) p = and_others (entry_at p) (lines_within n (passed p))

-- the lines of all entries from a position on: each has a byte at least
abbrev pub lines_from : Position → Result (List ℕ) EntryFault
lines_from p = lines_within (length p.file - p.place) p

-- the text of a file that was opened
abbrev pub opened_text : Result Position FrameFault → Result (List ℕ) EntryFault
opened_text (Err f) = Err (Frame f)
opened_text (Ok start) = lines_from start

-- the text of a step file
abbrev pub text_of : List ℕ → Result (List ℕ) EntryFault
text_of bytes = opened_text (opened bytes)
