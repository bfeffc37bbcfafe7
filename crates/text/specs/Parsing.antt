-- Which step file a text stands for.
use Rattle.std.specs.Prelude.{ℕ, ◌+◌, cond, List, [], ◌∷◌, ◌++◌, length, Some, None, Ok, Err, Option, Result, nat_le, ◌==◌}
use Rattle.std.specs.List.{slice_split}
use Rattle.std.specs.Result.{result_map_both}
use Rattle.steps.specs.declared.kind.EntryKind.{EntryKind}
use Rattle.steps.specs.Kinds.{kind_named}
use Rattle.steps.specs.Writing.{with_length}
use Rattle.text.specs.declared.fault.LineFault.{LineFault}
use Rattle.text.specs.declared.fault.LineFault.TheVariants.{UnknownStep, FileTooLong}
use Rattle.text.specs.declared.fault.TextFault.{TextFault}
use Rattle.text.specs.Fields.{entry_of}
use Rattle.text.specs.Words.{and_then, numbers_read, words}

-- the entry of a step of this kind, whose numbers are in words
abbrev pub step_read : Option EntryKind → List (List ℕ) → Result (List ℕ) LineFault
step_read None ws = Err UnknownStep
step_read (Some kind) ws = and_then (numbers_read ws) (entry_of kind)

-- the entry of words: the first is the step's name; with no words there is no entry
abbrev pub entry_read : List (List ℕ) → Result (Option (List ℕ)) LineFault
entry_read [] = Ok None
entry_read (w ∷ ws) = result_map_both Some (λ e. e) (step_read (kind_named w) ws)

-- the entry of a line
abbrev pub line_read : List ℕ → Result (Option (List ℕ)) LineFault
line_read line = entry_read (words line)

-- a file with an entry more, if there is one and the file is not too long then
abbrev pub with_entry : List ℕ → Option (List ℕ) → Result (List ℕ) LineFault
with_entry file None = Ok file
with_entry file (Some e) = cond (nat_le (length (file ++ with_length e)) 65536) (Ok (file ++ with_length e)) (Err FileTooLong)

-- a file with the entry of a line more
abbrev pub with_line : List ℕ → List ℕ → Result (List ℕ) LineFault
with_line file line = and_then (line_read line) (with_entry file)

-- what follows from a line's answer; a fault gets the line's number
abbrev pub at_line : ℕ → Result (List ℕ) LineFault → (List ℕ → Result (List ℕ) TextFault) → Result (List ℕ) TextFault
at_line n (Ok file) next = next file
at_line n (Err e) next = Err (record { line = n; fault = e })

-- a file with the entries of lines more, up to the first fault; n is the number of the first line
abbrev pub with_lines : List ℕ → ℕ → List (List ℕ) → Result (List ℕ) TextFault
with_lines file n [] = Ok file
with_lines file n (line ∷ lines) = at_line n (with_line file line) (λ next. with_lines next (n + 1) lines)

-- the step file of lines: the version byte, and then their entries
abbrev pub lines_read : List (List ℕ) → Result (List ℕ) TextFault
lines_read lines = with_lines (1 ∷ []) 1 lines

-- the step file of a text
abbrev pub text_read : List ℕ → Result (List ℕ) TextFault
text_read text = lines_read (slice_split (λ b. b == 10) text)
