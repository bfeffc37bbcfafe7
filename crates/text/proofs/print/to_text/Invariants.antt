-- The text so far, and the lines of the entries that are left.
use Rattle.std.proofs.Common.{◌≡◌, ◌-◌, length}
use Rattle.std.specs.String.{string_bytes}
use Rattle.steps.specs.Reading.{position}
use Rattle.text.specs.Fields.{behind}
use Rattle.text.specs.Printing.{text_of, lines_from}
use Rattle.text.proofs.print.to_text.Given as goal

abbrev pub invariant-loop-text : goal.invariant-loop-text
invariant-loop-text l = text_of l.bytes ≡ behind (string_bytes l.text) (lines_from (position l.reader))

abbrev pub decreases-loop-text : goal.decreases-loop-text
decreases-loop-text l = length (position l.reader).file - (position l.reader).place
