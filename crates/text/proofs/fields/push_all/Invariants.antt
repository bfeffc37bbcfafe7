-- The bytes so far, and those of the numbers that are left.
use Rattle.std.proofs.Common.{◌≡◌, length, drop, vec_items}
use Rattle.text.specs.Fields.{bytes_of, behind}
use Rattle.text.proofs.fields.push_all.Given as goal

abbrev pub invariant-loop-width : goal.invariant-loop-width
invariant-loop-width l =
    behind (vec_items l.initial.out) (bytes_of l.widths l.numbers)
    ≡ behind (vec_items l.out) (bytes_of (drop (length l.yielded) l.widths) (drop (length l.yielded) l.numbers))
