-- The numbers so far, and those of the fields that are left.
use Rattle.std.proofs.Common.{◌≡◌, ◌++◌, drop, vec_items}
use Rattle.std.specs.Option.{option_map}
use Rattle.text.specs.Fields.{numbers_in}
use Rattle.text.proofs.fields.split_all.Given as goal

abbrev pub invariant-loop-width : goal.invariant-loop-width
invariant-loop-width l =
    numbers_in l.widths l.bytes ≡ option_map (λ ns. vec_items l.numbers ++ ns) (numbers_in (drop l.width-index l.widths) l.rest)
