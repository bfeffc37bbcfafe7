-- An entry of a known kind, with just the fields of its kind, has their line.
use Rattle.std.proofs.Common.{◌≡◌, ◌-◌, length, get_or, take, drop, Some, Ok, vec_items, sym, ap, ◌∙◌}
use Rattle.std.specs.Option.{option_map}
use Rattle.std.specs.String.{string_bytes}
use Rattle.text.specs.Fields.{behind, widths, regions, numbers_in}
use Rattle.text.specs.Printing.{line, entry_line}
use Rattle.text.proofs.Listing.{kind-and-fields, entry_line-known}
use Rattle.text.proofs.print.add_entry.Goals as goal

pub returns : goal.returns
returns c =
    let e = c.args.content.now in
    let fields = take (length e - 1) (drop 1 e) in
    let kind = c.in-Ok.kind in
    let ns = vec_items c.in-Some.numbers in
    let numbers : numbers_in (widths kind (regions kind fields)) fields ≡ Some ns =
    sym c.in_ok-numbers.ensures ∙ ap (option_map vec_items) c.in-Some.is in
    let is : entry_line c.args.place e ≡ Ok (line kind ns) =
    entry_line-known c.args.place e (get_or e 0 0) fields kind ns (kind-and-fields e c.in-len1-up.len_at_least) c.in-Ok.ensures numbers in
    ap (behind (string_bytes c.args.out.now)) (is ∙ ap (λ xs. Ok (line kind xs)) (sym c.deref.ensures.value))
    ∙ ap (λ xs. Ok xs) (sym c.in_ok-add_step.ensures)
