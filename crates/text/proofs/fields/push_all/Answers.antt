-- Where the fields or the numbers end, their bytes are all there.
use Rattle.std.proofs.Common.{◌≡◌, length, min, vec_items, ap, ◌∙◌}
use Rattle.std.proofs.lemmas.Slice.Zip.{zip_end}
use Rattle.text.specs.Fields.{behind}
use Rattle.text.proofs.Filling.{none_left, behind-nothing}
use Rattle.text.proofs.fields.push_all.Goals as goal

pub returns : goal.returns
returns c =
    let ws = c.args.widths.now in
    let ns = c.args.numbers.now in
    let n : length c.loop-width.yielded ≡ min (length ws) (length ns) = zip_end ws ns c.loop-width.yielded _ c.loop-width.width-iterator c.next.new.self _ (cc) (cc) c.loop-width.yielded_by c.in-None.is c.next.ensures.steps in
    c.loop-width.invariant ∙ ap (behind (vec_items c.loop-width.out)) (none_left ws ns (length c.loop-width.yielded) n) ∙ behind-nothing (vec_items c.loop-width.out)
