-- The reads behind those passed are numbered on from them, and the next that is not written is found.
use Rattle.std.proofs.Common.{◌≡◌, ◌+◌, ◌-◌, ◌≤◌, length, drop, sym, ap, ◌∙◌, rules, arith}
use borrow.Author.Tests.{tests}
use Rattle.std.proofs.lemmas.Iterator.{YieldsList-from_slice}
use Rattle.std.proofs.lemmas.Iterator.Adapters.{option_map_id}
use Rattle.std.proofs.lemmas.Iterator.Consumers.{YieldsList-from_copied, YieldsList-at}
use Rattle.std.proofs.lemmas.Iterator.Search.{find_from_yields_List}
use Rattle.std.proofs.lemmas.List.{take_all, length-drop}
use Rattle.directory.specs.View.{reads_of, writes_of}
use Rattle.directory.proofs.Unwritten.{YieldsList-from_counted, numbered, next-found}
use Rattle.directory.proofs.tables.Work.next_unwritten.Goals as goal

pub returns : goal.returns
returns c =
    let t = c.args.self.now in
    let n = c.args.passed in
    let xs = c.as_slice.result.now in
    let part = c.in_ok-left.ensures.lookup.0 in
    let length-left : length (drop n xs) ≤ length xs - n = omega (arith, length-drop n xs) in
    let left : c.in_ok-left.left.now ≡ drop n (reads_of t) = part.2 ∙ take_all (length xs - n) (drop n xs) length-left ∙ ap (drop n) c.as_slice.ensures.lines in
    let reads = YieldsList-from_copied (YieldsList-at c.copied.ensures.source (YieldsList-from_slice (drop n (reads_of t)) (c.iter.ensures.rest ∙ left))) in
    let few : n + 1 + length (drop n (reads_of t)) ≤ 255 = omega (arith, ap length left, part.0, part.1, part.3, c.as_slice.ensures.few) in
    let counted = YieldsList-from_counted (n + 1) (ap (λ r. r.start) c.zip.ensures.first) few (YieldsList-at c.zip.ensures.second reads) in
    next-found t n c.find.result
    (sym (option_map_id c.find.result) ∙ find_from_yields_List (numbered (writes_of t)) c.find.new.self _ c.find.result c.find.ensures.ran counted (λ x b q k. search (rules, tests)))
