-- The polled records are gone through from the newest.
use Rattle.std.proofs.Common.{◌≡◌, map, take, sym, ap, ◌∙◌, rules}
use borrow.Author.Tests.{tests}
use Rattle.std.proofs.lemmas.List.{take-map}
use Rattle.std.proofs.lemmas.Iterator.Search.{find_from_yields_List}
use Rattle.ring.specs.Contents.{contents}
use Rattle.ring.specs.Left.{left}
use Rattle.ring.proofs.Going.{YieldsList-from_rev_entries}
use Rattle.protocol.specs.Record.{note}
use Rattle.protocol.specs.Poll.{is_lock_of}
use Rattle.handling.specs.Notes.{notes, noted}
use Rattle.handling.proofs.Finding.{seen_copied}
use Rattle.handling.proofs.logs.Log.find_lock.Goals as goal

pub returns : goal.returns
returns c = λ s.
    let all : map note (left c.polled.result) ≡ take c.args.self.now.ring.now.cursor (notes c.args.self.now.ring.now c.args.self.now.slots.now) =
    ap (map note) (c.polled.ensures s) ∙ sym (take-map note c.args.self.now.ring.now.cursor (contents c.args.self.now.ring.now c.args.self.now.slots.now)) in
    let road = YieldsList-from_rev_entries note _ (ap (λ e. map note (left e)) c.rev.ensures.source ∙ all) in
    ap noted c.copied.ensures
    ∙ seen_copied note c.find.result
    ∙ find_from_yields_List (is_lock_of c.args.number) c.find.new.self _ c.find.result c.find.ensures.ran road (λ x b q k. search (rules, tests))
