-- The loop goes through the polled records from the oldest.
use Rattle.std.proofs.Common.{List, reverse, length, map, ap, ◌∙◌, arith}
use Rattle.std.proofs.lemmas.List.{length_push, take_all}
use Rattle.std.proofs.lemmas.Iterator.Consumers.{YieldsList-turn, YieldsList-end}
use Rattle.ring.specs.Left.{left}
use Rattle.ring.proofs.Going.{YieldsList-from_entries}
use Rattle.protocol.specs.Record.{Note, note}
use Rattle.protocol.specs.Lines.{backups}
use Rattle.protocol.specs.Poll.{back_up_records}
use Rattle.handling.proofs.Truncating.{in_order, in_order-polled, backed-more}
use Rattle.handling.proofs.handle.truncate.Goals as goal

pub loop-entry-preserved : goal.loop-entry-preserved
loop-entry-preserved g c = λ s a b.
    let log = c.args.log.now.ring.now in
    let slots = c.args.log.now.slots.now in
    let all = in_order-polled log slots (left c.polled-entry-items.result) (c.polled-entry-items.ensures s.stands) in
    let road = YieldsList-from_entries note (in_order log slots) (ap (λ e. map note (left e)) c.into_iter-entry-iterator.ensures.into_iter_gives ∙ all) in
    let turn = YieldsList-turn road c.loop-entry.yielded _ c.loop-entry.yielded_by _ c.next.new.self c.in-Some.entry c.in-Some.is c.next.ensures.steps in
    backed-more c.args.plan.now c.args.m (length c.loop-entry.yielded) log slots (g.F.Memory.words c.args.firsts.now) (g.S.Memory.words c.args.seconds.now) (note c.in-Some.entry.now) _ _ _ _ _ _
    turn (s, a, b) (c.loop-entry.invariant s a b) c.back_up_record.ensures _ _ (length_push c.loop-entry.yielded c.in-Some.entry) c.saturating_add-puts.ensures

pub returns : goal.returns
returns g c = λ s a b.
    let log = c.args.log.now.ring.now in
    let slots = c.args.log.now.slots.now in
    let all = in_order-polled log slots (left c.polled-entry-items.result) (c.polled-entry-items.ensures s.stands) in
    let road = YieldsList-from_entries note (in_order log slots) (ap (λ e. map note (left e)) c.into_iter-entry-iterator.ensures.into_iter_gives ∙ all) in
    let end = YieldsList-end road c.loop-entry.yielded _ c.loop-entry.yielded_by _ c.next.new.self c.in-None.is c.next.ensures.steps in
    (c.loop-entry.invariant s a b).after
    ∙ ap (λ (ns : List Note). back_up_records c.args.plan.now c.args.m (reverse ns) (backups 0 (g.F.Memory.words c.args.firsts.now) (g.S.Memory.words c.args.seconds.now)))
    (take_all (length c.loop-entry.yielded) (in_order log slots) (omega (arith, end.1)))
