-- The part of the table that is lent to the ring is its block.
use Rattle.std.proofs.Common.{◌≡◌, true, ◌∙◌, arith}
use Rattle.std.proofs.lemmas.Bool.{cond-true}
use Rattle.directory.proofs.Blocks.{part_room, appended}
use Rattle.directory.proofs.slots.append_in.Goals as goal

pub returns : goal.returns
returns g c =
    let done : c.append.result ≡ true = c.append.ensures.answers ∙ part_room c.args.size c.args.block c.args.ring.now c.args.table.now c.requires.within _ (omega arith) c.requires.room in
    appended c.args.size c.args.block c.args.ring.now c.args.table.now c.requires.within
    c.append.new.self c.append.new.slots c.args.entry (c.append.ensures.ring ∙ cond-true c.append.result _ _ done) _ (omega arith) c.append.auto.slots (c.append.ensures.holds done)
