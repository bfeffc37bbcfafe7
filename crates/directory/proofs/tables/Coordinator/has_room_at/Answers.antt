-- The log is asked over its own slots.
use Rattle.std.proofs.Common.{List, ap, ◌∙◌}
use Rattle.protocol.specs.declared.record.Line.{Line}
use Rattle.handling.specs.Sending.{wanted}
use Rattle.directory.proofs.Rooms.{room-end, roomy-told}
use Rattle.directory.proofs.tables.Coordinator.has_room_at.Goals as goal

pub slots_of-requires : goal.slots_of-requires
slots_of-requires c = room-end c.args.plan.now c.args.c c.args.self.now c.args.records.now c.requires.machines c.requires.c c.requires.records c.args.m c.requires.m

pub returns : goal.returns
returns c =
    roomy-told c.args.plan.now c.args.c c.args.self.now c.args.records.now c.requires.machines c.requires.c c.requires.records c.args.m c.requires.m _ c.slots_of.ensures _ _
    (c.to_write-n.ensures.is ∙ ap (λ (ls : List Line). wanted c.args.plan.now ls c.args.m) c.as_slice.ensures.lines) c.has_place.ensures
