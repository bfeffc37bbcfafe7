-- The ring is empty at the start, and at the end it shows what a plain queue has.
use Rattle.std.proofs.Common.{length, ap, ◌∙◌}
use Rattle.std.proofs.lemmas.List.{take_all}
use Rattle.ring.specs.Queue.{served_all}
use Rattle.ring.proofs.Queues.{shows-plain}
use Rattle.ring.proofs.replay.replay.Goals as goal

pub returns-clause-plain : goal.returns-clause-plain
returns-clause-plain g c = λ some.
    let was = c.loop-operation in
    let size = length c.args.slots.now in
    let all = was.invariant.2 some ∙ ap (served_all size) (take_all was.operation-index c.args.operations.now c.loop-operation-test.false) in
    shows-plain size c.args.operations.now was.ring was.slots was.refused (was.invariant.1 some) all
