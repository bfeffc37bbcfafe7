-- What a peek shows is the record at that place.
use Rattle.handling.proofs.Peeks.{peek-next}
use Rattle.handling.proofs.logs.Log.record.Goals as goal

pub returns : goal.returns
returns c = λ s. peek-next c.args.self.now.ring.now c.args.self.now.slots.now c.args.i c.peek.result (c.peek.ensures.answers s)
