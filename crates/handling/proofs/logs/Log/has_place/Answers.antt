-- The ring has as many entries as the log has records.
use Rattle.handling.proofs.Peeks.{length-notes}
use Rattle.handling.proofs.logs.Log.has_place.Goals as goal

pub returns : goal.returns
returns c = λ s. let told = c.is_untrimmed.ensures s in let all = length-notes c.args.self.now.ring.now c.args.self.now.slots.now s in cc
