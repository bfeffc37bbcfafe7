-- The table of worked examples.
use Rattle.protocol.proofs.Facts.{examples-stand}
use Rattle.protocol.proofs.worked.examples_stand.Goals as goal

pub returns : goal.returns
returns c = examples-stand
