-- An opened file is read without loss, and what was written as a file is read back.
use Rattle.std.proofs.Common.{◌<◌, rules}
use Rattle.std.proofs.ByRecursion.{All-from_get_or}
use Rattle.steps.specs.Frames.{at}
use Rattle.steps.proofs.Cutting.{lossless}
use Rattle.steps.proofs.Rereading.{reads-back}
use Rattle.steps.proofs.frame.Reader.open.Goals as goal

pub returns-clause-lossless : goal.returns-clause-lossless
returns-clause-lossless c =
    let bytes = c.args.bytes.now in
    lossless bytes (at bytes 1) (All-from_get_or (λ d. d < 256) bytes 0 (λ i _. (c.type_inv.bytes i).fits)) (search rules)

pub returns-clause-reads_back : goal.returns-clause-reads_back
returns-clause-reads_back c = let bytes = c.args.bytes.now in reads-back bytes (at bytes 1) (search rules)
