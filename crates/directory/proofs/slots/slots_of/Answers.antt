-- The part that is cut out is the block.
use Rattle.std.proofs.Common.{arith}
use Rattle.directory.proofs.Blocks.{block_cut}
use Rattle.directory.proofs.slots.slots_of.Goals as goal

pub returns : goal.returns
returns g c = block_cut _ _ _ _ _ (omega arith) c.block_of.ensures.block
