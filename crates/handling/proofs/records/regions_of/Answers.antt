-- A line adds the bit of its region.
use Rattle.std.proofs.Common.{◌≡◌, ℕ, ap, ◌∙◌, arith}
use Rattle.std.specs.Int.{bit_at}
use Rattle.protocol.specs.Room.{regions_byte}
use Rattle.handling.specs.Sending.{InEightRegions}
use Rattle.handling.proofs.Regions.{regions-more, regions-all, sets-regions}
use Rattle.handling.proofs.records.regions_of.Goals as goal

pub loop-line-preserved : goal.loop-line-preserved
loop-line-preserved c = λ small. regions-more c.args.lines.now c.loop-line.line-index c.loop-line.byte (c.loop-line.invariant small) _ _ (omega arith) small c.region_bit-byte.ensures

pub returns : goal.returns
returns c =
    let is : InEightRegions c.args.lines.now → c.loop-line.byte ≡ regions_byte c.args.lines.now =
    λ small. regions-all c.args.lines.now c.loop-line.line-index c.loop-line.byte (c.loop-line.invariant small) (omega arith) in
    record { is = is; bits = λ small r. ap (λ (n : ℕ). bit_at n r) (is small) ∙ sets-regions c.args.lines.now r }
