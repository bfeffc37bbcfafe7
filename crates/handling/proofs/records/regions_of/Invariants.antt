-- What is collected so far, with the regions of the rest, is all.
use Rattle.std.proofs.Common.{◌≡◌, drop}
use lib.Bits.{bit_or}
use Rattle.protocol.specs.Room.{regions_byte}
use Rattle.handling.specs.Sending.{InEightRegions}
use Rattle.handling.proofs.records.regions_of.Given as goal

abbrev pub invariant-loop-line : goal.invariant-loop-line
invariant-loop-line l = InEightRegions l.lines → bit_or l.byte (regions_byte (drop l.line-index l.lines)) ≡ regions_byte l.lines
