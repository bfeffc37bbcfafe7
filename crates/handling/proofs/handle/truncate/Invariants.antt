-- The records so far have gone into the backups.
use Rattle.std.proofs.Common.{◌≡◌, length}
use Rattle.protocol.specs.Plan.{size}
use Rattle.handling.specs.Handling.{SoundLog}
use Rattle.handling.proofs.Truncating.{in_order, BackedUp}
use Rattle.handling.proofs.handle.truncate.Given as goal

abbrev pub invariant-loop-entry : goal.invariant-loop-entry
invariant-loop-entry g l =
    SoundLog l.plan l.log.ring.now l.log.slots.now → length (g.F.Memory.words l.initial.firsts) ≡ size l.plan → length (g.S.Memory.words l.initial.seconds) ≡ size l.plan
    → BackedUp l.plan l.m (length l.yielded) (in_order l.log.ring.now l.log.slots.now) (g.F.Memory.words l.initial.firsts) (g.S.Memory.words l.initial.seconds) (g.F.Memory.words l.firsts) (g.S.Memory.words l.seconds) l.puts
