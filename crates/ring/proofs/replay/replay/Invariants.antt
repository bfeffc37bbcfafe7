use Rattle.std.proofs.Common.{◌≡◌, ◌<◌, ◌≤◌, length, take}
use Rattle.ring.specs.Contents.{empty_ring, contents, Sound}
use Rattle.ring.specs.Queue.{queue, served_all}
use Rattle.ring.proofs.replay.replay.Given as goal

-- the operations so far are served, as by a queue, or all refused where there is no slot; none is polled
abbrev pub invariant-loop-operation : goal.invariant-loop-operation
invariant-loop-operation g l =
    (l.refused ≤ l.operation-index)
    × (0 < length l.initial.slots → Sound l.ring (length l.slots))
    × (0 < length l.initial.slots → queue (contents l.ring l.slots) l.refused ≡ served_all (length l.initial.slots) (take l.operation-index l.operations))
    × (length l.initial.slots ≡ 0 → (l.ring ≡ empty_ring) × (l.refused ≡ l.operation-index))
    × (l.ring.cursor ≡ 0)
