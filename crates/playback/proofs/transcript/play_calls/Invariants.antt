-- The calls so far are those of a run of the protocol, and the text has their lines.
use Rattle.std.proofs.Common.{◌≡◌, string_bytes}
use Rattle.std.specs.Iterator.Adapters.{enumerate_source, enumerate_count}
use Rattle.steps.specs.Reading.{steps_left}
use Rattle.service.specs.Owned.{owned}
use Rattle.playback.proofs.Playing.{Played}
use Rattle.playback.proofs.transcript.play_calls.Given as goal

abbrev pub invariant-loop-entry : goal.invariant-loop-entry
invariant-loop-entry g l =
    (goal.iterator-loop-entry g).can_next l.entry-iterator
    × (goal.iterator-loop-entry g).is_finite l.entry-iterator
    × (l.directory.plan ≡ l.fn.directory.plan)
    × Played l.fn.directory.plan (steps_left (enumerate_source l.fn.steps)) (string_bytes l.initial.out)
    (owned g.P.Memory.words g.F.Memory.words g.S.Memory.words l.directory)
    (enumerate_count l.entry-iterator) (steps_left (enumerate_source l.entry-iterator)) (string_bytes l.out)
