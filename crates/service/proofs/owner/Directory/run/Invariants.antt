-- The calls so far were made, and there is a place for each answer.
use Rattle.std.proofs.Common.{◌≡◌, ◌≤◌, length, take, vec_items, vec_len, vec_capacity}
use Rattle.service.specs.Owned.{owned}
use Rattle.service.specs.Running.{Runs}
use Rattle.service.proofs.owner.Directory.run.Given as goal

abbrev pub invariant-loop-call : goal.invariant-loop-call
invariant-loop-call g l =
    (vec_len l.answers ≡ l.call-index) × (length l.calls ≤ vec_capacity l.answers) × (l.self.plan ≡ l.initial.self.plan)
    × Runs l.initial.self.plan (owned g.P.Memory.words g.F.Memory.words g.S.Memory.words l.initial.self) (take l.call-index l.calls) (vec_items l.answers) (owned g.P.Memory.words g.F.Memory.words g.S.Memory.words l.self)
