-- The lines so far that belong there, where they are four at most.
use Rattle.std.proofs.Common.{◌≡◌, ◌≤◌, length, take}
use Rattle.std.specs.List.{filter}
use Rattle.protocol.specs.declared.record.Line.{Line}
use Rattle.protocol.specs.LineVec.{listed}
use Rattle.handling.specs.Sending.{is_picked}
use Rattle.handling.proofs.records.lines_for.Given as goal

abbrev pub invariant-loop-line : goal.invariant-loop-line
invariant-loop-line l = length l.lines ≤ 4 → listed l.picked ≡ filter (λ (k : Line). is_picked l.plan l.kind l.m k.address) (take l.line-index l.lines)
