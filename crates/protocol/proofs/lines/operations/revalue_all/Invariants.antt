-- The lines so far are revalued, and the others as they were.
use Rattle.std.proofs.Common.{◌≡◌, ◌++◌, map, take, drop}
use Rattle.protocol.specs.Transact.{revalued}
use Rattle.protocol.proofs.lines.operations.revalue_all.Given as goal

abbrev pub invariant-loop-line : goal.invariant-loop-line
invariant-loop-line l =
    l.lines ≡ map (revalued l.address l.value) (take l.line-index l.initial.lines) ++ drop l.line-index l.initial.lines
