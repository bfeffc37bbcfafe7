use Rattle.std.proofs.Common.{◌≤◌, length, drop}
use Rattle.protocol.specs.Lines.{free_lines}
use Rattle.handling.specs.Fitting.{freed_lines}
use Rattle.handling.proofs.Freeing.{Left}
use Rattle.handling.proofs.lines.free_lines.Given as goal

-- the lines left are still to be freed and counted
abbrev pub invariant-loop-line : goal.invariant-loop-line
invariant-loop-line g l =
    let ws = g.M.Memory.words l.initial.memory in
    let lines = freed_lines ws l.holder l.lines in
    (l.freed ≤ l.line-index) × Left l.holder (free_lines ws lines) (length lines) (g.M.Memory.words l.memory) l.freed (drop l.line-index l.lines)
