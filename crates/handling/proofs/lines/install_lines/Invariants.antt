use Rattle.std.proofs.Common.{◌≤◌, length, drop}
use Rattle.protocol.specs.Lines.{install_lines}
use Rattle.handling.specs.Fitting.{fitting}
use Rattle.handling.proofs.Installing.{Left}
use Rattle.handling.proofs.lines.install_lines.Given as goal

-- the lines left are still to be installed and counted
abbrev pub invariant-loop-line : goal.invariant-loop-line
invariant-loop-line g l =
    let ws = g.M.Memory.words l.initial.memory in
    let lines = fitting (length ws) l.lines in
    (l.installed ≤ l.line-index) × Left (length ws) (install_lines ws lines) (length lines) (g.M.Memory.words l.memory) l.installed (drop l.line-index l.lines)
