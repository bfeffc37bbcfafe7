use Rattle.std.proofs.Common.{◌≤◌, length, drop}
use Rattle.protocol.specs.Lines.{backups}
use Rattle.protocol.specs.Poll.{back_up_lines}
use Rattle.handling.specs.Fitting.{fitting_backup}
use Rattle.handling.proofs.BackingUp.{Left}
use Rattle.handling.proofs.lines.back_up_lines.Given as goal

-- the lines left are still to be put into the backups and counted
abbrev pub invariant-loop-line : goal.invariant-loop-line
invariant-loop-line g l =
    let fs = g.F.Memory.words l.initial.firsts in
    let ss = g.S.Memory.words l.initial.seconds in
    (l.puts ≤ l.line-index)
    × Left l.plan l.m (length fs) (length ss) (λ i. back_up_lines l.plan l.m (fitting_backup l.plan l.m (length fs) (length ss) l.lines) (backups i fs ss))
    (g.F.Memory.words l.firsts) (g.S.Memory.words l.seconds) l.puts (drop l.line-index l.lines)
