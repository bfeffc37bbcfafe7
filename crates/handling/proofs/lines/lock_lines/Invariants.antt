use Rattle.std.proofs.Common.{◌≡◌, true, take, drop}
use Rattle.protocol.specs.Lines.{lock_lines}
use Rattle.handling.specs.Fitting.{lockable_lines}
use Rattle.handling.proofs.Locking.{Left}
use Rattle.handling.proofs.lines.lock_lines.Given as goal

-- the lines so far can be locked
abbrev pub invariant-loop-line : goal.invariant-loop-line
invariant-loop-line g l = lockable_lines (g.M.Memory.words l.memory) l.holder (take l.line-index l.lines) ≡ true

-- the lines left are still to be locked
abbrev pub invariant-loop-line-2 : goal.invariant-loop-line-2
invariant-loop-line-2 g l =
    let words = g.M.Memory.words in
    Left l.holder (lock_lines (words l.initial.memory) l.holder l.lines) (words l.memory) (drop l.line-index l.lines)
