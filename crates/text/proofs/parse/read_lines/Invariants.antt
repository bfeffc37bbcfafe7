-- The file so far, with the lines that are left, is the file of all lines.
use Rattle.std.proofs.Common.{◌≡◌, ◌+◌, map, drop, vec_items}
use Rattle.text.specs.Parsing.{lines_read, with_lines}
use Rattle.text.proofs.parse.read_lines.Given as goal

abbrev pub invariant-loop-i : goal.invariant-loop-i
invariant-loop-i l =
    lines_read (map (λ w. w.now) l.lines) ≡ with_lines (vec_items l.file) (l.i + 1) (map (λ w. w.now) (drop l.i l.lines))
