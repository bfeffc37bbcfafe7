-- A file that was read of lines has a text.
use Rattle.std.proofs.Common.{◌≡◌, map, Ok, vec_items, arith}
use Rattle.std.proofs.lemmas.Grind.{common_steps}
use Rattle.text.specs.Parsing.{lines_read}
use Rattle.text.proofs.Accepting.{has-text}
use Rattle.text.proofs.parse.read_lines.Goals as goal

pub returns-clause-has_text : goal.returns-clause-has_text
returns-clause-has_text c =
    let lines = map (λ l. l.now) c.args.lines.now in
    let read : lines_read lines ≡ Ok (vec_items c.loop-i.file) = grind (arith, common_steps) in
    has-text lines (vec_items c.loop-i.file) read
