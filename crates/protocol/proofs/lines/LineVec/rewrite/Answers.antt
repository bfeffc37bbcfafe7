-- The lines that count are revalued with the places that do not.
use Rattle.std.proofs.Common.{rules}
use Rattle.std.proofs.lemmas.List.{take-map}
use Rattle.protocol.proofs.lines.LineVec.rewrite.Goals as goal

pub returns : goal.returns
returns g c = search (rules, take-map)
