-- A map in place.
use Rattle.std.proofs.Common.{rules}
use Rattle.std.proofs.lemmas.List.Edits.{map_over_more}
use Rattle.protocol.specs.Transact.{revalued}
use Rattle.protocol.proofs.lines.operations.revalue_all.Goals as goal

pub loop-line-preserved : goal.loop-line-preserved
loop-line-preserved c = search (rules, map_over_more (revalued c.args.address c.args.value))
