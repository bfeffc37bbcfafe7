-- The flags of the plan's machines.
use Rattle.std.proofs.Common.{sym, ◌∙◌, arith}
use Rattle.directory.proofs.Progressing.{none-awaited}
use Rattle.directory.proofs.tables.Locking.all_came.Goals as goal

pub returns : goal.returns
returns c = c.all_down.ensures ∙ sym (none-awaited c.args.plan.now c.args.self.now _ (omega arith) (omega (arith, c.requires)))
