-- Each way out of write.
use Rattle.std.proofs.Common.{rules}
use Rattle.directory.specs.View.{world}
use Rattle.directory.proofs.Doing.{inside, handed-on, hands-on, answered-so}
use Rattle.directory.proofs.Transacting.{write-closed, write-past, write-refused, writes}
use Rattle.directory.proofs.transact.write.Goals as goal

pub returns-in_err-admit : goal.returns-in_err-admit
returns-in_err-admit g c = handed-on _ (world _ _ _ _ _ _) _ _ _ c.from_residual.ensures.1 c.in_err-admit.ensures.answers

pub returns-in_default : goal.returns-in_default
returns-in_default g c = write-closed _ (world _ _ _ _ _ _) _ (inside _ (world _ _ _ _ _ _) _ c.in_ok-admit.ensures.answers) c.index-coordinators-c.result _ _ c.in_default.not-Open

pub returns-in_default-2 : goal.returns-in_default-2
returns-in_default-2 g c = write-past _ (world _ _ _ _ _ _) _ (inside _ (world _ _ _ _ _ _) _ c.in_ok-admit.ensures.answers) c.index-coordinators-c.result c.in-Open.is _ _ (search rules)

pub returns-in_err-line : goal.returns-in_err-line
returns-in_err-line g c =
    hands-on _ (world _ _ _ _ _ _) _ _ _ c.from_residual-in_err-line.ensures.1
    (write-refused _ (world _ _ _ _ _ _) _ (inside _ (world _ _ _ _ _ _) _ c.in_ok-admit.ensures.answers) c.index-coordinators-c.result c.in-Open.is _ (search rules)
    _ _ c.in_err-line.ensures)

pub returns : goal.returns
returns g c =
    answered-so _ (world _ _ _ _ _ _) _ _ _ _ c.new.ensures
    (writes _ (world _ _ _ _ _ _) _ (inside _ (world _ _ _ _ _ _) _ c.in_ok-admit.ensures.answers) c.index-coordinators-c.result
    (g.met.P.Memory.proper c.args.primaries.now) c.index-coordinators-c-2.result _ c.in-Open.is _ (search rules)
    _ _ c.in_ok-line.ensures.0 c.in_ok-line.ensures.1.next c.in_ok-line.ensures.1 c.note_write.ensures)
