-- Each way out of abandon.
use Rattle.directory.specs.View.{world}
use Rattle.directory.proofs.Doing.{inside, handed-on, answered-so}
use Rattle.directory.proofs.Transacting.{abandon-closed, abandons}
use Rattle.directory.proofs.transact.abandon.Goals as goal

pub returns-in_err-admit : goal.returns-in_err-admit
returns-in_err-admit g c = handed-on _ (world _ _ _ _ _ _) _ _ _ c.from_residual.ensures.1 c.in_err-admit.ensures.answers

pub returns-in_default : goal.returns-in_default
returns-in_default g c = abandon-closed _ (world _ _ _ _ _ _) _ (inside _ (world _ _ _ _ _ _) _ c.in_ok-admit.ensures.answers) c.index-coordinators-c.result c.in_default.not-Open

pub returns : goal.returns
returns g c =
    answered-so _ (world _ _ _ _ _ _) _ _ _ _ c.new.ensures
    (abandons _ (world _ _ _ _ _ _) _ (inside _ (world _ _ _ _ _ _) _ c.in_ok-admit.ensures.answers) c.index-coordinators-c.result
    (g.met.P.Memory.proper c.args.primaries.now) c.index-coordinators-c-2.result _ c.in-Open.is c.rest.ensures)
