-- Each way out of check.
use Rattle.std.proofs.Common.{rules}
use Rattle.directory.specs.View.{world}
use Rattle.directory.proofs.Doing.{inside, handed-on, answered-so}
use Rattle.directory.proofs.Checking.{check-closed, check-none, check-unlooked, checks}
use Rattle.directory.proofs.check.check.Goals as goal

pub returns-in_err-admit : goal.returns-in_err-admit
returns-in_err-admit g c = handed-on _ (world _ _ _ _ _ _) _ _ _ c.from_residual.ensures.1 c.in_err-admit.ensures.answers

pub returns-in_default : goal.returns-in_default
returns-in_default g c = check-closed _ (world _ _ _ _ _ _) _ (inside _ (world _ _ _ _ _ _) _ c.in_ok-admit.ensures.answers) c.index-coordinators-c.result c.in_default.not-Checking

pub returns-in_default-next_unwritten : goal.returns-in_default-next_unwritten
returns-in_default-next_unwritten g c =
    check-none _ (world _ _ _ _ _ _) _ (inside _ (world _ _ _ _ _ _) _ c.in_ok-admit.ensures.answers) c.index-coordinators-c.result c.in-Checking.passed c.in-Checking.is c.in_default-next_unwritten.ensures

pub returns-in_default-is_current : goal.returns-in_default-is_current
returns-in_default-is_current g c =
    check-unlooked _ (world _ _ _ _ _ _) _ (inside _ (world _ _ _ _ _ _) _ c.in_ok-admit.ensures.answers) c.index-coordinators-c.result c.in-Checking.passed c.in-Checking.is _ _ c.in-Some.ensures c.in_default-is_current.ensures

pub returns : goal.returns
returns g c =
    answered-so _ (world _ _ _ _ _ _) _ _ _ _ c.new.ensures
    (checks _ (world _ _ _ _ _ _) _ (inside _ (world _ _ _ _ _ _) _ c.in_ok-admit.ensures.answers) c.index-coordinators-c.result c.in-Checking.passed c.in-Checking.is
    (g.met.P.Memory.proper c.args.primaries.now) c.index-coordinators-c-2.result _ _ _ c.in-Some.ensures _ c.in-Some-is_current.ensures _ c.note_check-outcome.ensures _ (search rules))
