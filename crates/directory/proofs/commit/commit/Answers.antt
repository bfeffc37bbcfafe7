-- Each way out of commit.
use Rattle.std.proofs.Common.{true, false, refl}
use Rattle.directory.specs.View.{world}
use Rattle.directory.proofs.Doing.{inside, handed-on, answered-so}
use Rattle.directory.proofs.Committing.{commit-sizes, commit-records, commit-under, commit-closed, commit-used-up, commit-no-room, commit-begins}
use Rattle.directory.proofs.commit.commit.Goals as goal

pub returns-in_err-admit : goal.returns-in_err-admit
returns-in_err-admit g c = handed-on _ (world _ _ _ _ _ _) _ _ _ c.from_residual.ensures.1 c.in_err-admit.ensures.answers

pub returns-in_default : goal.returns-in_default
returns-in_default g c = commit-closed _ (world _ _ _ _ _ _) _ (inside _ (world _ _ _ _ _ _) _ c.in_ok-admit.ensures.answers) c.index-coordinators-c.result c.in_default.not-Open

pub returns-in_default-next : goal.returns-in_default-next
returns-in_default-next g c = commit-used-up _ (world _ _ _ _ _ _) _ (inside _ (world _ _ _ _ _ _) _ c.in_ok-admit.ensures.answers) c.index-coordinators-c.result c.in-Open.is c.in_default-next.is

pub has_room-requires : goal.has_room-requires
has_room-requires g c =
    let w = (world c.args.coordinators.now c.args.records.now c.args.replies.now (g.P.Memory.words c.args.primaries.now) (g.F.Memory.words c.args.firsts.now) (g.S.Memory.words c.args.seconds.now)) in
    let in' = inside c.args.plan.now w c.args.c c.in_ok-admit.ensures.answers in
    let few = commit-sizes c.args.plan.now w c.args.c in' c.index-coordinators-c.result in
    record {
      machines = few.machines.1;
      c = commit-under c.args.plan.now w c.args.c in' c.index-coordinators-c.result;
      records = commit-records c.args.plan.now w c.args.c in' c.index-coordinators-c.result;
    }

pub returns-in_default-has_room : goal.returns-in_default-has_room
returns-in_default-has_room g c =
    commit-no-room _ (world _ _ _ _ _ _) _ (inside _ (world _ _ _ _ _ _) _ c.in_ok-admit.ensures.answers) c.index-coordinators-c.result c.in-Open.is _ c.in-Some.is c.after-next.ensures.fits
    false c.in_default-has_room.ensures refl

pub returns : goal.returns
returns g c =
    answered-so _ (world _ _ _ _ _ _) _ _ _ _ c.new.ensures
    (commit-begins _ (world _ _ _ _ _ _) _ (inside _ (world _ _ _ _ _ _) _ c.in_ok-admit.ensures.answers) c.index-coordinators-c.result c.in-Open.is _ c.in-Some.is c.after-next.ensures.fits
    true c.in-true.ensures refl (g.met.P.Memory.proper c.args.primaries.now) c.index-coordinators-c-2.result _
    _ c.first_outcome-outcome.ensures _ c.after-next.ensures.next c.begin_commit.ensures)
