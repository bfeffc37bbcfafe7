-- The lines of a COMMIT-BACKUP go into the backups, and no others.
use Rattle.std.proofs.Common.{length}
use Rattle.handling.specs.Fitting.{fitting_backup}
use Rattle.handling.proofs.Truncating.{backs-up-lines}
use Rattle.handling.proofs.handle.back_up_record.Goals as goal

pub returns-in-CommitBackup : goal.returns-in-CommitBackup
returns-in-CommitBackup g c =
    backs-up-lines c.args.plan.now c.args.m c.args.entry.now c.in-CommitBackup.is
    (g.F.Memory.words c.args.firsts.now) (g.S.Memory.words c.args.seconds.now)
    (g.F.Memory.words c.back_up_lines.new.firsts) (g.S.Memory.words c.back_up_lines.new.seconds) c.back_up_lines.result
    c.as_slice.result.now c.as_slice.ensures.lines c.as_slice.ensures.few
    c.back_up_lines.ensures.few
    (fitting_backup c.args.plan.now c.args.m (length (g.F.Memory.words c.args.firsts.now)) (length (g.S.Memory.words c.args.seconds.now)) c.as_slice.result.now)
    c.back_up_lines.ensures.after c.back_up_lines.ensures.all_fit
