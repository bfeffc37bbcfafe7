-- Each way out of a reply.
use Rattle.std.proofs.Common.{sym}
use Rattle.directory.proofs.Progressing.{reply-more, reply-denied, reply-checks}
use Rattle.directory.proofs.tables.Work.note_reply.Goals as goal

pub returns-then-not-all_came : goal.returns-then-not-all_came
returns-then-not-all_came c = reply-more c.args.plan.now c.args.self.now c.args.locking (sym c.if-not-all_came.ensures)

pub returns-then-locking : goal.returns-then-locking
returns-then-locking c = reply-denied c.args.plan.now c.args.self.now c.args.locking (sym c.if-not-all_came.ensures) c.if-locking.true

pub returns : goal.returns
returns c = reply-checks c.args.plan.now c.args.self.now c.args.locking (sym c.if-not-all_came.ensures) c.if-locking.false _ c.checks-self.ensures
