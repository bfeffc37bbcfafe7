-- By whether a word is left to check.
use Rattle.directory.proofs.Progressing.{checks-some, checks-none}
use Rattle.directory.proofs.tables.Work.checks.Goals as goal

pub returns-in-Some : goal.returns-in-Some
returns-in-Some c = checks-some c.args.self.now _ _ c.in-Some.ensures

pub returns-in-None : goal.returns-in-None
returns-in-None c = checks-none c.args.self.now c.in-None.ensures
