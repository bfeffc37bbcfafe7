-- Each log is asked in its turn.
use Rattle.std.proofs.Common.{refl, rules, arith}
use borrow.Author.Tests.{tests}
use Rattle.std.proofs.lemmas.Iterator.{YieldsList-from_range}
use Rattle.std.proofs.lemmas.Iterator.Search.{all_from_yields_List}
use Rattle.directory.specs.Commits.{roomy_at}
use Rattle.directory.proofs.tables.Coordinator.has_room.Goals as goal

pub returns : goal.returns
returns c = λ s.
    let road = YieldsList-from_range 0 c.args.plan.now.machines c.args.plan.now.machines refl (omega arith) in
    all_from_yields_List (roomy_at c.args.plan.now c.args.c c.args.self.now c.args.records.now) c.all.new.self _ c.all.result c.all.ensures.ran road (λ x b q k. search (rules, tests))
