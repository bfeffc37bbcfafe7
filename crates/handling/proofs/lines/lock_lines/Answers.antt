use Rattle.std.proofs.Common.{◌≡◌, true, sym, ◌∙◌, rules}
use Rattle.std.proofs.lemmas.List.{take_all}
use Rattle.std.proofs.lemmas.Bool.{and_from}
use Rattle.std.proofs.lemmas.List.Folds.{list_all_at, list_all_more}
use Rattle.protocol.specs.Lines.{line}
use Rattle.handling.specs.Fitting.{lockable_lines}
use Rattle.handling.proofs.Locking.{left-all, left-more, left-none, lock-holds, lockable-fit}
use Rattle.handling.proofs.lines.lock_lines.Goals as goal

pub returns-then-not-can_lock : goal.returns-then-not-can_lock
returns-then-not-can_lock g c =
    let ws = g.M.Memory.words c.args.memory.now in
    let fails = sym (list_all_at _ c.args.lines.now c.loop-line.line-index _ c.loop-line-test.true (sym c.if-not-can_lock.ensures)) in
    record { answers = fails; after = search rules; held = search rules; all_fit = λ fit ok. fails ∙ lockable-fit c.args.holder ws c.args.lines.now fit ok }

pub loop-line-preserved : goal.loop-line-preserved
loop-line-preserved g c = list_all_more _ c.args.lines.now c.loop-line.line-index (line 0 0 0) c.loop-line-test.true ∙ search (rules, and_from)

pub loop-line-2-init : goal.loop-line-2-init
loop-line-2-init g c =
    let ws = g.M.Memory.words c.args.memory.now in
    let all : lockable_lines ws c.args.holder c.args.lines.now ≡ true = search (rules, take_all) in
    left-all c.args.holder ws c.args.lines.now all

pub loop-line-2-preserved : goal.loop-line-2-preserved
loop-line-2-preserved g c = left-more c.args.holder _ _ _ c.args.lines.now c.loop-line-2.line-index _ c.loop-line-2-test.true c.lock.ensures.after c.loop-line-2.invariant

pub returns : goal.returns
returns g c =
    let ws = g.M.Memory.words c.args.memory.now in
    let all : lockable_lines ws c.args.holder c.args.lines.now ≡ true = search (rules, take_all) in
    let after = left-none c.args.holder _ (g.M.Memory.words c.loop-line-2.memory) c.args.lines.now c.loop-line-2.line-index c.loop-line-2-test.false c.loop-line-2.invariant in
    record {
      answers = sym all;
      after = after;
      held = λ _. lock-holds c.args.holder ws _ c.args.lines.now all after;
      all_fit = λ fit ok. sym all ∙ lockable-fit c.args.holder ws c.args.lines.now fit ok;
    }
