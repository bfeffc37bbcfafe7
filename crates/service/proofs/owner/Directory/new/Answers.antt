-- Each way out of making a directory.
use Rattle.std.proofs.Common.{[], length, refl, ap, ◌∙◌}
use Rattle.directory.specs.View.{World, world}
use Rattle.directory.specs.Calls.{Ready}
use Rattle.service.proofs.Fitting.{Long, caused, is-set_up}
use Rattle.service.proofs.Lending.{held-last, lent}
use Rattle.service.proofs.owner.Directory.new.Goals as goal

pub returns-in-Ok-set_up : goal.returns-in-Ok-set_up
returns-in-Ok-set_up g c =
    let fit = c.in-Ok.ensures.1 in
    let was : World = world c.deref_mut.result.now c.deref.result.now c.deref-2.result.now (g.P.Memory.words c.args.primaries) (g.F.Memory.words c.args.firsts) (g.S.Memory.words c.args.seconds) in
    let after : World = world c.set_up.new.coordinators c.deref.result.now c.deref-2.result.now (g.P.Memory.words c.set_up.new.primaries) (g.F.Memory.words c.set_up.new.firsts) (g.S.Memory.words c.set_up.new.seconds) in
    let long : Long c.args.plan was = record { coordinators = ap length c.deref_mut.ensures.value ∙ fit.coordinators; records = ap length c.deref.ensures.value ∙ fit.records; replies = ap length c.deref-2.ensures.value ∙ fit.replies } in
    let done = c.in-Ok-set_up.ensures in (
      refl,
      is-set_up c.args.plan was after long _ done,
      lent (λ _ w. Ready c.args.plan w) [] [] _ _ [] [] _ _ [] [] _ _ [] [] [] _ _ _ refl (held-last c.set_up.new.coordinators _ _ (c.set_up.auto.coordinators ∙ c.deref_mut.ensures.len))
          refl c.deref.ensures.value refl c.deref-2.ensures.value done.ready,
    )

pub returns-in-Err : goal.returns-in-Err
returns-in-Err g c = (refl, refl, refl, caused c.args.plan (g.P.Memory.words c.args.primaries) (g.F.Memory.words c.args.firsts) (g.S.Memory.words c.args.seconds) c.in-Err.error c.in-Err.ensures)
