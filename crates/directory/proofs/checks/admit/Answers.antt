-- The three checks in their order.
use Rattle.std.proofs.Common.{sym, ◌∙◌, arith, rules}
use Rattle.std.proofs.lemmas.Bool.{lt-ltb, le-ltb}
use Rattle.protocol.specs.declared.call.Refusal.TheVariants.{BadPlan, BadTables, NoCoordinator}
use Rattle.protocol.proofs.Checks.{passes, stops, unless-true, unless-false}
use Rattle.directory.specs.View.{world}
use Rattle.directory.proofs.Plans.{fits-of}
use Rattle.directory.proofs.checks.admit.Goals as goal

pub returns-in_default : goal.returns-in_default
returns-in_default g c = record { answers = sym (stops BadPlan _ _ (sym c.in_default.ensures)); within = tt }

pub returns-in_default-tables_ok : goal.returns-in_default-tables_ok
returns-in_default-tables_ok g c = record {
  answers = sym (passes BadPlan _ _ (sym c.in-true.ensures) ∙ stops BadTables _ _ (sym c.in_default-tables_ok.ensures));
  within = tt;
}

pub returns-in_default-2 : goal.returns-in_default-2
returns-in_default-2 g c = record {
  answers =
      sym (passes BadPlan _ _ (sym c.in-true.ensures) ∙ passes BadTables _ _ (sym c.in-true-tables_ok.ensures) ∙ unless-false NoCoordinator _ (le-ltb _ _ (search rules)));
  within = tt;
}

pub returns : goal.returns
returns g c = record {
  answers =
      sym (passes BadPlan _ _ (sym c.in-true.ensures) ∙ passes BadTables _ _ (sym c.in-true-tables_ok.ensures) ∙ unless-true NoCoordinator _ (lt-ltb _ _ c.in-true-2.is));
  within = omega (arith, c.in-true-2.is, (fits-of c.args.plan.now (world c.args.coordinators.now c.args.records.now c.args.replies.now (g.P.Memory.words c.args.primaries.now) (g.F.Memory.words c.args.firsts.now) (g.S.Memory.words c.args.seconds.now)) c.in-true-tables_ok.ensures).coordinators);
}
