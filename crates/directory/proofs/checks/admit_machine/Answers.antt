-- The machine is there or not.
use Rattle.std.proofs.Common.{sym, rules}
use Rattle.std.proofs.lemmas.Bool.{lt-ltb, le-ltb}
use Rattle.protocol.specs.declared.call.Refusal.TheVariants.{NoMachine}
use Rattle.protocol.proofs.Checks.{unless-true, unless-false}
use Rattle.directory.proofs.checks.admit_machine.Goals as goal

pub returns-in_default : goal.returns-in_default
returns-in_default c = record { answers = sym (unless-false NoMachine _ (le-ltb _ _ (search rules))); within = tt }

pub returns : goal.returns
returns c = record { answers = sym (unless-true NoMachine _ (lt-ltb _ _ (search rules))); within = search rules }
