-- The checks that come before anything a table holds is asked for.
use Rattle.std.specs.Prelude.{ℕ, nat_lt}
use Rattle.protocol.specs.declared.plan.Plan.{Plan}
use Rattle.protocol.specs.declared.call.Refusal.TheVariants.{BadPlan, BadTables, NoCoordinator, NoMachine}
use Rattle.protocol.specs.Try.{Try, ◌>>◌, unless}
use Rattle.protocol.specs.Plan.{is_fine}
use Rattle.directory.specs.View.{World, is_fitting}

-- the plan, then the tables and memories, then the coordinator
abbrev pub admitted : Plan → World → ℕ → Try (Unit {0})
admitted p w c = do
  unless BadPlan (is_fine p)
  unless BadTables (is_fitting p w)
  unless NoCoordinator (nat_lt c p.coordinators)

-- the machine that poll, take and trim name
abbrev pub machine_admitted : Plan → ℕ → Try (Unit {0})
machine_admitted p m = unless NoMachine (nat_lt m p.machines)
