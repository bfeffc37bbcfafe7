-- Which tables the calls of a plan keep sound: each ring stands in its slots, and the state that the tables stand for keeps the protocol's invariant.
use Rattle.std.specs.Prelude.{◌≡◌, ℕ, List, length, take}
use Rattle.std.specs.List.{AllByRecursion}
use Rattle.ring.specs.Contents as ring
use Rattle.protocol.specs.declared.plan.Plan.{Plan}
use Rattle.protocol.specs.declared.record.Record.{Record}
use Rattle.protocol.specs.declared.record.Reply.{Reply}
use Rattle.protocol.specs.Kept.{Invariant}
use Rattle.directory.specs.declared.tables.Coordinator.{Coordinator}
use Rattle.directory.specs.View.{World, coordinators_of}

pub record Rings (p : Plan) (co : Coordinator) : Type 0 where
  pub five_logs : length co.logs ≡ 5
  pub five_queues : length co.queues ≡ 5
  pub logs : AllByRecursion (λ r. ring.Sound r p.capacity) co.logs
  pub queues : AllByRecursion (λ r. ring.Sound r 4) co.queues

pub record SoundTables (p : Plan) (cs : List Coordinator) (rs : List Record) (qs : List Reply) : Type 0 where
  pub rings : AllByRecursion (Rings p) (take p.coordinators cs)
  pub invariant : (c : ℕ) → Invariant p (coordinators_of p cs rs qs c)

abbrev pub Sound : Plan → World → Type 0
Sound p w = SoundTables p w.coordinators w.records w.replies
