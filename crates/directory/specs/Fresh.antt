-- A coordinator as set-up leaves it: idle, at the plan's first number, every ring empty.
use Rattle.std.specs.Prelude.{◌≡◌, ℕ, [], replicate, Some}
use Rattle.ring.specs.Contents.{empty_ring}
use Rattle.directory.specs.declared.tables.Phase.TheVariants.{Idle}
use Rattle.directory.specs.declared.tables.Coordinator.{Coordinator}
use Rattle.directory.specs.View.{reads_of, writes_of}

pub record Fresh (first : ℕ) (co : Coordinator) : Type 0 where
  pub phase : co.work.phase ≡ Idle
  pub next : co.work.next ≡ Some first
  pub reads : reads_of co.work ≡ []
  pub writes : writes_of co.work ≡ []
  pub logs : co.logs ≡ replicate 5 empty_ring
  pub queues : co.queues ≡ replicate 5 empty_ring
