-- What a change of a coordinator's transaction leaves of it.
use Rattle.std.specs.Prelude.{◌≡◌, ℕ, List, Option}
use Rattle.protocol.specs.declared.plan.Plan.{Plan}
use Rattle.protocol.specs.declared.record.Line.{Line}
use Rattle.protocol.specs.Coordinator as protocol
use Rattle.directory.specs.declared.tables.Phase.{Phase}
use Rattle.directory.specs.declared.tables.Work.{Work}
use Rattle.directory.specs.View.{phase_of, next_of, reads_of, writes_of}

-- its phase, the next number, the words read and the words written
pub record Leaves (t : Work) (ph : Phase) (n : Option ℕ) (rs ws : List Line) : Type 0 where
  pub phase : t.phase ≡ ph
  pub next : t.next ≡ n
  pub reads : reads_of t ≡ rs
  pub writes : writes_of t ≡ ws

-- the phase with its data, the next number, the words read and the words written, as the protocol speaks of them
pub record StandsFor (p : Plan) (t : Work) (ph : protocol.Phase) (n : ℕ) (rs ws : List Line) : Type 0 where
  pub phase : phase_of p t t.phase ≡ ph
  pub next : next_of t.next ≡ n
  pub reads : reads_of t ≡ rs
  pub writes : writes_of t ≡ ws
