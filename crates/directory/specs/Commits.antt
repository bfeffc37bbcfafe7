-- The room for a commit, by what the tables have.
use Rattle.std.specs.Prelude.{ℕ, ◌+◌, ◌*◌, Bool, List, length, nat_le, slice_index_or}
use Rattle.ring.specs.Rings.{block}
use Rattle.protocol.specs.declared.plan.Plan.{Plan}
use Rattle.protocol.specs.declared.record.Record.{Record}
use Rattle.protocol.specs.Record.{Note}
use Rattle.protocol.specs.Room.{with_trim}
use Rattle.handling.specs.Notes.{notes}
use Rattle.handling.specs.Sending.{wanted}
use Rattle.directory.specs.declared.tables.Coordinator.{Coordinator}
use Rattle.directory.specs.View.{writes_of}
use Rattle.ring.specs.Contents.{empty_ring}

-- the records in the log of machine m
abbrev pub notes_at : Plan → ℕ → Coordinator → List Record → ℕ → List Note
notes_at p c co rs m = notes (slice_index_or co.logs m empty_ring) (block p.capacity (c * p.machines + m) rs)

-- the log of machine m has room for all that the commit writes there
abbrev pub roomy_at : Plan → ℕ → Coordinator → List Record → ℕ → Bool
roomy_at p c co rs m = nat_le (length (notes_at p c co rs m) + with_trim (wanted p (writes_of co.work) m) (notes_at p c co rs m)) p.capacity
