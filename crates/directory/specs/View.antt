-- The lent tables and memories, and the protocol's state that they stand for.
use Rattle.std.specs.Prelude.{ℕ, ◌-◌, ◌*◌, ◌^◌, Bool, false, ◌&&◌, List, [], reverse, length, take, drop, Some, None, Option, ◌==◌, nat_le, slice_index_or}
use Rattle.std.specs.List.{filter}
use Rattle.ring.specs.declared.Ring.{Ring}
use Rattle.ring.specs.Contents.{contents}
use Rattle.ring.specs.Rings.{mapi, row}
use Rattle.protocol.specs.declared.plan.Plan.{Plan}
use Rattle.protocol.specs.declared.record.Line.{Line}
use Rattle.protocol.specs.declared.record.Record.{Record}
use Rattle.protocol.specs.declared.record.Reply.{Reply}
use Rattle.std.specs.List.{range_with_len}
use Rattle.protocol.specs.Lines.{Words}
use Rattle.protocol.specs.LineVec.{listed}
use Rattle.protocol.specs.Record.{Log, empty_log}
use Rattle.protocol.specs.Plan.{size, machine_list}
use Rattle.protocol.specs.Room.{is_at_primary, is_at_backup}
use Rattle.protocol.specs.Commit.{read_only}
use Rattle.protocol.specs.Coordinator as protocol
use Rattle.protocol.specs.State.{State, state}
use Rattle.handling.specs.Notes.{notes}
use Rattle.directory.specs.declared.tables.Locking as tables
use Rattle.directory.specs.declared.tables.Phase.{Phase}
use Rattle.directory.specs.declared.tables.Phase.TheVariants.{Idle, Open, Locking, Checking, Backing, Installing, Aborting}
use Rattle.directory.specs.declared.tables.Work.{Work}
use Rattle.directory.specs.declared.tables.Coordinator.{Coordinator}

-- all that the caller lends; a memory by the words that it means
pub record World : Type 0 where
  pub coordinators : List Coordinator
  pub records : List Record
  pub replies : List Reply
  pub primaries : Words
  pub firsts : Words
  pub seconds : Words

abbrev pub world : List Coordinator → List Record → List Reply → Words → Words → Words → World
world cs rs qs a b d = record { coordinators = cs; records = rs; replies = qs; primaries = a; firsts = b; seconds = d }

-- the lines that count
abbrev pub reads_of : Work → List Line
reads_of t = listed t.reads

abbrev pub writes_of : Work → List Line
writes_of t = listed t.writes

-- the machines from d on that pass: those still due a record
abbrev pub due_from : Plan → ℕ → (ℕ → Bool) → List ℕ
due_from p d test = filter test (range_with_len d (p.machines - d))

-- the machines whose reply is awaited
abbrev pub awaited_of : Plan → tables.Locking → List ℕ
awaited_of p l = filter (λ m. slice_index_or l.awaited m false) (machine_list p)

-- a phase of a transaction, as the protocol has it
unfoldable pub phase_of : Plan → Work → Phase → protocol.Phase
phase_of p t Idle = protocol.Idle
phase_of p t Open = protocol.Opened
phase_of p t (Locking l) = protocol.Locking (due_from p l.due (is_at_primary p (writes_of t))) (awaited_of p l) l.denied
phase_of p t (Checking passed) = protocol.Checking (read_only (drop passed (reads_of t)) (writes_of t))
phase_of p t (Backing due) = protocol.Backing (due_from p due (is_at_backup p (writes_of t)))
phase_of p t (Installing due reported) = protocol.Installing reported (due_from p due (is_at_primary p (writes_of t)))
phase_of p t (Aborting due) = protocol.Aborting (due_from p due (is_at_primary p (writes_of t)))

-- the number after the last is 2^64
abbrev pub next_of : Option ℕ → ℕ
next_of None = 2 ^ 64
next_of (Some n) = n

-- the cursor parts a log's ring into the polled records and those not yet polled
abbrev pub log_of : Ring → List Record → Log
log_of r slots = record { polled = reverse (take r.cursor (notes r slots)); waiting = drop r.cursor (notes r slots) }

abbrev pub logs_of : Plan → List Record → ℕ → List Ring → ℕ → Log
logs_of p rs c rings m = slice_index_or (row log_of p.capacity p.machines c rs rings) m empty_log

abbrev pub queues_of : Plan → List Reply → ℕ → List Ring → ℕ → List Reply
queues_of p qs c rings m = slice_index_or (row contents 4 p.machines c qs rings) m []

-- coordinator c, its logs and queues in the tables of records and replies
unfoldable pub own : Plan → List Record → List Reply → ℕ → Coordinator → protocol.Coordinator
own p rs qs c co = record {
  phase = phase_of p co.work co.work.phase;
  next = next_of co.work.next;
  reads = reads_of co.work;
  writes = writes_of co.work;
  logs = logs_of p rs c co.logs;
  queues = queues_of p qs c co.queues;
}

unfoldable pub owns : Plan → List Coordinator → List Record → List Reply → List protocol.Coordinator
owns p cs rs qs = mapi (own p rs qs) 0 (take p.coordinators cs)

-- the coordinators that the three tables stand for
abbrev pub coordinators_of : Plan → List Coordinator → List Record → List Reply → ℕ → protocol.Coordinator
coordinators_of p cs rs qs c = slice_index_or (owns p cs rs qs) c (protocol.new_coordinator p)

abbrev pub view : Plan → World → State
view p w = state (coordinators_of p w.coordinators w.records w.replies) w.primaries w.firsts w.seconds

-- the tables are long enough, and each memory has the plan's words
abbrev pub is_fitting : Plan → World → Bool
is_fitting p w =
    nat_le p.coordinators (length w.coordinators)
    && (nat_le (p.coordinators * p.machines * p.capacity) (length w.records)
    && (nat_le (p.coordinators * p.machines * 4) (length w.replies)
    && (length w.primaries == size p && (length w.firsts == size p && length w.seconds == size p))))
