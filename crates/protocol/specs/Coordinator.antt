-- A coordinator: its phase, its transaction, its logs and its reply queues.
use Rattle.std.specs.Prelude.{ℕ, Bool, true, false, List, [], Option, ◌==◌}
use Rattle.std.specs.List.{find}
use Rattle.protocol.specs.declared.record.Line.{Line}
use Rattle.protocol.specs.declared.record.Reply.{Reply}
use Rattle.protocol.specs.declared.plan.Plan.{Plan}
use Rattle.protocol.specs.Lists.{upd}
use Rattle.protocol.specs.Record.{Note, Log, empty_log, append}

pub data Phase : Type 0 where
  Idle : Phase
  Opened : Phase
  -- machines still due a LOCK, machines whose reply is awaited, whether some reply was no
  Locking : List ℕ → List ℕ → Bool → Phase
  -- reads still to check
  Checking : List Line → Phase
  -- machines still due a COMMIT-BACKUP
  Backing : List ℕ → Phase
  -- whether the commit is reported, machines still due a COMMIT-PRIMARY
  Installing : Bool → List ℕ → Phase
  -- machines still due an ABORT
  Aborting : List ℕ → Phase

-- `next` is the number that the next commit gives; reads and writes are in order of first reading and first writing;
-- a log and a queue for each machine
pub record Coordinator : Type 0 where
  pub phase : Phase
  pub next : ℕ
  pub reads : List Line
  pub writes : List Line
  pub logs : ℕ → Log
  pub queues : ℕ → List Reply

abbrev pub new_coordinator : Plan → Coordinator
new_coordinator p = record { phase = Idle; next = p.first; reads = []; writes = []; logs = λ m. empty_log; queues = λ m. [] }

abbrev pub with_phase : Coordinator → Phase → Coordinator
with_phase k ph = record { phase = ph; next = k.next; reads = k.reads; writes = k.writes; logs = k.logs; queues = k.queues }

abbrev pub with_words : Coordinator → List Line → List Line → Coordinator
with_words k rs ws = record { phase = k.phase; next = k.next; reads = rs; writes = ws; logs = k.logs; queues = k.queues }

abbrev pub with_next : Coordinator → ℕ → Coordinator
with_next k n = record { phase = k.phase; next = n; reads = k.reads; writes = k.writes; logs = k.logs; queues = k.queues }

abbrev pub with_log : Coordinator → ℕ → Log → Coordinator
with_log k m g = record { phase = k.phase; next = k.next; reads = k.reads; writes = k.writes; logs = upd k.logs m g; queues = k.queues }

abbrev pub with_queue : Coordinator → ℕ → List Reply → Coordinator
with_queue k m q = record { phase = k.phase; next = k.next; reads = k.reads; writes = k.writes; logs = k.logs; queues = upd k.queues m q }

abbrev pub log : Coordinator → ℕ → Log
log k m = k.logs m

abbrev pub queue : Coordinator → ℕ → List Reply
queue k m = k.queues m

abbrev pub with_record : Coordinator → ℕ → Note → Coordinator
with_record k m r = with_log k m (append (log k m) r)

-- the line of an address, if there is one
abbrev pub line_at : ℕ → List Line → Option Line
line_at a ls = find (λ l. l.address == a) ls

abbrev pub is_idle : Phase → Bool
is_idle Idle = true
is_idle Opened = false
is_idle (Locking due awaited denied) = false
is_idle (Checking ls) = false
is_idle (Backing due) = false
is_idle (Installing reported due) = false
is_idle (Aborting due) = false

abbrev pub is_opened : Phase → Bool
is_opened Idle = false
is_opened Opened = true
is_opened (Locking due awaited denied) = false
is_opened (Checking ls) = false
is_opened (Backing due) = false
is_opened (Installing reported due) = false
is_opened (Aborting due) = false
