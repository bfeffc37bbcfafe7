-- Commit, send, take and check.
use Rattle.std.specs.Prelude.{ℕ, suc, pred, ◌^◌, Bool, true, false, cond, not, ◌||◌, List, [], ◌∷◌, is_some, Err, nat_lt}
use Rattle.std.specs.List.{filter}
use Rattle.protocol.specs.declared.record.Line.{Line}
use Rattle.protocol.specs.declared.record.Kind.{Kind}
use Rattle.protocol.specs.declared.record.Kind.TheVariants.{Lock, CommitBackup, CommitPrimary, Abort, Truncate}
use Rattle.protocol.specs.declared.record.Reply.{Reply}
use Rattle.protocol.specs.declared.plan.Plan.{Plan}
use Rattle.protocol.specs.declared.call.Refusal.TheVariants.{NoMachine, WrongPhase, UsedUp, NoRoom, Nothing}
use Rattle.protocol.specs.declared.call.Outcome.{Outcome}
use Rattle.protocol.specs.declared.call.Outcome.TheVariants.{Going, Committed, Aborted}
use Rattle.protocol.specs.Lists.{without}
use Rattle.protocol.specs.Try.{Try, ◌>>◌, unless}
use Rattle.protocol.specs.Lines.{is_current}
use Rattle.protocol.specs.Record.{Note, number_of}
use Rattle.protocol.specs.Coordinator.{Coordinator, Phase, Idle, Opened, Locking, Checking, Backing, Installing, Aborting, is_opened, with_phase, with_next, with_record, with_queue, queue, line_at}
use Rattle.protocol.specs.Room.{primary_lines, backup_lines, primary_machines, backup_machines, regions_byte, is_roomy, one_if}
use Rattle.protocol.specs.State.{Local, with_own, in_phase}
use Rattle.protocol.specs.Call.{Accepted, accept}

-- the words read and not written, in order of reading
abbrev pub read_only : List Line → List Line → List Line
read_only rs ws = filter (λ r. not (is_some (line_at r.address ws))) rs

-- the phase in which a commit begins: locking, or checking where nothing is written, or idle where nothing is read
abbrev pub first_phase : Plan → List Line → List Line → Phase
first_phase p [] [] = Idle
first_phase p (r ∷ rs) [] = Checking (r ∷ rs)
first_phase p rs (w ∷ ws) = Locking (primary_machines p (w ∷ ws)) (primary_machines p (w ∷ ws)) false

-- a commit of nothing is reported at once
abbrev pub first_outcome : List Line → List Line → Outcome
first_outcome [] [] = Committed
first_outcome (r ∷ rs) [] = Going
first_outcome rs (w ∷ ws) = Going

abbrev pub begin : Plan → Coordinator → Coordinator
begin p k = with_phase (with_next k (suc k.next)) (first_phase p k.reads k.writes)

-- numbers end with 2^64 − 1; the room that the commit keeps must be there
abbrev pub commit_call : Plan → Local → Try Accepted
commit_call p x = do
  unless WrongPhase (is_opened x.own.phase)
  unless UsedUp (nat_lt x.own.next (2 ^ 64))
  unless NoRoom (is_roomy p (begin p x.own))
  accept x.own.next 0 (first_outcome x.own.reads x.own.writes) (with_own x (begin p x.own))

-- Sending: a record goes to the lowest machine still due.

-- the last number given
abbrev pub last_given : Coordinator → ℕ
last_given k = pred k.next

-- the record of a kind for machine m, of the transaction of coordinator c
abbrev pub record_for : Plan → ℕ → Coordinator → Kind → ℕ → Note
record_for p c k Lock m =
    record { kind = Lock; coordinator = c; number = last_given k; regions = regions_byte k.writes; lines = primary_lines p k.writes m }
record_for p c k CommitBackup m =
    record { kind = CommitBackup; coordinator = c; number = last_given k; regions = regions_byte k.writes; lines = backup_lines p k.writes m }
record_for p c k CommitPrimary m = record { kind = CommitPrimary; coordinator = c; number = last_given k; regions = 0; lines = [] }
record_for p c k Abort m = record { kind = Abort; coordinator = c; number = last_given k; regions = 0; lines = [] }
record_for p c k Truncate m = record { kind = Truncate; coordinator = c; number = last_given k; regions = 0; lines = [] }

-- the record is written, and the coordinator goes on in the given phase
abbrev pub sent : Plan → ℕ → Local → Kind → ℕ → Phase → Outcome → Try Accepted
sent p c x kind m phase o =
    accept m (number_of kind) o (with_own x (with_phase (with_record x.own m (record_for p c x.own kind m)) phase))

-- with no machine left: installing follows backing, and the coordinator is idle after the last COMMIT-PRIMARY or ABORT
abbrev pub after_backup : Plan → Coordinator → List ℕ → Phase
after_backup p k [] = Installing false (primary_machines p k.writes)
after_backup p k (m ∷ ms) = Backing (m ∷ ms)

abbrev pub after_install : List ℕ → Phase
after_install [] = Idle
after_install (m ∷ ms) = Installing true (m ∷ ms)

abbrev pub after_abort : List ℕ → Phase
after_abort [] = Idle
after_abort (m ∷ ms) = Aborting (m ∷ ms)

-- the first COMMIT-PRIMARY reports the commit
unfoldable pub send_in : Plan → ℕ → Local → Phase → Try Accepted
send_in p c x Idle = Err WrongPhase
send_in p c x Opened = Err WrongPhase
send_in p c x (Locking [] awaited denied) = Err Nothing
send_in p c x (Locking (m ∷ ms) awaited denied) = sent p c x Lock m (Locking ms awaited denied) Going
send_in p c x (Checking ls) = Err WrongPhase
send_in p c x (Backing []) = Err Nothing
send_in p c x (Backing (m ∷ ms)) = sent p c x CommitBackup m (after_backup p x.own ms) Going
send_in p c x (Installing reported []) = Err Nothing
send_in p c x (Installing reported (m ∷ ms)) = sent p c x CommitPrimary m (after_install ms) (cond reported Going Committed)
send_in p c x (Aborting []) = Err Nothing
send_in p c x (Aborting (m ∷ ms)) = sent p c x Abort m (after_abort ms) Going

abbrev pub send_call : Plan → ℕ → Local → Try Accepted
send_call p c x = send_in p c x x.own.phase

-- Taking a reply.

abbrev pub after_checks : Plan → Coordinator → List Line → Phase
after_checks p k [] = Backing (backup_machines p k.writes)
after_checks p k (r ∷ rs) = Checking (r ∷ rs)

-- with more replies awaited it stays locking; after the last a no aborts, else the words read and not written are checked, if any
unfoldable pub taken : Plan → Local → List ℕ → List ℕ → Bool → ℕ → Try Accepted
taken p x due (m ∷ ms) denied granted = accept granted 0 Going (in_phase x (Locking due (m ∷ ms) denied))
taken p x due [] true granted = accept granted 0 Aborted (in_phase x (Aborting (primary_machines p x.own.writes)))
taken p x due [] false granted = accept granted 0 Going (in_phase x (after_checks p x.own (read_only x.own.reads x.own.writes)))

unfoldable pub take_reply : Plan → Local → ℕ → List ℕ → List ℕ → Bool → List Reply → Try Accepted
take_reply p x m due awaited denied [] = Err Nothing
take_reply p x m due awaited denied (r ∷ rs) =
    taken p (with_own x (with_queue x.own m rs)) due (without m awaited) (denied || not r.yes) (one_if r.yes)

unfoldable pub take_in : Plan → Local → ℕ → Phase → Try Accepted
take_in p x m Idle = Err WrongPhase
take_in p x m Opened = Err WrongPhase
take_in p x m (Locking due awaited denied) = take_reply p x m due awaited denied (queue x.own m)
take_in p x m (Checking ls) = Err WrongPhase
take_in p x m (Backing due) = Err WrongPhase
take_in p x m (Installing reported due) = Err WrongPhase
take_in p x m (Aborting due) = Err WrongPhase

abbrev pub take_call : Plan → Local → ℕ → Try Accepted
take_call p x m = do
  unless NoMachine (nat_lt m p.machines)
  take_in p x m x.own.phase

-- Checking the next word read and not written.

abbrev pub after_failed : Plan → List Line → Phase
after_failed p [] = Idle
after_failed p (w ∷ ws) = Aborting (primary_machines p (w ∷ ws))

-- the last check passed: a commit is reported where nothing was written
unfoldable pub last_passed : Plan → Local → ℕ → List Line → Try Accepted
last_passed p x a [] = accept a 1 Committed (in_phase x Idle)
last_passed p x a (w ∷ ws) = accept a 1 Going (in_phase x (Backing (backup_machines p (w ∷ ws))))

unfoldable pub checked : Plan → Local → ℕ → List Line → Bool → Try Accepted
checked p x a ls false = accept a 0 Aborted (in_phase x (after_failed p x.own.writes))
checked p x a [] true = last_passed p x a x.own.writes
checked p x a (l ∷ ls) true = accept a 1 Going (in_phase x (Checking (l ∷ ls)))

unfoldable pub check_in : Plan → Local → Phase → Try Accepted
check_in p x Idle = Err WrongPhase
check_in p x Opened = Err WrongPhase
check_in p x (Locking due awaited denied) = Err WrongPhase
check_in p x (Checking []) = Err WrongPhase
check_in p x (Checking (l ∷ ls)) = checked p x l.address ls (is_current x.primaries l)
check_in p x (Backing due) = Err WrongPhase
check_in p x (Installing reported due) = Err WrongPhase
check_in p x (Aborting due) = Err WrongPhase

abbrev pub check_call : Plan → Local → Try Accepted
check_call p x = check_in p x x.own.phase
