-- What a coordinator sends in a phase, and how it goes on from there.
use Rattle.std.specs.Prelude.{◌≡◌, ◌⊎◌, ℕ, ◌+◌, ◌<◌, cond, List, Some, None, Ok, Err, Option, Result}
use Rattle.protocol.specs.declared.plan.Plan.{Plan}
use Rattle.protocol.specs.declared.record.Kind.{Kind}
use Rattle.protocol.specs.declared.record.Kind.TheVariants.{Lock, CommitBackup, CommitPrimary, Abort}
use Rattle.protocol.specs.declared.call.Refusal.{Refusal}
use Rattle.protocol.specs.declared.call.Refusal.TheVariants.{WrongPhase, Nothing}
use Rattle.protocol.specs.declared.call.Outcome.{Outcome}
use Rattle.protocol.specs.declared.call.Outcome.TheVariants.{Going, Committed}
use Rattle.protocol.specs.Coordinator as protocol
use Rattle.protocol.specs.Coordinator.{new_coordinator, with_words}
use Rattle.protocol.specs.Commit.{after_backup, after_install, after_abort}
use Rattle.handling.specs.Sending.{due_from, first_machine}
use Rattle.directory.specs.declared.tables.Phase.{Phase}
use Rattle.directory.specs.declared.tables.Phase.TheVariants.{Idle, Open, Locking, Checking, Backing, Installing, Aborting}
use Rattle.directory.specs.declared.tables.Work.{Work}
use Rattle.directory.specs.View.{phase_of, next_of, reads_of, writes_of, awaited_of}
use Rattle.directory.specs.Work.{StandsFor}

-- the kind of the records that are sent in a phase, and the first machine that may still be due one
abbrev pub due_in : Phase → Option (Kind × ℕ)
due_in Idle = None
due_in Open = None
due_in (Locking l) = Some (Lock, l.due)
due_in (Checking passed) = None
due_in (Backing due) = Some (CommitBackup, due)
due_in (Installing due reported) = Some (CommitPrimary, due)
due_in (Aborting due) = Some (Abort, due)

-- the lowest machine that is still due the phase's record, with its kind; else the phase sends nothing, or no machine is left
abbrev pub IsNext : Plan → Work → Result (Kind × ℕ) Refusal → Type 0
IsNext p t (Ok x) =
    (x.1 < p.machines) × ((from : ℕ) × (Some (x.0, from) ≡ due_in t.phase) × (Some x.1 ≡ first_machine (due_from p x.0 (writes_of t) from)))
IsNext p t (Err n) =
    ((n ≡ WrongPhase) × (None ≡ due_in t.phase))
    ⊎ ((n ≡ Nothing) × ((kind : Kind) × (from : ℕ) × (Some (kind, from) ≡ due_in t.phase) × (None ≡ first_machine (due_from p kind (writes_of t) from))))

-- the first COMMIT-PRIMARY reports the commit
abbrev pub reports : Phase → Outcome
reports Idle = Going
reports Open = Going
reports (Locking l) = Going
reports (Checking passed) = Going
reports (Backing due) = Going
reports (Installing due reported) = cond reported Going Committed
reports (Aborting due) = Going

-- the phase once a record is sent and the machines ms are still due one; what follows backing depends on nothing but the
-- words of the transaction, and a phase that sends nothing stays
unfoldable pub gone_on : Plan → Work → Phase → List ℕ → protocol.Phase
gone_on p t Idle ms = protocol.Idle
gone_on p t Open ms = protocol.Opened
gone_on p t (Locking l) ms = protocol.Locking ms (awaited_of p l) l.denied
gone_on p t (Checking passed) ms = phase_of p t (Checking passed)
gone_on p t (Backing due) ms = after_backup p (with_words (new_coordinator p) (reads_of t) (writes_of t)) ms
gone_on p t (Installing due reported) ms = after_install ms
gone_on p t (Aborting due) ms = after_abort ms

-- ph is the phase with records due to the machines from d on, or after the last the phase that follows
abbrev pub GoesOn : Plan → Work → ℕ → Phase → Type 0
GoesOn p t d ph = (kind : Kind) (from : ℕ) → Some (kind, from) ≡ due_in t.phase → phase_of p t ph ≡ gone_on p t t.phase (due_from p kind (writes_of t) d)

-- machine m has its record: those from m + 1 on are left
abbrev pub GoneOn : Plan → Work → ℕ → Work → Type 0
GoneOn p t m u = (kind : Kind) (from : ℕ) → Some (kind, from) ≡ due_in t.phase
    → StandsFor p u (gone_on p t t.phase (due_from p kind (writes_of t) (m + 1))) (next_of t.next) (reads_of t) (writes_of t)
