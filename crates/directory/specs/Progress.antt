-- How a transaction goes on: the words left to check, and what a reply or a check leaves of it.
use Rattle.std.specs.Prelude.{◌≡◌, ℕ, Bool, false, not, ◌||◌, List, [], ◌∷◌, drop, Some, None, Option, slice_set}
use Rattle.protocol.specs.declared.plan.Plan.{Plan}
use Rattle.protocol.specs.declared.record.Line.{Line}
use Rattle.protocol.specs.declared.call.Outcome.{Outcome}
use Rattle.protocol.specs.Room.{is_at_primary, one_if}
use Rattle.protocol.specs.Coordinator.{new_coordinator, with_words}
use Rattle.protocol.specs.State.{Local, in_phase}
use Rattle.protocol.specs.Call.{accept}
use Rattle.protocol.specs.Commit.{read_only, taken, checked, after_checks}
use Rattle.directory.specs.declared.tables.Locking.{Locking}
use Rattle.directory.specs.declared.tables.Phase.{Phase}
use Rattle.directory.specs.declared.tables.Work.{Work}
use Rattle.directory.specs.View.{phase_of, reads_of, writes_of, due_from, awaited_of}

-- the words behind the first n reads that are not written
abbrev pub unwritten_from : Work → ℕ → List Line
unwritten_from t n = read_only (drop n (reads_of t)) (writes_of t)

-- behind the first n reads no word is left to check, or the next one stands last among so many reads
abbrev pub NextUnwritten : Work → ℕ → Option (ℕ × Line) → Type 0
NextUnwritten t n None = unwritten_from t n ≡ []
NextUnwritten t n (Some x) = unwritten_from t n ≡ x.1 ∷ unwritten_from t x.0

-- ph checks all words read and not written, or where there are none the backups are due
abbrev pub ChecksFrom : Work → Phase → Type 0
ChecksFrom t ph = (p : Plan) → phase_of p t ph ≡ after_checks p (with_words (new_coordinator p) (reads_of t) (writes_of t)) (read_only (reads_of t) (writes_of t))

-- the next number, the words read and the words written are as they were
pub record Keeps (t after : Work) : Type 0 where
  pub next : after.next ≡ t.next
  pub reads : reads_of after ≡ reads_of t
  pub writes : writes_of after ≡ writes_of t

-- a reply of machine m came: it is no longer awaited, and a no is remembered
pub record Came (l : Locking) (m : ℕ) (granted : Bool) (after : Locking) : Type 0 where
  pub awaited : after.awaited ≡ slice_set l.awaited m false
  pub denied : after.denied ≡ (l.denied || not granted)
  pub due : after.due ≡ l.due

-- a reply came, and l is left to come: the outcome, and the phase after it, are those that the protocol gives
pub record AfterReply (p : Plan) (t : Work) (l : Locking) (after : Work) (o : Outcome) : Type 0 where
  pub goes_on : (x : Local) (n : ℕ) → x.own.reads ≡ reads_of t → x.own.writes ≡ writes_of t
      → taken p x (due_from p l.due (is_at_primary p (writes_of t))) (awaited_of p l) l.denied n ≡ accept n 0 o (in_phase x (phase_of p after after.phase))
  pub kept : Keeps t after

-- a check of the word that stands last among the first n reads: the same
pub record AfterCheck (t : Work) (n : ℕ) (current : Bool) (after : Work) (o : Outcome) : Type 0 where
  pub goes_on : (p : Plan) (x : Local) (a : ℕ) → x.own.writes ≡ writes_of t
      → checked p x a (unwritten_from t n) current ≡ accept a (one_if current) o (in_phase x (phase_of p after after.phase))
  pub kept : Keeps t after
