-- For which states of the protocol a ticket stands.
use Rattle.std.specs.Prelude.{◌≡◌, ℕ, Bool, true, false, not, ◌⊎◌, Some, None, Ok, Err, Option, Result, ◌==◌}
use Rattle.memory.specs.declared.make.Rejected.{Rejected}
use Rattle.protocol.specs.declared.plan.Plan.{Plan}
use Rattle.protocol.specs.declared.call.Call.{Call}
use Rattle.protocol.specs.declared.call.Call.TheVariants.{Open, Read, Write, Abandon, Commit, Send, Poll, Take, Check, Trim}
use Rattle.protocol.specs.declared.call.Outcome.{Outcome}
use Rattle.protocol.specs.declared.call.Outcome.TheVariants.{Going, Committed, Aborted}
use Rattle.protocol.specs.declared.call.Answer.{Answer}
use Rattle.protocol.specs.declared.call.Refusal.{Refusal}
use Rattle.protocol.specs.Coordinator.{Phase, Idle, Opened, Locking, Checking, Backing, Installing, Aborting}
use Rattle.protocol.specs.State.{State}
use Rattle.directory.specs.View.{World, view}
use Rattle.directory.specs.Sound.{Sound}
use Rattle.directory.specs.Calls.{Does}
use Rattle.tickets.specs.declared.draft.Draft.{Draft}
use Rattle.tickets.specs.declared.filing.Filing.{Filing}
use Rattle.tickets.specs.declared.filing.Progress.{Progress}
use Rattle.tickets.specs.declared.filing.Progress.TheVariants.{GoesOn, Ended}

abbrev pub phase_at : State → ℕ → Phase
phase_at s c = (s.coordinators c).phase

-- what was reported of the transaction that a coordinator carries to its end; nothing carries one that is idle or open
abbrev pub reported_in : Phase → Option Outcome
reported_in Idle = None
reported_in Opened = None
reported_in (Locking due awaited denied) = Some Going
reported_in (Checking ls) = Some Going
reported_in (Backing due) = Some Going
reported_in (Installing false due) = Some Going
reported_in (Installing true due) = Some Committed
reported_in (Aborting due) = Some Aborted

-- a draft stands while its coordinator is open
abbrev pub IsOpen : State → Draft → Type 0
IsOpen s d = phase_at s d.coordinator ≡ Opened

-- such a draft is left standing
abbrev pub StaysOpen : Plan → World → World → Draft → Type 0
StaysOpen p was after d = Sound p was → IsOpen (view p was) d → IsOpen (view p after) d

-- a filing stands while its coordinator is locking, checking, backing, installing or aborting, and it remembers what was reported
abbrev pub Stands : State → Filing → Type 0
Stands s f = reported_in (phase_at s f.coordinator) ≡ Some f.reported

-- a transaction is over: its coordinator is idle, and it committed or aborted
abbrev pub IsOver : Phase → Outcome → Type 0
IsOver phase o = (phase ≡ Idle) × ((o ≡ Committed) ⊎ (o ≡ Aborted))

-- an outcome is reported once: after one was reported a call reports none
abbrev pub IsOnce : Outcome → Outcome → Type 0
IsOnce before o = (before ≡ Going) ⊎ (o ≡ Going)

-- what an accepted call of coordinator c leaves
abbrev pub Follows : State → ℕ → Progress → Type 0
Follows s c (GoesOn f a) = (f.coordinator ≡ c) × Stands s f
Follows s c (Ended o) = IsOver (phase_at s c) o

-- and any call with a ticket: a refused one hands it back, and it stands
abbrev pub Goes : {T : Type 0} → (State → T → Type 0) → State → ℕ → Result Progress (Rejected Refusal T) → Type 0
Goes stands s c (Ok r) = Follows s c r
Goes stands s c (Err h) = stands s h.given

-- an abandon
abbrev pub DraftEnds : State → ℕ → Result Outcome (Rejected Refusal Draft) → Type 0
DraftEnds s c (Ok o) = (phase_at s c ≡ Idle) × (o ≡ Aborted)
DraftEnds s c (Err h) = IsOpen s h.given

-- the calls that a ticket of coordinator c does not make: polls, trims, and those of other coordinators
abbrev pub is_others : ℕ → Call → Bool
is_others c (Open d) = not (d == c)
is_others c (Read d a) = not (d == c)
is_others c (Write d a v) = not (d == c)
is_others c (Abandon d) = not (d == c)
is_others c (Commit d) = not (d == c)
is_others c (Send d) = not (d == c)
is_others c (Poll d m) = true
is_others c (Take d m) = not (d == c)
is_others c (Check d) = not (d == c)
is_others c (Trim d m) = true

-- such a call of the directory, accepted or refused, leaves every ticket that stands standing
pub record KeptByOthers : Type 0 where
  pub drafts : (p : Plan) (was after : World) (r : Result Answer Refusal) (call : Call) (d : Draft) → Does p was after r call → Sound p was
      → is_others d.coordinator call ≡ true → IsOpen (view p was) d → IsOpen (view p after) d
  pub filings : (p : Plan) (was after : World) (r : Result Answer Refusal) (call : Call) (f : Filing) → Does p was after r call → Sound p was
      → is_others f.coordinator call ≡ true → Stands (view p was) f → Stands (view p after) f
