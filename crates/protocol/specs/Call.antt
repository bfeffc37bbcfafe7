-- The ten calls and their answers.
use Rattle.std.specs.Prelude.{ℕ, List, [], ◌∷◌, Ok, Err, Result}
use Rattle.protocol.specs.declared.call.Call.{Call}
use Rattle.protocol.specs.declared.call.Call.TheVariants.{Open, Read, Write, Abandon, Commit, Send, Poll, Take, Check, Trim}
use Rattle.protocol.specs.declared.call.Outcome.{Outcome}
use Rattle.protocol.specs.declared.call.Outcome.TheVariants.{Going, Committed, Aborted}
use Rattle.protocol.specs.declared.call.Answer.{Answer}
use Rattle.protocol.specs.declared.call.Refusal.{Refusal}
use Rattle.protocol.specs.declared.call.Refusal.TheVariants.{BadPlan, BadTables, NoCoordinator, NoMachine, WrongPhase, NoAddress, TooMany, NotRead, UsedUp, NoRoom, Nothing}
use Rattle.protocol.specs.Try.{Try}
use Rattle.protocol.specs.State.{Local}

-- the coordinator that a call is made on
abbrev pub coordinator_of : Call → ℕ
coordinator_of (Open c) = c
coordinator_of (Read c a) = c
coordinator_of (Write c a v) = c
coordinator_of (Abandon c) = c
coordinator_of (Commit c) = c
coordinator_of (Send c) = c
coordinator_of (Poll c m) = c
coordinator_of (Take c m) = c
coordinator_of (Check c) = c
coordinator_of (Trim c m) = c

-- 0 unless this call reports a commit or an abort
abbrev pub outcome_number : Outcome → ℕ
outcome_number Going = 0
outcome_number Committed = 1
outcome_number Aborted = 2

abbrev pub refusal_number : Refusal → ℕ
refusal_number BadPlan = 1
refusal_number BadTables = 2
refusal_number NoCoordinator = 3
refusal_number NoMachine = 4
refusal_number WrongPhase = 5
refusal_number NoAddress = 6
refusal_number TooMany = 7
refusal_number NotRead = 8
refusal_number UsedUp = 9
refusal_number NoRoom = 10
refusal_number Nothing = 11

-- an answer as its four numbers: refusal, two numbers, outcome
abbrev pub numbers : Result Answer Refusal → List ℕ
numbers (Err n) = refusal_number n ∷ 0 ∷ 0 ∷ 0 ∷ []
numbers (Ok a) = 0 ∷ a.first ∷ a.second ∷ outcome_number a.outcome ∷ []

-- a call with the answer that it got
pub record Entry : Type 0 where
  pub call : Call
  pub answer : Result Answer Refusal

-- an accepted call: its answer, and what it leaves
pub record Accepted : Type 0 where
  pub answer : Answer
  pub after : Local

abbrev pub answered : ℕ → ℕ → Outcome → Answer
answered a b o = record { first = a; second = b; outcome = o }

abbrev pub accept : ℕ → ℕ → Outcome → Local → Try Accepted
accept a b o x = Ok (record { answer = answered a b o; after = x })
