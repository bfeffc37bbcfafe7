-- One call, and a run of calls.
use Rattle.std.specs.Prelude.{ℕ, Bool, cond, List, [], ◌∷◌, Ok, Err, Result, nat_lt}
use Rattle.protocol.specs.declared.plan.Plan.{Plan}
use Rattle.protocol.specs.declared.call.Call.{Call}
use Rattle.protocol.specs.declared.call.Call.TheVariants.{Open, Read, Write, Abandon, Commit, Send, Poll, Take, Check, Trim}
use Rattle.protocol.specs.declared.call.Answer.{Answer}
use Rattle.protocol.specs.declared.call.Refusal.{Refusal}
use Rattle.protocol.specs.declared.call.Refusal.TheVariants.{BadPlan, BadTables, NoCoordinator}
use Rattle.protocol.specs.Try.{Try, ◌>>◌, unless}
use Rattle.protocol.specs.Plan.{is_fine, size}
use Rattle.protocol.specs.State.{State, Local, start, local_at, with_local}
use Rattle.protocol.specs.Call.{Accepted, Entry, coordinator_of}
use Rattle.protocol.specs.Transact.{open_call, read_call, write_call, abandon_call}
use Rattle.protocol.specs.Commit.{commit_call, send_call, take_call, check_call}
use Rattle.protocol.specs.Poll.{poll_call, trim_call}

-- a call of a coordinator that is there
unfoldable pub local_call : Plan → Local → Call → Try Accepted
local_call p x (Open c) = open_call x
local_call p x (Read c a) = read_call p x a
local_call p x (Write c a v) = write_call p x a v
local_call p x (Abandon c) = abandon_call x
local_call p x (Commit c) = commit_call p x
local_call p x (Send c) = send_call p c x
local_call p x (Poll c m) = poll_call p c x m
local_call p x (Take c m) = take_call p x m
local_call p x (Check c) = check_call p x
local_call p x (Trim c m) = trim_call p c x m

abbrev pub try_call : Plan → State → Call → Try Accepted
try_call p s call = do
  unless NoCoordinator (nat_lt (coordinator_of call) p.coordinators)
  local_call p (local_at s (coordinator_of call)) call

-- what a call answers, and the state that it leaves
pub record Stepped : Type 0 where
  pub answer : Result Answer Refusal
  pub state : State

abbrev pub stepped : Result Answer Refusal → State → Stepped
stepped r s = record { answer = r; state = s }

-- a refused call leaves the state as it is
abbrev pub settle : State → ℕ → Try Accepted → Stepped
settle s c (Err n) = stepped (Err n) s
settle s c (Ok a) = stepped (Ok a.answer) (with_local s c a.after)

abbrev pub step : Plan → State → Call → Stepped
step p s call = settle s (coordinator_of call) (try_call p s call)

-- Set-up checks the plan, and then that the lent tables are long enough and each memory has the plan's words;
-- it answers the number of addresses.
abbrev pub set_up : Plan → Bool → Try ℕ
set_up p fits = do
  unless BadPlan (is_fine p)
  unless BadTables fits
  Ok (size p)

-- and every call makes these two checks before its own
abbrev pub step_behind_checks : Plan → Bool → State → Call → Stepped
step_behind_checks p fits s call = cond (is_fine p) (cond fits (step p s call) (stepped (Err BadTables) s)) (stepped (Err BadPlan) s)

-- what was called and answered, the newest first, and the state after it
pub record Run : Type 0 where
  pub history : List Entry
  pub state : State

abbrev pub extend : Plan → Run → Call → Run
extend p r call =
    let t = step p r.state call in
    record { history = record { call = call; answer = t.answer } ∷ r.history; state = t.state }

-- the calls, the oldest first, made after the run r
abbrev pub run_from : Plan → Run → List Call → Run
run_from p r [] = r
run_from p r (call ∷ calls) = run_from p (extend p r call) calls

abbrev pub run : Plan → List Call → Run
run p calls = run_from p (record { history = []; state = start p }) calls
