-- The lines that a step file is answered with.
use Rattle.std.specs.Prelude.{◌≡◌, ℕ, ◌*◌, ◌≤◌, suc, Bool, true, cond, ◌&&◌, List, [], ◌∷◌, ◌++◌, length, codes, decimal, Ok, Err, Result}
use Rattle.std.specs.Result.{result_map_both}
use Rattle.protocol.specs.declared.plan.Plan.{Plan}
use Rattle.protocol.specs.declared.call.Call.{Call}
use Rattle.protocol.specs.declared.call.Answer.{Answer}
use Rattle.protocol.specs.declared.call.Refusal.{Refusal}
use Rattle.protocol.specs.declared.call.Refusal.TheVariants.{BadPlan}
use Rattle.protocol.specs.declared.call.Outcome.TheVariants.{Going}
use Rattle.protocol.specs.Try.{Try}
use Rattle.protocol.specs.Plan.{size}
use Rattle.protocol.specs.Call.{Entry, answered, numbers}
use Rattle.protocol.specs.Step.{set_up, run}
use Rattle.steps.specs.declared.fault.EntryFault.{EntryFault}
use Rattle.steps.specs.declared.fault.EntryFault.TheVariants.{Frame}
use Rattle.steps.specs.declared.fault.RunFault.{RunFault}
use Rattle.steps.specs.declared.fault.RunFault.TheVariants.{Entry as OfEntry, SetUp as OfSetUp}
use Rattle.steps.specs.declared.decode.Step.{Step}
use Rattle.steps.specs.declared.decode.Step.TheVariants.{SetUp, Call as ACall}
use Rattle.steps.specs.declared.sequence.Placed.{Placed}
use Rattle.steps.specs.Faults.{run_numbers, text}
use Rattle.steps.specs.Frames.{Position, opened}
use Rattle.steps.specs.Sequence.{steps_from}
use Rattle.playback.specs.Names.{name_of}
use Rattle.playback.specs.Rows.{spaced}

-- a line's text with the line's end
abbrev pub line : List ℕ → List ℕ
line cs = cs ++ codes "\n"

-- the line of an entry: its number, its name, and the four numbers of its answer
abbrev pub answer_line : ℕ → List ℕ → Result Answer Refusal → List ℕ
answer_line n name answer = line (decimal n ++ (codes " " ++ (name ++ (codes " " ++ spaced (numbers answer)))))

abbrev pub fault_line : RunFault → List ℕ
fault_line f = line (text (run_numbers f))

-- the lines of calls that were made, the newest first; the set-up is entry 0
abbrev pub call_lines : List Entry → List ℕ
call_lines [] = []
call_lines (e ∷ es) = call_lines es ++ answer_line (suc (length es)) (name_of e.call) e.answer

-- What a step adds to what is told of the steps behind it. A further set-up would end the telling, but none comes: it is read as a fault.
abbrev pub with_call : Step → List Call → List Call
with_call (SetUp p) calls = []
with_call (ACall call) calls = call ∷ calls

abbrev pub behind : Step → List ℕ → List ℕ
behind (SetUp p) cs = []
behind (ACall call) cs = cs

-- the calls up to the first fault
abbrev pub calls_in : List (Result Placed EntryFault) → List Call
calls_in [] = []
calls_in (Err f ∷ steps) = []
calls_in (Ok x ∷ steps) = with_call x.step (calls_in steps)

-- the line of that fault, if there is one
abbrev pub fault_in : List (Result Placed EntryFault) → List ℕ
fault_in [] = []
fault_in (Err f ∷ steps) = fault_line (OfEntry f)
fault_in (Ok x ∷ steps) = behind x.step (fault_in steps)

-- the calls behind an accepted set-up, as the protocol makes them, and the fault that ends them
abbrev pub calls_told : Plan → List (Result Placed EntryFault) → List ℕ
calls_told p steps = call_lines (run p (calls_in steps)).history ++ fault_in steps

abbrev pub set_up_told : Plan → ℕ → List (Result Placed EntryFault) → Try ℕ → List ℕ
set_up_told p place steps (Err refusal) = fault_line (OfSetUp refusal place)
set_up_told p place steps (Ok n) = answer_line 0 (codes "setup") (Ok (answered n 0 Going)) ++ calls_told p steps

-- where the first step is read, or why the file does not open
abbrev pub start_of : List ℕ → Result Position EntryFault
start_of bytes = result_map_both (λ p. p) Frame (opened bytes)

-- of which sizes there is a memory
module _ (fits : ℕ → Bool) where
  -- a plan of a size that no memory has is a bad plan
  abbrev pub made : Plan → Try ℕ
  made p = cond (fits (size p)) (set_up p true) (Err BadPlan)

  -- the first step is the set-up; a call in its place would tell nothing, but none comes: it is read as a fault
  abbrev pub first_told : ℕ → List (Result Placed EntryFault) → Step → List ℕ
  first_told place steps (SetUp p) = set_up_told p place steps (made p)
  first_told place steps (ACall call) = []

  abbrev pub steps_told : List (Result Placed EntryFault) → List ℕ
  steps_told [] = []
  steps_told (Err f ∷ steps) = fault_line (OfEntry f)
  steps_told (Ok x ∷ steps) = first_told x.place steps x.step

  abbrev pub opened_told : Result Position EntryFault → List ℕ
  opened_told (Err f) = fault_line (OfEntry f)
  opened_told (Ok start) = steps_told (steps_from start)

  -- the text that the bytes of a step file are answered with
  unfoldable pub told_by : List ℕ → List ℕ
  told_by bytes = opened_told (start_of bytes)

-- the same where there is a memory of every plan's size
abbrev pub told : List ℕ → List ℕ
told = told_by (λ n. true)

-- there is a memory of that size of each of three makes
abbrev pub each_fits : (ℕ → Bool) → (ℕ → Bool) → (ℕ → Bool) → ℕ → Bool
each_fits f g h n = f n && (g n && h n)

-- there is one of every plan's size: a plan has 1 to 8 regions of 64 words
abbrev pub FitsPlans : (ℕ → Bool) → Type 0
FitsPlans fits = (r : ℕ) → 1 ≤ r → r ≤ 8 → fits (64 * r) ≡ true
