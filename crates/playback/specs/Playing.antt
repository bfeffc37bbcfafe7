-- What the parts of playing a step file promise.
use Rattle.std.specs.Prelude.{◌≡◌, ℕ, ◌≤◌, Bool, true, List, ◌++◌, length, Ok, Err, OnOk, Result}
use Rattle.std.specs.declared.alloc.AllocError.{AllocError}
use Rattle.std.specs.Iterator.Adapters.{enumerate_source, enumerate_count}
use Rattle.std.specs.declared.iter.Enumerate.{Enumerate}
use Rattle.protocol.specs.declared.plan.Plan.{Plan}
use Rattle.protocol.specs.declared.call.Call.{Call}
use Rattle.protocol.specs.declared.call.Answer.{Answer}
use Rattle.protocol.specs.declared.call.Refusal.{Refusal}
use Rattle.protocol.specs.Lines.{Words}
use Rattle.protocol.specs.Plan.{is_fine, size}
use Rattle.directory.specs.View.{World}
use Rattle.directory.specs.Calls.{Does, Ready}
use Rattle.service.specs.declared.owner.Directory.{Directory}
use Rattle.service.specs.declared.make.Unmade.{Unmade}
use Rattle.service.specs.declared.make.Unmade.TheVariants.{Refused, NoMemory}
use Rattle.service.specs.Owned.{plan_of, owned}
use Rattle.steps.specs.declared.sequence.IntoIter.{IntoIter}
use Rattle.steps.specs.Frames.{Position}
use Rattle.steps.specs.Reading.{steps_left}
use Rattle.steps.specs.Sequence.{steps_from}
use Rattle.steps.specs.declared.fault.EntryFault.{EntryFault}
use Rattle.steps.specs.declared.fault.RunFault.TheVariants.{SetUp}
use Rattle.playback.specs.declared.transcript.Stop.{Stop}
use Rattle.playback.specs.declared.transcript.Stop.TheVariants.{Fault, NoMemory as OutOfMemory}
use Rattle.playback.specs.Names.{name_of}
use Rattle.playback.specs.Transcript.{answer_line, fault_line, made, start_of}

-- a call does what it promises, and the text has its line behind what it had
abbrev pub Tells : Plan → World → World → ℕ → Call → List ℕ → List ℕ → Type 0
Tells p was after n call before now = (r : Result Answer Refusal) × Does p was after r call × (now ≡ before ++ answer_line n (name_of call) r)

-- The text was `was` and is `after`, and what was played is told. A fault is told by whoever gets it; want of memory is not told.
abbrev pub Plays : List ℕ → List ℕ → List ℕ → Result (Unit {0}) Stop → Type 0
Plays was after told (Ok u) = after ≡ was ++ told
Plays was after told (Err (Fault f)) = after ++ fault_line f ≡ was ++ told
Plays was after told (Err (OutOfMemory e)) = Unit {0}

-- the fault that stopped the play is told; for want of memory nothing is
abbrev pub Ends : Stop → List ℕ → List ℕ → Result (Unit {0}) AllocError → Type 0
Ends (Fault f) was after r = OnOk r (after ≡ was ++ fault_line f)
Ends (OutOfMemory e) was after r = r ≡ Err e

-- what stops the play where a set-up at a place made no directory
abbrev pub stop_at : ℕ → Unmade → Stop
stop_at place (Refused refusal) = Fault (SetUp refusal place)
stop_at place (NoMemory e) = OutOfMemory e

-- the steps that are left are numbered from n on; a file has no more of them than bytes
pub record Numbered (n : ℕ) (steps : Enumerate IntoIter) : Type 0 where
  pub first : enumerate_count steps ≡ n
  pub few : length (steps_left (enumerate_source steps)) ≤ 65536

-- the steps of a file that opens, numbered from 0, or why it does not
abbrev pub Opens : List ℕ → Result (Enumerate IntoIter) EntryFault → Type 0
Opens bytes (Ok steps) = Numbered 0 steps × (start : Position) × (start_of bytes ≡ Ok start) × (steps_left (enumerate_source steps) ≡ steps_from start)
Opens bytes (Err f) = start_of bytes ≡ Err f

module _ {P F S : Type 0} (words_p : P → Words) (words_f : F → Words) (words_s : S → Words) where
  -- a directory in the protocol's start, for an accepted plan
  pub record Starts (d : Directory P F S) : Type 0 where
    pub fine : is_fine (plan_of d) ≡ true
    pub ready : Ready (plan_of d) (owned words_p words_f words_s d)

  -- a directory of the plan in the protocol's start, or the refusal; want of memory is not told
  abbrev pub Sets : (ℕ → Bool) → Plan → Result (Directory P F S) Unmade → Type 0
  Sets fits p (Ok d) = (plan_of d ≡ p) × (made fits p ≡ Ok (size p)) × Starts d
  Sets fits p (Err (Refused n)) = made fits p ≡ Err n
  Sets fits p (Err (NoMemory e)) = Unit {0}
