-- Which steps a file hands out.
use Rattle.std.specs.Prelude.{ℕ, zero, suc, ◌-◌, List, [], ◌∷◌, length, Some, None, Ok, Err, Option, Result}
use Rattle.std.specs.Result.{result_map_both}
use Rattle.steps.specs.declared.fault.FrameFault.{FrameFault}
use Rattle.steps.specs.declared.fault.EntryFault.{EntryFault}
use Rattle.steps.specs.declared.fault.EntryFault.TheVariants.{Frame}
use Rattle.steps.specs.declared.sequence.Placed.{Placed}
use Rattle.steps.specs.Entries.{decoded}
use Rattle.steps.specs.Frames.{Framed, Position, at, entry_at, end_of}

-- the step of what the reader says
abbrev pub step_of : Result (Option Framed) FrameFault → Result (Option Placed) EntryFault
step_of (Err f) = Err (Frame f)
step_of (Ok None) = Ok None
step_of (Ok (Some e)) = result_map_both (λ s. Some (record { place = e.place; step = s })) (λ f. f) (decoded e.place e.content)

-- what is read at a position: a step, the end of the file, or a fault
abbrev pub step_at : Position → Result (Option Placed) EntryFault
step_at p = step_of (entry_at p)

-- a step moves the position behind its entry; a fault and the end leave it, so that the same is read again
abbrev pub moved : Position → Result (Option Placed) EntryFault → Position
moved p (Err f) = p
moved p (Ok None) = p
moved p (Ok (Some s)) = at p.file (end_of p)

-- a step and then the others; the end of the file and a fault have nothing behind them
abbrev pub and_then : Result (Option Placed) EntryFault → List (Result Placed EntryFault) → List (Result Placed EntryFault)
and_then (Err f) others = Err f ∷ []
and_then (Ok None) others = []
and_then (Ok (Some s)) others = Ok s ∷ others

-- the steps from a position on, where it is read `n` times
unfoldable pub sequence : ℕ → Position → List (Result Placed EntryFault)
sequence zero p = []
sequence (suc n) p = and_then (step_at p) (sequence n (moved p (step_at p)))

-- all steps from a position on, up to the first fault: each has a byte at least
abbrev pub steps_from : Position → List (Result Placed EntryFault)
steps_from p = sequence (length p.file - p.place) p
