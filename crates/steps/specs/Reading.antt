-- What the program's readers and entries mean: bytes in the place of references to them.
use Rattle.std.specs.Prelude.{List, [], Some, None, Option, Result}
use Rattle.std.specs.Option as options
use Rattle.std.specs.Result as results
use Rattle.steps.specs.declared.fault.FrameFault.{FrameFault}
use Rattle.steps.specs.declared.frame.Entry.{Entry}
use Rattle.steps.specs.declared.frame.Reader.{Reader}
use Rattle.steps.specs.declared.fault.EntryFault.{EntryFault}
use Rattle.steps.specs.declared.sequence.IntoIter.{IntoIter}
use Rattle.steps.specs.declared.sequence.Placed.{Placed}
use Rattle.steps.specs.declared.sequence.Steps.{Steps}
use Rattle.steps.specs.Frames.{Framed, Position, at}
use Rattle.steps.specs.Sequence.{steps_from}

-- where a reader stands
abbrev pub position : Reader → Position
position r = at r.bytes.now r.place

-- where the reader of the steps stands
abbrev pub steps_position : Steps → Position
steps_position s = position s.reader

-- an entry that was handed out
abbrev pub meant : Entry → Framed
meant e = record { place = e.place; content = e.content.now }

-- what a reader's `next` answers
abbrev pub said : Result (Option Entry) FrameFault → Result (Option Framed) FrameFault
said r = results.result_map_both (options.option_map meant) (λ f. f) r

-- the steps that a file, if it is still read, has yet to hand out
abbrev pub steps_of : Option Steps → List (Result Placed EntryFault)
steps_of None = []
steps_of (Some s) = steps_from (steps_position s)

-- the steps that an iterator has yet to hand out
abbrev pub steps_left : IntoIter → List (Result Placed EntryFault)
steps_left it = steps_of it.left
