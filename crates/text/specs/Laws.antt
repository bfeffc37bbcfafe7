-- What reading a text and writing one have to do with each other, and with the steps of the file.
use Rattle.std.specs.Prelude.{◌≡◌, ℕ, List, Ok, Err, Result, IsOk}
use Rattle.steps.specs.declared.decode.Step.{Step}
use Rattle.steps.specs.declared.fault.EntryFault.{EntryFault}
use Rattle.steps.specs.declared.fault.EntryFault.TheVariants.{Frame, UnknownKind, WrongLength, OutOfOrder}
use Rattle.steps.specs.Entries.{decoded}
use Rattle.text.specs.Parsing.{text_read}
use Rattle.text.specs.Printing.{entry_line, text_of}

-- a text stands for just these bytes
abbrev pub ReadsBack : List ℕ → List ℕ → Type 0
ReadsBack bytes text = text_read text ≡ Ok bytes

-- these bytes have a text
abbrev pub HasText : List ℕ → Type 0
HasText bytes = IsOk (text_of bytes)

-- an entry that stands for a step has a line, also where it is out of order; any other has the fault of the step
abbrev pub SameFault : Result Step EntryFault → Result (List ℕ) EntryFault → Type 0
SameFault (Ok s) line = IsOk line
SameFault (Err (OutOfOrder p)) line = IsOk line
SameFault (Err (UnknownKind p)) line = line ≡ Err (UnknownKind p)
SameFault (Err (WrongLength p)) line = line ≡ Err (WrongLength p)
SameFault (Err (Frame f)) line = line ≡ Err (Frame f)

-- so it is with every entry at every place
abbrev pub FaultsOfSteps : Type 0
FaultsOfSteps = (place : ℕ) (e : List ℕ) → SameFault (decoded place e) (entry_line place e)
