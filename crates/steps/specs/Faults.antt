-- The numbers of each fault: its cause, its place and its layer.
use Rattle.std.specs.Prelude.{ℕ, List, ◌++◌, codes, decimal}
use Rattle.protocol.specs.Call.{refusal_number}
use Rattle.steps.specs.declared.fault.FrameFault.{FrameFault}
use Rattle.steps.specs.declared.fault.FrameFault.TheVariants.{TooLong, BadVersion, CutShort}
use Rattle.steps.specs.declared.fault.EntryFault.{EntryFault}
use Rattle.steps.specs.declared.fault.EntryFault.TheVariants.{Frame, UnknownKind, WrongLength, OutOfOrder}
use Rattle.steps.specs.declared.fault.RunFault.{RunFault}
use Rattle.steps.specs.declared.fault.RunFault.TheVariants.{Entry, SetUp}

-- a fault as it is printed
pub record Numbers : Type 0 where
  pub cause : ℕ
  pub place : ℕ
  pub layer : ℕ

-- a row of the tables below: cause, place and layer
abbrev pub numbers : ℕ → ℕ → ℕ → Numbers
numbers c p l = record { cause = c; place = p; layer = l }

-- layer 1: the place of a file that is too long is the first byte past the limit, and that of a wrong version byte is
-- the version byte's; every other fault has the place of its entry's first byte
abbrev pub frame_numbers : FrameFault → Numbers
frame_numbers TooLong = numbers 12 65536 1
frame_numbers BadVersion = numbers 13 0 1
frame_numbers (CutShort p) = numbers 14 p 1

-- layer 2; a fault of layer 1 keeps its numbers
abbrev pub entry_numbers : EntryFault → Numbers
entry_numbers (Frame f) = frame_numbers f
entry_numbers (UnknownKind p) = numbers 15 p 2
entry_numbers (WrongLength p) = numbers 16 p 2
entry_numbers (OutOfOrder p) = numbers 17 p 2

-- layer 3: a refused set-up has its refusal's number as the cause; a fault of a lower layer keeps its numbers
abbrev pub run_numbers : RunFault → Numbers
run_numbers (Entry f) = entry_numbers f
run_numbers (SetUp refusal p) = numbers (refusal_number refusal) p 3

-- the three numbers as they are printed
abbrev pub text : Numbers → List ℕ
text n = codes "fault " ++ decimal n.cause ++ codes " " ++ decimal n.place ++ codes " " ++ decimal n.layer
