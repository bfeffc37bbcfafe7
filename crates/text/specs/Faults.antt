-- What is said of a fault, and when want of memory may take the place of an answer.
use Rattle.std.specs.Prelude.{◌≡◌, ℕ, List, ◌++◌, codes, decimal, Ok, Err, Result, MatchResult}
use Rattle.steps.specs.declared.fault.EntryFault.{EntryFault}
use Rattle.steps.specs.declared.fault.RunFault.TheVariants.{Entry}
use Rattle.steps.specs.Faults.{run_numbers, text}
use Rattle.steps.specs.declared.write.WriteFault.{WriteFault}
use Rattle.steps.specs.declared.write.WriteFault.TheVariants as write
use Rattle.steps.specs.declared.write.WriteFault.TheVariants.{EntryTooLong}
use Rattle.text.specs.declared.fault.FileFault.{FileFault}
use Rattle.text.specs.declared.fault.FileFault.TheVariants as file
use Rattle.text.specs.declared.fault.LineFault.{LineFault}
use Rattle.text.specs.declared.fault.LineFault.TheVariants.{UnknownStep, NotANumber, TooBig, WrongCount, FileTooLong, NoMemory}
use Rattle.text.specs.declared.fault.TextFault.{TextFault}

-- what is wrong with a line
abbrev pub line_fault_text : LineFault → List ℕ
line_fault_text UnknownStep = codes "unknown step"
line_fault_text NotANumber = codes "not a number"
line_fault_text TooBig = codes "a number is too big for its field"
line_fault_text (WrongCount wanted found) = codes "wants " ++ (decimal wanted ++ (codes " numbers and has " ++ decimal found))
line_fault_text FileTooLong = codes "the file has more than 65536 bytes"
line_fault_text (NoMemory e) = codes "out of memory"

-- the line's number, and what is wrong with it
abbrev pub text_fault_text : TextFault → List ℕ
text_fault_text f = codes "line " ++ (decimal f.line ++ (codes ": " ++ line_fault_text f.fault))

-- the line that a run of the step file ends with
abbrev pub file_fault_text : FileFault → List ℕ
file_fault_text (file.Entry f) = text (run_numbers (Entry f))
file_fault_text (file.NoMemory e) = codes "out of memory"

-- a fact that is not owed where memory is wanting
abbrev pub Unless : LineFault → Type 0 → Type 0
Unless UnknownStep P = P
Unless NotANumber P = P
Unless TooBig P = P
Unless (WrongCount wanted found) P = P
Unless FileTooLong P = P
Unless (NoMemory e) P = Unit {0}

-- an answer is the one that is defined, unless memory is wanting
abbrev pub Answers : {X Y : Type 0} → (X → Y) → Result Y LineFault → Result X LineFault → Type 0
Answers view defined r = MatchResult r (λ x. defined ≡ Ok (view x)) (λ e. Unless e (defined ≡ Err e))

-- the same of a text, whose faults have the numbers of their lines
abbrev pub AnswersText : {X : Type 0} → (X → List ℕ) → Result (List ℕ) TextFault → Result X TextFault → Type 0
AnswersText view defined r = MatchResult r (λ x. defined ≡ Ok (view x)) (λ e. Unless e.fault (defined ≡ Err e))

-- an entry that is too long for its length bytes makes the file too long
abbrev pub write_fault : WriteFault → LineFault
write_fault EntryTooLong = FileTooLong
write_fault (write.NoMemory e) = NoMemory e

-- a fault is the one that is defined; of want of memory nothing is said
abbrev pub Faulty : {X : Type 0} → Result X EntryFault → FileFault → Type 0
Faulty defined (file.Entry f) = defined ≡ Err f
Faulty defined (file.NoMemory e) = Unit {0}
