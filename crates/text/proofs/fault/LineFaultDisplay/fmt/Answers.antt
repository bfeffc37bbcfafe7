-- The two counts are written between their words.
use Rattle.std.proofs.Common.{sym, subst}
use Rattle.std.specs.Fmt.{HasWritten}
use Rattle.text.specs.declared.fault.LineFault.{LineFault}
use Rattle.text.specs.Faults.{line_fault_text}
use Rattle.text.proofs.fault.LineFaultDisplay.fmt.Goals as goal

pub returns-in-WrongCount-clause-writes : goal.returns-in-WrongCount-clause-writes
returns-in-WrongCount-clause-writes g c = λ plain ok.
    subst (λ (fault : LineFault). HasWritten g.W.Write.write_str_gives c.args.f.now (line_fault_text fault) c.write-in-WrongCount.new.self) (sym c.in-WrongCount.is)
    (c.write-in-WrongCount.ensures.writes plain ok)
