-- What a list of lines in place holds.
use Rattle.std.specs.Prelude.{ℕ, List, take}
use Rattle.protocol.specs.declared.record.Line.{Line}
use Rattle.protocol.specs.declared.lines.LineVec.{LineVec}

-- the lines that count
abbrev pub listed : {N : ℕ} → LineVec N → List Line
listed x = take x.len x.places
