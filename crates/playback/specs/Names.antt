-- The names of the calls in the output.
use Rattle.std.specs.Prelude.{ℕ, List}
use Rattle.protocol.specs.declared.call.Call.{Call}
use Rattle.steps.specs.Kinds.{kind_name, kind_of}

-- those of the kinds of their entries
abbrev pub name_of : Call → List ℕ
name_of call = kind_name (kind_of call)
