-- A list of calls, made one after the other.
use Rattle.std.specs.Prelude.{◌≡◌, List, [], ◌∷◌, Result}
use Rattle.protocol.specs.declared.plan.Plan.{Plan}
use Rattle.protocol.specs.declared.call.Call.{Call}
use Rattle.protocol.specs.declared.call.Answer.{Answer}
use Rattle.protocol.specs.declared.call.Refusal.{Refusal}
use Rattle.directory.specs.View.{World}
use Rattle.directory.specs.Calls.{Does}

-- each call gets its answer and does what it promises, from what the call before it left; there are as many answers as calls
abbrev pub Runs : Plan → World → List Call → List (Result Answer Refusal) → World → Type 0
Runs p was [] [] after = after ≡ was
Runs p was [] (r ∷ rs) after = ⊥
Runs p was (call ∷ calls) [] after = ⊥
Runs p was (call ∷ calls) (r ∷ rs) after = (next : World) × Does p was next r call × Runs p next calls rs after
