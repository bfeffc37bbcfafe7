-- One call more.
use Rattle.std.proofs.Common.{◌≡◌, ℕ, ◌+◌, ◌<◌, List, [], ◌∷◌, ◌++◌, length, get_or, take, Result, sym, refl, subst}
use Rattle.std.proofs.lemmas.List.{take_more}
use Rattle.protocol.specs.declared.plan.Plan.{Plan}
use Rattle.protocol.specs.declared.call.Call.{Call}
use Rattle.protocol.specs.declared.call.Answer.{Answer}
use Rattle.protocol.specs.declared.call.Refusal.{Refusal}
use Rattle.directory.specs.View.{World}
use Rattle.directory.specs.Calls.{Does}
use Rattle.service.specs.Running.{Runs}

pub runs-more : (p : Plan) (was mid after : World) (calls : List Call) (rs : List (Result Answer Refusal)) (call : Call) (r : Result Answer Refusal)
    → Runs p was calls rs mid → Does p mid after r call → Runs p was (calls ++ call ∷ []) (rs ++ r ∷ []) after
runs-more p was mid after [] [] call r e d = (after, subst (λ (u : World). Does p u after r call) e d, refl)
runs-more p was mid after [] (s ∷ rs) call r e d = absurd e
runs-more p was mid after (c ∷ calls) [] call r e d = absurd e
runs-more p was mid after (c ∷ calls) (s ∷ rs) call r e d = (e.0, e.1, runs-more p e.0 mid after calls rs call r e.2 d)

-- as a loop through the calls makes them
pub runs-next : (p p' : Plan) (was mid after : World) (calls : List Call) (i : ℕ) (d : Call) (rs rs' : List (Result Answer Refusal)) (r : Result Answer Refusal) → p' ≡ p → i < length calls
    → Runs p was (take i calls) rs mid → Does p' mid after r (get_or calls i d) → rs' ≡ rs ++ r ∷ [] → Runs p was (take (i + 1) calls) rs' after
runs-next p p' was mid after calls i d rs rs' r same l before does more =
    subst (λ (zs : List (Result Answer Refusal)). Runs p was (take (i + 1) calls) zs after) (sym more)
    (subst (λ (cs : List Call). Runs p was cs (rs ++ r ∷ []) after) (sym (take_more calls i d l))
    (runs-more p was mid after (take i calls) rs (get_or calls i d) r before (subst (λ (q : Plan). Does q mid after r (get_or calls i d)) same does)))
