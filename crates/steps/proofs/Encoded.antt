-- What is put together as a step's bytes is what the step is encoded as.
use Rattle.std.proofs.Common.{◌≡◌, ℕ, List, IfOk, Result, sym, subst}
use Rattle.std.proofs.lemmas.Result.{IfOk-weaker}
use Rattle.steps.specs.declared.decode.Step.{Step}
use Rattle.steps.specs.Encoding.{encoded, DecodesBack}
use Rattle.steps.proofs.Coding.{decodes-back}

pub made-decodes : {X E : Type 0} (f : X → List ℕ) (r : Result X E) (s : Step) → IfOk r (λ v. f v ≡ encoded s) → IfOk r (λ v. DecodesBack (f v) s)
made-decodes f r s h =
    IfOk-weaker r (λ v. f v ≡ encoded s) (λ v. DecodesBack (f v) s) (λ v e. subst (λ (xs : List ℕ). DecodesBack xs s) (sym e) (decodes-back s)) h
