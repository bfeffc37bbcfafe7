-- Memories of every plan's size: what is told does not turn on their makes.
use Rattle.std.proofs.Common.{◌≡◌, ℕ, ◌≤◌, Bool, true, false, cond, List, [], ◌∷◌, Ok, Err, Result, sym, refl, ap}
use Rattle.std.proofs.lemmas.Bool.{and_parts, leb-true}
use Rattle.protocol.specs.declared.plan.Plan.{Plan}
use Rattle.protocol.specs.declared.call.Refusal.TheVariants.{BadPlan}
use Rattle.protocol.specs.Plan.{is_fine, size}
use Rattle.protocol.specs.Step.{set_up}
use Rattle.protocol.proofs.Checks.{stops}
use Rattle.steps.specs.declared.fault.EntryFault.{EntryFault}
use Rattle.steps.specs.declared.decode.Step.{Step}
use Rattle.steps.specs.declared.decode.Step.TheVariants.{SetUp, Call as ACall}
use Rattle.steps.specs.declared.sequence.Placed.{Placed}
use Rattle.steps.specs.Frames.{Position}
use Rattle.steps.specs.Sequence.{steps_from}
use Rattle.playback.specs.Transcript.{set_up_told, made, start_of, first_told, steps_told, opened_told, told_by, told, FitsPlans}

-- a fine plan has 1 to 8 regions
fine-regions : (p : Plan) → is_fine p ≡ true → (1 ≤ p.regions) × (p.regions ≤ 8)
unfolding is_fine
fine-regions p e =
    let sizes = and_parts _ _ (and_parts _ _ (and_parts _ _ (and_parts _ _ e).0).0).0 in
    let regions = and_parts _ _ sizes.1 in (leb-true _ _ regions.0, leb-true _ _ regions.1)

module _ (fits : ℕ → Bool) (all : FitsPlans fits) where
  either : (b : Bool) (p : Plan) → is_fine p ≡ false → cond b (set_up p true) (Err BadPlan) ≡ set_up p true
  either true p e = refl
  either false p e = sym (stops BadPlan (is_fine p) _ e)

  fine-made : (f : Bool) (p : Plan) → is_fine p ≡ f → made fits p ≡ set_up p true
  fine-made true p e =
      let r = fine-regions p e in ap (λ b. cond b (set_up p true) (Err BadPlan)) (all p.regions r.0 r.1)
  fine-made false p e = either (fits (size p)) p e

  first-same : (place : ℕ) (steps : List (Result Placed EntryFault)) (s : Step) → first_told fits place steps s ≡ first_told (λ n. true) place steps s
  first-same place steps (SetUp p) = ap (set_up_told p place steps) (fine-made (is_fine p) p refl)
  first-same place steps (ACall call) = refl

  steps-same : (steps : List (Result Placed EntryFault)) → steps_told fits steps ≡ steps_told (λ n. true) steps
  steps-same [] = refl
  steps-same (Err f ∷ steps) = refl
  steps-same (Ok x ∷ steps) = first-same x.place steps x.step

  opened-same : (r : Result Position EntryFault) → opened_told fits r ≡ opened_told (λ n. true) r
  opened-same (Err f) = refl
  opened-same (Ok start) = steps-same (steps_from start)

  pub told_same : (bytes : List ℕ) → told_by fits bytes ≡ told bytes
  unfolding told_by
  told_same bytes = opened-same (start_of bytes)
