-- From the moves of a coordinator to what a call of the directory leaves.
use Rattle.std.proofs.Common.{◌≡◌, ℕ, Bool, true, false, cond, Ok, Err, Result, sym, ap, ◌∙◌, subst, arith}
use Rattle.protocol.specs.declared.plan.Plan.{Plan}
use Rattle.protocol.specs.declared.call.Call.{Call}
use Rattle.protocol.specs.declared.call.Answer.{Answer}
use Rattle.protocol.specs.declared.call.Refusal.{Refusal}
use Rattle.protocol.specs.declared.call.Refusal.TheVariants.{BadPlan, BadTables}
use Rattle.protocol.specs.Try.{Try}
use Rattle.protocol.specs.Plan.{is_fine}
use Rattle.protocol.specs.State.{State, local_at, with_local}
use Rattle.protocol.specs.Call.{Accepted, coordinator_of}
use Rattle.protocol.specs.Step.{Stepped, stepped, settle, step}
use Rattle.protocol.proofs.Holds.{Holds, refused, accepted, past, holds-map}
use Rattle.protocol.proofs.Moves.{Move, moves}
use Rattle.directory.specs.View.{World, view, is_fitting}
use Rattle.directory.specs.Sound.{Sound}
use Rattle.directory.specs.Calls.{Does}

module _ (p : Plan) (s : State) (call : Call) (Q : Result Answer Refusal → State → Type 0) (turned : (n : Refusal) → Q (Err n) s) where
  settled : {t : Try Accepted} → Holds (λ (a : Accepted). Q (Ok a.answer) (with_local s (coordinator_of call) a.after)) t
      → Q (settle s (coordinator_of call) t).answer (settle s (coordinator_of call) t).state
  settled (refused {n = n}) = turned n
  settled (accepted h) = h

  module _ (done : (a : Accepted) → Move p (local_at s (coordinator_of call)) call a → Q (Ok a.answer) (with_local s (coordinator_of call) a.after)) where
    at-step : Q (step p s call).answer (step p s call).state
    at-step = settled (past _ _ _ (λ t. holds-map done (moves p (local_at s (coordinator_of call)) call)))

    behind : (fine fits : Bool) (t : Stepped) → Q t.answer t.state
        → let z : Stepped = cond fine (cond fits t (stepped (Err BadTables) s)) (stepped (Err BadPlan) s) in Q z.answer z.state
    behind true true t h = h
    behind true false t h = turned BadTables
    behind false fits t h = turned BadPlan

-- on sound tables: what holds of a refusal with the state unchanged, and of each accepted move with what it leaves, holds of the
-- call's answer and of what the tables stand for after it
pub of-call : (p : Plan) (was after : World) (r : Result Answer Refusal) (call : Call) (Q : Result Answer Refusal → State → Type 0) → Does p was after r call → Sound p was
    → ((n : Refusal) → Q (Err n) (view p was))
    → ((a : Accepted) → Move p (local_at (view p was) (coordinator_of call)) call a → Q (Ok a.answer) (with_local (view p was) (coordinator_of call) a.after))
    → Q r (view p after)
of-call p was after r call Q d s turned done =
    let there = behind p (view p was) call Q turned done (is_fine p) (is_fitting p was) (step p (view p was) call) (at-step p (view p was) call Q turned done) in
    subst (λ (t : Stepped). Q t.answer t.state) (sym (d.steps s)) there

-- an accepted call with an answer that on sound tables is the same
pub retold : (p : Plan) (was after : World) (call : Call) (a b : Answer) → (Sound p was → a ≡ b) → Does p was after (Ok a) call → Does p was after (Ok b) call
retold p was after call a b e d = record {
  steps = λ s. ap (λ (x : Answer). stepped (Ok x) (view p after)) (sym (e s)) ∙ d.steps s;
  stays_sound = d.stays_sound;
  bad_call = λ n m. let same : ◌≡◌ {A = Result Answer Refusal} (Ok a) (Err n) = d.bad_call n m in let z : ◌≡◌ {A = ℕ} 0 1 = cc in absurd (omega arith);
  refused_unchanged = tt;
  rest = d.rest;
}
