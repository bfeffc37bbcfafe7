-- What set-up and the calls promise.
use Rattle.std.specs.Prelude.{◌≡◌, ℕ, ◌*◌, drop, IfOk, IfErr, Err, Result}
use Rattle.protocol.specs.declared.plan.Plan.{Plan}
use Rattle.protocol.specs.declared.call.Call.{Call}
use Rattle.protocol.specs.declared.call.Answer.{Answer}
use Rattle.protocol.specs.declared.call.Refusal.{Refusal}
use Rattle.protocol.specs.State.{start}
use Rattle.protocol.specs.Call.{coordinator_of}
use Rattle.protocol.specs.Step.{set_up, stepped, step_behind_checks}
use Rattle.directory.specs.View.{World, view, is_fitting}
use Rattle.directory.specs.Sound.{Sound}
use Rattle.directory.specs.Checks.{admitted}

-- entries past those that the plan needs stay as they are
pub record RestStays (p : Plan) (was after : World) : Type 0 where
  pub coordinators : drop p.coordinators after.coordinators ≡ drop p.coordinators was.coordinators
  pub records : drop (p.coordinators * p.machines * p.capacity) after.records ≡ drop (p.coordinators * p.machines * p.capacity) was.records
  pub replies : drop (p.coordinators * p.machines * 4) after.replies ≡ drop (p.coordinators * p.machines * 4) was.replies

-- what a call does that was made with `was`, left `after` and answered r
pub record Does (p : Plan) (was after : World) (r : Result Answer Refusal) (call : Call) : Type 0 where
  -- on sound tables: the answer and the state after are the protocol's
  pub steps : Sound p was → stepped r (view p after) ≡ step_behind_checks p (is_fitting p was) (view p was) call
  pub stays_sound : Sound p was → Sound p after
  -- on any tables: a bad plan, bad tables and a coordinator that is not there get their refusal,
  pub bad_call : (n : Refusal) → admitted p was (coordinator_of call) ≡ Err n → r ≡ Err n
  -- a refused call changes nothing,
  pub refused_unchanged : IfErr r (λ _. after ≡ was)
  -- and no call touches the entries that the plan does not need
  pub rest : RestStays p was after

-- what an accepted set-up leaves
pub record Ready (p : Plan) (w : World) : Type 0 where
  pub sound : Sound p w
  pub starts : view p w ≡ start p

pub record SetsUp (p : Plan) (was after : World) (r : Result ℕ Refusal) : Type 0 where
  pub answers : r ≡ set_up p (is_fitting p was)
  pub ready : IfOk r (λ _. Ready p after)
  pub refused_unchanged : IfErr r (λ _. after ≡ was)
  pub rest : RestStays p was after
