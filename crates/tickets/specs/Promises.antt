-- What the calls of a ticket promise: each does what the directory's call of that name does, and on sound tables the ticket that it
-- leaves stands, or the transaction is over.
use Rattle.std.specs.Prelude.{◌≡◌, IfOk, Result}
use Rattle.memory.specs.declared.make.Rejected.{Rejected}
use Rattle.protocol.specs.declared.plan.Plan.{Plan}
use Rattle.protocol.specs.declared.call.Call.{Call}
use Rattle.protocol.specs.declared.call.Call.TheVariants.{Commit}
use Rattle.protocol.specs.declared.call.Answer.{Answer}
use Rattle.protocol.specs.declared.call.Refusal.{Refusal}
use Rattle.protocol.specs.Coordinator.{is_idle}
use Rattle.directory.specs.View.{World, view}
use Rattle.directory.specs.Sound.{Sound}
use Rattle.directory.specs.Calls.{Does}
use Rattle.tickets.specs.declared.draft.Draft.{Draft}
use Rattle.tickets.specs.declared.filing.Filing.{Filing}
use Rattle.tickets.specs.declared.filing.Progress.{Progress}
use Rattle.tickets.specs.Answers.{committed, carried}
use Rattle.tickets.specs.Standing.{phase_at, IsOpen, Stands, IsOnce, Goes}

-- a commit: `answer` is the directory's
pub record Commits (p : Plan) (was after : World) (d : Draft) (r : Result Progress (Rejected Refusal Draft)) : Type 0 where
  pub answer : Result Answer Refusal
  pub does : Does p was after answer (Commit d.coordinator)
  pub answers : r ≡ committed d (is_idle (phase_at (view p after) d.coordinator)) answer
  pub goes : Sound p was → IsOpen (view p was) d → Goes IsOpen (view p after) d.coordinator r

-- a call of a filing: likewise
pub record Carries (p : Plan) (was after : World) (f : Filing) (call : Call) (r : Result Progress (Rejected Refusal Filing)) : Type 0 where
  pub answer : Result Answer Refusal
  pub does : Does p was after answer call
  pub answers : r ≡ carried f (is_idle (phase_at (view p after) f.coordinator)) answer
  pub goes : Sound p was → Stands (view p was) f → Goes Stands (view p after) f.coordinator r
  pub once : Sound p was → Stands (view p was) f → IfOk answer (λ a. IsOnce f.reported a.outcome)
