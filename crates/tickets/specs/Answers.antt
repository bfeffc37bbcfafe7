-- What the calls of a ticket answer, beside what the directory's call answers.
use Rattle.std.specs.Prelude.{ℕ, Bool, true, false, Ok, Err, Result}
use Rattle.memory.specs.declared.make.Rejected.{Rejected}
use Rattle.protocol.specs.declared.call.Outcome.{Outcome}
use Rattle.protocol.specs.declared.call.Outcome.TheVariants.{Going, Committed, Aborted}
use Rattle.protocol.specs.declared.call.Answer.{Answer}
use Rattle.protocol.specs.declared.call.Refusal.{Refusal}
use Rattle.protocol.specs.Call.{answered}
use Rattle.tickets.specs.declared.draft.Draft.{Draft}
use Rattle.tickets.specs.declared.filing.Filing.{Filing}
use Rattle.tickets.specs.declared.filing.Progress.{Progress}
use Rattle.tickets.specs.declared.filing.Progress.TheVariants.{GoesOn, Ended}

-- an accepted open, which gives a draft, answers two zeros and reports nothing
abbrev pub opened : Result Draft Refusal → Result Answer Refusal
opened (Ok d) = Ok (answered 0 0 Going)
opened (Err n) = Err n

-- an accepted abandon, which gives an outcome, answers two zeros beside it
abbrev pub abandoned : Result Outcome (Rejected Refusal Draft) → Result Answer Refusal
abandoned (Ok o) = Ok (answered 0 0 o)
abandoned (Err h) = Err h.error

-- what an abandon gives: the outcome alone, or the draft that was refused
abbrev pub given_up : Draft → Result Answer Refusal → Result Outcome (Rejected Refusal Draft)
given_up d (Ok a) = Ok a.outcome
given_up d (Err n) = Err (record { error = n; given = d })

-- what is reported of a transaction, once a call has an outcome: a call that reports nothing leaves what was reported before
abbrev pub latest : Outcome → Outcome → Outcome
latest before Going = before
latest before Committed = Committed
latest before Aborted = Aborted

-- an accepted call that leaves coordinator c idle gives the transaction's outcome alone; any other gives the filing and the answer
abbrev pub progress : ℕ → Outcome → Bool → Answer → Progress
progress c before true a = Ended (latest before a.outcome)
progress c before false a = GoesOn (record { coordinator = c; reported = latest before a.outcome }) a

-- a refused call hands its ticket back
abbrev pub handed : {T : Type 0} → T → ℕ → Outcome → Bool → Result Answer Refusal → Result Progress (Rejected Refusal T)
handed t c before idle (Ok a) = Ok (progress c before idle a)
handed t c before idle (Err n) = Err (record { error = n; given = t })

-- of a commit: nothing is reported before
abbrev pub committed : Draft → Bool → Result Answer Refusal → Result Progress (Rejected Refusal Draft)
committed d = handed d d.coordinator Going

abbrev pub carried : Filing → Bool → Result Answer Refusal → Result Progress (Rejected Refusal Filing)
carried f = handed f f.coordinator f.reported
