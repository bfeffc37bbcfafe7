-- What an accepted call leaves of its coordinator's phase, by one case for each move.
use Rattle.std.proofs.Common.{◌≡◌, ℕ, Bool, true, false, cond, ◌⊎◌, List, [], ◌∷◌, Some, None, Option, sym, refl, ◌∙◌, subst, inl, inr, ⊎_elim, arith}
use Rattle.protocol.specs.declared.plan.Plan.{Plan}
use Rattle.protocol.specs.declared.record.Line.{Line}
use Rattle.protocol.specs.declared.call.Call.{Call}
use Rattle.protocol.specs.declared.call.Call.TheVariants.{Open, Read, Write, Abandon, Commit, Send, Poll, Take, Check, Trim}
use Rattle.protocol.specs.declared.call.Outcome.{Outcome}
use Rattle.protocol.specs.declared.call.Outcome.TheVariants.{Going, Committed, Aborted}
use Rattle.protocol.specs.declared.call.Answer.{Answer}
use Rattle.protocol.specs.Coordinator.{Coordinator, Phase, Idle, Opened, Locking, Checking, Backing, Installing, Aborting, is_idle}
use Rattle.protocol.specs.State.{Local}
use Rattle.protocol.specs.Call.{Accepted, answered}
use Rattle.protocol.specs.Commit.{first_phase, first_outcome, after_backup, after_install, after_abort, after_checks, after_failed, read_only}
use Rattle.protocol.proofs.Moves.{Move, opens, reads-again, reads-new, writes_again, writes-new, abandons, commits, sends-lock, sends-backup, sends-primary, sends-abort, locks, denies, keeps-backup, installs, frees, truncates, takes_one, takes-denied, takes-last, check-fails, check-passes, check-commits, check-ends, trims}
use Rattle.tickets.specs.Answers.{latest}
use Rattle.tickets.specs.Standing.{reported_in, IsOver, IsOnce}

-- a transaction goes on or is over, with this reported of it
abbrev pub GoesOrEnds : Phase → Outcome → Type 0
GoesOrEnds phase o = IsOver phase o ⊎ (reported_in phase ≡ Some o)

none-is : {X : Type 0} {o : Outcome} → ◌≡◌ {A = Option Outcome} None (Some o) → X
none-is e = let z : ◌≡◌ {A = ℕ} 0 1 = cc in absurd (omega arith)

same-outcome : (o u : Outcome) → Some o ≡ Some u → o ≡ u
same-outcome o u e = cc

-- a phase of which something is reported is not idle
pub busy : (phase : Phase) (o : Outcome) → reported_in phase ≡ Some o → is_idle phase ≡ false
busy Idle o e = none-is e
busy Opened o e = refl
busy (Locking due n d) o e = refl
busy (Checking ls) o e = refl
busy (Backing due) o e = refl
busy (Installing false due) o e = refl
busy (Installing true due) o e = refl
busy (Aborting due) o e = refl

first-goes : (p : Plan) (rs ws : List Line) → GoesOrEnds (first_phase p rs ws) (latest Going (first_outcome rs ws))
first-goes p [] [] = inl (refl, inl refl)
first-goes p (r ∷ rs) [] = inr refl
first-goes p [] (w ∷ ws) = inr refl
first-goes p (r ∷ rs) (w ∷ ws) = inr refl

backed : (p : Plan) (k : Coordinator) (ms : List ℕ) → reported_in (after_backup p k ms) ≡ Some Going
backed p k [] = refl
backed p k (m ∷ ms) = refl

checks-on : (p : Plan) (k : Coordinator) (ls : List Line) → reported_in (after_checks p k ls) ≡ Some Going
checks-on p k [] = refl
checks-on p k (l ∷ ls) = refl

installed : (o : Outcome) (reported : Bool) (m : ℕ) (ms : List ℕ) → reported_in (Installing reported (m ∷ ms)) ≡ Some o
    → GoesOrEnds (after_install ms) (latest o (cond reported Going Committed))
installed o true m [] e = inl (refl, inl (sym (same-outcome _ _ e)))
installed o true m (n ∷ ns) e = inr e
installed o false m [] e = inl (refl, inl refl)
installed o false m (n ∷ ns) e = inr refl

freed : (o : Outcome) (ms : List ℕ) → Some Aborted ≡ Some o → GoesOrEnds (after_abort ms) o
freed o [] e = inl (refl, inr (sym (same-outcome _ _ e)))
freed o (m ∷ ms) e = inr e

failed : (p : Plan) (ws : List Line) → GoesOrEnds (after_failed p ws) Aborted
failed p [] = inl (refl, inr refl)
failed p (w ∷ ws) = inr refl

module _ (p : Plan) (x : Local) where
  -- a coordinator that carries a transaction with o reported of it
  module _ (o : Outcome) (h : reported_in x.own.phase ≡ Some o) where
    at : (phase : Phase) → x.own.phase ≡ phase → reported_in phase ≡ Some o
    at phase e = subst (λ (z : Phase). reported_in z ≡ Some o) e h

    pub goes : {call : Call} {a : Accepted} → Move p x call a → GoesOrEnds a.after.own.phase (latest o a.answer.outcome)
    goes (opens e) = none-is (at _ e)
    goes (reads-again r e s f) = none-is (at _ e)
    goes (reads-new e s f l) = none-is (at _ e)
    goes (writes_again r w e s f u i) = none-is (at _ e)
    goes (writes-new r e s f u i l) = none-is (at _ e)
    goes (abandons e) = none-is (at _ e)
    goes (commits e l r) = none-is (at _ e)
    goes (sends-lock m ms n d e) = inr (at _ e)
    goes (sends-backup m ms e) = inr (backed p x.own ms ∙ at _ e)
    goes (sends-primary m ms r e) = installed o r m ms (at _ e)
    goes (sends-abort m ms e) = freed o ms (at _ e)
    goes (locks r rest n i) = inr h
    goes (denies r rest n i) = inr h
    goes (keeps-backup r rest n) = inr h
    goes (installs r rest n) = inr h
    goes (frees r rest n) = inr h
    goes (truncates r rest n) = inr h
    goes (takes_one due n d r rs k ks i e) = inr (at _ i.phase)
    goes (takes-denied due n d r rs i e y) = inr refl
    goes (takes-last due n d r rs i e y) = inr (checks-on p x.own (read_only x.own.reads x.own.writes) ∙ at _ i.phase)
    goes (check-fails l ls e i) = failed p x.own.writes
    goes (check-passes l k ls e i) = inr (at _ e)
    goes (check-commits l e i w) = inl (refl, inl refl)
    goes (check-ends l w ws e i f) = inr (at _ e)
    goes (trims b ph u) = ⊎_elim (λ e. none-is (at _ e)) (λ e. none-is (at _ e)) ph

    primary-once : (reported : Bool) (m : ℕ) (ms : List ℕ) → reported_in (Installing reported (m ∷ ms)) ≡ Some o → IsOnce o (cond reported Going Committed)
    primary-once true m ms e = inr refl
    primary-once false m ms e = inl (sym (same-outcome _ _ e))

    first : (phase : Phase) → x.own.phase ≡ phase → reported_in phase ≡ Some Going → o ≡ Going
    first phase e g = same-outcome _ _ (sym (at phase e) ∙ g)

    pub once : {call : Call} {a : Accepted} → Move p x call a → IsOnce o a.answer.outcome
    once (opens e) = inr refl
    once (reads-again r e s f) = inr refl
    once (reads-new e s f l) = inr refl
    once (writes_again r w e s f u i) = inr refl
    once (writes-new r e s f u i l) = inr refl
    once (abandons e) = none-is (at _ e)
    once (commits e l r) = none-is (at _ e)
    once (sends-lock m ms n d e) = inr refl
    once (sends-backup m ms e) = inr refl
    once (sends-primary m ms r e) = primary-once r m ms (at _ e)
    once (sends-abort m ms e) = inr refl
    once (locks r rest n i) = inr refl
    once (denies r rest n i) = inr refl
    once (keeps-backup r rest n) = inr refl
    once (installs r rest n) = inr refl
    once (frees r rest n) = inr refl
    once (truncates r rest n) = inr refl
    once (takes_one due n d r rs k ks i e) = inr refl
    once (takes-denied due n d r rs i e y) = inl (first _ i.phase refl)
    once (takes-last due n d r rs i e y) = inr refl
    once (check-fails l ls e i) = inl (first _ e refl)
    once (check-passes l k ls e i) = inr refl
    once (check-commits l e i w) = inl (first _ e refl)
    once (check-ends l w ws e i f) = inr refl
    once (trims b ph u) = inr refl

  -- what each call of a draft leaves, and that polls and trims leave the phase
  abbrev pub Left : Call → Phase → Answer → Type 0
  Left (Open c) phase a = (phase ≡ Opened) × (a ≡ answered 0 0 Going)
  Left (Read c n) phase a = phase ≡ Opened
  Left (Write c n v) phase a = phase ≡ Opened
  Left (Abandon c) phase a = (phase ≡ Idle) × (a ≡ answered 0 0 Aborted)
  Left (Commit c) phase a = GoesOrEnds phase (latest Going a.outcome)
  Left (Send c) phase a = Unit {0}
  Left (Poll c m) phase a = phase ≡ x.own.phase
  Left (Take c m) phase a = Unit {0}
  Left (Check c) phase a = Unit {0}
  Left (Trim c m) phase a = phase ≡ x.own.phase

  pub left : {call : Call} {a : Accepted} → Move p x call a → Left call a.after.own.phase a.answer
  left (opens e) = (refl, refl)
  left (reads-again r e s f) = e
  left (reads-new e s f l) = e
  left (writes_again r w e s f u i) = e
  left (writes-new r e s f u i l) = e
  left (abandons e) = (refl, refl)
  left (commits e l r) = first-goes p x.own.reads x.own.writes
  left (sends-lock m ms n d e) = tt
  left (sends-backup m ms e) = tt
  left (sends-primary m ms r e) = tt
  left (sends-abort m ms e) = tt
  left (locks r rest n i) = refl
  left (denies r rest n i) = refl
  left (keeps-backup r rest n) = refl
  left (installs r rest n) = refl
  left (frees r rest n) = refl
  left (truncates r rest n) = refl
  left (takes_one due n d r rs k ks i e) = tt
  left (takes-denied due n d r rs i e y) = tt
  left (takes-last due n d r rs i e y) = tt
  left (check-fails l ls e i) = tt
  left (check-passes l k ls e i) = tt
  left (check-commits l e i w) = tt
  left (check-ends l w ws e i f) = tt
  left (trims b ph u) = refl
