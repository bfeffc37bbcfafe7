-- What the calls of tickets promise, from what the directory's calls do.
use Rattle.std.proofs.Common.{◌≡◌, ℕ, true, not, eqb, Some, Ok, Err, Result, IfOk, sym, refl, ap, ◌∙◌, subst, ⊎_elim}
use Rattle.std.proofs.lemmas.Bool.{eq-eqb, cases_eq, false≢true}
use Rattle.memory.specs.declared.make.Rejected.{Rejected}
use Rattle.protocol.specs.declared.plan.Plan.{Plan}
use Rattle.protocol.specs.declared.call.Call.{Call}
use Rattle.protocol.specs.declared.call.Call.TheVariants.{Open, Read, Write, Abandon, Commit, Send, Poll, Take, Check, Trim}
use Rattle.protocol.specs.declared.call.Outcome.{Outcome}
use Rattle.protocol.specs.declared.call.Outcome.TheVariants.{Going, Aborted}
use Rattle.protocol.specs.declared.call.Answer.{Answer}
use Rattle.protocol.specs.declared.call.Refusal.{Refusal}
use Rattle.protocol.specs.Coordinator.{Coordinator, Phase, Idle, Opened, is_idle}
use Rattle.protocol.specs.State.{State, Local, local_at, with_local}
use Rattle.protocol.specs.Call.{Accepted, answered, coordinator_of}
use Rattle.protocol.proofs.Functions.{upd_same, upd_other}
use Rattle.protocol.proofs.Moves.{Move}
use Rattle.directory.specs.View.{World, view}
use Rattle.directory.specs.Sound.{Sound}
use Rattle.directory.specs.Calls.{Does}
use Rattle.tickets.specs.declared.draft.Draft.{Draft}
use Rattle.tickets.specs.declared.filing.Filing.{Filing}
use Rattle.tickets.specs.declared.filing.Progress.{Progress}
use Rattle.tickets.specs.Answers.{abandoned, given_up, latest, progress, committed, carried}
use Rattle.tickets.specs.Standing.{phase_at, reported_in, IsOpen, StaysOpen, Stands, IsOnce, Follows, DraftEnds, Goes, is_others, KeptByOthers}
use Rattle.tickets.specs.Promises.{Commits, Carries}
use Rattle.tickets.proofs.Moved.{GoesOrEnds, busy, goes, once, left}
use Rattle.tickets.proofs.Stepping.{of-call, retold}

-- the coordinator of a call has the phase that the call leaves
phase-left : (s : State) (c : ℕ) (x : Local) → phase_at (with_local s c x) c ≡ x.own.phase
phase-left s c x = ap (λ (k : Coordinator). k.phase) (upd_same s.coordinators c x.own c refl)

module _ (p : Plan) (was after : World) where
  -- of the calling coordinator's phase alone
  of-own : (r : Result Answer Refusal) (call : Call) (Q : Result Answer Refusal → Phase → Type 0) → Does p was after r call → Sound p was
      → ((n : Refusal) → Q (Err n) (phase_at (view p was) (coordinator_of call)))
      → ((a : Accepted) → Move p (local_at (view p was) (coordinator_of call)) call a → Q (Ok a.answer) a.after.own.phase)
      → Q r (phase_at (view p after) (coordinator_of call))
  of-own r call Q d s turned done =
      of-call p was after r call (λ t u. Q t (phase_at u (coordinator_of call))) d s turned
      (λ a move. subst (Q (Ok a.answer)) (sym (phase-left (view p was) (coordinator_of call) a.after)) (done a move))

  pub open-leaves : (c : ℕ) (a : Answer) → Does p was after (Ok a) (Open c) → Sound p was → (phase_at (view p after) c ≡ Opened) × (a ≡ answered 0 0 Going)
  open-leaves c a d s =
      of-own (Ok a) (Open c) (λ r phase. IfOk r (λ b. (phase ≡ Opened) × (b ≡ answered 0 0 Going))) d s (λ n. tt) (λ b move. left p _ move)

  pub open-does : (c : ℕ) (a : Answer) → Does p was after (Ok a) (Open c) → Does p was after (Ok (answered 0 0 Going)) (Open c)
  open-does c a d = retold p was after (Open c) a (answered 0 0 Going) (λ s. (open-leaves c a d s).1) d

  module _ (d : Draft) where
    abbrev c : ℕ
    c = d.coordinator

    pub read-keeps : (r : Result Answer Refusal) (n : ℕ) → Does p was after r (Read c n) → StaysOpen p was after d
    read-keeps r n h s o = of-own r (Read c n) (λ t phase. phase ≡ Opened) h s (λ m. o) (λ b move. left p _ move)

    pub write-keeps : (r : Result Answer Refusal) (n v : ℕ) → Does p was after r (Write c n v) → StaysOpen p was after d
    write-keeps r n v h s o = of-own r (Write c n v) (λ t phase. phase ≡ Opened) h s (λ m. o) (λ b move. left p _ move)

    abandon-leaves : (a : Answer) → Does p was after (Ok a) (Abandon c) → Sound p was → (phase_at (view p after) c ≡ Idle) × (a ≡ answered 0 0 Aborted)
    abandon-leaves a h s =
        of-own (Ok a) (Abandon c) (λ r phase. IfOk r (λ b. (phase ≡ Idle) × (b ≡ answered 0 0 Aborted))) h s (λ n. tt) (λ b move. left p _ move)

    abandon-tells : (a : Answer) → Does p was after (Ok a) (Abandon c) → Sound p was → a ≡ answered 0 0 a.outcome
    abandon-tells a h s = let e = (abandon-leaves a h s).1 in e ∙ ap (answered 0 0) (sym (ap (λ (b : Answer). b.outcome) e))

    pub abandon-does : (r : Result Answer Refusal) (t : Result Outcome (Rejected Refusal Draft)) → Does p was after r (Abandon c) → t ≡ given_up d r
        → Does p was after (abandoned t) (Abandon c)
    abandon-does (Ok a) t h e =
        let told : Sound p was → a ≡ answered 0 0 a.outcome = λ s. abandon-tells a h s in
        subst (λ (u : Result Outcome (Rejected Refusal Draft)). Does p was after (abandoned u) (Abandon c)) (sym e)
        (retold p was after (Abandon c) a (answered 0 0 a.outcome) told h)
    abandon-does (Err n) t h e = subst (λ (u : Result Outcome (Rejected Refusal Draft)). Does p was after (abandoned u) (Abandon c)) (sym e) h

    pub abandon-ends : (r : Result Answer Refusal) (t : Result Outcome (Rejected Refusal Draft)) → Does p was after r (Abandon c) → t ≡ given_up d r
        → Sound p was → IsOpen (view p was) d → DraftEnds (view p after) c t
    abandon-ends (Ok a) t h e s o =
        let left = abandon-leaves a h s in
        subst (DraftEnds (view p after) c) (sym e) (left.0, ap (λ (b : Answer). b.outcome) left.1)
    abandon-ends (Err n) t h e s o = subst (DraftEnds (view p after) c) (sym e) (subst (λ (w : World). IsOpen (view p w) d) (sym h.refused_unchanged) o)

  follows : (s : State) (c : ℕ) (before : Outcome) (a : Answer) → GoesOrEnds (phase_at s c) (latest before a.outcome)
      → Follows s c (progress c before (is_idle (phase_at s c)) a)
  follows s c before a h = ⊎_elim
      (λ over. subst (λ idle. Follows s c (progress c before idle a)) (sym (ap is_idle over.0)) over)
      (λ on. subst (λ idle. Follows s c (progress c before idle a)) (sym (busy (phase_at s c) (latest before a.outcome) on)) (refl, on))
      h

  commit-leaves : (c : ℕ) (a : Answer) → Does p was after (Ok a) (Commit c) → Sound p was → GoesOrEnds (phase_at (view p after) c) (latest Going a.outcome)
  commit-leaves c a h s = of-own (Ok a) (Commit c) (λ t phase. IfOk t (λ b. GoesOrEnds phase (latest Going b.outcome))) h s (λ n. tt) (λ b move. left p _ move)

  commit-goes : (d : Draft) (r : Result Answer Refusal) → Does p was after r (Commit d.coordinator) → Sound p was → IsOpen (view p was) d
      → Goes IsOpen (view p after) d.coordinator (committed d (is_idle (phase_at (view p after) d.coordinator)) r)
  commit-goes d (Ok a) h s o = follows (view p after) d.coordinator Going a (commit-leaves d.coordinator a h s)
  commit-goes d (Err n) h s o = subst (λ (w : World). IsOpen (view p w) d) (sym h.refused_unchanged) o

  -- with q the plan after the call, which is the same
  pub commit-commits : (d : Draft) (q : Plan) (r : Result Answer Refusal) (t : Result Progress (Rejected Refusal Draft)) → Does p was after r (Commit d.coordinator) → q ≡ p
      → t ≡ committed d (is_idle (phase_at (view q after) d.coordinator)) r → Commits p was after d t
  commit-commits d q r t h same e' = let e : t ≡ committed d (is_idle (phase_at (view p after) d.coordinator)) r = (
      e' ∙ ap (λ (z : Plan). committed d (is_idle (phase_at (view z after) d.coordinator)) r) same) in record {
        answer = r;
        does = h;
        answers = e;
        goes = λ s o. subst (Goes IsOpen (view p after) d.coordinator) (sym e) (commit-goes d r h s o);
      }

  module _ (f : Filing) (call : Call) (mine : coordinator_of call ≡ f.coordinator) where
    abbrev Leaves : Result Answer Refusal → Phase → Type 0
    Leaves (Ok a) phase = GoesOrEnds phase (latest f.reported a.outcome)
    Leaves (Err n) phase = reported_in phase ≡ Some f.reported

    goes-on : (r : Result Answer Refusal) → Does p was after r call → Sound p was → Stands (view p was) f → Leaves r (phase_at (view p after) f.coordinator)
    goes-on r h s o =
        let here : reported_in (phase_at (view p was) (coordinator_of call)) ≡ Some f.reported =
        subst (λ (c : ℕ). reported_in (phase_at (view p was) c) ≡ Some f.reported) (sym mine) o in
        subst (λ (c : ℕ). Leaves r (phase_at (view p after) c)) mine
        (of-own r call Leaves h s (λ n. here) (λ b move. goes p _ f.reported here move))

    reports_once : (r : Result Answer Refusal) → Does p was after r call → Sound p was → Stands (view p was) f → IfOk r (λ a. IsOnce f.reported a.outcome)
    reports_once r h s o =
        of-own r call (λ t phase. IfOk t (λ a. IsOnce f.reported a.outcome)) h s (λ n. tt)
        (λ b move. once p _ f.reported (subst (λ (c : ℕ). reported_in (phase_at (view p was) c) ≡ Some f.reported) (sym mine) o) move)

    left-to : (s : State) (r : Result Answer Refusal) → Leaves r (phase_at s f.coordinator) → Goes Stands s f.coordinator (carried f (is_idle (phase_at s f.coordinator)) r)
    left-to s (Ok a) h = follows s f.coordinator f.reported a h
    left-to s (Err n) h = h

    pub carries-filing : (q : Plan) (r : Result Answer Refusal) (t : Result Progress (Rejected Refusal Filing)) → Does p was after r call → q ≡ p
        → t ≡ carried f (is_idle (phase_at (view q after) f.coordinator)) r → Carries p was after f call t
    carries-filing q r t h same e' = let e : t ≡ carried f (is_idle (phase_at (view p after) f.coordinator)) r = (
        e' ∙ ap (λ (z : Plan). carried f (is_idle (phase_at (view z after) f.coordinator)) r) same) in record {
          answer = r;
          does = h;
          answers = e;
          goes = λ s o. subst (Goes Stands (view p after) f.coordinator) (sym e) (left-to (view p after) r (goes-on r h s o));
          once = reports_once r h;
        }

module _ (p : Plan) (was after : World) (f : Filing) (q : Plan) (r : Result Answer Refusal) (t : Result Progress (Rejected Refusal Filing)) where
  abbrev Answers : Type 0
  Answers = t ≡ carried f (is_idle (phase_at (view q after) f.coordinator)) r

  pub send-carries : Does p was after r (Send f.coordinator) → q ≡ p → Answers → Carries p was after f (Send f.coordinator) t
  send-carries d same e = carries-filing p was after f (Send f.coordinator) refl q r t d same e

  pub take-carries : (m : ℕ) → Does p was after r (Take f.coordinator m) → q ≡ p → Answers → Carries p was after f (Take f.coordinator m) t
  take-carries m d same e = carries-filing p was after f (Take f.coordinator m) refl q r t d same e

  pub check-carries : Does p was after r (Check f.coordinator) → q ≡ p → Answers → Carries p was after f (Check f.coordinator) t
  check-carries d same e = carries-filing p was after f (Check f.coordinator) refl q r t d same e

-- Calls that a ticket does not make.
not-mine : {X : Type 0} (c d : ℕ) → c ≡ d → not (eqb d c) ≡ true → X
not-mine c d e h = absurd (false≢true (sym (ap not (eq-eqb d c (sym e))) ∙ h))

own-call : (p : Plan) (x : Local) (c : ℕ) (call : Call) (a : Accepted) → c ≡ coordinator_of call → is_others c call ≡ true → Move p x call a → a.after.own.phase ≡ x.own.phase
own-call p x c (Open d) a e h move = not-mine c d e h
own-call p x c (Read d n) a e h move = not-mine c d e h
own-call p x c (Write d n v) a e h move = not-mine c d e h
own-call p x c (Abandon d) a e h move = not-mine c d e h
own-call p x c (Commit d) a e h move = not-mine c d e h
own-call p x c (Send d) a e h move = not-mine c d e h
own-call p x c (Poll d m) a e h move = left p x move
own-call p x c (Take d m) a e h move = not-mine c d e h
own-call p x c (Check d) a e h move = not-mine c d e h
own-call p x c (Trim d m) a e h move = left p x move

others-leave : (p : Plan) (was after : World) (r : Result Answer Refusal) (call : Call) (c : ℕ) → Does p was after r call → Sound p was → is_others c call ≡ true
    → phase_at (view p after) c ≡ phase_at (view p was) c
others-leave p was after r call c d s h =
    let v : State = view p was in
    let k : ℕ = coordinator_of call in
    of-call p was after r call (λ t u. phase_at u c ≡ phase_at v c) d s (λ n. refl) (λ a move. ⊎_elim
    (λ e. ap (λ (i : Coordinator). i.phase) (upd_same v.coordinators k a.after.own c e) ∙ own-call p (local_at v k) c call a e h move ∙ ap (phase_at v) (sym e))
    (λ n. ap (λ (i : Coordinator). i.phase) (upd_other v.coordinators k a.after.own c n))
    (cases_eq c k))

pub kept_by-others : KeptByOthers
kept_by-others = record {
  drafts = λ p was after r call d does s h o. others-leave p was after r call d.coordinator does s h ∙ o;
  filings = λ p was after r call f does s h o. ap reported_in (others-leave p was after r call f.coordinator does s h) ∙ o;
}

pub ruleset keeping = (commit-commits, send-carries, take-carries, check-carries)
