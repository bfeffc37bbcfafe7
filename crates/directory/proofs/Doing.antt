-- What a call does behind the checks that come first: it is refused, or its coordinator is changed.
use Rattle.std.proofs.Common.{◌≡◌, ℕ, ◌<◌, ◌≤◌, Bool, true, false, cond, ltb, List, get_or, set, IsErrAnd, Ok, Err, Result, sym, refl, ap, ◌∙◌, subst, ⊎_elim, arith}
use Rattle.std.proofs.lemmas.Bool.{ltb-true, ltb-false, cases_eq}
use Rattle.protocol.specs.declared.plan.Plan.{Plan}
use Rattle.protocol.specs.declared.call.Call.{Call}
use Rattle.protocol.specs.declared.call.Answer.{Answer}
use Rattle.protocol.specs.declared.call.Refusal.{Refusal}
use Rattle.protocol.specs.declared.call.Refusal.TheVariants.{BadPlan, BadTables, NoCoordinator, NoMachine}
use Rattle.protocol.specs.declared.record.Record.{Record}
use Rattle.protocol.specs.declared.record.Reply.{Reply}
use Rattle.protocol.specs.Lists.{upd}
use Rattle.protocol.specs.Try.{Try, ◌>>◌, unless}
use Rattle.protocol.specs.Plan.{is_fine}
use Rattle.protocol.specs.Lines.{Words}
use Rattle.protocol.specs.Coordinator as protocol
use Rattle.protocol.specs.Coordinator.{new_coordinator}
use Rattle.protocol.specs.State.{State, state, Local, local, local_at}
use Rattle.protocol.specs.Call.{Accepted, coordinator_of}
use Rattle.protocol.specs.Step.{stepped, settle, step_behind_checks, local_call}
use Rattle.protocol.specs.Kept.{Invariant, ProperWords}
use Rattle.protocol.proofs.Functions.{upd_same, upd_other, upd-own}
use Rattle.protocol.proofs.Keeps.{calls-keep}
use Rattle.directory.specs.declared.tables.Coordinator.{Coordinator}
use Rattle.directory.specs.View.{World, world, view, own, is_fitting}
use Rattle.directory.specs.Sound.{Sound, Rings}
use Rattle.directory.specs.Checks.{admitted, machine_admitted}
use Rattle.directory.specs.Calls.{Does, RestStays}
use Rattle.directory.proofs.Plans.{Fits, fits-of}
use Rattle.directory.proofs.Views.{owns-at, view-set, first-at, first-set}

untrue : {P : Type 0} {n : Refusal} → ◌≡◌ {A = Try (Unit {0})} (Ok tt) (Err n) → P
untrue {P} {n} e = let z : ◌≡◌ {A = ℕ} 0 1 = cc in absurd (omega arith)

-- a call that is let in
pub record Inside (p : Plan) (w : World) (c : ℕ) : Type 0 where
  pub fine : true ≡ is_fine p
  pub fits : true ≡ is_fitting p w
  pub below : true ≡ ltb c p.coordinators

module _ (p : Plan) (w : World) (c : ℕ) where
  all_hold : (f g b : Bool) → Ok tt ≡ (unless BadPlan f >> (unless BadTables g >> unless NoCoordinator b)) → (true ≡ f) × (true ≡ g) × (true ≡ b)
  unfolding unless ◌>>◌
  all_hold true true true e = (refl, refl, refl)
  all_hold true true false e = untrue e
  all_hold true false b e = untrue e
  all_hold false g b e = untrue e

  pub inside : Ok tt ≡ admitted p w c → Inside p w c
  inside e = let h = all_hold (is_fine p) (is_fitting p w) (ltb c p.coordinators) e in record { fine = h.0; fits = h.1; below = h.2 }

-- the machine that a call names
module _ (p : Plan) (m : ℕ) where
  machine-out : (n : Refusal) (b : Bool) → Err n ≡ unless NoMachine b → (n ≡ NoMachine) × (b ≡ false)
  unfolding unless
  machine-out n true e = untrue (sym e)
  machine-out n false e = (cc, refl)

  pub machine-missing : (n : Refusal) → Err n ≡ machine_admitted p m → (n ≡ NoMachine) × (p.machines ≤ m)
  machine-missing n e = let out = machine-out n (ltb m p.machines) e in (out.0, ltb-false m p.machines out.1)

module _ (p : Plan) (w : World) (call : Call) where
  abbrev c : ℕ
  c = coordinator_of call

  abbrev v : State
  v = view p w

  abbrev Goes : Bool → Bool → Bool → Try (Unit {0})
  Goes f g b = unless BadPlan f >> (unless BadTables g >> unless NoCoordinator b)

  turned : (n : Refusal) (f g b : Bool) (t : Try Accepted) → Err n ≡ Goes f g b
      → stepped (Err n) v ≡ cond f (cond g (settle v c (unless NoCoordinator b >> t)) (stepped (Err BadTables) v)) (stepped (Err BadPlan) v)
  unfolding unless ◌>>◌
  turned n true true true t e = untrue (sym e)
  turned n true true false t e = cc
  turned n true false b t e = cc
  turned n false g b t e = cc

  -- a call that is not let in
  turned-away : (n : Refusal) → Err n ≡ admitted p w c → Does p w w (Err n) call
  turned-away n e = record {
    steps = λ s. turned n (is_fine p) (is_fitting p w) (ltb c p.coordinators) (local_call p (local_at v c) call) e;
    stays_sound = λ s. s;
    bad_call = λ m f. let same : ◌≡◌ {A = Try (Unit {0})} (Err n) (Err m) = e ∙ f in cc;
    refused_unchanged = refl;
    rest = record { coordinators = refl; records = refl; replies = refl };
  }

  -- a refusal that a `?` hands on
  pub hands-on : (r : Result Answer Refusal) (n : Refusal) → IsErrAnd r (λ m. m ≡ n) → Does p w w (Err n) call → Does p w w r call
  hands-on (Ok a) n h d = absurd h
  hands-on (Err m) n h d = subst (λ (k : Refusal). Does p w w (Err k) call) (sym h) d

  pub handed-on : (r : Result Answer Refusal) (n : Refusal) → IsErrAnd r (λ m. m ≡ n) → Err n ≡ admitted p w c → Does p w w r call
  handed-on r n h e = hands-on r n h (turned-away n e)

  -- a refusal that stands behind an equation
  pub refused-so : (n k : Refusal) → n ≡ k → Does p w w (Err k) call → Does p w w (Err n) call
  refused-so n k e d = subst (λ (z : Refusal). Does p w w (Err z) call) (sym e) d

  -- an answer that stands behind an equation
  pub answered-so : (after : World) (a b : Answer) → a ≡ b → Does p w after (Ok b) call → Does p w after (Ok a) call
  answered-so after a b e d = subst (λ (z : Answer). Does p w after (Ok z) call) (sym e) d

  gone : (f g b : Bool) (t : Try Accepted) → true ≡ f → true ≡ g → true ≡ b
      → settle v c t ≡ cond f (cond g (settle v c (unless NoCoordinator b >> t)) (stepped (Err BadTables) v)) (stepped (Err BadPlan) v)
  unfolding unless ◌>>◌
  gone f g b t e h k =
      ap (λ (z : Bool). settle v c (unless NoCoordinator z >> t)) k
      ∙ ap (λ (z : Bool). cond z (settle v c (unless NoCoordinator b >> t)) (stepped (Err BadTables) v)) h
      ∙ ap (λ (z : Bool). cond z (cond g (settle v c (unless NoCoordinator b >> t)) (stepped (Err BadTables) v)) (stepped (Err BadPlan) v)) e

  let-in : (f g b : Bool) → true ≡ f → true ≡ g → true ≡ b → Goes f g b ≡ Ok tt
  unfolding unless ◌>>◌
  let-in f g b e h k =
      sym (ap (λ (z : Bool). Goes true true z) k ∙ ap (λ (z : Bool). Goes true z b) h ∙ ap (λ (z : Bool). Goes z g b) e)

  module _ (in' : Inside p w c) where
    reached : (t : Try Accepted) → local_call p (local_at v c) call ≡ t → settle v c t ≡ step_behind_checks p (is_fitting p w) v call
    reached t e = ap (settle v c) (sym e) ∙ gone (is_fine p) (is_fitting p w) (ltb c p.coordinators) (local_call p (local_at v c) call) in'.fine in'.fits in'.below

    not-bad : (r : Result Answer Refusal) (n : Refusal) → admitted p w c ≡ Err n → r ≡ Err n
    not-bad r n e = untrue (sym (let-in (is_fine p) (is_fitting p w) (ltb c p.coordinators) in'.fine in'.fits in'.below) ∙ e)

    fit : Fits p w
    fit = fits-of p w in'.fits

    under : c < p.coordinators
    under = ltb-true c p.coordinators (sym in'.below)

    -- the coordinator as the tables have it, read with any default
    abbrev pub mine : Coordinator → protocol.Coordinator
    mine d = own p w.records w.replies c (get_or w.coordinators c d)

    abbrev pub here : Coordinator → Local
    here d = local (mine d) w.primaries w.firsts w.seconds

    at_own : (d : Coordinator) → v.coordinators c ≡ mine d
    at_own d = owns-at p w.coordinators w.records c under fit.coordinators w.replies d (new_coordinator p)

    at_here : (d : Coordinator) (t : Try Accepted) → local_call p (here d) call ≡ t → local_call p (local_at v c) call ≡ t
    at_here d t e = ap (λ (k : protocol.Coordinator). local_call p (local k w.primaries w.firsts w.seconds) call) (at_own d) ∙ e

    pub rings-of : (d : Coordinator) → Sound p w → Rings p (get_or w.coordinators c d)
    rings-of d s = first-at p w.coordinators w.records c under fit.coordinators (Rings p) d s.rings

    pub invariant-of : (d : Coordinator) → Sound p w → Invariant p (mine d)
    invariant-of d s = subst (Invariant p) (at_own d) (s.invariant c)

    -- a refused call
    pub refuses : (d : Coordinator) (n : Refusal) → (Sound p w → local_call p (here d) call ≡ Err n) → Does p w w (Err n) call
    refuses d n e = record {
      steps = λ s. reached (Err n) (at_here d (Err n) (e s));
      stays_sound = λ s. s;
      bad_call = not-bad (Err n);
      refused_unchanged = refl;
      rest = record { coordinators = refl; records = refl; replies = refl };
    }

    -- a call that is refused whatever the coordinator is
    pub refuses-always : (n : Refusal) → ((x : Local) → local_call p x call ≡ Err n) → Does p w w (Err n) call
    refuses-always n e = record {
      steps = λ s. reached (Err n) (e (local_at v c));
      stays_sound = λ s. s;
      bad_call = not-bad (Err n);
      refused_unchanged = refl;
      rest = record { coordinators = refl; records = refl; replies = refl };
    }

    -- an accepted call that changes nothing
    pub only-answers : (d : Coordinator) (a : Answer) → (Sound p w → local_call p (here d) call ≡ Ok (record { answer = a; after = here d })) → Does p w w (Ok a) call
    only-answers d a e = record {
      steps = λ s.
          ap (λ (f : ℕ → protocol.Coordinator). stepped (Ok a) (state f w.primaries w.firsts w.seconds))
          (sym (ap (upd v.coordinators c) (sym (at_own d)) ∙ upd-own v.coordinators c))
          ∙ reached (Ok (record { answer = a; after = here d })) (at_here d _ (e s));
      stays_sound = λ s. s;
      bad_call = not-bad (Ok a);
      refused_unchanged = tt;
      rest = record { coordinators = refl; records = refl; replies = refl };
    }

    -- coordinator c is another, and the tables and memories too, but for what the other coordinators have in the tables
    module _ (proper : ProperWords p w.primaries) (d : Coordinator) (co : Coordinator) (rs : List Record) (qs : List Reply)
        (apart : (j : ℕ) (x : Coordinator) → (j ≡ c → ⊥) → own p rs qs j x ≡ own p w.records w.replies j x) where
      abbrev pub changed : Words → Words → Words → World
      changed x y z = world (set w.coordinators c co) rs qs x y z

      coordinators-after : (x y z : Words) → (view p (changed x y z)).coordinators ≡ upd v.coordinators c (own p rs qs c co)
      coordinators-after x y z = view-set p w.coordinators w.records c under fit.coordinators rs w.replies qs co apart

      module _ (acc : Accepted) (accepted : Sound p w → local_call p (here d) call ≡ Ok acc) (after : Sound p w → own p rs qs c co ≡ acc.after.own)
          (rings : Sound p w → Rings p co) (rest : RestStays p w (changed acc.after.primaries acc.after.firsts acc.after.seconds)) where
        abbrev left : World
        left = changed acc.after.primaries acc.after.firsts acc.after.seconds

        coordinators-left : Sound p w → (view p left).coordinators ≡ upd v.coordinators c acc.after.own
        coordinators-left s = coordinators-after acc.after.primaries acc.after.firsts acc.after.seconds ∙ ap (upd v.coordinators c) (after s)

        invariant-left : Sound p w → (j : ℕ) → Invariant p ((view p left).coordinators j)
        invariant-left s j =
            subst (λ (f : ℕ → protocol.Coordinator). Invariant p (f j)) (sym (coordinators-left s))
            (⊎_elim
            (λ e. subst (Invariant p) (sym (upd_same v.coordinators c acc.after.own j e)) (calls-keep p (here d) call acc proper (invariant-of d s) (accepted s)))
            (λ n. subst (Invariant p) (sym (upd_other v.coordinators c acc.after.own j n)) (s.invariant j))
            (cases_eq j c))

        pub changes : Does p w left (Ok acc.answer) call
        changes = record {
          steps = λ s.
              ap (λ (f : ℕ → protocol.Coordinator). stepped (Ok acc.answer) (state f acc.after.primaries acc.after.firsts acc.after.seconds)) (coordinators-left s)
              ∙ reached (Ok acc) (at_here d (Ok acc) (accepted s));
          stays_sound = λ s. record {
            rings = first-set p w.coordinators w.records c under fit.coordinators (Rings p) co s.rings (rings s);
            invariant = invariant-left s;
          };
          bad_call = not-bad (Ok acc.answer);
          refused_unchanged = tt;
          rest = rest;
        }
