-- What check does on each way out.
use Rattle.std.proofs.Common.{◌≡◌, ℕ, ◌^◌, ◌<◌, Bool, true, false, cond, List, [], ◌∷◌, length, get_or, drop, set, Some, None, Ok, Err, sym, refl, ap, ◌∙◌, subst, arith}
use mir.Val.{bool_byte}
use Rattle.std.specs.List.{AllByRecursion}
use Rattle.std.proofs.ByRecursion.{All-drop}
use Rattle.std.proofs.lemmas.Bool.{lt-ltb}
use Rattle.memory.specs.Words.{at, there, Proper}
use Rattle.protocol.specs.declared.plan.Plan.{Plan}
use Rattle.protocol.specs.declared.record.Line.{Line}
use Rattle.protocol.specs.declared.call.Call.TheVariants.{Check}
use Rattle.protocol.specs.declared.call.Outcome.{Outcome}
use Rattle.protocol.specs.declared.call.Refusal.TheVariants.{WrongPhase, NoAddress}
use Rattle.protocol.specs.Plan.{size}
use Rattle.protocol.specs.Lines.{Words, is_current}
use Rattle.protocol.specs.Coordinator as protocol
use Rattle.protocol.specs.State.{Local}
use Rattle.protocol.specs.Call.{answered}
use Rattle.protocol.specs.Commit.{check_in, checked}
use Rattle.protocol.specs.Step.{local_call}
use Rattle.protocol.proofs.Logged.{all_filter}
use Rattle.protocol.proofs.Refusals as refusals
use Rattle.protocol.proofs.Refusals.{is_checking}
use Rattle.directory.specs.declared.tables.Phase.{Phase}
use Rattle.directory.specs.declared.tables.Phase.TheVariants as tables
use Rattle.directory.specs.declared.tables.Work.{Work}
use Rattle.directory.specs.declared.tables.Coordinator.{Coordinator}
use Rattle.directory.specs.View.{World, world, own, phase_of, next_of, reads_of, writes_of}
use Rattle.directory.specs.Progress.{unwritten_from, AfterCheck}
use Rattle.directory.specs.Calls.{Does}
use Rattle.directory.proofs.Plans.{fits-of}
use Rattle.directory.proofs.Doing.{Inside, here, refuses, invariant-of}
use Rattle.directory.proofs.Progressing.{as_number}
use Rattle.directory.proofs.Working.{with_work, own_left, work-changes, same-entry}

not-checking : (p : Plan) (t : Work) (ph : Phase) → ((i : ℕ) → ph ≡ tables.Checking i → ⊥) → is_checking (phase_of p t ph) ≡ false
unfolding phase_of
not-checking p t tables.Idle n = refl
not-checking p t tables.Open n = refl
not-checking p t (tables.Locking l) n = refl
not-checking p t (tables.Checking i) n = absurd (n i refl)
not-checking p t (tables.Backing d) n = refl
not-checking p t (tables.Installing d r) n = refl
not-checking p t (tables.Aborting d) n = refl

-- the words to check, in that phase
as-checking : (p : Plan) (t : Work) (i : ℕ) (ls : List Line) → t.phase ≡ tables.Checking i → unwritten_from t i ≡ ls → phase_of p t t.phase ≡ protocol.Checking ls
unfolding phase_of
as-checking p t i ls is e = ap (phase_of p t) is ∙ ap protocol.Checking e

-- what a look into the memory found
found : (ws : Words) (l : Line) (current : Bool) → Some current ≡ cond (there ws l.address) (Some (is_current ws l)) None → is_current ws l ≡ current
found ws l current e = go (there ws l.address) e
  where
    go : (b : Bool) → Some current ≡ cond b (Some (is_current ws l)) None → is_current ws l ≡ current
    go true q = cc
    go false q = let z : ◌≡◌ {A = ℕ} 0 1 = cc in absurd (omega arith)

not_found : (ws : Words) (l : Line) → None ≡ cond (there ws l.address) (Some (is_current ws l)) None → l.address < length ws → ⊥
not_found ws l e below = go (there ws l.address) (lt-ltb _ _ below) e
  where
    go : (b : Bool) → b ≡ true → None ≡ cond b (Some (is_current ws l)) None → ⊥
    go true t q = let z : ◌≡◌ {A = ℕ} 0 1 = cc in omega arith
    go false t q = let z : ◌≡◌ {A = ℕ} 0 1 = cc in omega arith

-- the entry as it was first read, with default e, and as it is changed, with default d
module _ (p : Plan) (w : World) (c : ℕ) (in' : Inside p w c) (e : Coordinator) where
  abbrev first : Coordinator
  first = get_or w.coordinators c e

  pub check-closed : ((i : ℕ) → first.work.phase ≡ tables.Checking i → ⊥) → Does p w w (Err WrongPhase) (Check c)
  unfolding own
  check-closed n = refuses p w (Check c) in' e WrongPhase (λ s. refusals.check-closed p _ c (not-checking p first.work _ n))

  module _ (i : ℕ) (is : first.work.phase ≡ tables.Checking i) where
    pub check-none : unwritten_from first.work i ≡ [] → Does p w w (Err WrongPhase) (Check c)
    unfolding own
    check-none q = refuses p w (Check c) in' e WrongPhase (λ s. refusals.check-none p _ c (as-checking p first.work i [] is q))

    -- the words read are there
    pub check-unlooked : (l : Line) (ls : List Line) → unwritten_from first.work i ≡ l ∷ ls
        → None ≡ cond (there w.primaries l.address) (Some (is_current w.primaries l)) None → Does p w w (Err NoAddress) (Check c)
    unfolding own
    check-unlooked l ls next none = refuses p w (Check c) in' e NoAddress
        (λ s.
        let Fits : Line → Type 0 = λ r. (r.address < size p) × (r.version < 2 ^ 60) in
        let left : AllByRecursion Fits (l ∷ ls) =
        subst (AllByRecursion Fits) next (all_filter Fits _ (drop i (reads_of first.work)) (All-drop Fits i (reads_of first.work) (invariant-of p w (Check c) in' e s).reads_fit)) in
        absurd (not_found w.primaries l none (omega (arith, left.0.0, (fits-of p w in'.fits).primaries))))

    module _ (words : (a : ℕ) → Proper (at w.primaries a)) (d : Coordinator) (t : Work) where
      abbrev then : Coordinator
      then = get_or w.coordinators c d

      abbrev after : World
      after = world (set w.coordinators c (with_work then t)) w.records w.replies w.primaries w.firsts w.seconds

      same : first ≡ then
      same = same-entry p w c in' e d

      pub checks : (n : ℕ) (l : Line) → unwritten_from first.work i ≡ l ∷ unwritten_from first.work n
          → (current : Bool) → Some current ≡ cond (there w.primaries l.address) (Some (is_current w.primaries l)) None
          → (o : Outcome) → AfterCheck then.work n current t o → (b : ℕ) → b ≡ bool_byte current → Does p w after (Ok (answered l.address b o)) (Check c)
      unfolding own local_call check_in
      checks n l next current looked o left b byte =
          let is-then : then.work.phase ≡ tables.Checking i = subst (λ (z : Coordinator). z.work.phase ≡ tables.Checking i) same is in
          let ls = unwritten_from then.work n in
          let next-then : unwritten_from then.work i ≡ l ∷ ls =
          subst (λ (z : Coordinator). unwritten_from z.work i ≡ l ∷ unwritten_from z.work n) same next in
          let x : Local = here p w (Check c) in' d in
          work-changes p w (Check c) in' words d t (phase_of p t t.phase) (next_of then.work.next) (reads_of then.work) (writes_of then.work) l.address b o
          (λ s. record { phase = refl; next = ap next_of left.kept.next; reads = left.kept.reads; writes = left.kept.writes })
          (λ s.
          ap (check_in p x) (as-checking p then.work i (l ∷ ls) is-then next-then)
          ∙ ap (checked p x l.address ls) (found w.primaries l current looked)
          ∙ left.goes_on p x l.address refl
          ∙ ap (λ (k : ℕ). Ok (record { answer = answered l.address k o; after = own_left p w (Check c) in' words d (phase_of p t t.phase) (next_of then.work.next) (reads_of then.work) (writes_of then.work) }))
          (sym (byte ∙ as_number current)))
