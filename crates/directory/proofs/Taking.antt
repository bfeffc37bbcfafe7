-- What take does on each way out.
use Rattle.std.proofs.Common.{◌≡◌, ℕ, ◌<◌, ◌≤◌, Bool, true, false, cond, not, ◌||◌, List, [], ◌∷◌, length, get_or, drop, set, Some, None, Ok, Err, Option, sym, refl, ap, ◌∙◌, subst, arith}
use mir.Val.{bool_byte}
use Rattle.std.specs.List.{slice_get}
use Rattle.std.proofs.lemmas.List.{drop-set-lt, set-get_or}
use Rattle.std.proofs.lemmas.Bool.{lt-ltb, le-leb, and_from, ltb-true, cond-true}
use Rattle.memory.specs.Words.{at, Proper}
use Rattle.ring.specs.declared.Ring.{Ring}
use Rattle.ring.specs.Contents.{empty_ring, contents, holds_n, without_front}
use Rattle.ring.specs.Contents as ring
use Rattle.ring.proofs.Rotated.{slot-below, contents-drop}
use Rattle.protocol.specs.declared.plan.Plan.{Plan}
use Rattle.protocol.specs.declared.record.Reply.{Reply}
use Rattle.protocol.specs.declared.call.Call.TheVariants.{Take}
use Rattle.protocol.specs.declared.call.Outcome.{Outcome}
use Rattle.protocol.specs.declared.call.Refusal.TheVariants.{NoMachine, WrongPhase, Nothing}
use Rattle.protocol.specs.Lists.{upd, without}
use Rattle.protocol.specs.Coordinator as protocol
use Rattle.protocol.specs.Room.{is_at_primary, one_if}
use Rattle.protocol.specs.State.{Local, in_phase}
use Rattle.protocol.specs.Call.{Accepted, answered}
use Rattle.protocol.specs.Commit.{take_in, take_reply, taken}
use Rattle.protocol.specs.Step.{local_call}
use Rattle.protocol.proofs.Checks.{passes}
use Rattle.protocol.proofs.Moves.{takes}
use Rattle.protocol.proofs.Refusals as refusals
use Rattle.protocol.proofs.Refusals.{is_locking}
use Rattle.directory.specs.declared.tables.Locking.{Locking}
use Rattle.directory.specs.declared.tables.Phase.{Phase}
use Rattle.directory.specs.declared.tables.Phase.TheVariants as tables
use Rattle.directory.specs.declared.tables.Work.{Work}
use Rattle.directory.specs.declared.tables.Coordinator.{Coordinator}
use Rattle.directory.specs.View.{World, world, own, phase_of, next_of, due_from, awaited_of, writes_of, queues_of}
use Rattle.directory.specs.Progress.{Came, AfterReply}
use Rattle.directory.specs.Sound.{Sound}
use Rattle.directory.specs.Calls.{Does}
use Rattle.directory.proofs.Plans.{fits-of, sizes-of}
use Rattle.directory.proofs.Doing.{Inside, here, refuses, changes}
use Rattle.directory.proofs.Pairs as pairs
use Rattle.directory.proofs.Pairs.{places}
use Rattle.directory.proofs.Progressing.{as_number, still}
use Rattle.directory.proofs.Working.{proper, same-entry}

not-locking : (p : Plan) (t : Work) (ph : Phase) → ((l : Locking) → ph ≡ tables.Locking l → ⊥) → is_locking (phase_of p t ph) ≡ false
unfolding phase_of
not-locking p t tables.Idle n = refl
not-locking p t tables.Open n = refl
not-locking p t (tables.Locking l) n = absurd (n l refl)
not-locking p t (tables.Checking i) n = refl
not-locking p t (tables.Backing d) n = refl
not-locking p t (tables.Installing d r) n = refl
not-locking p t (tables.Aborting d) n = refl

as-locking : (p : Plan) (t : Work) (l : Locking) → t.phase ≡ tables.Locking l
    → phase_of p t t.phase ≡ protocol.Locking (due_from p l.due (is_at_primary p (writes_of t))) (awaited_of p l) l.denied
unfolding phase_of
as-locking p t l is = ap (phase_of p t) is

-- some coordinator of the table
some-entry : (cs : List Coordinator) → 0 < length cs → Coordinator
some-entry [] l = absurd (omega arith)
some-entry (co ∷ cs) l = co

-- the front of a list
no_front : {X : Type 0} (xs : List X) → None ≡ slice_get xs 0 → xs ≡ []
no_front [] e = refl
no_front (x ∷ xs) e = let z : ◌≡◌ {A = ℕ} 0 1 = cc in absurd (omega arith)

front : {X : Type 0} (xs : List X) (x : X) → Some x ≡ slice_get xs 0 → xs ≡ x ∷ drop 1 xs
front [] x e = let z : ◌≡◌ {A = ℕ} 0 1 = cc in absurd (omega arith)
front (y ∷ xs) x e = let same : y ≡ x = cc in cc

pub take_beyond : (p : Plan) (w : World) (c m : ℕ) → Inside p w c → p.machines ≤ m → Does p w w (Err NoMachine) (Take c m)
take_beyond p w c m in' l =
    let some : Coordinator = some-entry w.coordinators (omega (arith, ltb-true c p.coordinators (sym in'.below), (fits-of p w in'.fits).coordinators)) in
    refuses p w (Take c m) in' some NoMachine (λ s. refusals.take_beyond p _ c m l)

module _ (p : Plan) (w : World) (c m : ℕ) (in' : Inside p w c) (below : m < p.machines) (part : List Reply) (slots : part ≡ places p w c m in' below) where
  abbrev queue_of : Coordinator → Ring
  queue_of co = get_or co.queues m empty_ring

  long : length part ≡ 4
  long = ap length slots ∙ pairs.long-places p w c m in' below

  few_machines : p.machines ≤ 5
  few_machines = (sizes-of p in'.fine).machines.1

  module _ (d : Coordinator) (s : Sound p w) where
    stands : ring.Sound (queue_of (get_or w.coordinators c d)) (length part)
    stands = subst (ring.Sound (queue_of (get_or w.coordinators c d))) (sym long) (pairs.queue-stands p w c m in' below d s)

    -- the queue, as the view has it
    queue-is : queues_of p w.replies c (get_or w.coordinators c d).queues m ≡ contents (queue_of (get_or w.coordinators c d)) part
    queue-is = pairs.queue-here p w c m in' below d s ∙ ap (contents (queue_of (get_or w.coordinators c d))) (sym slots)

  -- what a look at the front of a coordinator's queue says: of a sound ring its first entry,
  abbrev Looked : Coordinator → Option Reply → Type 0
  Looked co got = ring.Sound (queue_of co) (length part) → got ≡ slice_get (contents (queue_of co) part) 0

  -- and of any ring that has one, that it stands in its slots
  abbrev Filled : Coordinator → Type 0
  Filled co = ((queue_of co).head < length part) × ((queue_of co).len ≤ length part) × (0 < (queue_of co).len)

  -- the entry as it was first read, with default e
  module _ (e : Coordinator) where
    abbrev first : Coordinator
    first = get_or w.coordinators c e

    pub take-closed : ((l : Locking) → first.work.phase ≡ tables.Locking l → ⊥) → Does p w w (Err WrongPhase) (Take c m)
    unfolding own
    take-closed n = refuses p w (Take c m) in' e WrongPhase (λ s. refusals.take-closed p _ c m below (not-locking p first.work _ n))

    module _ (l : Locking) (is : first.work.phase ≡ tables.Locking l) where
      pub take-nothing : Looked first None → Does p w w (Err Nothing) (Take c m)
      unfolding own
      take-nothing none = refuses p w (Take c m) in' e Nothing
          (λ s. refusals.take-nothing p _ c m below _ _ _ (as-locking p first.work l is) (queue-is e s ∙ no_front _ (none (stands e s))))

      -- and as it is changed, with default d: the reply r is taken, and the ring of its queue is then `new`
      module _ (words : (a : ℕ) → Proper (at w.primaries a)) (d : Coordinator) where
        abbrev then : Coordinator
        then = get_or w.coordinators c d

        abbrev old : Ring
        old = queue_of then

        same : first ≡ then
        same = same-entry p w c in' e d

        module _ (r : Reply) (looked : Looked first (Some r)) (filled : Filled first) (done : Bool) (new : Ring)
            (answers : done ≡ holds_n old (length part) 1) (moved : new ≡ cond done (without_front old (length part) 1) old) where
          full : Filled then
          full = subst Filled same filled

          did : done ≡ true
          did = answers ∙ and_from _ _ (lt-ltb _ _ full.0) (and_from _ _ (le-leb _ _ full.1) (le-leb _ _ (omega (arith, full.2))))

          new_is : new ≡ without_front old (length part) 1
          new_is = moved ∙ cond-true done _ _ did

          new-stands : Sound p w → ring.Sound new 4
          new-stands s =
              subst (λ (z : Ring). ring.Sound z 4) (sym new_is)
              (subst (λ (n : ℕ). ring.Sound (without_front old n 1) 4) (sym long)
              (record { head = slot-below old.head 1 4 (omega (arith, full.0, long)) (omega arith); len = omega (arith, full.1, long); cursor = omega (arith, (stands d s).cursor) }))

          abbrev rest : List Reply
          rest = drop 1 (contents old part)

          front-is : Sound p w → queues_of p w.replies c then.queues m ≡ r ∷ rest
          front-is s = queue-is d s ∙ front (contents old part) r (subst (λ (co : Coordinator). Looked co (Some r)) same looked (stands d s))

          queues-after : Sound p w → ◌≡◌ {A = ℕ → List Reply} (queues_of p w.replies c (set then.queues m new)) (upd (queues_of p w.replies c then.queues) m rest)
          queues-after s =
              pairs.queue-moved p w c m in' below d s new
              ∙ ap (upd (queues_of p w.replies c then.queues) m) (ap (contents new) (sym slots) ∙ ap (λ (z : Ring). contents z part) new_is ∙ contents-drop old part 1 full.0 full.1 (omega (arith, full.2)))

          -- the transaction is then t
          module _ (l' : Locking) (came : Came l m r.yes l') (t : Work) (o : Outcome) (left : AfterReply p then.work l' t o) (b : ℕ) (byte : b ≡ bool_byte r.yes) where
            abbrev changed : Coordinator
            changed = record { work = t; logs = then.logs; queues = set then.queues m new }

            abbrev x : Local
            x = here p w (Take c m) in' d

            abbrev acc : Accepted
            acc = record { answer = answered b 0 o; after = in_phase (takes x m rest) (phase_of p t t.phase) }

            accepted : Sound p w → local_call p x (Take c m) ≡ Ok acc
            unfolding own local_call take_in take_reply
            accepted s =
                let is-then : then.work.phase ≡ tables.Locking l = subst (λ (z : Coordinator). z.work.phase ≡ tables.Locking l) same is in
                let test = is_at_primary p (writes_of then.work) in
                passes NoMachine _ _ (lt-ltb _ _ below)
                ∙ ap (take_in p x m) (as-locking p then.work l is-then)
                ∙ ap (take_reply p x m (due_from p l.due test) (awaited_of p l) l.denied) (front-is s)
                ∙ ap (λ (n : ℕ). taken p (takes x m rest) (due_from p n test) (without m (awaited_of p l)) (l.denied || not r.yes) (one_if r.yes)) (sym came.due)
                ∙ ap (λ (ms : List ℕ). taken p (takes x m rest) (due_from p l'.due test) ms (l.denied || not r.yes) (one_if r.yes))
                (sym (still p l m r.yes (omega (arith, below, few_machines)) l' came))
                ∙ ap (λ (no : Bool). taken p (takes x m rest) (due_from p l'.due test) (awaited_of p l') no (one_if r.yes)) (sym came.denied)
                ∙ left.goes_on (takes x m rest) (one_if r.yes) refl refl
                ∙ ap (λ (k : ℕ). Ok (record { answer = answered k 0 o; after = acc.after })) (sym (byte ∙ as_number r.yes))

            own-after : Sound p w → own p w.records w.replies c changed ≡ acc.after.own
            unfolding own
            own-after s =
                let f = ap next_of left.kept.next in
                let g = left.kept.reads in
                let h = left.kept.writes in
                let q = queues-after s in
                cc

            pub takes-reply : Does p w (world (set w.coordinators c changed) w.records w.replies w.primaries w.firsts w.seconds) (Ok (answered b 0 o)) (Take c m)
            takes-reply =
                changes p w (Take c m) in' (proper p w (Take c m) in' words d) d changed w.records w.replies (λ j y _. refl) acc accepted own-after
                (λ s.
                pairs.rings-after p w c m in' below d s changed (pairs.log_ring p w c m in' below d) new (sym (set-get_or then.logs m empty_ring)) refl
                (pairs.log-stands p w c m in' below d s) (new-stands s))
                (record { coordinators = drop-set-lt _ _ _ _ (ltb-true c p.coordinators (sym in'.below)); records = refl; replies = refl })
