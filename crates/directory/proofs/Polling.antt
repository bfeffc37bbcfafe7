-- What poll does on each way out.
use Rattle.std.proofs.Common.{◌≡◌, ℕ, suc, ◌+◌, ◌*◌, ◌<◌, ◌≤◌, Bool, true, false, cond, List, [], ◌∷◌, reverse, length, get_or, drop, set, Some, Ok, Err, Option, sym, refl, ap, ◌∙◌, subst, arith}
use borrow.Rule.Slice.PartMut.{put_mid}
use Rattle.std.specs.List.{AllByRecursion, list_all}
use Rattle.std.proofs.ByRecursion.{All-append}
use Rattle.std.proofs.lemmas.List.{drop-set-lt}
use Rattle.std.proofs.lemmas.Bool.{ltb-true}
use Rattle.ring.specs.declared.Ring.{Ring}
use Rattle.ring.specs.Contents.{empty_ring, contents}
use Rattle.ring.specs.Contents as ring
use Rattle.ring.proofs.Rotated.{length-contents}
use Rattle.memory.specs.Words.{at, Proper}
use Rattle.protocol.specs.declared.plan.Plan.{Plan}
use Rattle.protocol.specs.declared.record.Kind.{Kind}
use Rattle.protocol.specs.declared.record.Kind.TheVariants.{Lock, CommitBackup, CommitPrimary, Abort, Truncate}
use Rattle.protocol.specs.declared.record.Record.{Record}
use Rattle.protocol.specs.declared.record.Reply.{Reply}
use Rattle.protocol.specs.declared.call.Answer.{Answer}
use Rattle.protocol.specs.declared.call.Call.TheVariants.{Poll}
use Rattle.protocol.specs.declared.call.Outcome.TheVariants.{Going}
use Rattle.protocol.specs.declared.call.Refusal.TheVariants.{NoMachine, Nothing}
use Rattle.protocol.specs.Lists.{upd}
use Rattle.protocol.specs.Try.{Try}
use Rattle.protocol.specs.Lines.{Words, is_current, lock_lines}
use Rattle.protocol.specs.Record.{Note, note, Log, records, number_of}
use Rattle.protocol.specs.Coordinator as protocol
use Rattle.protocol.specs.Coordinator.{log, queue}
use Rattle.protocol.specs.State.{Local, local}
use Rattle.protocol.specs.Call.{Accepted, answered}
use Rattle.protocol.specs.Step.{local_call}
use Rattle.protocol.specs.Kept.{Invariant, Lines}
use Rattle.protocol.proofs.Functions.{upd-own}
use Rattle.protocol.proofs.Moves.{Next, locks, denies, keeps-backup, installs, frees, truncates}
use Rattle.protocol.proofs.Accepts.{accepts}
use Rattle.protocol.proofs.Refusals as refusals
use Rattle.protocol.proofs.Places.{one-reply, next-lines}
use Rattle.handling.specs.Notes.{notes, polled, NextIs}
use Rattle.handling.specs.Handling.{Effect, effect, handled, Ready}
use Rattle.handling.proofs.Handles.{all-reverse}
use Rattle.directory.specs.declared.tables.Coordinator.{Coordinator}
use Rattle.directory.specs.View.{World, world, own, log_of, logs_of, queues_of}
use Rattle.directory.specs.Sound.{Sound}
use Rattle.directory.specs.Polls.{passed_log, replied, Passes}
use Rattle.directory.specs.Calls.{Does}
use Rattle.directory.proofs.Plans.{Sizes, sizes-of, fits-of}
use Rattle.directory.proofs.Doing.{Inside, mine, here, refuses, refuses-always, answered-so, changes, invariant-of}
use Rattle.directory.proofs.Working.{same-entry, proper}
use Rattle.directory.proofs.Rooms.{log-records}
use Rattle.directory.proofs.Pairs as pairs

-- the coordinator after its record was polled at machine m
abbrev pub passed_own : protocol.Coordinator → ℕ → Note → List Note → Option Bool → Kind → protocol.Coordinator
passed_own k m r rest told kind = record {
  phase = k.phase;
  next = k.next;
  reads = k.reads;
  writes = k.writes;
  logs = upd k.logs m (passed_log (k.logs m).polled r rest kind);
  queues = upd k.queues m (replied (k.queues m) r.number told);
}

abbrev leaves_effect : Local → ℕ → Note → List Note → Kind → Effect → Accepted
leaves_effect x m r rest kind e = record {
  answer = answered (number_of kind) e.count Going;
  after = local (passed_own x.own m r rest e.reply kind) e.primaries e.firsts e.seconds;
}

-- a poll is its record's effect on the memories, and its passing on the pair
module _ (p : Plan) (x : Local) (c m : ℕ) (r : Note) (rest : List Note) where
  abbrev does : Kind → Effect
  does kind = handled p c m x.primaries x.firsts x.seconds (x.own.logs m).polled r kind

  -- with the queues q; one that takes no reply is as it was
  abbrev with_queues : Kind → Effect → (ℕ → List Reply) → Accepted
  with_queues kind e q = record {
    answer = answered (number_of kind) e.count Going;
    after = local (record { phase = x.own.phase; next = x.own.next; reads = x.own.reads; writes = x.own.writes; logs = upd x.own.logs m (passed_log (x.own.logs m).polled r rest kind); queues = q }) e.primaries e.firsts e.seconds;
  }

  unreplied : (kind : Kind) → ◌≡◌ {A = Try Accepted} (Ok (with_queues kind (does kind) x.own.queues)) (Ok (with_queues kind (does kind) (upd x.own.queues m (x.own.queues m))))
  unreplied kind = ap (λ (q : ℕ → List Reply). Ok (with_queues kind (does kind) q)) (sym (upd-own x.own.queues m))

  poll_lock-does : Next p x m Lock r rest → (b : Bool) → list_all (is_current x.primaries) r.lines ≡ b
      → local_call p x (Poll c m) ≡ Ok (leaves_effect x m r rest Lock (cond b (effect (length r.lines) (Some true) (lock_lines x.primaries (suc c) r.lines) x.firsts x.seconds) (effect 0 (Some false) x.primaries x.firsts x.seconds)))
  poll_lock-does n true q = accepts p x (locks r rest n q)
  poll_lock-does n false q = accepts p x (denies r rest n q)

  poll-does : (kind : Kind) → Next p x m kind r rest → local_call p x (Poll c m) ≡ Ok (leaves_effect x m r rest kind (does kind))
  poll-does Lock n = poll_lock-does n _ refl
  poll-does CommitBackup n = accepts p x (keeps-backup r rest n) ∙ unreplied CommitBackup
  poll-does CommitPrimary n = accepts p x (installs r rest n) ∙ unreplied CommitPrimary
  poll-does Abort n = accepts p x (frees r rest n) ∙ unreplied Abort
  poll-does Truncate n = accepts p x (truncates r rest n) ∙ unreplied Truncate

  pub polls-as : (kind : Kind) → Next p x m kind r rest → (e : Effect) → e ≡ does kind → local_call p x (Poll c m) ≡ Ok (leaves_effect x m r rest kind e)
  polls-as kind n e is = poll-does kind n ∙ ap (λ (f : Effect). Ok (leaves_effect x m r rest kind f)) (sym is)

module _ (p : Plan) (w : World) (c m : ℕ) (in' : Inside p w c) where
  pub poll-beyond : p.machines ≤ m → Does p w w (Err NoMachine) (Poll c m)
  poll-beyond l = refuses-always p w (Poll c m) in' NoMachine (λ x. refusals.poll-beyond p x c m l)

  module _ (below : m < p.machines) where
    abbrev slots : List Record
    slots = pairs.slots p w c m in' below

    abbrev places : List Reply
    places = pairs.places p w c m in' below

    few : Sizes p
    few = sizes-of p in'.fine

    -- the log and the queue, read with default d
    abbrev log_at : Coordinator → Ring
    log_at d = pairs.log_ring p w c m in' below d

    abbrev queue_at : Coordinator → Ring
    queue_at d = pairs.queue_ring p w c m in' below d

    log-stands : (d : Coordinator) → Sound p w → ring.Sound (log_at d) (length slots)
    log-stands d s = subst (ring.Sound (log_at d)) (sym (pairs.long-slots p w c m in' below)) (pairs.log-stands p w c m in' below d s)

    queue-stands : (d : Coordinator) → Sound p w → ring.Sound (queue_at d) (length places)
    queue-stands d s = subst (ring.Sound (queue_at d)) (sym (pairs.long-places p w c m in' below)) (pairs.queue-stands p w c m in' below d s)

    log_is : (d : Coordinator) → Sound p w → log (mine p w (Poll c m) in' d) m ≡ log_of (log_at d) slots
    unfolding own
    log_is d s = pairs.log-here p w c m in' below d s

    queue-is : (d : Coordinator) → Sound p w → queue (mine p w (Poll c m) in' d) m ≡ contents (queue_at d) places
    unfolding own
    queue-is d s = pairs.queue-here p w c m in' below d s

    pub poll-nothing : (e : Coordinator) → (ring.Sound (log_at e) (length slots) → drop (log_at e).cursor (notes (log_at e) slots) ≡ []) → Does p w w (Err Nothing) (Poll c m)
    poll-nothing e none = refuses p w (Poll c m) in' e Nothing
        (λ s. refusals.poll-nothing p _ c m below (ap (λ (g : Log). g.waiting) (log_is e s) ∙ none (log-stands e s)))

    module _ (words : (a : ℕ) → Proper (at w.primaries a)) (d : Coordinator) (x : Record) (next : ring.Sound (log_at d) (length slots) → NextIs (notes (log_at d) slots) (log_at d).cursor (Some x)) where
      abbrev co : Coordinator
      co = get_or w.coordinators c d

      abbrev k : protocol.Coordinator
      k = mine p w (Poll c m) in' d

      abbrev rest : List Note
      rest = drop ((log_at d).cursor + 1) (notes (log_at d) slots)

      waiting-is : Sound p w → (log k m).waiting ≡ note x ∷ rest
      waiting-is s = ap (λ (g : Log). g.waiting) (log_is d s) ∙ next (log-stands d s)

      polled-is : Sound p w → (log k m).polled ≡ polled (log_at d) slots
      polled-is s = ap (λ (g : Log). g.polled) (log_is d s)

      inv : Sound p w → Invariant p k
      inv s = invariant-of p w (Poll c m) in' d s

      all_lines : Sound p w → AllByRecursion (λ r. Lines p r.lines) (notes (log_at d) slots)
      all_lines s =
          subst (AllByRecursion (λ r. Lines p r.lines)) (ap records (log_is d s) ∙ log-records (log_at d) slots)
          (All-append _ (reverse (log k m).polled) (log k m).waiting (all-reverse _ (log k m).polled ((inv s).polled m below)) ((inv s).waiting m below))

      ready : Sound p w → Ready p (log_at d) slots w.primaries w.firsts w.seconds
      ready s = let fit = fits-of p w in'.fits in record {
        lines = record { stands = log-stands d s; few = omega (arith, pairs.long-slots p w c m in' below, few.capacity.1); lines = all_lines s };
        primaries = fit.primaries;
        firsts = fit.firsts;
        seconds = fit.seconds;
      }

      -- at most one reply waits, so there is a free place
      queue-short : Sound p w → (queue_at d).len < length places
      queue-short s =
          let one = one-reply p k (inv s) m below in
          let len = length-contents (queue_at d) places (queue-stands d s).head (queue-stands d s).len in
          omega (arith, one, len, ap length (queue-is d s), pairs.long-places p w c m in' below)

      -- the record counts n, replies t and leaves the memories a, b and z; the log's ring is then r, and the queue's q over ys
      module _ (n : ℕ) (t : Option Bool) (a b z : Words)
          (does-so : Ready p (log_at d) slots w.primaries w.firsts w.seconds → Lines p (note x).lines → c < 15 → effect n t a b z ≡ handled p c m w.primaries w.firsts w.seconds (polled (log_at d) slots) (note x) x.kind)
          (r q : Ring) (ys : List Reply) (long : length ys ≡ 4)
          (r-stands : ring.Sound (log_at d) (length slots) → ring.Sound r (length slots))
          (passes : ring.Sound (log_at d) (length slots) → (y : Record) → NextIs (notes (log_at d) slots) (log_at d).cursor (Some y) → log_of r slots ≡ passed_log (polled (log_at d) slots) (note y) rest x.kind)
          (q-stands : ring.Sound (queue_at d) (length places) → ring.Sound q (length places))
          (replies : ring.Sound (queue_at d) (length places) → (queue_at d).len < length places → contents q ys ≡ replied (contents (queue_at d) places) x.number t) where
        abbrev co' : Coordinator
        co' = record { work = co.work; logs = set co.logs m r; queues = set co.queues m q }

        abbrev replies' : List Reply
        replies' = pairs.with_places p w c m in' below ys

        accepted : Sound p w → local_call p (here p w (Poll c m) in' d) (Poll c m) ≡ Ok (record { answer = answered (number_of x.kind) n Going; after = local (passed_own k m (note x) rest t x.kind) a b z })
        accepted s =
            polls-as p (here p w (Poll c m) in' d) c m (note x) rest x.kind (record { machine = below; waiting = waiting-is s; kind = refl }) (effect n t a b z)
            (does-so (ready s) (next-lines p k (inv s) m below (note x) rest (waiting-is s)) (omega (arith, ltb-true c p.coordinators (sym in'.below), few.coordinators))
            ∙ ap (λ (ns : List Note). handled p c m w.primaries w.firsts w.seconds ns (note x) x.kind) (sym (polled-is s)))

        own-after : Sound p w → own p w.records replies' c co' ≡ passed_own k m (note x) rest t x.kind
        unfolding own
        own-after s =
            let logs : ◌≡◌ {A = ℕ → Log} (logs_of p w.records c (set co.logs m r)) (passed_own k m (note x) rest t x.kind).logs =
            pairs.log-moved p w c m in' below d s r
            ∙ ap (upd (logs_of p w.records c co.logs) m) (passes (log-stands d s) x (next (log-stands d s)) ∙ ap (λ (ns : List Note). passed_log ns (note x) rest x.kind) (sym (polled-is s))) in
            let queues : ◌≡◌ {A = ℕ → List Reply} (queues_of p replies' c (set co.queues m q)) (passed_own k m (note x) rest t x.kind).queues =
            pairs.queue-written p w c m in' below d s q ys long
            ∙ ap (upd (queues_of p w.replies c co.queues) m) (replies (queue-stands d s) (queue-short s) ∙ ap (λ (l : List Reply). replied l x.number t) (sym (queue-is d s))) in
            cc

        own-apart : (j : ℕ) (y : Coordinator) → (j ≡ c → ⊥) → own p w.records replies' j y ≡ own p w.records w.replies j y
        unfolding own
        own-apart j y n = let same = pairs.queues-apart p w c m in' below ys long j y.queues n in cc

        pub polled-one : Does p w (world (set w.coordinators c co') w.records replies' a b z) (Ok (answered (number_of x.kind) n Going)) (Poll c m)
        polled-one =
            changes p w (Poll c m) in' (proper p w (Poll c m) in' words d) d co' w.records replies' own-apart
            (record { answer = answered (number_of x.kind) n Going; after = local (passed_own k m (note x) rest t x.kind) a b z })
            accepted own-after
            (λ s. pairs.rings-after p w c m in' below d s co' r q refl refl
            (subst (ring.Sound r) (pairs.long-slots p w c m in' below) (r-stands (log-stands d s)))
            (subst (ring.Sound q) (pairs.long-places p w c m in' below) (q-stands (queue-stands d s))))
            (record { coordinators = drop-set-lt _ _ _ _ (ltb-true c p.coordinators (sym in'.below)); records = refl; replies = pairs.replies-rest p w c m in' below ys long })

    -- The same as the code has it: the entry was read twice, and the slots and places are parts of the tables.
    module _ (words : (a : ℕ) → Proper (at w.primaries a)) (d : Coordinator) where
      abbrev Polls : Coordinator → Coordinator → List Record → List Reply → ℕ → ℕ → Type 0
      Polls e o part answers b' j =
          (x : Record) → (ring.Sound (get_or e.logs m empty_ring) (length part) → NextIs (notes (get_or e.logs m empty_ring) part) (get_or e.logs m empty_ring).cursor (Some x))
          → (n : ℕ) (t : Option Bool) (a b z : Words)
          → (Ready p (get_or e.logs m empty_ring) part w.primaries w.firsts w.seconds → Lines p (note x).lines → c < 15
          → effect n t a b z ≡ handled p c m w.primaries w.firsts w.seconds (polled (get_or e.logs m empty_ring) part) (note x) x.kind)
          → (co : Coordinator) (ys : List Reply) → Passes m o co part answers ys x t
          → (said : Answer) → said ≡ answered (number_of x.kind) n Going
          → Does p w (world (set w.coordinators c co) w.records (put_mid (b' * 4) j w.replies ys) a b z) (Ok said) (Poll c m)

      whole : Polls (get_or w.coordinators c d) (get_or w.coordinators c d) slots places (c * p.machines + m) 4
      whole x next n t a b z does-so co ys passed said is =
          let pair = passed.3 in
          answered-so p w (Poll c m) _ said _ is
          (subst
          (λ (k : Coordinator). Does p w (world (set w.coordinators c k) w.records (put_mid ((c * p.machines + m) * 4) 4 w.replies ys) a b z) (Ok (answered (number_of x.kind) n Going)) (Poll c m))
          (sym passed.2)
          (polled-one words d x next n t a b z does-so passed.0 passed.1 ys (pair.long ∙ pairs.long-places p w c m in' below) pair.log_stands pair.log pair.queue_stands pair.queue))

      pub polls : (e : Coordinator) → (part : List Record) → part ≡ slots → (answers : List Reply) → answers ≡ places → (b' : ℕ) → b' ≡ c * p.machines + m → (j : ℕ) → j ≡ 4
          → Polls (get_or w.coordinators c e) (get_or w.coordinators c d) part answers b' j
      polls e part same answers same' b' at j four =
          subst (λ (z : Coordinator). Polls z (get_or w.coordinators c d) part answers b' j) (same-entry p w c in' d e)
          (subst (λ (z : List Record). Polls (get_or w.coordinators c d) (get_or w.coordinators c d) z answers b' j) (sym same)
          (subst (λ (z : List Reply). Polls (get_or w.coordinators c d) (get_or w.coordinators c d) slots z b' j) (sym same')
          (subst (λ (z : ℕ). Polls (get_or w.coordinators c d) (get_or w.coordinators c d) slots places z j) (sym at)
          (subst (λ (z : ℕ). Polls (get_or w.coordinators c d) (get_or w.coordinators c d) slots places (c * p.machines + m) z) (sym four) whole))))

    pub nothing-polled : (e : Coordinator) (part : List Record) → part ≡ slots
        → (ring.Sound (get_or (get_or w.coordinators c e).logs m empty_ring) (length part) → drop (get_or (get_or w.coordinators c e).logs m empty_ring).cursor (notes (get_or (get_or w.coordinators c e).logs m empty_ring) part) ≡ [])
        → Does p w w (Err Nothing) (Poll c m)
    nothing-polled e part same =
        subst
        (λ (z : List Record). (ring.Sound (log_at e) (length z) → drop (log_at e).cursor (notes (log_at e) z) ≡ []) → Does p w w (Err Nothing) (Poll c m))
        (sym same) (poll-nothing e)
