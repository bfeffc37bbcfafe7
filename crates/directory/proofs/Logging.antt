-- A record appended to the log of one coordinator at one machine, and a call that does that.
use Rattle.std.proofs.Common.{◌≡◌, ℕ, pred, ◌+◌, ◌*◌, ◌<◌, ◌≤◌, true, ltb, List, [], ◌∷◌, ◌++◌, map, reverse, length, get_or, take, drop, set, Ok, sym, refl, ap, ◌∙◌, subst, arith}
use Rattle.std.proofs.lemmas.List.{map_push, take-append-le, drop-append-le, drop-set-lt, set-get_or}
use Rattle.std.proofs.lemmas.Bool.{ltb-true, lt-ltb, and_from, and_parts}
use Rattle.memory.specs.Words.{at, Proper}
use Rattle.ring.specs.declared.Ring.{Ring}
use Rattle.ring.specs.Contents.{empty_ring, contents, room, with_one_more}
use Rattle.ring.specs.Contents as ring
use Rattle.ring.specs.Rings.{block}
use Rattle.protocol.specs.declared.plan.Plan.{Plan}
use Rattle.protocol.specs.declared.record.Kind.{Kind}
use Rattle.protocol.specs.declared.record.Record.{Record}
use Rattle.protocol.specs.declared.call.Call.{Call}
use Rattle.protocol.specs.declared.call.Outcome.{Outcome}
use Rattle.protocol.specs.Lists.{upd}
use Rattle.protocol.specs.Record.{Note, Log, note, records, append}
use Rattle.protocol.specs.Coordinator as protocol
use Rattle.protocol.specs.Coordinator.{with_phase, with_record}
use Rattle.protocol.specs.State.{Local, with_own}
use Rattle.protocol.specs.Commit.{record_for}
use Rattle.protocol.specs.Call.{answered, coordinator_of}
use Rattle.protocol.specs.Step.{local_call}
use Rattle.handling.specs.Notes.{notes}
use Rattle.handling.specs.Sending.{InEightRegions, record_of}
use Rattle.handling.proofs.Peeks.{length-notes}
use Rattle.handling.proofs.Regions.{fit-in-eight}
use Rattle.handling.proofs.Sent.{record-of-is}
use Rattle.directory.specs.declared.tables.Work.{Work}
use Rattle.directory.specs.declared.tables.Coordinator.{Coordinator}
use Rattle.directory.specs.View.{World, world, own, next_of, writes_of, log_of, logs_of}
use Rattle.directory.specs.Work.{StandsFor}
use Rattle.directory.specs.Slots.{Appended}
use Rattle.directory.specs.Sound.{Sound}
use Rattle.directory.specs.Calls.{Does}
use Rattle.directory.proofs.Plans.{sizes-of}
use Rattle.directory.proofs.Doing.{Inside, mine, here, invariant-of, changes}
use Rattle.directory.proofs.Pairs.{place, slots, long-slots, log-end, with_slots, log_ring, queue_ring, log-stands, queue-stands, log-here, log-written, logs-apart, records-rest, rings-after}
use Rattle.directory.proofs.Rooms.{log-records}
use Rattle.directory.proofs.Blocks.{put_back, long-block}
use Rattle.directory.proofs.Working.{proper, same-entry}

-- A log's ring over its slots.
module _ (r : Ring) (slots : List Record) where
  module _ (stands : ring.Sound r (length slots)) where
    pub count-records : length (records (log_of r slots)) ≡ r.len
    count-records = ap length (log-records r slots) ∙ length-notes r slots stands

    -- one record more
    pub log-appended : (slots' : List Record) (entry : Record) → contents (with_one_more r) slots' ≡ contents r slots ++ entry ∷ []
        → log_of (with_one_more r) slots' ≡ append (log_of r slots) (note entry)
    log-appended slots' entry holds =
        let more : notes (with_one_more r) slots' ≡ notes r slots ++ note entry ∷ [] = ap (map note) holds ∙ map_push note (contents r slots) entry in
        let within : r.cursor ≤ length (notes r slots) = omega (arith, stands.cursor, length-notes r slots stands) in
        let polled : reverse (take r.cursor (notes (with_one_more r) slots')) ≡ reverse (take r.cursor (notes r slots)) =
        ap (λ (ns : List Note). reverse (take r.cursor ns)) more ∙ ap reverse (take-append-le r.cursor (notes r slots) (note entry ∷ []) within) in
        let waiting : drop r.cursor (notes (with_one_more r) slots') ≡ drop r.cursor (notes r slots) ++ note entry ∷ [] =
        ap (drop r.cursor) more ∙ drop-append-le r.cursor (notes r slots) (note entry ∷ []) within in
        cc

-- the ring still stands
one-more-stands : (r : Ring) (k : ℕ) → ring.Sound r k → room r k ≡ true → ring.Sound (with_one_more r) k
one-more-stands r k s free = let parts = and_parts (ltb r.head k) (ltb r.len k) free in record { head = s.head; len = omega (arith, ltb-true r.len k parts.1); cursor = omega (arith, s.cursor) }

-- A pair of coordinator and machine.
module _ (p : Plan) (w : World) (c m : ℕ) (in' : Inside p w c) (below : m < p.machines) (d : Coordinator) where
  abbrev here_ring : Ring
  here_ring = log_ring p w c m in' below d

  pub stands_here : Sound p w → ring.Sound here_ring (length (slots p w c m in' below))
  stands_here s = subst (ring.Sound here_ring) (sym (long-slots p w c m in' below)) (log-stands p w c m in' below d s)

  -- a log with fewer records than places has room
  pub has_room : (s : Sound p w) → length (records (logs_of p w.records c (get_or w.coordinators c d).logs m)) < p.capacity → room here_ring p.capacity ≡ true
  has_room s few =
      let same = ap (λ (g : Log). length (records g)) (log-here p w c m in' below d s) in
      let n = count-records here_ring (slots p w c m in' below) (stands_here s) in
      and_from _ _ (lt-ltb _ _ (log-stands p w c m in' below d s).head) (lt-ltb _ _ (omega (arith, few, same, n)))

  -- the entry read again, with another default
  pub room-again : (e : Coordinator) → room here_ring p.capacity ≡ true → room (log_ring p w c m in' below e) p.capacity ≡ true
  room-again e free = subst (λ (z : Coordinator). room (get_or z.logs m empty_ring) p.capacity ≡ true) (same-entry p w c in' d e) free

-- the record of a kind for machine m as a coordinator's entry gives it
abbrev pub AsSent : Plan → ℕ → Kind → ℕ → Record → Coordinator → Type 0
AsSent p c kind m entry co =
    InEightRegions (writes_of co.work) → note entry ≡ record_of p c (pred (next_of co.work.next)) kind m (writes_of co.work)

-- it is the protocol's, since the written words are in the plan's regions
pub record-noted : (p : Plan) (w : World) (call : Call) (in' : Inside p w (coordinator_of call)) (e d : Coordinator) (kind : Kind) (m : ℕ) (entry : Record)
    → AsSent p (coordinator_of call) kind m entry (get_or w.coordinators (coordinator_of call) e) → Sound p w
    → note entry ≡ record_for p (coordinator_of call) (mine p w call in' d) kind m
unfolding own
record-noted p w call in' e d kind m entry noted s =
    let c = coordinator_of call in
    let few = fit-in-eight p (mine p w call in' d).writes (sizes-of p in'.fine).regions (invariant-of p w call in' d s).writes_fit.fit in
    subst (AsSent p c kind m entry) (same-entry p w c in' e d) noted few ∙ record-of-is p c (mine p w call in' d) kind m

-- A call that appends a record to the log of machine m, and may change the transaction.
module _ (p : Plan) (w : World) (call : Call) (in' : Inside p w (coordinator_of call)) (words : (a : ℕ) → Proper (at w.primaries a)) (d : Coordinator) (m : ℕ) (below : m < p.machines) where
  abbrev c : ℕ
  c = coordinator_of call

  abbrev co : Coordinator
  co = get_or w.coordinators c d

  abbrev was : Ring
  was = log_ring p w c m in' below d

  module _ (b : ℕ) (is : b ≡ c * p.machines + m) (r : Ring) (rs : List Record) (entry : Record) (free : room was p.capacity ≡ true)
      (appended : Appended p.capacity b was r w.records rs entry) where
    at_place : Appended p.capacity (place p w c m in' below) was r w.records rs entry
    at_place = subst (λ (z : ℕ). Appended p.capacity z was r w.records rs entry) is appended

    abbrev ys : List Record
    ys = block p.capacity (place p w c m in' below) rs

    table : rs ≡ with_slots p w c m in' below ys
    table = put_back p.capacity (place p w c m in' below) was r w.records rs entry at_place

    long : length ys ≡ p.capacity
    long = long-block p.capacity (place p w c m in' below) was r w.records rs entry at_place (log-end p w c m in' below)

    abbrev with_entry : Work → Coordinator
    with_entry t = record { work = t; logs = set co.logs m r; queues = co.queues }

    abbrev left : Work → World
    left t = world (set w.coordinators c (with_entry t)) rs w.replies w.primaries w.firsts w.seconds

    -- the other coordinators do not see it
    others : (j : ℕ) (x : Coordinator) → (j ≡ c → ⊥) → own p rs w.replies j x ≡ own p w.records w.replies j x
    unfolding own
    others j x n =
        let same : ◌≡◌ {A = ℕ → Log} (logs_of p rs j x.logs) (logs_of p w.records j x.logs) =
        ap (λ (t : List Record). logs_of p t j x.logs) table ∙ logs-apart p w c m in' below ys long j x.logs n in
        cc

    -- and its own log has the record behind the others
    log-left : Sound p w → (n : Note) → note entry ≡ n
        → ◌≡◌ {A = ℕ → Log} (logs_of p rs c (set co.logs m r)) (upd (logs_of p w.records c co.logs) m (append (logs_of p w.records c co.logs m) n))
    log-left s n is =
        ap (λ (t : List Record). logs_of p t c (set co.logs m r)) table
        ∙ log-written p w c m in' below d s r ys long
        ∙ ap (upd (logs_of p w.records c co.logs) m)
        (ap (λ (q : Ring). log_of q ys) appended.ring
        ∙ log-appended was (slots p w c m in' below) (stands_here p w c m in' below d s) ys entry (ap (λ (q : Ring). contents q ys) (sym appended.ring) ∙ at_place.holds)
        ∙ ap (λ (g : Log). append g (note entry)) (sym (log-here p w c m in' below d s))
        ∙ ap (append (logs_of p w.records c co.logs m)) is)

    abbrev own_left : protocol.Phase → Note → Local
    own_left ph n = with_own (here p w call in' d) (with_phase (with_record (mine p w call in' d) m n) ph)

    pub record-appended : (t : Work) (ph : protocol.Phase) (n : Note) (a b : ℕ) (o : Outcome)
        → (Sound p w → StandsFor p t ph (mine p w call in' d).next (mine p w call in' d).reads (mine p w call in' d).writes)
        → (Sound p w → note entry ≡ n)
        → (Sound p w → local_call p (here p w call in' d) call ≡ Ok (record { answer = answered a b o; after = own_left ph n }))
        → Does p w (left t) (Ok (answered a b o)) call
    unfolding own
    record-appended t ph n a b o stands noted accepted =
        changes p w call in' (proper p w call in' words d) d (with_entry t) rs w.replies others
        (record { answer = answered a b o; after = own_left ph n })
        accepted
        (λ s.
        let e = (stands s).phase in
        let f = (stands s).next in
        let g = (stands s).reads in
        let h = (stands s).writes in
        let l = log-left s n (noted s) in
        cc)
        (λ s.
        rings-after p w c m in' below d s (with_entry t) r (queue_ring p w c m in' below d) refl (sym (set-get_or co.queues m empty_ring))
        (subst (λ (q : Ring). ring.Sound q p.capacity) (sym appended.ring) (one-more-stands was p.capacity (log-stands p w c m in' below d s) free))
        (queue-stands p w c m in' below d s))
        (record {
          coordinators = drop-set-lt _ _ _ _ (ltb-true c p.coordinators (sym in'.below));
          records = ap (drop _) table ∙ records-rest p w c m in' below ys long;
          replies = refl;
        })
