-- The log and the queue of one coordinator at one machine: where they stand in the tables, and how a change of them shows in the view.
use Rattle.std.proofs.Common.{◌≡◌, ℕ, ◌+◌, ◌*◌, ◌<◌, ◌≤◌, List, [], length, get_or, take, drop, set, sym, ap, ◌∙◌, arith, subst}
use borrow.Rule.Slice.PartMut.{put_mid}
use Rattle.std.proofs.ByRecursion.{All-get_or, All-set}
use Rattle.std.proofs.lemmas.List.{length-set}
use Rattle.std.proofs.lemmas.Slice.{drop-put_mid}
use Rattle.std.proofs.lemmas.Bool.{ltb-true}
use Rattle.ring.specs.declared.Ring.{Ring}
use Rattle.ring.specs.Contents.{empty_ring, contents}
use Rattle.ring.specs.Contents as ring
use Rattle.ring.specs.Rings.{block, row}
use Rattle.ring.proofs.Rings.{block-end, length-block, row-ring, row_write, row_apart}
use Rattle.protocol.specs.declared.plan.Plan.{Plan}
use Rattle.protocol.specs.declared.record.Record.{Record}
use Rattle.protocol.specs.declared.record.Reply.{Reply}
use Rattle.protocol.specs.Lists.{upd}
use Rattle.protocol.specs.Record.{Log, empty_log}
use Rattle.protocol.proofs.Functions.{getD-upd}
use Rattle.directory.specs.declared.tables.Coordinator.{Coordinator}
use Rattle.directory.specs.View.{World, log_of, logs_of, queues_of}
use Rattle.directory.specs.Sound.{Sound, Rings}
use Rattle.directory.proofs.Each.{entries}
use Rattle.directory.proofs.Plans.{Sizes, sizes-of, Fits, fits-of}
use Rattle.directory.proofs.Rows.{row-entry, row-length}
use Rattle.directory.proofs.Doing.{Inside}
use Rattle.directory.proofs.Blocks.{block_cut}
use Rattle.directory.proofs.Views.{first-at}

-- a row of rings as a function of the machine
module _ {X Y : Type 0} (f : Ring → List X → Y) (y : Y) (k w c : ℕ) (table : List X) (rings : List Ring) (m : ℕ) (below : m < w) (enough : w ≤ length rings) where
  abbrev rows : List X → List Ring → ℕ → Y
  rows t rs = entries y (row f k w c t rs)

  at-ring : rows table rings m ≡ f (get_or rings m empty_ring) (block k (c * w + m) table)
  at-ring = row-entry f k w c table rings y m below (omega arith)

  new-ring : (r : Ring) → ◌≡◌ {A = ℕ → Y} (rows table (set rings m r)) (upd (rows table rings) m (f r (block k (c * w + m) table)))
  new-ring r =
      ap (entries y) (row-ring f k w c table rings m r below)
      ∙ getD-upd (row f k w c table rings) m (f r (block k (c * w + m) table)) y (omega (arith, row-length f k w c table rings y enough))

  new-slots : (r : Ring) (ys : List X) → length ys ≡ k → (c * w + m) * k + k ≤ length table
      → ◌≡◌ {A = ℕ → Y} (rows (put_mid ((c * w + m) * k) k table ys) (set rings m r)) (upd (rows table rings) m (f r ys))
  new-slots r ys long within =
      ap (entries y) (row_write f k w c table rings ys long m r below within)
      ∙ getD-upd (row f k w c table rings) m (f r ys) y (omega (arith, row-length f k w c table rings y enough))

module _ (p : Plan) (w : World) (c m : ℕ) (in' : Inside p w c) (below : m < p.machines) where
  abbrev pub place : ℕ
  place = c * p.machines + m

  few : Sizes p
  few = sizes-of p in'.fine

  fit : Fits p w
  fit = fits-of p w in'.fits

  under : c < p.coordinators
  under = ltb-true c p.coordinators (sym in'.below)

  pub below-five : m < 5
  below-five = omega (arith, few.machines.1)

  pub log-end : place * p.capacity + p.capacity ≤ length w.records
  log-end = block-end p.coordinators p.machines p.capacity (length w.records) c m fit.records under below

  pub queue-end : place * 4 + 4 ≤ length w.replies
  queue-end = block-end p.coordinators p.machines 4 (length w.replies) c m fit.replies under below

  abbrev pub slots : List Record
  slots = block p.capacity place w.records

  abbrev pub places : List Reply
  places = block 4 place w.replies

  -- as the code lends them: a block b of the table
  module _ (b : ℕ) (is : b ≡ place) where
    pub places-are : (k : ℕ) → k ≡ 4 → take k (drop (b * 4) w.replies) ≡ places
    places-are k e = block_cut w.replies 4 k b place e is

    pub slots-within : b * p.capacity + p.capacity ≤ length w.records
    slots-within = subst (λ (z : ℕ). z * p.capacity + p.capacity ≤ length w.records) (sym is) log-end

    pub places-within : b * 4 + 4 ≤ length w.replies
    places-within = subst (λ (z : ℕ). z * 4 + 4 ≤ length w.replies) (sym is) queue-end

  pub long-slots : length slots ≡ p.capacity
  long-slots = length-block w.records p.capacity place log-end

  pub long-places : length places ≡ 4
  long-places = length-block w.replies 4 place queue-end

  -- what is written into the slots of this pair
  abbrev pub with_slots : List Record → List Record
  with_slots ys = put_mid (place * p.capacity) p.capacity w.records ys

  abbrev pub with_places : List Reply → List Reply
  with_places ys = put_mid (place * 4) 4 w.replies ys

  -- is not seen by the other coordinators,
  pub logs-apart : (ys : List Record) → length ys ≡ p.capacity → (j : ℕ) (rings : List Ring) → (j ≡ c → ⊥)
      → ◌≡◌ {A = ℕ → Log} (logs_of p (with_slots ys) j rings) (logs_of p w.records j rings)
  logs-apart ys long j rings n =
      ap (entries empty_log) (row_apart log_of p.capacity p.machines j w.records rings ys long c m n below log-end)

  pub queues-apart : (ys : List Reply) → length ys ≡ 4 → (j : ℕ) (rings : List Ring) → (j ≡ c → ⊥)
      → ◌≡◌ {A = ℕ → List Reply} (queues_of p (with_places ys) j rings) (queues_of p w.replies j rings)
  queues-apart ys long j rings n = ap (entries []) (row_apart contents 4 p.machines j w.replies rings ys long c m n below queue-end)

  -- nor past the entries that the plan needs
  pub records-rest : (ys : List Record) → length ys ≡ p.capacity
      → drop (p.coordinators * p.machines * p.capacity) (with_slots ys) ≡ drop (p.coordinators * p.machines * p.capacity) w.records
  records-rest ys long =
      drop-put_mid (place * p.capacity) p.capacity w.records ys (p.coordinators * p.machines * p.capacity)
      (block-end p.coordinators p.machines p.capacity (p.coordinators * p.machines * p.capacity) c m (omega arith) under below) (omega (arith, log-end)) long

  pub replies-rest : (ys : List Reply) → length ys ≡ 4 → drop (p.coordinators * p.machines * 4) (with_places ys) ≡ drop (p.coordinators * p.machines * 4) w.replies
  replies-rest ys long =
      drop-put_mid (place * 4) 4 w.replies ys (p.coordinators * p.machines * 4)
      (block-end p.coordinators p.machines 4 (p.coordinators * p.machines * 4) c m (omega arith) under below) (omega (arith, queue-end)) long

  module _ (d : Coordinator) where
    abbrev co : Coordinator
    co = get_or w.coordinators c d

    abbrev pub log_ring : Ring
    log_ring = get_or co.logs m empty_ring

    abbrev pub queue_ring : Ring
    queue_ring = get_or co.queues m empty_ring

    rings : Sound p w → Rings p co
    rings s = first-at p w.coordinators w.records c under fit.coordinators (Rings p) d s.rings

    pub log-stands : Sound p w → ring.Sound log_ring p.capacity
    log-stands s = All-get_or (λ r. ring.Sound r p.capacity) co.logs m empty_ring (omega (arith, below-five, (rings s).five_logs)) (rings s).logs

    pub queue-stands : Sound p w → ring.Sound queue_ring 4
    queue-stands s = All-get_or (λ r. ring.Sound r 4) co.queues m empty_ring (omega (arith, below-five, (rings s).five_queues)) (rings s).queues

    pub log-here : Sound p w → logs_of p w.records c co.logs m ≡ log_of log_ring slots
    log-here s = at-ring log_of empty_log p.capacity p.machines c w.records co.logs m below (omega (arith, few.machines.1, (rings s).five_logs))

    pub queue-here : Sound p w → queues_of p w.replies c co.queues m ≡ contents queue_ring places
    queue-here s = at-ring contents [] 4 p.machines c w.replies co.queues m below (omega (arith, few.machines.1, (rings s).five_queues))

    -- the ring of the log is r, over the same slots; or with other slots
    pub log-moved : Sound p w → (r : Ring) → ◌≡◌ {A = ℕ → Log} (logs_of p w.records c (set co.logs m r)) (upd (logs_of p w.records c co.logs) m (log_of r slots))
    log-moved s r = new-ring log_of empty_log p.capacity p.machines c w.records co.logs m below (omega (arith, few.machines.1, (rings s).five_logs)) r

    pub log-written : Sound p w → (r : Ring) (ys : List Record) → length ys ≡ p.capacity
        → ◌≡◌ {A = ℕ → Log} (logs_of p (with_slots ys) c (set co.logs m r)) (upd (logs_of p w.records c co.logs) m (log_of r ys))
    log-written s r ys long =
        new-slots log_of empty_log p.capacity p.machines c w.records co.logs m below (omega (arith, few.machines.1, (rings s).five_logs)) r ys long log-end

    pub queue-moved : Sound p w → (r : Ring) → ◌≡◌ {A = ℕ → List Reply} (queues_of p w.replies c (set co.queues m r)) (upd (queues_of p w.replies c co.queues) m (contents r places))
    queue-moved s r = new-ring contents [] 4 p.machines c w.replies co.queues m below (omega (arith, few.machines.1, (rings s).five_queues)) r

    pub queue-written : Sound p w → (r : Ring) (ys : List Reply) → length ys ≡ 4
        → ◌≡◌ {A = ℕ → List Reply} (queues_of p (with_places ys) c (set co.queues m r)) (upd (queues_of p w.replies c co.queues) m (contents r ys))
    queue-written s r ys long =
        new-slots contents [] 4 p.machines c w.replies co.queues m below (omega (arith, few.machines.1, (rings s).five_queues)) r ys long queue-end

    -- the rings still stand where the new ones do
    pub rings-after : Sound p w → (co' : Coordinator) (r q : Ring) → co'.logs ≡ set co.logs m r → co'.queues ≡ set co.queues m q
        → ring.Sound r p.capacity → ring.Sound q 4 → Rings p co'
    rings-after s co' r q e f sr sq =
        let was = rings s in
        record {
          five_logs = ap length e ∙ length-set co.logs m r ∙ was.five_logs;
          five_queues = ap length f ∙ length-set co.queues m q ∙ was.five_queues;
          logs = rw e (All-set (λ t. ring.Sound t p.capacity) co.logs m r sr was.logs);
          queues = rw f (All-set (λ t. ring.Sound t 4) co.queues m q sq was.queues);
        }
