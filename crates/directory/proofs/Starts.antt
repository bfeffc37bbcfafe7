-- Fresh coordinators stand for the protocol's start.
use Rattle.std.proofs.Common.{◌≡◌, ℕ, zero, suc, ◌+◌, ◌*◌, ◌≤◌, List, [], length, get_or, take, replicate, sym, refl, ap, ◌∙◌, subst, arith}
use Rattle.std.specs.List.{AllByRecursion}
use Rattle.std.proofs.lemmas.List.{take-replicate}
use Rattle.ring.specs.declared.Ring.{Ring}
use Rattle.ring.specs.Contents.{contents}
use Rattle.ring.specs.Contents as ring
use Rattle.ring.specs.Rings.{mapi, row, block}
use Rattle.protocol.specs.declared.plan.Plan.{Plan}
use Rattle.protocol.specs.declared.record.Record.{Record}
use Rattle.protocol.specs.declared.record.Reply.{Reply}
use Rattle.protocol.specs.Record.{Log, empty_log}
use Rattle.protocol.specs.Lines.{Words}
use Rattle.protocol.specs.Coordinator as protocol
use Rattle.protocol.specs.Coordinator.{new_coordinator}
use Rattle.protocol.specs.State.{start_words}
use Rattle.protocol.specs.Kept.{Invariant}
use Rattle.protocol.proofs.Functions.{pointwise}
use Rattle.protocol.proofs.Keeps.{new-invariant}
use Rattle.directory.specs.declared.tables.Coordinator.{Coordinator}
use Rattle.directory.specs.View.{world, phase_of, next_of, log_of, logs_of, queues_of, own, owns}
use Rattle.directory.specs.Sound.{Rings}
use Rattle.directory.specs.Calls.{Ready}
use Rattle.ring.specs.Contents.{empty_ring}
use Rattle.directory.specs.Fresh.{Fresh}
use Rattle.directory.proofs.Plans.{Sizes}
use Rattle.directory.proofs.Each.{entries, all_replicate, mapi-replicate}

getD-blank : {Y : Type 0} (y : Y) (n m : ℕ) → get_or (replicate n y) m y ≡ y
getD-blank y zero m = refl
getD-blank y (suc n) zero = refl
getD-blank y (suc n) (suc m) = getD-blank y n m

-- every ring of a row is empty
module _ {X Y : Type 0} (f : Ring → List X → Y) (y : Y) (k w c : ℕ) (table : List X) where
  empty-row : w ≤ 5 → ((slots : List X) → f empty_ring slots ≡ y) → row f k w c table (replicate 5 empty_ring) ≡ replicate w y
  unfolding row
  empty-row l e =
      ap (λ (rs : List Ring). mapi (λ m r. f r (block k (c * w + m) table)) 0 rs) (take-replicate w 5 empty_ring l)
      ∙ mapi-replicate (λ m r. f r (block k (c * w + m) table)) 0 w empty_ring y (λ m. e _)

-- a list of blanks, as a function
all-blank : {Y : Type 0} (y : Y) (n : ℕ) (ys : List Y) → ys ≡ replicate n y → ◌≡◌ {A = ℕ → Y} (entries y ys) (λ m. y)
all-blank {Y} y n ys e = pointwise (λ m. ap (λ zs. get_or zs m y) e ∙ getD-blank y n m)

empty-contents : {X : Type 0} (slots : List X) → contents empty_ring slots ≡ []
unfolding contents
empty-contents slots = refl

empty_log-of : (slots : List Record) → log_of empty_ring slots ≡ empty_log
unfolding contents
empty_log-of slots = refl

module _ (p : Plan) (co : Coordinator) (few : Sizes p) (is : Fresh p.first co) where
  fresh-phase : phase_of p co.work co.work.phase ≡ protocol.Idle
  unfolding phase_of
  fresh-phase = ap (phase_of p co.work) is.phase

  fresh-own : (rs : List Record) (qs : List Reply) (c : ℕ) → own p rs qs c co ≡ new_coordinator p
  unfolding own
  fresh-own rs qs c =
      let ph = fresh-phase in
      let n : next_of co.work.next ≡ p.first = ap next_of is.next in
      let r = is.reads in
      let w = is.writes in
      let l : ◌≡◌ {A = ℕ → Log} (logs_of p rs c co.logs) (λ m. empty_log) =
      all-blank empty_log p.machines _ (ap (row log_of p.capacity p.machines c rs) is.logs ∙ empty-row log_of empty_log p.capacity p.machines c rs few.machines.1 empty_log-of) in
      let q : ◌≡◌ {A = ℕ → List Reply} (queues_of p qs c co.queues) (λ m. []) =
      all-blank [] p.machines _ (ap (row contents 4 p.machines c qs) is.queues ∙ empty-row contents [] 4 p.machines c qs few.machines.1 empty-contents) in
      cc

  fresh-rings : Rings p co
  fresh-rings = record {
    five_logs = ap length is.logs;
    five_queues = ap length is.queues;
    logs = subst (AllByRecursion (λ r. ring.Sound r p.capacity)) (sym is.logs) (all_replicate (λ r. ring.Sound r p.capacity) 5 empty_ring (record { head = omega (arith, few.capacity.0); len = omega arith; cursor = omega arith }));
    queues = subst (AllByRecursion (λ r. ring.Sound r 4)) (sym is.queues) (all_replicate (λ r. ring.Sound r 4) 5 empty_ring (record { head = omega arith; len = omega arith; cursor = omega arith }));
  }

  owns-fresh : (cs : List Coordinator) (rs : List Record) (qs : List Reply) → take p.coordinators cs ≡ replicate p.coordinators co
      → owns p cs rs qs ≡ replicate p.coordinators (new_coordinator p)
  unfolding owns
  owns-fresh cs rs qs e = ap (mapi (own p rs qs) 0) e ∙ mapi-replicate (own p rs qs) 0 p.coordinators co (new_coordinator p) (fresh-own rs qs)

  -- the first coordinators are fresh, and the memories at the start version
  pub ready : (cs : List Coordinator) (rs : List Record) (qs : List Reply) (a b d : Words) → take p.coordinators cs ≡ replicate p.coordinators co
      → a ≡ start_words p → b ≡ start_words p → d ≡ start_words p → Ready p (world cs rs qs a b d)
  ready cs rs qs a b d e at_a at_b at-d =
      let blank : ◌≡◌ {A = ℕ → protocol.Coordinator} (entries (new_coordinator p) (owns p cs rs qs)) (λ c. new_coordinator p) =
      all-blank (new_coordinator p) p.coordinators (owns p cs rs qs) (owns-fresh cs rs qs e) in
      record {
        sound = record {
          rings = subst (AllByRecursion (Rings p)) (sym e) (all_replicate (Rings p) p.coordinators co fresh-rings);
          invariant = λ c. subst (λ (f : ℕ → protocol.Coordinator). Invariant p (f c)) (sym blank) (new-invariant p);
        };
        starts = cc;
      }
