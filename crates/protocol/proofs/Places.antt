-- What the invariant gives to the calls: a place for each record and reply that is written, and lines whose words are there.
use Rattle.std.proofs.Common.{◌≡◌, ℕ, ◌+◌, ◌<◌, ◌≤◌, true, not, ◌||◌, eqb, List, [], ◌∷◌, length, refl, ap, subst, arith}
use Rattle.std.specs.List.{AllByRecursion}
use Rattle.std.proofs.lemmas.Bool.{or_right}
use Rattle.protocol.specs.declared.plan.Plan.{Plan}
use Rattle.protocol.specs.declared.record.Line.{Line}
use Rattle.protocol.specs.Lists.{is_member}
use Rattle.protocol.specs.Record.{Note, records, is_untrimmed}
use Rattle.protocol.specs.Coordinator.{Coordinator, Phase, Idle, Opened, Locking, Checking, Backing, Installing, Aborting, log, queue}
use Rattle.protocol.specs.Room.{one_if, to_write, primary_machines, backup_machines, is_at_primary, is_at_backup}
use Rattle.protocol.specs.Commit.{first_phase}
use Rattle.protocol.specs.Kept.{Invariant, Rising, Lines, machines_due, replies_awaited}
use Rattle.protocol.proofs.Members.{member-first, member-counted}
use Rattle.protocol.proofs.Rooms.{cost-due, one_at_most}

none-due : {P : Type 0} {m : ℕ} {ms : List ℕ} → ◌≡◌ {A = List ℕ} [] (m ∷ ms) → P
none-due {P} {m} {ms} e = let z : ◌≡◌ {A = ℕ} 0 1 = cc in absurd (omega arith)

-- a record is still to be written to each machine due
pub due-todo : (p : Plan) (ws : List Line) (phase : Phase) (m : ℕ) (ms : List ℕ) → machines_due phase ≡ m ∷ ms → 0 < to_write p ws phase m
due-todo p ws Idle m ms e = none-due e
due-todo p ws Opened m ms e = none-due e
due-todo p ws (Locking due awaited denied) m ms e = omega (arith, ap (λ (ns : List ℕ). one_if (is_member m ns)) e, ap one_if (member-first m ms))
due-todo p ws (Checking ls) m ms e = none-due e
due-todo p ws (Backing due) m ms e = omega (arith, ap (λ (ns : List ℕ). one_if (is_member m ns)) e, ap one_if (member-first m ms))
due-todo p ws (Installing reported due) m ms e = omega (arith, ap (λ (ns : List ℕ). one_if (is_member m ns)) e, ap one_if (member-first m ms))
due-todo p ws (Aborting due) m ms e = omega (arith, ap (λ (ns : List ℕ). one_if (is_member m ns)) e, ap one_if (member-first m ms))

at_most_one : (phase : Phase) (m : ℕ) → replies_awaited phase m ≤ 1
at_most_one Idle m = omega arith
at_most_one Opened m = omega arith
at_most_one (Locking due awaited denied) m = one_at_most (is_member m awaited)
at_most_one (Checking ls) m = omega arith
at_most_one (Backing due) m = omega arith
at_most_one (Installing reported due) m = omega arith
at_most_one (Aborting due) m = omega arith

module _ (p : Plan) (k : Coordinator) (inv : Invariant p k) where
  -- a machine that is due a record is there,
  pub due-machine : (m : ℕ) (ms : List ℕ) → machines_due k.phase ≡ m ∷ ms → m < p.machines
  due-machine m ms e = let listed : Rising 0 p.machines (m ∷ ms) = subst (Rising 0 p.machines) e inv.due in listed.1

  -- and its log has a place for the record
  pub due-has-place : (m : ℕ) (ms : List ℕ) → machines_due k.phase ≡ m ∷ ms → length (records (log k m)) < p.capacity
  due-has-place m ms e =
      let n = to_write p k.writes k.phase m in
      let some = due-todo p k.writes k.phase m ms e in
      omega (arith, inv.room m (due-machine m ms e), cost-due n (records (log k m)) some)

  module _ (m : ℕ) (there : m < p.machines) where
    -- a log that a TRUNCATE may be written to has a place for it
    pub trim-has-place : is_untrimmed (records (log k m)) ≡ true → length (records (log k m)) < p.capacity
    trim-has-place u =
        let n = to_write p k.writes k.phase m in
        let one : one_if (not (eqb n 0) || is_untrimmed (records (log k m))) ≡ 1 = ap one_if (or_right (not (eqb n 0)) (is_untrimmed (records (log k m))) u) in
        omega (arith, inv.room m there)

    -- there is one reply at most
    pub one-reply : length (queue k m) ≤ 1
    one-reply = omega (arith, inv.replies m there, at_most_one k.phase m)

    module _ (r : Note) (rest : List Note) (next : (log k m).waiting ≡ r ∷ rest) where
      -- the lines of the record that is polled next
      pub next-lines : Lines p r.lines
      next-lines = let all : AllByRecursion (λ (s : Note). Lines p s.lines) (r ∷ rest) = subst (AllByRecursion (λ (s : Note). Lines p s.lines)) next (inv.waiting m there) in all.0

-- What a commit that begins has yet to write into the log of machine m: LOCK, COMMIT-BACKUP, and COMMIT-PRIMARY or ABORT.
module _ (p : Plan) (m : ℕ) (there : m < p.machines) where
  pub primary-member : (ws : List Line) → is_member m (primary_machines p ws) ≡ is_at_primary p ws m
  primary-member ws = member-counted (is_at_primary p ws) 0 p.machines m (omega arith) (omega arith)

  pub backup-member : (ws : List Line) → is_member m (backup_machines p ws) ≡ is_at_backup p ws m
  backup-member ws = member-counted (is_at_backup p ws) 0 p.machines m (omega arith) (omega arith)

  abbrev pub wanted : List Line → ℕ
  wanted ws = one_if (is_at_primary p ws m) + one_if (is_at_backup p ws m) + one_if (is_at_primary p ws m)

  pub begun-todo : (rs ws : List Line) → to_write p ws (first_phase p rs ws) m ≡ wanted ws
  begun-todo [] [] = refl
  begun-todo (r ∷ rs) [] = omega (arith, ap one_if (primary-member []), ap one_if (backup-member []))
  begun-todo [] (w ∷ ws) = omega (arith, ap one_if (primary-member (w ∷ ws)), ap one_if (backup-member (w ∷ ws)))
  begun-todo (r ∷ rs) (w ∷ ws) = omega (arith, ap one_if (primary-member (w ∷ ws)), ap one_if (backup-member (w ∷ ws)))
