-- Every call keeps the room in the logs.
use Rattle.std.proofs.Common.{◌≡◌, ℕ, ◌+◌, ◌<◌, ◌≤◌, Bool, true, false, not, ◌||◌, eqb, ◌≢◌, ◌⊎◌, List, [], ◌∷◌, ◌++◌, reverse, length, sym, refl, ap, ◌∙◌, subst, ⊎_elim, arith}
use Rattle.std.specs.List.{push}
use Rattle.std.proofs.lemmas.List.{append_assoc, length-append, reverse-append}
use Rattle.std.proofs.lemmas.Bool.{both_ways, cases_eq, leb-true, ne_eqb}
use Rattle.protocol.specs.declared.plan.Plan.{Plan}
use Rattle.protocol.specs.declared.record.Line.{Line}
use Rattle.protocol.specs.declared.record.Kind.TheVariants.{Truncate}
use Rattle.protocol.specs.declared.call.Call.{Call}
use Rattle.protocol.specs.Lists.{is_member, upd}
use Rattle.protocol.specs.Lines.{line}
use Rattle.protocol.specs.Record.{Note, Log, records, append, kind_eq, is_untrimmed}
use Rattle.protocol.specs.Coordinator.{Coordinator, Phase, Idle, Opened, Locking, Checking, Backing, Aborting, log}
use Rattle.protocol.specs.Room.{one_if, to_write, with_trim, is_roomy, primary_machines, backup_machines}
use Rattle.protocol.specs.State.{Local}
use Rattle.protocol.specs.Call.{Accepted}
use Rattle.protocol.specs.Commit.{begin, after_backup, after_install, after_abort, after_checks, after_failed, read_only}
use Rattle.protocol.specs.Transact.{rewrite}
use Rattle.protocol.specs.Kept.{Invariant, Rising, machines_due}
use Rattle.protocol.proofs.Functions.{upd-each}
use Rattle.protocol.proofs.Members.{counted-passes, member-first, member-later, rising-once}
use Rattle.protocol.proofs.Moves.{Move, opens, reads-again, reads-new, writes_again, writes-new, abandons, commits, sends-lock, sends-backup, sends-primary, sends-abort, locks, denies, keeps-backup, installs, frees, truncates, takes_one, takes-denied, takes-last, check-fails, check-passes, check-commits, check-ends, trims}

-- what a log costs with n records still to be written: its records, these, and a place for a TRUNCATE
abbrev pub cost : ℕ → List Note → ℕ
cost n rs = length rs + with_trim n rs

pub one_at_most : (b : Bool) → one_if b ≤ 1
one_at_most true = omega arith
one_at_most false = omega arith

some_one : (n : ℕ) (u : Bool) → 0 < n → one_if (not (eqb n 0) || u) ≡ 1
some_one n u l = ap (λ t. one_if (not t || u)) (ne_eqb n 0 (λ q. omega arith))

-- a record that is still to be written has its place, and the TRUNCATE behind it too
pub cost-due : (n : ℕ) (rs : List Note) → 0 < n → length rs + n + 1 ≡ cost n rs
cost-due n rs l = omega (arith, some_one n (is_untrimmed rs) l)

-- no more to write than before
cost-fewer : (n n' : ℕ) (rs : List Note) → n' ≤ n → cost n' rs ≤ cost n rs
cost-fewer n n' rs l = ⊎_elim
    (λ e. let same : cost n' rs ≡ cost n rs = ap (λ k. cost k rs) e in omega arith)
    (λ d. omega (arith, one_at_most (not (eqb n' 0) || is_untrimmed rs), some_one n (is_untrimmed rs) (more d)))
    (cases_eq n' n)
  where
    more : n' ≢ n → 0 < n
    more d = ⊎_elim (λ z. absurd (d (omega arith))) (λ z. omega arith) (cases_eq n 0)

-- one record more, and one fewer to write
cost-sent : (n n' : ℕ) (rs : List Note) (r : Note) → n' + 1 ≤ n → cost n' (push rs r) ≤ cost n rs
cost-sent n n' rs r l =
    omega (arith, length-append rs (r ∷ []), one_at_most (not (eqb n' 0) || is_untrimmed (push rs r)), some_one n (is_untrimmed rs) (omega arith))

-- a TRUNCATE takes the place that was kept for it
untrimmed-push : (rs : List Note) (r : Note) → is_untrimmed (push rs r) ≡ not (kind_eq r.kind Truncate)
untrimmed-push [] r = refl
untrimmed-push (s ∷ []) r = refl
untrimmed-push (s ∷ t ∷ rs) r = untrimmed-push (t ∷ rs) r

trim-wanted : (n : ℕ) (rs : List Note) → n ≡ 0 → is_untrimmed rs ≡ true → one_if (not (eqb n 0) || is_untrimmed rs) ≡ 1
trim-wanted n rs z u = ap (λ j. one_if (not (eqb j 0) || is_untrimmed rs)) z ∙ ap one_if u

trim-behind : (n : ℕ) (rs : List Note) (r : Note) → n ≡ 0 → r.kind ≡ Truncate → one_if (not (eqb n 0) || is_untrimmed (push rs r)) ≡ 0
trim-behind n rs r z k =
    ap (λ j. one_if (not (eqb j 0) || is_untrimmed (push rs r))) z ∙ ap one_if (untrimmed-push rs r) ∙ ap (λ j. one_if (not (kind_eq j Truncate))) k

cost-trimmed : (n : ℕ) (rs : List Note) (r : Note) → n ≡ 0 → is_untrimmed rs ≡ true → r.kind ≡ Truncate → cost n (push rs r) ≤ cost n rs
cost-trimmed n rs r z u k = omega (arith, length-append rs (r ∷ []), trim-wanted n rs z u, trim-behind n rs r z k)

-- fewer records, and no TRUNCATE wanted where none was, cost no more
record Fewer (xs ys : List Note) : Type 0 where
  short : length ys ≤ length xs
  trimmed : is_untrimmed ys ≡ true → is_untrimmed xs ≡ true

one_less : (b u v : Bool) → (v ≡ true → u ≡ true) → one_if (b || v) ≤ one_if (b || u)
one_less true u v f = omega arith
one_less false true true f = omega arith
one_less false true false f = omega arith
one_less false false true f = absurd (both_ways false refl (f refl))
one_less false false false f = omega arith

cost-less : (n : ℕ) (xs ys : List Note) → Fewer xs ys → cost n ys ≤ cost n xs
cost-less n xs ys f = omega (arith, f.short, one_less (not (eqb n 0)) (is_untrimmed xs) (is_untrimmed ys) f.trimmed)

untrimmed-cons : (r : Note) (rs : List Note) → is_untrimmed rs ≡ true → is_untrimmed (r ∷ rs) ≡ true
untrimmed-cons r [] e = absurd (both_ways false refl e)
untrimmed-cons r (s ∷ rs) e = e

untrimmed-behind : (xs rs : List Note) → is_untrimmed rs ≡ true → is_untrimmed (xs ++ rs) ≡ true
untrimmed-behind [] rs e = e
untrimmed-behind (x ∷ xs) rs e = untrimmed-cons x (xs ++ rs) (untrimmed-behind xs rs e)

-- a polled record stays where it is in the log
pub passed-records : (before : List Note) (r : Note) (rest : List Note) → reverse (r ∷ before) ++ rest ≡ reverse before ++ r ∷ rest
passed-records before r rest = ap (λ (rs : List Note). rs ++ rest) (reverse-append (r ∷ []) before) ∙ append_assoc (reverse before) (r ∷ []) rest

passed-fewer : (before : List Note) (r : Note) (rest : List Note) → Fewer (reverse before ++ r ∷ rest) (reverse (r ∷ before) ++ rest)
passed-fewer before r rest =
    let same = passed-records before r rest in record { short = omega (arith, ap length same); trimmed = λ t. ap is_untrimmed (sym same) ∙ t }

dropped-fewer : (before : List Note) (r : Note) (rest : List Note) → Fewer (reverse before ++ r ∷ rest) rest
dropped-fewer before r rest =
    record { short = simp length-append (omega arith); trimmed = λ t. untrimmed-behind (reverse before) (r ∷ rest) (untrimmed-cons r rest t) }

-- Room in all logs, with `todo` records still to be written into each.
abbrev pub Room : Plan → (ℕ → ℕ) → (ℕ → Log) → Type 0
Room p todo logs = (m : ℕ) → m < p.machines → cost (todo m) (records (logs m)) ≤ p.capacity

module _ (p : Plan) (todo todo' : ℕ → ℕ) (logs : ℕ → Log) (room : Room p todo logs) where
  room-fewer : ((m : ℕ) → todo' m ≤ todo m) → Room p todo' logs
  room-fewer l m b = omega (arith, room m b, cost-fewer (todo m) (todo' m) (records (logs m)) (l m))

  -- the room after a change of one log
  module _ (m : ℕ) where
    changed : (g : Log) → cost (todo' m) (records g) ≤ cost (todo m) (records (logs m)) → ((i : ℕ) → i ≢ m → todo' i ≤ todo i) → Room p todo' (upd logs m g)
    changed g here there = upd-each (λ i (h : Log). i < p.machines → cost (todo' i) (records h) ≤ p.capacity) logs m g
        (λ b. omega (arith, room m b))
        (λ i d b. omega (arith, room i b, cost-fewer (todo i) (todo' i) (records (logs i)) (there i d)))

    appended : (r : Note) → cost (todo' m) (push (records (logs m)) r) ≤ cost (todo m) (records (logs m)) → ((i : ℕ) → i ≢ m → todo' i ≤ todo i)
        → Room p todo' (upd logs m (append (logs m) r))
    appended r here there =
        let same : records (append (logs m) r) ≡ push (records (logs m)) r = sym (append_assoc (reverse (logs m).polled) (logs m).waiting (r ∷ [])) in
        changed (append (logs m) r) (subst (λ (rs : List Note). cost (todo' m) rs ≤ cost (todo m) (records (logs m))) (sym same) here) there

    room-sent : (r : Note) → todo' m + 1 ≤ todo m → ((i : ℕ) → i ≢ m → todo' i ≤ todo i) → Room p todo' (upd logs m (append (logs m) r))
    room-sent r here there = appended r (cost-sent (todo m) (todo' m) (records (logs m)) r here) there

module _ (p : Plan) (todo : ℕ → ℕ) (logs : ℕ → Log) (room : Room p todo logs) (m : ℕ) where
  room-trimmed : (r : Note) → todo m ≡ 0 → is_untrimmed (records (logs m)) ≡ true → r.kind ≡ Truncate → Room p todo (upd logs m (append (logs m) r))
  room-trimmed r z u k = appended p todo todo logs room m r (cost-trimmed (todo m) (records (logs m)) r z u k) (λ i d. omega arith)

  -- the next record is polled
  module _ (r : Note) (rest : List Note) (next : (logs m).waiting ≡ r ∷ rest) where
    polled : (g : Log) → Fewer (reverse (logs m).polled ++ r ∷ rest) (records g) → Room p todo (upd logs m g)
    polled g f =
        let was : Fewer (records (logs m)) (records g) = subst (λ (ns : List Note). Fewer (reverse (logs m).polled ++ ns) (records g)) (sym next) f in
        changed p todo todo logs room m g (cost-less (todo m) (records (logs m)) (records g) was) (λ i d. omega arith)

    room-passed : Room p todo (upd logs m (record { polled = r ∷ (logs m).polled; waiting = rest }))
    room-passed = polled _ (passed-fewer (logs m).polled r rest)

    room-dropped : Room p todo (upd logs m (record { polled = []; waiting = rest }))
    room-dropped = polled _ (dropped-fewer (logs m).polled r rest)

-- What is still to be written once machine m of those due has its record.
module _ (p : Plan) (k : Coordinator) where
  backup-todo : (ms : List ℕ) (i : ℕ) → to_write p k.writes (after_backup p k ms) i ≡ one_if (is_member i ms) + one_if (is_member i (primary_machines p k.writes))
  backup-todo [] i = omega arith
  backup-todo (m ∷ ms) i = refl

  install-todo : (ms : List ℕ) (i : ℕ) → to_write p k.writes (after_install ms) i ≡ one_if (is_member i ms)
  install-todo [] i = refl
  install-todo (m ∷ ms) i = refl

  abort-todo : (ms : List ℕ) (i : ℕ) → to_write p k.writes (after_abort ms) i ≡ one_if (is_member i ms)
  abort-todo [] i = refl
  abort-todo (m ∷ ms) i = refl

  checks-todo : (ls : List Line) (i : ℕ) → to_write p k.writes (after_checks p k ls) i ≡ to_write p k.writes (Checking ls) i
  checks-todo [] i = refl
  checks-todo (l ∷ ls) i = refl

failed-todo : (p : Plan) (ws : List Line) (i : ℕ) → to_write p ws (after_failed p ws) i ≤ one_if (is_member i (primary_machines p ws))
failed-todo p [] i = omega arith
failed-todo p (w ∷ ws) i = omega arith

module _ (p : Plan) (k : Coordinator) (inv : Invariant p k) where
  abbrev todo : Phase → ℕ → ℕ
  todo phase i = to_write p k.writes phase i

  -- the room of a coordinator in a known phase
  room_in : (phase : Phase) → k.phase ≡ phase → Room p (todo phase) k.logs
  room_in phase e = subst (λ (ph : Phase). Room p (todo ph) k.logs) e inv.room

  pub once-in : (m : ℕ) (ms : List ℕ) → machines_due k.phase ≡ m ∷ ms → is_member m ms ≡ false
  once-in m ms e = rising-once 0 p.machines m ms (subst (Rising 0 p.machines) e inv.due)

  -- a phase in which no more is to be written
  room-on : (phase phase' : Phase) → k.phase ≡ phase → ((i : ℕ) → todo phase' i ≤ todo phase i) → Room p (todo phase') k.logs
  room-on phase phase' e l = room-fewer p (todo phase) (todo phase') k.logs (room_in phase e) l

  -- nothing is to be written, whatever words there are
  room-none : (todo' : ℕ → ℕ) → ((i : ℕ) → todo' i ≡ 0) → Room p todo' k.logs
  room-none todo' z = room-fewer p (todo k.phase) todo' k.logs inv.room (λ i. omega (arith, z i))

  -- the record of the first machine due is written
  room_next : (m : ℕ) (ms : List ℕ) (phase phase' : Phase) (r : Note) → k.phase ≡ phase → machines_due phase ≡ m ∷ ms
      → (one_if (is_member m (m ∷ ms)) ≡ one_if (is_member m ms) + 1 → todo phase' m + 1 ≤ todo phase m)
      → ((i : ℕ) → one_if (is_member i (m ∷ ms)) ≡ one_if (is_member i ms) → todo phase' i ≤ todo phase i)
      → Room p (todo phase') (upd k.logs m (append (log k m) r))
  room_next m ms phase phase' r e due here there =
      let once = once-in m ms (ap machines_due e ∙ due) in
      room-sent p (todo phase) (todo phase') k.logs (room_in phase e) m r
      (here (omega (arith, ap one_if (member-first m ms), ap one_if once)))
      (λ i d. there i (ap one_if (member-later i m ms d)))

-- the room that a commit found
room-found : (p : Plan) (k : Coordinator) → is_roomy p k ≡ true → Room p (to_write p k.writes k.phase) k.logs
room-found p k e m b = leb-true _ _ (counted-passes _ 0 p.machines m (omega arith) (omega arith) e)

module _ (p : Plan) (x : Local) (inv : Invariant p x.own) where
  abbrev own : Coordinator
  own = x.own

  abbrev RoomIn : Coordinator → Type 0
  RoomIn k = Room p (to_write p k.writes k.phase) k.logs

  pub room-kept : {call : Call} {a : Accepted} → Move p x call a → RoomIn a.after.own
  room-kept (opens e) = room-none p own inv _ (λ i. refl)
  room-kept (reads-again r e s f) = inv.room
  room-kept (reads-new e s f l) = inv.room
  room-kept (writes_again {v = v} r w e s f u h) = room-none p own inv _ (λ i. ap (λ (ph : Phase). to_write p (rewrite own.writes r.address v) ph i) e)
  room-kept (writes-new {v = v} r e s f u h l) = room-none p own inv _ (λ i. ap (λ (ph : Phase). to_write p (push own.writes (line r.address r.version v)) ph i) e)
  room-kept (abandons e) = room-none p own inv _ (λ i. refl)
  room-kept (commits e l r) = room-found p (begin p own) r
  room-kept (sends-lock {c = c} m ms n d e) = room_next p own inv m ms _ (Locking ms n d) _ e refl (λ h. omega arith) (λ i h. omega arith)
  room-kept (sends-backup {c = c} m ms e) =
      room_next p own inv m ms _ (after_backup p own ms) _ e refl (λ h. omega (arith, backup-todo p own ms m)) (λ i h. omega (arith, backup-todo p own ms i))
  room-kept (sends-primary {c = c} m ms r e) =
      room_next p own inv m ms _ (after_install ms) _ e refl (λ h. omega (arith, install-todo p own ms m)) (λ i h. omega (arith, install-todo p own ms i))
  room-kept (sends-abort {c = c} m ms e) =
      room_next p own inv m ms _ (after_abort ms) _ e refl (λ h. omega (arith, abort-todo p own ms m)) (λ i h. omega (arith, abort-todo p own ms i))
  room-kept (locks {m = m} r rest n h) = room-passed p _ own.logs inv.room m r rest n.waiting
  room-kept (denies {m = m} r rest n h) = room-passed p _ own.logs inv.room m r rest n.waiting
  room-kept (keeps-backup {m = m} r rest n) = room-passed p _ own.logs inv.room m r rest n.waiting
  room-kept (installs {m = m} r rest n) = room-passed p _ own.logs inv.room m r rest n.waiting
  room-kept (frees {m = m} r rest n) = room-passed p _ own.logs inv.room m r rest n.waiting
  room-kept (truncates {m = m} r rest n) = room-dropped p _ own.logs inv.room m r rest n.waiting
  room-kept (takes_one due n d r rs k ks h e) = room-on p own inv _ (Locking due (k ∷ ks) (d || not r.yes)) h.phase (λ i. omega arith)
  room-kept (takes-denied due n d r rs h e y) = room-on p own inv _ (Aborting (primary_machines p own.writes)) h.phase (λ i. omega arith)
  room-kept (takes-last due n d r rs h e y) =
      let ls = read_only own.reads own.writes in
      room-on p own inv _ (after_checks p own ls) h.phase (λ i. omega (arith, checks-todo p own ls i))
  room-kept (check-fails l ls e h) = room-on p own inv _ (after_failed p own.writes) e (λ i. omega (arith, failed-todo p own.writes i))
  room-kept (check-passes l k ls e h) = room-on p own inv _ (Checking (k ∷ ls)) e (λ i. omega arith)
  room-kept (check-commits l e h w) = room-none p own inv _ (λ i. refl)
  room-kept (check-ends l w ws e h f) =
      subst (λ (vs : List Line). Room p (to_write p own.writes (Backing (backup_machines p vs))) own.logs) f
      (room-on p own inv _ (Backing (backup_machines p own.writes)) e (λ i. omega arith))
  room-kept (trims {m = m} b ph u) = room-trimmed p _ own.logs inv.room m _ (quiet ph) u refl
    where
      quiet : (own.phase ≡ Idle) ⊎ (own.phase ≡ Opened) → to_write p own.writes own.phase m ≡ 0
      quiet ph = ⊎_elim (ap (λ (j : Phase). to_write p own.writes j m)) (ap (λ (j : Phase). to_write p own.writes j m)) ph
