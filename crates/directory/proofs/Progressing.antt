-- How a transaction goes on after a reply and after a check.
use Rattle.std.proofs.Common.{◌≡◌, ℕ, zero, suc, ◌+◌, ◌<◌, ◌≤◌, Bool, true, false, cond, not, ◌&&◌, eqb, List, [], ◌∷◌, length, get_or, take, drop, set, sym, refl, ap, ◌∙◌, ⊎_elim, arith}
use Rattle.std.specs.List.{filter, list_all}
use mir.Val.{bool_byte}
use Rattle.std.proofs.lemmas.List.{drop_more, get_or-set_same, get_or-set_other}
use Rattle.std.proofs.lemmas.Bool.{cases_eq, eq-eqb, ne_eqb, true≢false, and_right}
use Rattle.protocol.specs.declared.plan.Plan.{Plan}
use Rattle.protocol.specs.declared.record.Line.{Line}
use Rattle.protocol.specs.declared.call.Outcome.{Outcome}
use Rattle.protocol.specs.declared.call.Outcome.TheVariants.{Going, Committed, Aborted}
use Rattle.protocol.specs.Lists.{is_empty, without}
use Rattle.std.specs.List.{range_with_len}
use Rattle.protocol.specs.Coordinator as protocol
use Rattle.protocol.specs.Coordinator.{line_at, new_coordinator, with_words}
use Rattle.protocol.specs.Plan.{machine_list}
use Rattle.protocol.specs.Room.{is_at_backup, primary_machines, backup_machines, one_if, is_at_primary}
use Rattle.protocol.specs.State.{Local, in_phase}
use Rattle.protocol.specs.Call.{accept}
use Rattle.protocol.specs.Commit.{read_only, taken, checked, last_passed, after_failed, after_checks}
use Rattle.directory.specs.declared.tables.Locking.{Locking}
use Rattle.directory.specs.declared.tables.Phase.{Phase}
use Rattle.directory.specs.declared.tables.Phase.TheVariants as tables
use Rattle.directory.specs.declared.tables.Work.{Work}
use Rattle.directory.specs.View.{reads_of, writes_of, phase_of, due_from, awaited_of}
use Rattle.directory.specs.Progress.{unwritten_from, ChecksFrom, Came, AfterReply, AfterCheck}
use Rattle.directory.proofs.Working.{moved, same-phase, keeps-moved, all-due}

-- a flag as a number
pub as_number : (b : Bool) → bool_byte b ≡ one_if b
as_number true = refl
as_number false = refl

-- The machines awaited.
no_flag : (b : Bool) (n : ℕ) (ns : List ℕ) (rest : Bool) → is_empty ns ≡ rest → is_empty (cond b (n ∷ ns) ns) ≡ (not b && rest)
no_flag true n ns rest e = refl
no_flag false n ns rest e = e

down-from : (flags : List Bool) (i n : ℕ) → i + n ≤ length flags → is_empty (filter (λ k. get_or flags k false) (range_with_len i n)) ≡ list_all not (take n (drop i flags))
down-from flags i zero l = refl
down-from flags i (suc n) l =
    let rest = down-from flags (i + 1) n (omega arith) in
    no_flag (get_or flags i false) i (filter (λ k. get_or flags k false) (range_with_len (i + 1) n)) (list_all not (take n (drop (i + 1) flags))) rest
    ∙ ap (λ (fs : List Bool). list_all not (take (suc n) fs)) (sym (drop_more flags i false (omega arith)))

pub none-awaited : (p : Plan) (t : Locking) (n : ℕ) → n ≡ p.machines → n ≤ 5 → is_empty (awaited_of p t) ≡ list_all not (take n t.awaited)
none-awaited p t n e l = ap (λ (k : ℕ). is_empty (filter (λ m. get_or t.awaited m false) (range_with_len 0 k))) (sym e) ∙ down-from t.awaited 0 n (omega (arith, l, t.five))

-- a machine whose reply came is no longer awaited
and-true : (b c : Bool) → c ≡ true → b ≡ (b && c)
and-true true c e = sym e
and-true false c e = refl

flag-set : (flags : List Bool) (m : ℕ) → m < length flags → (k : ℕ) → get_or (set flags m false) k false ≡ (get_or flags k false && not (eqb k m))
flag-set flags m l k = ⊎_elim
    (λ e.
    ap (λ (j : ℕ). get_or (set flags m false) j false) e ∙ get_or-set_same flags m false false l
    ∙ sym (and_right (get_or flags k false) (not (eqb k m)) (ap not (eq-eqb k m e))))
    (λ n. get_or-set_other flags m k false false n ∙ and-true (get_or flags k false) (not (eqb k m)) (ap not (ne_eqb k m n)))
    (cases_eq k m)

left_out : (flag other : Bool) (n : ℕ) (ns ms : List ℕ) (test : ℕ → Bool) → test n ≡ other → ms ≡ filter test ns
    → cond (flag && other) (n ∷ ms) ms ≡ filter test (cond flag (n ∷ ns) ns)
left_out true true n ns ms test e f = ap (λ (ks : List ℕ). n ∷ ks) f ∙ ap (λ (b : Bool). cond b (n ∷ filter test ns) (filter test ns)) (sym e)
left_out true false n ns ms test e f = f ∙ ap (λ (b : Bool). cond b (n ∷ filter test ns) (filter test ns)) (sym e)
left_out false other n ns ms test e f = f

without-set : (flags : List Bool) (m : ℕ) → m < length flags → (ns : List ℕ)
    → filter (λ k. get_or (set flags m false) k false) ns ≡ without m (filter (λ k. get_or flags k false) ns)
without-set flags m l [] = refl
without-set flags m l (n ∷ ns) =
    let ms = filter (λ k. get_or (set flags m false) k false) ns in
    ap (λ (b : Bool). cond b (n ∷ ms) ms) (flag-set flags m l n)
    ∙ left_out (get_or flags n false) (not (eqb n m)) n (filter (λ k. get_or flags k false) ns) ms (λ k. not (eqb k m)) refl (without-set flags m l ns)

-- a list that is empty, or not
empty-is : {X : Type 0} (xs : List X) → is_empty xs ≡ true → xs ≡ []
empty-is [] e = refl
empty-is (x ∷ xs) e = absurd (true≢false (sym e))

-- A check; the words written are ws.
module _ (t : Work) (n : ℕ) (current : Bool) where
  abbrev After : Phase → Outcome → Type 0
  After ph o = AfterCheck t n current (moved t ph) o

  some-failed : (p : Plan) (ws : List Line) → is_empty ws ≡ false → after_failed p ws ≡ protocol.Aborting (primary_machines p ws)
  some-failed p [] e = absurd (true≢false e)
  some-failed p (w ∷ ws) e = refl

  -- one that is not current aborts,
  failed : (p : Plan) (x : Local) (a : ℕ) → current ≡ false → checked p x a (unwritten_from t n) current ≡ accept a (one_if current) Aborted (in_phase x (after_failed p x.own.writes))
  unfolding checked
  failed p x a f =
      ap (checked p x a (unwritten_from t n)) f ∙ ap (λ (b : Bool). accept a (one_if b) Aborted (in_phase x (after_failed p x.own.writes))) (sym f)

  pub check-fails-idle : current ≡ false → is_empty (writes_of t) ≡ true → After tables.Idle Aborted
  unfolding phase_of
  check-fails-idle f none = record {
    goes_on = λ p x a e. failed p x a f ∙ ap (λ (ws : List Line). accept a (one_if current) Aborted (in_phase x (after_failed p ws))) (e ∙ empty-is _ none);
    kept = keeps-moved t tables.Idle;
  }

  pub check-fails : current ≡ false → is_empty (writes_of t) ≡ false → After (tables.Aborting 0) Aborted
  unfolding phase_of
  check-fails f some = record {
    goes_on = λ p x a e.
        failed p x a f
        ∙ ap (λ (ws : List Line). accept a (one_if current) Aborted (in_phase x (after_failed p ws))) e
        ∙ ap (λ (ph : protocol.Phase). accept a (one_if current) Aborted (in_phase x ph)) (some-failed p (writes_of t) some ∙ ap protocol.Aborting (sym (all-due p (is_at_primary p (writes_of t)))));
    kept = keeps-moved t (tables.Aborting 0);
  }

  -- and one that is goes on
  passed : (p : Plan) (x : Local) (a : ℕ) (ls : List Line) → current ≡ true → unwritten_from t n ≡ ls → checked p x a (unwritten_from t n) current ≡ checked p x a ls true
  passed p x a ls y e = ap (checked p x a (unwritten_from t n)) y ∙ ap (λ (ks : List Line). checked p x a ks true) e

  -- with more to check,
  pub check-more : current ≡ true → (l : Line) (ls : List Line) → unwritten_from t n ≡ l ∷ ls → After (tables.Checking n) Going
  unfolding checked phase_of
  check-more y l ls some = record {
    goes_on = λ p x a e.
        passed p x a (l ∷ ls) y some
        ∙ ap (λ (b : Bool). accept a (one_if b) Going (in_phase x (protocol.Checking (l ∷ ls)))) (sym y)
        ∙ ap (λ (ks : List Line). accept a (one_if current) Going (in_phase x (protocol.Checking ks))) (sym some);
    kept = keeps-moved t (tables.Checking n);
  }

  -- or with none, and by whether something is written
  module _ (y : current ≡ true) (none : unwritten_from t n ≡ []) where
    last : (p : Plan) (x : Local) (a : ℕ) (ws : List Line) → x.own.writes ≡ ws → checked p x a (unwritten_from t n) current ≡ last_passed p x a ws
    unfolding checked
    last p x a ws e = passed p x a [] y none ∙ ap (last_passed p x a) e

    pub check-commits : is_empty (writes_of t) ≡ true → After tables.Idle Committed
    unfolding last_passed phase_of
    check-commits empty = record {
      goes_on = λ p x a e. last p x a [] (e ∙ empty-is _ empty) ∙ ap (λ (b : Bool). accept a (one_if b) Committed (in_phase x protocol.Idle)) (sym y);
      kept = keeps-moved t tables.Idle;
    }

    backed : (p : Plan) (x : Local) (a : ℕ) (ws : List Line) → is_empty ws ≡ false → last_passed p x a ws ≡ accept a 1 Going (in_phase x (protocol.Backing (backup_machines p ws)))
    unfolding last_passed
    backed p x a [] some = absurd (true≢false some)
    backed p x a (w ∷ ws) some = refl

    pub check-ends : is_empty (writes_of t) ≡ false → After (tables.Backing 0) Going
    unfolding phase_of
    check-ends some = record {
      goes_on = λ p x a e.
          last p x a (writes_of t) e
          ∙ backed p x a (writes_of t) some
          ∙ ap (λ (b : Bool). accept a (one_if b) Going (in_phase x (protocol.Backing (backup_machines p (writes_of t))))) (sym y)
          ∙ ap (λ (ms : List ℕ). accept a (one_if current) Going (in_phase x (protocol.Backing ms))) (sym (all-due p (is_at_backup p (writes_of t))));
      kept = keeps-moved t (tables.Backing 0);
    }

-- A reply.
module _ (p : Plan) (l : Locking) (m : ℕ) (granted : Bool) (below : m < 5) (after : Locking) (came : Came l m granted after) where
  pub still : awaited_of p after ≡ without m (awaited_of p l)
  still =
      ap (λ (flags : List Bool). filter (λ k. get_or flags k false) (machine_list p)) came.awaited
      ∙ without-set l.awaited m (omega (arith, below, l.five)) (machine_list p)

module _ (p : Plan) (x : Local) (due : List ℕ) (n : ℕ) where
  still-awaited : (left : List ℕ) (denied : Bool) → is_empty left ≡ false → taken p x due left denied n ≡ accept n 0 Going (in_phase x (protocol.Locking due left denied))
  unfolding taken
  still-awaited [] denied e = absurd (true≢false e)
  still-awaited (m ∷ ms) denied e = refl

  some-denied : (left : List ℕ) (denied : Bool) → is_empty left ≡ true → denied ≡ true
      → taken p x due left denied n ≡ accept n 0 Aborted (in_phase x (protocol.Aborting (primary_machines p x.own.writes)))
  unfolding taken
  some-denied [] true e f = refl
  some-denied [] false e f = absurd (true≢false (sym f))
  some-denied (m ∷ ms) denied e f = absurd (true≢false (sym e))

  all-granted : (left : List ℕ) (denied : Bool) → is_empty left ≡ true → denied ≡ false
      → taken p x due left denied n ≡ accept n 0 Going (in_phase x (after_checks p x.own (read_only x.own.reads x.own.writes)))
  unfolding taken
  all-granted [] true e f = absurd (true≢false f)
  all-granted [] false e f = refl
  all-granted (m ∷ ms) denied e f = absurd (true≢false (sym e))

-- what follows the checks depends on the written words alone
checks-same : (p : Plan) (k j : protocol.Coordinator) (ls : List Line) → k.writes ≡ j.writes → after_checks p k ls ≡ after_checks p j ls
checks-same p k j [] e = ap (λ (ws : List Line). protocol.Backing (backup_machines p ws)) e
checks-same p k j (l ∷ ls) e = refl

module _ (p : Plan) (t : Work) (l : Locking) where
  abbrev due_now : List ℕ
  due_now = due_from p l.due (is_at_primary p (writes_of t))

  pub reply-more : is_empty (awaited_of p l) ≡ false → AfterReply p t l (moved t (tables.Locking l)) Going
  unfolding phase_of
  reply-more some = record {
    goes_on = λ x n rs ws. still-awaited p x due_now n (awaited_of p l) l.denied some;
    kept = keeps-moved t (tables.Locking l);
  }

  module _ (none : is_empty (awaited_of p l) ≡ true) where
    pub reply-denied : l.denied ≡ true → AfterReply p t l (moved t (tables.Aborting 0)) Aborted
    unfolding phase_of
    reply-denied denied = record {
      goes_on = λ x n rs ws.
          some-denied p x due_now n (awaited_of p l) l.denied none denied
          ∙ ap (λ (ls : List Line). accept n 0 Aborted (in_phase x (protocol.Aborting (primary_machines p ls)))) ws
          ∙ ap (λ (ms : List ℕ). accept n 0 Aborted (in_phase x (protocol.Aborting ms))) (sym (all-due p (is_at_primary p (writes_of t))));
      kept = keeps-moved t (tables.Aborting 0);
    }

    -- every reply was a yes
    pub reply-checks : l.denied ≡ false → (ph : Phase) → ChecksFrom t ph → AfterReply p t l (moved t ph) Going
    reply-checks granted ph checks = record {
      goes_on = λ x n rs ws.
          all-granted p x due_now n (awaited_of p l) l.denied none granted
          ∙ ap (λ (ks : List Line). accept n 0 Going (in_phase x (after_checks p x.own ks))) (ap (λ (ks : List Line). read_only ks x.own.writes) rs ∙ ap (read_only (reads_of t)) ws)
          ∙ ap (λ (q : protocol.Phase). accept n 0 Going (in_phase x q))
          (checks-same p x.own (with_words (new_coordinator p) (reads_of t) (writes_of t)) (read_only (reads_of t) (writes_of t)) ws ∙ sym (checks p) ∙ sym (same-phase p t ph t.next ph));
      kept = keeps-moved t ph;
    }

-- the words read and not written are checked, or else the backups are due
module _ (t : Work) where
  pub checks-some : (l : Line) (ls : List Line) → unwritten_from t 0 ≡ l ∷ ls → ChecksFrom t (tables.Checking 0)
  unfolding phase_of
  checks-some l ls e p = ap protocol.Checking e ∙ ap (after_checks p (with_words (new_coordinator p) (reads_of t) (writes_of t))) (sym e)

  pub checks-none : unwritten_from t 0 ≡ [] → ChecksFrom t (tables.Backing 0)
  unfolding phase_of
  checks-none e p =
      ap protocol.Backing (all-due p (is_at_backup p (writes_of t))) ∙ ap (after_checks p (with_words (new_coordinator p) (reads_of t) (writes_of t))) (sym e)
