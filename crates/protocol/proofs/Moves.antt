-- Every accepted call is one of these 25 moves, each with what its checks found: what all calls keep is proved by one case for each move.
use Rattle.std.proofs.Common.{◌≡◌, ℕ, suc, ◌-◌, ◌^◌, ◌<◌, Bool, true, false, cond, not, ◌||◌, eqb, ◌≢◌, ◌⊎◌, List, [], ◌∷◌, length, Some, None, Ok, Option, refl, inl, inr}
use Rattle.std.specs.List.{push, list_all}
use Rattle.std.proofs.lemmas.Bool.{ltb-true, eqb-false, not-true, false≢true}
use Rattle.protocol.specs.declared.record.Line.{Line}
use Rattle.protocol.specs.declared.record.Kind.{Kind}
use Rattle.protocol.specs.declared.record.Kind.TheVariants.{Lock, CommitBackup, CommitPrimary, Abort, Truncate}
use Rattle.protocol.specs.declared.record.Reply.{Reply}
use Rattle.protocol.specs.declared.plan.Plan.{Plan}
use Rattle.protocol.specs.declared.call.Call.{Call}
use Rattle.protocol.specs.declared.call.Call.TheVariants.{Open, Read, Write, Abandon, Commit, Send, Poll, Take, Check, Trim}
use Rattle.protocol.specs.declared.call.Outcome.{Outcome}
use Rattle.protocol.specs.declared.call.Outcome.TheVariants.{Going, Committed, Aborted}
use Rattle.protocol.specs.Lists.{without}
use Rattle.protocol.specs.Plan.{size}
use Rattle.protocol.specs.Lines.{line, is_current, lock_lines, install_lines, held_lines, free_lines}
use Rattle.protocol.specs.Record.{Note, number_of, records, is_untrimmed}
use Rattle.protocol.specs.Coordinator.{Phase, Idle, Opened, Locking, Checking, Backing, Installing, Aborting, is_idle, is_opened, line_at, log, queue, with_phase, with_words, with_record, with_queue}
use Rattle.protocol.specs.Room.{is_roomy, one_if, primary_machines, backup_machines}
use Rattle.protocol.specs.State.{Local, with_own, in_phase, with_primaries, with_backups}
use Rattle.protocol.specs.Call.{Accepted, answered}
use Rattle.protocol.specs.Transact.{read_word, write_word, value_of, seen, with_read, with_writes, rewrite}
use Rattle.protocol.specs.Commit.{begin, first_outcome, record_for, last_given, after_backup, after_install, after_abort, after_checks, after_failed, read_only, send_in, take_in, take_reply, taken, check_in, checked, last_passed}
use Rattle.protocol.specs.Poll.{own_lines, truncated, dropped, pass_over, polled_over, reply, with_reply, poll_lock, poll_record, poll_next}
use Rattle.protocol.specs.Step.{local_call}
use Rattle.protocol.proofs.Holds.{Holds, refused, accepted, past, found, holds_of}

-- an accepted call with its two numbers, its outcome and what it leaves
abbrev pub leaves : ℕ → ℕ → Outcome → Local → Accepted
leaves a b o x = record { answer = answered a b o; after = x }

-- the record of a kind is written to machine m, and the coordinator goes on in the given phase
abbrev pub writes_record : Plan → ℕ → Local → Kind → ℕ → Phase → Local
writes_record p c x kind m phase = with_own x (with_phase (with_record x.own m (record_for p c x.own kind m)) phase)

-- the reply at the front of a queue is taken
abbrev pub takes : Local → ℕ → List Reply → Local
takes x m rs = with_own x (with_queue x.own m rs)

-- a record of that kind is the next that machine m polls
pub record Next (p : Plan) (x : Local) (m : ℕ) (sort : Kind) (r : Note) (rest : List Note) : Type 0 where
  pub machine : m < p.machines
  pub waiting : (log x.own m).waiting ≡ r ∷ rest
  pub kind : r.kind ≡ sort

-- a reply of machine m is there to be taken
pub record Replied (p : Plan) (x : Local) (m : ℕ) (due awaited : List ℕ) (denied : Bool) (r : Reply) (rs : List Reply) : Type 0 where
  pub machine : m < p.machines
  pub phase : x.own.phase ≡ Locking due awaited denied
  pub queue : queue x.own m ≡ r ∷ rs

-- the accepted calls and what they leave
pub data Move (p : Plan) (x : Local) : Call → Accepted → Type 0 where
  -- Open, read, write and abandon.
  opens : {c : ℕ} → x.own.phase ≡ Idle → Move p x (Open c) (leaves 0 0 Going (with_own x (with_words (with_phase x.own Opened) [] [])))
  reads-again : {c a : ℕ} (r : Line) → x.own.phase ≡ Opened → a < size p → line_at a x.own.reads ≡ Some r
      → Move p x (Read c a) (leaves r.version (value_of r (line_at a x.own.writes)) Going x)
  reads-new : {c a : ℕ} → x.own.phase ≡ Opened → a < size p → line_at a x.own.reads ≡ None → length x.own.reads < 8
      → Move p x (Read c a) (leaves (seen x.primaries a).version (seen x.primaries a).value Going (with_read x (seen x.primaries a)))
  writes_again : {c a v : ℕ} (r w : Line) → x.own.phase ≡ Opened → a < size p → line_at a x.own.reads ≡ Some r → r.version ≢ 2 ^ 60 - 1
      → line_at a x.own.writes ≡ Some w → Move p x (Write c a v) (leaves 0 0 Going (with_writes x (rewrite x.own.writes r.address v)))
  writes-new : {c a v : ℕ} (r : Line) → x.own.phase ≡ Opened → a < size p → line_at a x.own.reads ≡ Some r → r.version ≢ 2 ^ 60 - 1
      → line_at a x.own.writes ≡ None → length x.own.writes < 4
      → Move p x (Write c a v) (leaves 0 0 Going (with_writes x (push x.own.writes (line r.address r.version v))))
  abandons : {c : ℕ} → x.own.phase ≡ Opened → Move p x (Abandon c) (leaves 0 0 Aborted (in_phase x Idle))
  -- Commit.
  commits : {c : ℕ} → x.own.phase ≡ Opened → x.own.next < 2 ^ 64 → is_roomy p (begin p x.own) ≡ true
      → Move p x (Commit c) (leaves x.own.next 0 (first_outcome x.own.reads x.own.writes) (with_own x (begin p x.own)))
  -- Send, by the phase.
  sends-lock : {c : ℕ} (m : ℕ) (ms awaited : List ℕ) (denied : Bool) → x.own.phase ≡ Locking (m ∷ ms) awaited denied
      → Move p x (Send c) (leaves m (number_of Lock) Going (writes_record p c x Lock m (Locking ms awaited denied)))
  sends-backup : {c : ℕ} (m : ℕ) (ms : List ℕ) → x.own.phase ≡ Backing (m ∷ ms)
      → Move p x (Send c) (leaves m (number_of CommitBackup) Going (writes_record p c x CommitBackup m (after_backup p x.own ms)))
  sends-primary : {c : ℕ} (m : ℕ) (ms : List ℕ) (reported : Bool) → x.own.phase ≡ Installing reported (m ∷ ms)
      → Move p x (Send c) (leaves m (number_of CommitPrimary) (cond reported Going Committed) (writes_record p c x CommitPrimary m (after_install ms)))
  sends-abort : {c : ℕ} (m : ℕ) (ms : List ℕ) → x.own.phase ≡ Aborting (m ∷ ms)
      → Move p x (Send c) (leaves m (number_of Abort) Going (writes_record p c x Abort m (after_abort ms)))
  -- Poll, by the kind of the next record; a LOCK takes all its lines or none.
  locks : {c m : ℕ} (r : Note) (rest : List Note) → Next p x m Lock r rest → list_all (is_current x.primaries) r.lines ≡ true
      → Move p x (Poll c m)
      (leaves (number_of Lock) (length r.lines) Going
      (with_primaries (with_own x (with_reply (pass_over x.own m r rest) m (reply r.number true))) (lock_lines x.primaries (suc c) r.lines)))
  denies : {c m : ℕ} (r : Note) (rest : List Note) → Next p x m Lock r rest → list_all (is_current x.primaries) r.lines ≡ false
      → Move p x (Poll c m) (leaves (number_of Lock) 0 Going (with_own x (with_reply (pass_over x.own m r rest) m (reply r.number false))))
  keeps-backup : {c m : ℕ} (r : Note) (rest : List Note) → Next p x m CommitBackup r rest
      → Move p x (Poll c m) (leaves (number_of CommitBackup) 0 Going (polled_over x m r rest))
  installs : {c m : ℕ} (r : Note) (rest : List Note) → Next p x m CommitPrimary r rest
      → Move p x (Poll c m)
      (leaves (number_of CommitPrimary) (length (own_lines x m r)) Going
      (with_primaries (polled_over x m r rest) (install_lines x.primaries (own_lines x m r))))
  frees : {c m : ℕ} (r : Note) (rest : List Note) → Next p x m Abort r rest
      → Move p x (Poll c m)
      (leaves (number_of Abort) (length (held_lines x.primaries (suc c) (own_lines x m r))) Going
      (with_primaries (polled_over x m r rest) (free_lines x.primaries (held_lines x.primaries (suc c) (own_lines x m r)))))
  truncates : {c m : ℕ} (r : Note) (rest : List Note) → Next p x m Truncate r rest
      → Move p x (Poll c m)
      (leaves (number_of Truncate) (truncated p x m).puts Going
      (with_backups (dropped x m rest) (truncated p x m).firsts (truncated p x m).seconds))
  -- Take: more replies are awaited, or the last came and some was no, or the last came and all were yes.
  takes_one : {c m : ℕ} (due awaited : List ℕ) (denied : Bool) (r : Reply) (rs : List Reply) (n : ℕ) (ns : List ℕ)
      → Replied p x m due awaited denied r rs → without m awaited ≡ n ∷ ns
      → Move p x (Take c m) (leaves (one_if r.yes) 0 Going (in_phase (takes x m rs) (Locking due (n ∷ ns) (denied || not r.yes))))
  takes-denied : {c m : ℕ} (due awaited : List ℕ) (denied : Bool) (r : Reply) (rs : List Reply)
      → Replied p x m due awaited denied r rs → without m awaited ≡ [] → (denied || not r.yes) ≡ true
      → Move p x (Take c m) (leaves (one_if r.yes) 0 Aborted (in_phase (takes x m rs) (Aborting (primary_machines p x.own.writes))))
  takes-last : {c m : ℕ} (due awaited : List ℕ) (denied : Bool) (r : Reply) (rs : List Reply)
      → Replied p x m due awaited denied r rs → without m awaited ≡ [] → (denied || not r.yes) ≡ false
      → Move p x (Take c m)
      (leaves (one_if r.yes) 0 Going (in_phase (takes x m rs) (after_checks p x.own (read_only x.own.reads x.own.writes))))
  -- Check: it fails, or more are to be checked, or the last passed.
  check-fails : {c : ℕ} (l : Line) (ls : List Line) → x.own.phase ≡ Checking (l ∷ ls) → is_current x.primaries l ≡ false
      → Move p x (Check c) (leaves l.address 0 Aborted (in_phase x (after_failed p x.own.writes)))
  check-passes : {c : ℕ} (l k : Line) (ls : List Line) → x.own.phase ≡ Checking (l ∷ k ∷ ls) → is_current x.primaries l ≡ true
      → Move p x (Check c) (leaves l.address 1 Going (in_phase x (Checking (k ∷ ls))))
  check-commits : {c : ℕ} (l : Line) → x.own.phase ≡ Checking (l ∷ []) → is_current x.primaries l ≡ true → x.own.writes ≡ []
      → Move p x (Check c) (leaves l.address 1 Committed (in_phase x Idle))
  check-ends : {c : ℕ} (l w : Line) (ws : List Line) → x.own.phase ≡ Checking (l ∷ []) → is_current x.primaries l ≡ true → x.own.writes ≡ w ∷ ws
      → Move p x (Check c) (leaves l.address 1 Going (in_phase x (Backing (backup_machines p (w ∷ ws)))))
  -- Trim.
  trims : {c m : ℕ} → m < p.machines → (x.own.phase ≡ Idle) ⊎ (x.own.phase ≡ Opened) → is_untrimmed (records (log x.own m)) ≡ true
      → Move p x (Trim c m) (leaves (last_given x.own) 0 Going (with_own x (with_record x.own m (record_for p c x.own Truncate m))))

idle-is : (phase : Phase) → is_idle phase ≡ true → phase ≡ Idle
idle-is Idle t = refl
idle-is Opened t = absurd (false≢true t)
idle-is (Locking due n d) t = absurd (false≢true t)
idle-is (Checking ls) t = absurd (false≢true t)
idle-is (Backing due) t = absurd (false≢true t)
idle-is (Installing r due) t = absurd (false≢true t)
idle-is (Aborting due) t = absurd (false≢true t)

opened-is : (phase : Phase) → is_opened phase ≡ true → phase ≡ Opened
opened-is Idle t = absurd (false≢true t)
opened-is Opened t = refl
opened-is (Locking due n d) t = absurd (false≢true t)
opened-is (Checking ls) t = absurd (false≢true t)
opened-is (Backing due) t = absurd (false≢true t)
opened-is (Installing r due) t = absurd (false≢true t)
opened-is (Aborting due) t = absurd (false≢true t)

idle-or-opened : (phase : Phase) → (is_idle phase || is_opened phase) ≡ true → (phase ≡ Idle) ⊎ (phase ≡ Opened)
idle-or-opened Idle t = inl refl
idle-or-opened Opened t = inr refl
idle-or-opened (Locking due n d) t = absurd (false≢true t)
idle-or-opened (Checking ls) t = absurd (false≢true t)
idle-or-opened (Backing due) t = absurd (false≢true t)
idle-or-opened (Installing r due) t = absurd (false≢true t)
idle-or-opened (Aborting due) t = absurd (false≢true t)

differs : (a b : ℕ) → not (eqb a b) ≡ true → a ≢ b
differs a b t = eqb-false a b (not-true (eqb a b) t)

module _ (p : Plan) (x : Local) where
  read-moves : (c a : ℕ) (o : Option Line) → x.own.phase ≡ Opened → a < size p → line_at a x.own.reads ≡ o → Holds (Move p x (Read c a)) (read_word x a o)
  unfolding read_word
  read-moves c a None e s h = past _ _ _ (λ t. accepted (reads-new e s h (ltb-true _ _ t)))
  read-moves c a (Some r) e s h = accepted (reads-again r e s h)

  write_moves : (c a v : ℕ) (r : Line) (o : Option Line) → x.own.phase ≡ Opened → a < size p → line_at a x.own.reads ≡ Some r → r.version ≢ 2 ^ 60 - 1
      → line_at a x.own.writes ≡ o → Holds (Move p x (Write c a v)) (write_word x r v o)
  unfolding write_word
  write_moves c a v r None e s f b h = past _ _ _ (λ t. accepted (writes-new r e s f b h (ltb-true _ _ t)))
  write_moves c a v r (Some w) e s f b h = accepted (writes_again r w e s f b h)

  send-moves : (c : ℕ) (phase : Phase) → x.own.phase ≡ phase → Holds (Move p x (Send c)) (send_in p c x phase)
  unfolding send_in
  send-moves c Idle e = refused
  send-moves c Opened e = refused
  send-moves c (Locking [] n d) e = refused
  send-moves c (Locking (m ∷ ms) n d) e = accepted (sends-lock m ms n d e)
  send-moves c (Checking ls) e = refused
  send-moves c (Backing []) e = refused
  send-moves c (Backing (m ∷ ms)) e = accepted (sends-backup m ms e)
  send-moves c (Installing r []) e = refused
  send-moves c (Installing r (m ∷ ms)) e = accepted (sends-primary m ms r e)
  send-moves c (Aborting []) e = refused
  send-moves c (Aborting (m ∷ ms)) e = accepted (sends-abort m ms e)

  lock-moves : (c m : ℕ) (r : Note) (rest : List Note) (b : Bool) → Next p x m Lock r rest → list_all (is_current x.primaries) r.lines ≡ b
      → Holds (Move p x (Poll c m)) (poll_lock c x m r rest b)
  unfolding poll_lock
  lock-moves c m r rest true n h = accepted (locks r rest n h)
  lock-moves c m r rest false n h = accepted (denies r rest n h)

  record-moves : (c m : ℕ) (kind : Kind) (r : Note) (rest : List Note) → Next p x m kind r rest → Holds (Move p x (Poll c m)) (poll_record p c x m kind r rest)
  unfolding poll_record
  record-moves c m Lock r rest n = lock-moves c m r rest _ n refl
  record-moves c m CommitBackup r rest n = accepted (keeps-backup r rest n)
  record-moves c m CommitPrimary r rest n = accepted (installs r rest n)
  record-moves c m Abort r rest n = accepted (frees r rest n)
  record-moves c m Truncate r rest n = accepted (truncates r rest n)

  next-moves : (c m : ℕ) (rs : List Note) → m < p.machines → (log x.own m).waiting ≡ rs → Holds (Move p x (Poll c m)) (poll_next p c x m rs)
  unfolding poll_next
  next-moves c m [] l e = refused
  next-moves c m (r ∷ rest) l e = record-moves c m r.kind r rest (record { machine = l; waiting = e; kind = refl })

  taken-moves : (c m : ℕ) (due awaited left : List ℕ) (denied some-no : Bool) (r : Reply) (rs : List Reply) → Replied p x m due awaited denied r rs
      → without m awaited ≡ left → (denied || not r.yes) ≡ some-no → Holds (Move p x (Take c m)) (taken p (takes x m rs) due left some-no (one_if r.yes))
  unfolding taken
  taken-moves c m due n [] d true r rs e h i = accepted (takes-denied due n d r rs e h i)
  taken-moves c m due n [] d false r rs e h i = accepted (takes-last due n d r rs e h i)
  taken-moves c m due n (k ∷ ks) d g r rs e h i = rw (← i) (accepted (takes_one due n d r rs k ks e h))

  reply-moves : (c m : ℕ) (due awaited : List ℕ) (denied : Bool) (rs : List Reply) → m < p.machines → x.own.phase ≡ Locking due awaited denied → queue x.own m ≡ rs
      → Holds (Move p x (Take c m)) (take_reply p x m due awaited denied rs)
  unfolding take_reply
  reply-moves c m due n d [] l e h = refused
  reply-moves c m due n d (r ∷ rs) l e h = taken-moves c m due n _ d _ r rs (record { machine = l; phase = e; queue = h }) refl refl

  take-moves : (c m : ℕ) (phase : Phase) → m < p.machines → x.own.phase ≡ phase → Holds (Move p x (Take c m)) (take_in p x m phase)
  unfolding take_in
  take-moves c m Idle l e = refused
  take-moves c m Opened l e = refused
  take-moves c m (Locking due n d) l e = reply-moves c m due n d _ l e refl
  take-moves c m (Checking ls) l e = refused
  take-moves c m (Backing due) l e = refused
  take-moves c m (Installing r due) l e = refused
  take-moves c m (Aborting due) l e = refused

  passed-moves : (c : ℕ) (l : Line) (ws : List Line) → x.own.phase ≡ Checking (l ∷ []) → is_current x.primaries l ≡ true → x.own.writes ≡ ws
      → Holds (Move p x (Check c)) (last_passed p x l.address ws)
  unfolding last_passed
  passed-moves c l [] e h w = accepted (check-commits l e h w)
  passed-moves c l (k ∷ ws) e h w = accepted (check-ends l k ws e h w)

  checked-moves : (c : ℕ) (l : Line) (ls : List Line) (b : Bool) → x.own.phase ≡ Checking (l ∷ ls) → is_current x.primaries l ≡ b
      → Holds (Move p x (Check c)) (checked p x l.address ls b)
  unfolding checked
  checked-moves c l ls false e h = accepted (check-fails l ls e h)
  checked-moves c l [] true e h = passed-moves c l _ e h refl
  checked-moves c l (k ∷ ls) true e h = accepted (check-passes l k ls e h)

  check-moves : (c : ℕ) (phase : Phase) → x.own.phase ≡ phase → Holds (Move p x (Check c)) (check_in p x phase)
  unfolding check_in
  check-moves c Idle e = refused
  check-moves c Opened e = refused
  check-moves c (Locking due n d) e = refused
  check-moves c (Checking []) e = refused
  check-moves c (Checking (l ∷ ls)) e = checked-moves c l ls _ e refl
  check-moves c (Backing due) e = refused
  check-moves c (Installing r due) e = refused
  check-moves c (Aborting due) e = refused

  pub moves : (call : Call) → Holds (Move p x call) (local_call p x call)
  unfolding local_call
  moves (Open c) = past _ _ _ (λ t. accepted (opens (idle-is _ t)))
  moves (Read c a) = past _ _ _ (λ o. past _ _ _ (λ t. read-moves c a _ (opened-is _ o) (ltb-true _ _ t) refl))
  moves (Write c a v) =
      past _ _ _ (λ o. past _ _ _ (λ t. found _ _ _ (λ r e. past _ _ _ (λ u. write_moves c a v r _ (opened-is _ o) (ltb-true _ _ t) e (differs _ _ u) refl))))
  moves (Abandon c) = past _ _ _ (λ o. accepted (abandons (opened-is _ o)))
  moves (Commit c) = past _ _ _ (λ o. past _ _ _ (λ t. past _ _ _ (λ u. accepted (commits (opened-is _ o) (ltb-true _ _ t) u))))
  moves (Send c) = send-moves c _ refl
  moves (Poll c m) = past _ _ _ (λ t. next-moves c m _ (ltb-true _ _ t) refl)
  moves (Take c m) = past _ _ _ (λ t. take-moves c m _ (ltb-true _ _ t) refl)
  moves (Check c) = check-moves c _ refl
  moves (Trim c m) = past _ _ _ (λ t. past _ _ _ (λ u. past _ _ _ (λ v. accepted (trims (ltb-true _ _ t) (idle-or-opened _ u) v))))

  -- what an accepted call did
  pub move-of : (call : Call) (a : Accepted) → local_call p x call ≡ Ok a → Move p x call a
  move-of call a e = holds_of (moves call) e
