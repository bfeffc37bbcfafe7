-- Every call keeps the count of the replies on their way.
use Rattle.std.proofs.Common.{◌≡◌, ℕ, ◌+◌, ◌<◌, Bool, true, false, cond, not, ◌||◌, List, [], ◌∷◌, length, refl, ap, ◌∙◌, subst, arith}
use Rattle.std.specs.List.{push}
use Rattle.std.proofs.lemmas.List.{length-append}
use Rattle.protocol.specs.declared.plan.Plan.{Plan}
use Rattle.protocol.specs.declared.record.Line.{Line}
use Rattle.protocol.specs.declared.record.Kind.{Kind}
use Rattle.protocol.specs.declared.record.Kind.TheVariants.{Lock}
use Rattle.protocol.specs.declared.record.Reply.{Reply}
use Rattle.protocol.specs.declared.call.Call.{Call}
use Rattle.protocol.specs.Lists.{is_member, upd, without}
use Rattle.protocol.specs.Record.{Note, Log, append, kind_eq}
use Rattle.protocol.specs.Coordinator.{Coordinator, Phase, Idle, Opened, Locking, Checking, Backing, Installing, Aborting}
use Rattle.protocol.specs.Room.{one_if}
use Rattle.protocol.specs.State.{Local}
use Rattle.protocol.specs.Call.{Accepted}
use Rattle.protocol.specs.Commit.{first_phase, after_backup, after_install, after_abort, after_checks, after_failed, read_only}
use Rattle.protocol.specs.Kept.{Invariant, to_reply, locks_due, replies_awaited, machines_due}
use Rattle.protocol.proofs.Functions.{upd-each, upd-both}
use Rattle.protocol.proofs.Members.{member-first, member-later, without-same, without_other}
use Rattle.protocol.proofs.Moves.{Move, Next, Replied, opens, reads-again, reads-new, writes_again, writes-new, abandons, commits, sends-lock, sends-backup, sends-primary, sends-abort, locks, denies, keeps-backup, installs, frees, truncates, takes_one, takes-denied, takes-last, check-fails, check-passes, check-commits, check-ends, trims}
use Rattle.protocol.proofs.Rooms.{one_at_most, once-in}

-- the replies of one machine on their way
abbrev way : Log → List Reply → ℕ
way g q = length (to_reply g.waiting) + length q

-- a reply is awaited exactly where a LOCK is due or a reply is on its way
abbrev Told : Plan → Phase → (ℕ → Log) → (ℕ → List Reply) → Type 0
Told p phase logs queues = (m : ℕ) → m < p.machines → way (logs m) (queues m) + locks_due phase m ≡ replies_awaited phase m

-- How the LOCKs to be replied to change.
one_more : (b : Bool) (r : Note) (rs : List Note) → length (cond b (r ∷ rs) rs) ≡ one_if b + length rs
one_more true r rs = omega arith
one_more false r rs = omega arith

pub to_reply-first : (r : Note) (rs : List Note) → length (to_reply (r ∷ rs)) ≡ one_if (kind_eq r.kind Lock) + length (to_reply rs)
to_reply-first r rs = one_more (kind_eq r.kind Lock) r (to_reply rs)

to_reply-push : (rs : List Note) (r : Note) → length (to_reply (push rs r)) ≡ length (to_reply rs) + one_if (kind_eq r.kind Lock)
to_reply-push [] r = omega (arith, to_reply-first r [])
to_reply-push (s ∷ rs) r = omega (arith, to_reply-first s (push rs r), to_reply-first s rs, to_reply-push rs r)

module _ (p : Plan) (logs : ℕ → Log) (queues : ℕ → List Reply) where
  -- one log changes, and not the LOCKs to be replied to in it
  told-silent : (phase : Phase) (m : ℕ) (g : Log) → length (to_reply g.waiting) ≡ length (to_reply (logs m).waiting)
      → Told p phase logs queues → Told p phase (upd logs m g) queues
  told-silent phase m g same t = upd-each (λ i (h : Log). i < p.machines → way h (queues i) + locks_due phase i ≡ replies_awaited phase i) logs m g
      (λ b. omega (arith, t m b))
      (λ i d b. t i b)

  told-written : (phase : Phase) (m : ℕ) (r : Note) → kind_eq r.kind Lock ≡ false → Told p phase logs queues → Told p phase (upd logs m (append (logs m) r)) queues
  told-written phase m r k t = told-silent phase m (append (logs m) r) (omega (arith, to_reply-push (logs m).waiting r, ap one_if k)) t

  -- the next record is polled, and is no LOCK
  told-passed : (phase : Phase) (m : ℕ) (r : Note) (rest before : List Note) → (logs m).waiting ≡ r ∷ rest → kind_eq r.kind Lock ≡ false
      → Told p phase logs queues → Told p phase (upd logs m (record { polled = before; waiting = rest })) queues
  told-passed phase m r rest before next k t =
      let was : length (to_reply (logs m).waiting) ≡ length (to_reply (r ∷ rest)) = ap (λ (ns : List Note). length (to_reply ns)) next in
      told-silent phase m _ (omega (arith, to_reply-first r rest, ap one_if k)) t

  -- a LOCK is written to the first machine due
  told-lock : (m : ℕ) (ms awaited : List ℕ) (denied : Bool) (r : Note) → is_member m ms ≡ false → kind_eq r.kind Lock ≡ true
      → Told p (Locking (m ∷ ms) awaited denied) logs queues → Told p (Locking ms awaited denied) (upd logs m (append (logs m) r)) queues
  told-lock m ms awaited denied r once k t =
      upd-each (λ i (h : Log). i < p.machines → way h (queues i) + one_if (is_member i ms) ≡ one_if (is_member i awaited)) logs m (append (logs m) r)
      (λ b. omega (arith, t m b, to_reply-push (logs m).waiting r, ap one_if k, ap one_if once, ap one_if (member-first m ms)))
      (λ i d b. omega (arith, t i b, ap one_if (member-later i m ms d)))

  -- a LOCK is polled: its reply is now in the queue
  told-answered : (phase : Phase) (m : ℕ) (r : Note) (rest before : List Note) (y : Reply) → (logs m).waiting ≡ r ∷ rest → kind_eq r.kind Lock ≡ true
      → Told p phase logs queues → Told p phase (upd logs m (record { polled = before; waiting = rest })) (upd queues m (push (queues m) y))
  told-answered phase m r rest before y next k t =
      let was : length (to_reply (logs m).waiting) ≡ length (to_reply (r ∷ rest)) = ap (λ (ns : List Note). length (to_reply ns)) next in
      upd-both (λ i (h : Log) (q : List Reply). i < p.machines → way h q + locks_due phase i ≡ replies_awaited phase i) logs queues m _ _
      (λ b. omega (arith, t m b, to_reply-first r rest, ap one_if k, length-append (queues m) (y ∷ [])))
      (λ i d b. t i b)

  -- a reply is taken: it was the only one of its machine
  told-taken : (due awaited : List ℕ) (denied denied' : Bool) (m : ℕ) (r : Reply) (rs : List Reply) → queues m ≡ r ∷ rs
      → Told p (Locking due awaited denied) logs queues → Told p (Locking due (without m awaited) denied') logs (upd queues m rs)
  told-taken due awaited denied denied' m r rs next t =
      let was : length (queues m) ≡ length (r ∷ rs) = ap length next in
      upd-each (λ i (q : List Reply). i < p.machines → way (logs i) q + one_if (is_member i due) ≡ one_if (is_member i (without m awaited))) queues m rs
      (λ b. omega (arith, t m b, one_at_most (is_member m awaited), ap one_if (without-same m awaited)))
      (λ i d b. omega (arith, t i b, ap one_if (without_other i m awaited d)))

  -- the last reply is taken: nothing is due or on its way
  told-ended : (due awaited : List ℕ) (denied : Bool) → awaited ≡ [] → Told p (Locking due awaited denied) logs queues → Told p Idle logs queues
  told-ended due awaited denied none t m b = omega (arith, t m b, ap (λ (ns : List ℕ). one_if (is_member m ns)) none)

  -- Phases other than locking await nothing.
  told-begun : (rs ws : List Line) → Told p Idle logs queues → Told p (first_phase p rs ws) logs queues
  told-begun [] [] t = t
  told-begun (r ∷ rs) [] t = t
  told-begun [] (w ∷ ws) t = λ m b. omega (arith, t m b)
  told-begun (r ∷ rs) (w ∷ ws) t = λ m b. omega (arith, t m b)

  told-backup : (k : Coordinator) (ms : List ℕ) → Told p Idle logs queues → Told p (after_backup p k ms) logs queues
  told-backup k [] t = t
  told-backup k (m ∷ ms) t = t

  told-install : (ms : List ℕ) → Told p Idle logs queues → Told p (after_install ms) logs queues
  told-install [] t = t
  told-install (m ∷ ms) t = t

  told-abort : (ms : List ℕ) → Told p Idle logs queues → Told p (after_abort ms) logs queues
  told-abort [] t = t
  told-abort (m ∷ ms) t = t

  told-checks : (k : Coordinator) (ls : List Line) → Told p Idle logs queues → Told p (after_checks p k ls) logs queues
  told-checks k [] t = t
  told-checks k (l ∷ ls) t = t

  told-failed : (ws : List Line) → Told p Idle logs queues → Told p (after_failed p ws) logs queues
  told-failed [] t = t
  told-failed (w ∷ ws) t = t

module _ (p : Plan) (x : Local) (inv : Invariant p x.own) where
  abbrev own : Coordinator
  own = x.own

  told : (phase : Phase) → own.phase ≡ phase → Told p phase own.logs own.queues
  told phase e = subst (λ (ph : Phase). Told p ph own.logs own.queues) e inv.replies

  written : (phase : Phase) (m : ℕ) (r : Note) → kind_eq r.kind Lock ≡ false → Told p phase own.logs own.queues
      → Told p phase (upd own.logs m (append (own.logs m) r)) own.queues
  written = told-written p own.logs own.queues

  is-kind : (r : Note) (sort : Kind) → r.kind ≡ sort → kind_eq r.kind Lock ≡ kind_eq sort Lock
  is-kind r sort e = ap (λ (j : Kind). kind_eq j Lock) e

  module _ {m : ℕ} {sort : Kind} (r : Note) (rest : List Note) (n : Next p x m sort r rest) where
    passed : (before : List Note) → kind_eq sort Lock ≡ false → Told p own.phase (upd own.logs m (record { polled = before; waiting = rest })) own.queues
    passed before k = told-passed p own.logs own.queues own.phase m r rest before n.waiting (is-kind r sort n.kind ∙ k) inv.replies

    answered : (before : List Note) (y : Reply) → kind_eq sort Lock ≡ true
        → Told p own.phase (upd own.logs m (record { polled = before; waiting = rest })) (upd own.queues m (push (own.queues m) y))
    answered before y k = told-answered p own.logs own.queues own.phase m r rest before y n.waiting (is-kind r sort n.kind ∙ k) inv.replies

  module _ {m : ℕ} {due awaited : List ℕ} {denied : Bool} {r : Reply} {rs : List Reply} (h : Replied p x m due awaited denied r rs) where
    taken : (denied' : Bool) → Told p (Locking due (without m awaited) denied') own.logs (upd own.queues m rs)
    taken denied' = told-taken p own.logs own.queues due awaited denied denied' m r rs h.queue (told _ h.phase)

    ended : without m awaited ≡ [] → Told p Idle own.logs (upd own.queues m rs)
    ended none = told-ended p own.logs (upd own.queues m rs) due (without m awaited) false none (taken false)

  pub replies-kept : {call : Call} {a : Accepted} → Move p x call a → Told p a.after.own.phase a.after.own.logs a.after.own.queues
  replies-kept (opens e) = told Idle e
  replies-kept (reads-again r e s f) = inv.replies
  replies-kept (reads-new e s f l) = inv.replies
  replies-kept (writes_again r w e s f u h) = inv.replies
  replies-kept (writes-new r e s f u h l) = inv.replies
  replies-kept (abandons e) = told Opened e
  replies-kept (commits e l r) = told-begun p own.logs own.queues own.reads own.writes (told Opened e)
  replies-kept (sends-lock m ms n d e) =
      told-lock p own.logs own.queues m ms n d _ (once-in p own inv m ms (ap machines_due e)) refl (told (Locking (m ∷ ms) n d) e)
  replies-kept (sends-backup m ms e) = written (after_backup p own ms) m _ refl (told-backup p own.logs own.queues own ms (told (Backing (m ∷ ms)) e))
  replies-kept (sends-primary m ms r e) = written (after_install ms) m _ refl (told-install p own.logs own.queues ms (told (Installing r (m ∷ ms)) e))
  replies-kept (sends-abort m ms e) = written (after_abort ms) m _ refl (told-abort p own.logs own.queues ms (told (Aborting (m ∷ ms)) e))
  replies-kept (locks r rest n h) = answered r rest n _ _ refl
  replies-kept (denies r rest n h) = answered r rest n _ _ refl
  replies-kept (keeps-backup r rest n) = passed r rest n _ refl
  replies-kept (installs r rest n) = passed r rest n _ refl
  replies-kept (frees r rest n) = passed r rest n _ refl
  replies-kept (truncates r rest n) = passed r rest n _ refl
  replies-kept (takes_one {m = m} due n d r rs k ks h e) =
      subst (λ (ns : List ℕ). Told p (Locking due ns (d || not r.yes)) own.logs (upd own.queues m rs)) e (taken h (d || not r.yes))
  replies-kept (takes-denied due n d r rs h e y) = ended h e
  replies-kept (takes-last {m = m} due n d r rs h e y) = told-checks p own.logs (upd own.queues m rs) own (read_only own.reads own.writes) (ended h e)
  replies-kept (check-fails l ls e h) = told-failed p own.logs own.queues own.writes (told (Checking (l ∷ ls)) e)
  replies-kept (check-passes l k ls e h) = told (Checking (l ∷ k ∷ ls)) e
  replies-kept (check-commits l e h w) = told (Checking (l ∷ [])) e
  replies-kept (check-ends l w ws e h f) = told (Checking (l ∷ [])) e
  replies-kept (trims {m = m} b ph u) = written own.phase m _ refl inv.replies
