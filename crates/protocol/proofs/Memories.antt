-- Every call leaves each memory with the plan's words, at versions below 2^60.
use Rattle.std.proofs.Common.{ℕ, suc, ◌+◌, ◌^◌, ◌<◌, Bool, true, false, cond, eqb, List, [], ◌∷◌, length, set, Some, Option, sym, ap, ◌∙◌, subst, ⊎_elim}
use Rattle.std.specs.List.{AllByRecursion, find}
use Rattle.std.proofs.lemmas.List.{length-set, set_past, get_or-set_same, get_or-set_other}
use Rattle.std.proofs.lemmas.Bool.{cases_eq, cases_lt}
use Rattle.memory.specs.declared.word.Word.{Word}
use Rattle.memory.specs.Words.{word, at, blank, held_by}
use Rattle.protocol.specs.declared.plan.Plan.{Plan}
use Rattle.protocol.specs.declared.record.Line.{Line}
use Rattle.protocol.specs.declared.record.Kind.TheVariants.{CommitBackup}
use Rattle.protocol.specs.declared.call.Call.{Call}
use Rattle.protocol.specs.Plan.{home_of}
use Rattle.protocol.specs.Lines.{Words, hold, put, lock_lines, install_lines, held_lines, free_lines, is_newer, renew, Backups, backups, back_up}
use Rattle.protocol.specs.Record.{Note, kind_eq}
use Rattle.protocol.specs.Coordinator.{log}
use Rattle.protocol.specs.State.{Local}
use Rattle.protocol.specs.Call.{Accepted}
use Rattle.protocol.specs.Poll.{lines_of, is_lock_of, own_lines, backup_part, back_up_lines, back_up_records}
use Rattle.protocol.specs.Kept.{Invariant, ProperWords, Fits, Lines}
use Rattle.protocol.proofs.Moves.{Move, opens, reads-again, reads-new, writes_again, writes-new, abandons, commits, sends-lock, sends-backup, sends-primary, sends-abort, locks, denies, keeps-backup, installs, frees, truncates, takes_one, takes-denied, takes-last, check-fails, check-passes, check-commits, check-ends, trims}
use Rattle.protocol.proofs.Logged.{lines_none}

-- One word changes.
module _ (p : Plan) (ws : Words) (proper : ProperWords p ws) where
  version-set : (a : ℕ) (w : Word) → w.version < 2 ^ 60 → (b : ℕ) → (at (set ws a w) b).version < 2 ^ 60
  version-set a w low b = ⊎_elim
      (λ e. ⊎_elim
      (λ l. subst (λ (z : Word). z.version < 2 ^ 60) (sym (ap (at (set ws a w)) e ∙ get_or-set_same ws a w blank l)) low)
      (λ l. subst (λ (z : Words). (at z b).version < 2 ^ 60) (sym (set_past ws a w l)) (proper.versions b))
      (cases_lt a (length ws)))
      (λ d. subst (λ (z : Word). z.version < 2 ^ 60) (sym (get_or-set_other ws a b w blank d)) (proper.versions b))
      (cases_eq b a)

  set-proper : (a : ℕ) (w : Word) → w.version < 2 ^ 60 → ProperWords p (set ws a w)
  set-proper a w low = record { size = length-set ws a w ∙ proper.size; versions = version-set a w low }

  pub hold-proper : (holder a : ℕ) → ProperWords p (hold ws holder a)
  hold-proper holder a = set-proper a (held_by holder (at ws a)) (proper.versions a)

  pub put-proper : (a version value : ℕ) → version < 2 ^ 60 → ProperWords p (put ws a version value)
  put-proper a version value low = set-proper a (word version 0 value) low

-- Lines go into a memory.
module _ (p : Plan) where
  pub lock-proper : (ws : Words) (holder : ℕ) (ls : List Line) → ProperWords p ws → ProperWords p (lock_lines ws holder ls)
  lock-proper ws holder [] h = h
  lock-proper ws holder (l ∷ ls) h = lock-proper (hold ws holder l.address) holder ls (hold-proper p ws h holder l.address)

  pub free-proper : (ws : Words) (ls : List Line) → ProperWords p ws → ProperWords p (free_lines ws ls)
  free-proper ws [] h = h
  free-proper ws (l ∷ ls) h = free-proper (hold ws 0 l.address) ls (hold-proper p ws h 0 l.address)

  pub install-proper : (ws : Words) (ls : List Line) → AllByRecursion (Fits p) ls → ProperWords p ws → ProperWords p (install_lines ws ls)
  install-proper ws [] f h = h
  install-proper ws (l ∷ ls) f h =
      install-proper (put ws l.address (l.version + 1) l.value) ls f.1 (put-proper p ws h l.address (l.version + 1) l.value f.0.1)

  renew-if : (b : Bool) (ws vs : Words) → ProperWords p ws → ProperWords p vs → ProperWords p (cond b vs ws)
  renew-if true ws vs h k = k
  renew-if false ws vs h k = h

  pub renew-proper : (ws : Words) (l : Line) → Fits p l → ProperWords p ws → ProperWords p (renew ws l)
  renew-proper ws l f h = renew-if (is_newer ws l) ws _ h (put-proper p ws h l.address (l.version + 1) l.value f.1)

  pub record ProperBackups (b : Backups) : Type 0 where
    pub firsts : ProperWords p b.firsts
    pub seconds : ProperWords p b.seconds

  back_up-proper : (first : Bool) (l : Line) (b : Backups) → Fits p l → ProperBackups b → ProperBackups (back_up first l b)
  back_up-proper true l b f h = record { firsts = renew-proper b.firsts l f h.firsts; seconds = h.seconds }
  back_up-proper false l b f h = record { firsts = h.firsts; seconds = renew-proper b.seconds l f h.seconds }

  pub lines-proper : (m : ℕ) (ls : List Line) (b : Backups) → AllByRecursion (Fits p) ls → ProperBackups b → ProperBackups (back_up_lines p m ls b)
  lines-proper m [] b f h = h
  lines-proper m (l ∷ ls) b f h =
      let first = eqb (home_of p l.address).first m in lines-proper m ls (back_up first l b) f.1 (back_up-proper first l b f.0 h)

  lines-if : (b : Bool) (ls : List Line) → Lines p ls → Lines p (cond b ls [])
  lines-if true ls h = h
  lines-if false ls h = lines_none p

  abbrev Fine : List Note → Type 0
  Fine rs = AllByRecursion (λ (r : Note). Lines p r.lines) rs

  pub records-proper : (m : ℕ) (rs : List Note) (b : Backups) → Fine rs → ProperBackups b → ProperBackups (back_up_records p m rs b)
  records-proper m [] b f h = h
  records-proper m (r ∷ rs) b f h =
      lines-proper m (backup_part r) _ (lines-if (kind_eq r.kind CommitBackup) r.lines f.0).fit (records-proper m rs b f.1 h)

  -- the lines of a LOCK among polled records
  found_first : (b : Bool) (r : Note) (rest : Option Note) → Lines p r.lines → Lines p (lines_of rest) → Lines p (lines_of (cond b (Some r) rest))
  found_first true r rest h k = h
  found_first false r rest h k = k

  found-lines : (test : Note → Bool) (rs : List Note) → Fine rs → Lines p (lines_of (find test rs))
  found-lines test [] f = lines_none p
  found-lines test (r ∷ rs) f = found_first (test r) r (find test rs) f.0 (found-lines test rs f.1)

module _ (p : Plan) (x : Local) (inv : Invariant p x.own) where
  -- the lines that a COMMIT-PRIMARY installs, and those that an ABORT frees some of
  pub own_lines-fit : (m : ℕ) (r : Note) → m < p.machines → Lines p (own_lines x m r)
  own_lines-fit m r b = found-lines p (is_lock_of r.number) (log x.own m).polled (inv.polled m b)

  pub primaries-kept : {call : Call} {a : Accepted} → Move p x call a → ProperWords p x.primaries → ProperWords p a.after.primaries
  primaries-kept (opens e) w = w
  primaries-kept (reads-again r e s f) w = w
  primaries-kept (reads-new e s f l) w = w
  primaries-kept (writes_again r k e s f u h) w = w
  primaries-kept (writes-new r e s f u h l) w = w
  primaries-kept (abandons e) w = w
  primaries-kept (commits e l r) w = w
  primaries-kept (sends-lock m ms n d e) w = w
  primaries-kept (sends-backup m ms e) w = w
  primaries-kept (sends-primary m ms r e) w = w
  primaries-kept (sends-abort m ms e) w = w
  primaries-kept (locks {c = c} r rest n h) w = lock-proper p x.primaries (suc c) r.lines w
  primaries-kept (denies r rest n h) w = w
  primaries-kept (keeps-backup r rest n) w = w
  primaries-kept (installs {m = m} r rest n) w = install-proper p x.primaries (own_lines x m r) (own_lines-fit m r n.machine).fit w
  primaries-kept (frees {c = c} {m = m} r rest n) w = free-proper p x.primaries (held_lines x.primaries (suc c) (own_lines x m r)) w
  primaries-kept (truncates r rest n) w = w
  primaries-kept (takes_one due n d r rs k ks h e) w = w
  primaries-kept (takes-denied due n d r rs h e y) w = w
  primaries-kept (takes-last due n d r rs h e y) w = w
  primaries-kept (check-fails l ls e h) w = w
  primaries-kept (check-passes l k ls e h) w = w
  primaries-kept (check-commits l e h v) w = w
  primaries-kept (check-ends l k ws e h f) w = w
  primaries-kept (trims b ph u) w = w

  abbrev of : Local → Backups
  of y = backups 0 y.firsts y.seconds

  pub backups-kept : {call : Call} {a : Accepted} → Move p x call a → ProperBackups p (of x) → ProperBackups p (of a.after)
  backups-kept (opens e) w = w
  backups-kept (reads-again r e s f) w = w
  backups-kept (reads-new e s f l) w = w
  backups-kept (writes_again r k e s f u h) w = w
  backups-kept (writes-new r e s f u h l) w = w
  backups-kept (abandons e) w = w
  backups-kept (commits e l r) w = w
  backups-kept (sends-lock m ms n d e) w = w
  backups-kept (sends-backup m ms e) w = w
  backups-kept (sends-primary m ms r e) w = w
  backups-kept (sends-abort m ms e) w = w
  backups-kept (locks r rest n h) w = w
  backups-kept (denies r rest n h) w = w
  backups-kept (keeps-backup r rest n) w = w
  backups-kept (installs r rest n) w = w
  backups-kept (frees r rest n) w = w
  backups-kept (truncates {m = m} r rest n) w =
      let after = records-proper p m (log x.own m).polled (of x) (inv.polled m n.machine) w in record { firsts = after.firsts; seconds = after.seconds }
  backups-kept (takes_one due n d r rs k ks h e) w = w
  backups-kept (takes-denied due n d r rs h e y) w = w
  backups-kept (takes-last due n d r rs h e y) w = w
  backups-kept (check-fails l ls e h) w = w
  backups-kept (check-passes l k ls e h) w = w
  backups-kept (check-commits l e h v) w = w
  backups-kept (check-ends l k ws e h f) w = w
  backups-kept (trims b ph u) w = w
