-- Every call keeps the machines due a record in rising order.
use Rattle.std.proofs.Common.{◌≡◌, ℕ, List, [], ◌∷◌, subst, arith}
use Rattle.protocol.specs.declared.plan.Plan.{Plan}
use Rattle.protocol.specs.declared.record.Line.{Line}
use Rattle.protocol.specs.declared.call.Call.{Call}
use Rattle.protocol.specs.Plan.{machine_list}
use Rattle.protocol.specs.Coordinator.{Coordinator, Phase, Locking, Backing, Installing, Aborting}
use Rattle.protocol.specs.Room.{primary_machines, backup_machines, is_at_primary, is_at_backup}
use Rattle.protocol.specs.State.{Local}
use Rattle.protocol.specs.Call.{Accepted}
use Rattle.protocol.specs.Commit.{first_phase, after_backup, after_install, after_abort, after_checks, after_failed, read_only}
use Rattle.protocol.specs.Kept.{Invariant, Rising, machines_due}
use Rattle.protocol.proofs.Members.{rising-rest, rising-filter, rising-range}
use Rattle.protocol.proofs.Moves.{Move, opens, reads-again, reads-new, writes_again, writes-new, abandons, commits, sends-lock, sends-backup, sends-primary, sends-abort, locks, denies, keeps-backup, installs, frees, truncates, takes_one, takes-denied, takes-last, check-fails, check-passes, check-commits, check-ends, trims}

module _ (p : Plan) where
  -- machines of the plan, in rising order
  abbrev pub Listed : List ℕ → Type 0
  Listed ms = Rising 0 p.machines ms

  listed : Listed (machine_list p)
  listed = rising-range 0 p.machines p.machines (omega arith)

  pub primaries-listed : (ws : List Line) → Listed (primary_machines p ws)
  primaries-listed ws = rising-filter (is_at_primary p ws) 0 p.machines (machine_list p) listed

  pub backups-listed : (ws : List Line) → Listed (backup_machines p ws)
  backups-listed ws = rising-filter (is_at_backup p ws) 0 p.machines (machine_list p) listed

  pub rest-listed : (m : ℕ) (ms : List ℕ) → Listed (m ∷ ms) → Listed ms
  rest-listed m ms h = rising-rest 0 p.machines m ms h

  -- The phases that go by what is left.
  begun-due : (rs ws : List Line) → Listed (machines_due (first_phase p rs ws))
  begun-due [] [] = tt
  begun-due (r ∷ rs) [] = tt
  begun-due [] (w ∷ ws) = primaries-listed (w ∷ ws)
  begun-due (r ∷ rs) (w ∷ ws) = primaries-listed (w ∷ ws)

  backup-due : (k : Coordinator) (ms : List ℕ) → Listed ms → Listed (machines_due (after_backup p k ms))
  backup-due k [] h = primaries-listed k.writes
  backup-due k (m ∷ ms) h = h

  install-due : (ms : List ℕ) → Listed ms → Listed (machines_due (after_install ms))
  install-due [] h = tt
  install-due (m ∷ ms) h = h

  abort-due : (ms : List ℕ) → Listed ms → Listed (machines_due (after_abort ms))
  abort-due [] h = tt
  abort-due (m ∷ ms) h = h

  checks-due : (k : Coordinator) (ls : List Line) → Listed (machines_due (after_checks p k ls))
  checks-due k [] = backups-listed k.writes
  checks-due k (l ∷ ls) = tt

  failed-due : (ws : List Line) → Listed (machines_due (after_failed p ws))
  failed-due [] = tt
  failed-due (w ∷ ws) = primaries-listed (w ∷ ws)

module _ (p : Plan) (x : Local) (inv : Invariant p x.own) where
  abbrev own : Coordinator
  own = x.own

  due_in : (phase : Phase) → own.phase ≡ phase → Listed p (machines_due phase)
  due_in phase e = subst (λ (ph : Phase). Listed p (machines_due ph)) e inv.due

  pub due-kept : {call : Call} {a : Accepted} → Move p x call a → Listed p (machines_due a.after.own.phase)
  due-kept (opens e) = tt
  due-kept (reads-again r e s f) = inv.due
  due-kept (reads-new e s f l) = inv.due
  due-kept (writes_again r w e s f u h) = inv.due
  due-kept (writes-new r e s f u h l) = inv.due
  due-kept (abandons e) = tt
  due-kept (commits e l r) = begun-due p own.reads own.writes
  due-kept (sends-lock m ms n d e) = rest-listed p m ms (due_in (Locking (m ∷ ms) n d) e)
  due-kept (sends-backup m ms e) = backup-due p own ms (rest-listed p m ms (due_in (Backing (m ∷ ms)) e))
  due-kept (sends-primary m ms r e) = install-due p ms (rest-listed p m ms (due_in (Installing r (m ∷ ms)) e))
  due-kept (sends-abort m ms e) = abort-due p ms (rest-listed p m ms (due_in (Aborting (m ∷ ms)) e))
  due-kept (locks r rest n h) = inv.due
  due-kept (denies r rest n h) = inv.due
  due-kept (keeps-backup r rest n) = inv.due
  due-kept (installs r rest n) = inv.due
  due-kept (frees r rest n) = inv.due
  due-kept (truncates r rest n) = inv.due
  due-kept (takes_one due n d r rs k ks h e) = due_in _ h.phase
  due-kept (takes-denied due n d r rs h e y) = primaries-listed p own.writes
  due-kept (takes-last due n d r rs h e y) = checks-due p own (read_only own.reads own.writes)
  due-kept (check-fails l ls e h) = failed-due p own.writes
  due-kept (check-passes l k ls e h) = tt
  due-kept (check-commits l e h w) = tt
  due-kept (check-ends l w ws e h f) = backups-listed p (w ∷ ws)
  due-kept (trims b ph u) = inv.due
