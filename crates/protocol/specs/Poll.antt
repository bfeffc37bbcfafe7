-- Poll and trim.
use Rattle.std.specs.Prelude.{ℕ, suc, Bool, true, false, cond, ◌&&◌, ◌||◌, List, [], ◌∷◌, length, Some, None, Err, Option, ◌==◌, nat_lt}
use Rattle.std.specs.List.{list_all, find, push}
use Rattle.protocol.specs.declared.record.Line.{Line}
use Rattle.protocol.specs.declared.record.Kind.{Kind}
use Rattle.protocol.specs.declared.record.Kind.TheVariants.{Lock, CommitBackup, CommitPrimary, Abort, Truncate}
use Rattle.protocol.specs.declared.record.Reply.{Reply}
use Rattle.protocol.specs.declared.plan.Plan.{Plan}
use Rattle.protocol.specs.declared.call.Refusal.TheVariants.{NoMachine, WrongPhase, Nothing}
use Rattle.protocol.specs.declared.call.Outcome.TheVariants.{Going}
use Rattle.protocol.specs.Try.{Try, ◌>>◌, unless}
use Rattle.protocol.specs.Plan.{home_of}
use Rattle.protocol.specs.Lines.{is_current, lock_lines, install_lines, held_lines, free_lines, Backups, backups, back_up}
use Rattle.protocol.specs.Record.{Note, number_of, kind_eq, records, is_untrimmed}
use Rattle.protocol.specs.Coordinator.{Coordinator, is_idle, is_opened, log, queue, with_log, with_queue, with_record}
use Rattle.protocol.specs.State.{Local, with_own, with_primaries, with_backups}
use Rattle.protocol.specs.Call.{Accepted, accept}
use Rattle.protocol.specs.Commit.{record_for, last_given}

-- the LOCK of a transaction
abbrev pub is_lock_of : ℕ → Note → Bool
is_lock_of n r = kind_eq r.kind Lock && r.number == n

abbrev pub lines_of : Option Note → List Line
lines_of None = []
lines_of (Some r) = r.lines

-- the lines of the LOCK of a transaction: the newest with its number among the polled records
abbrev pub locked_lines : ℕ → List Note → List Line
locked_lines n rs = lines_of (find (is_lock_of n) rs)

-- the lines of a COMMIT-BACKUP
abbrev pub backup_part : Note → List Line
backup_part r = cond (kind_eq r.kind CommitBackup) r.lines []

-- each line goes into the backup that machine m has of its region: the first, or else the second
abbrev pub back_up_lines : Plan → ℕ → List Line → Backups → Backups
back_up_lines p m [] b = b
back_up_lines p m (l ∷ ls) b = back_up_lines p m ls (back_up ((home_of p l.address).first == m) l b)

-- the records are the newest first, and are gone through from the oldest
abbrev pub back_up_records : Plan → ℕ → List Note → Backups → Backups
back_up_records p m [] b = b
back_up_records p m (r ∷ rs) b = back_up_lines p m (backup_part r) (back_up_records p m rs b)

-- the record is polled, and stays in the log
abbrev pub pass_over : Coordinator → ℕ → Note → List Note → Coordinator
pass_over k m r rest = with_log k m (record { polled = r ∷ (log k m).polled; waiting = rest })

abbrev pub polled_over : Local → ℕ → Note → List Note → Local
polled_over x m r rest = with_own x (pass_over x.own m r rest)

abbrev pub reply : ℕ → Bool → Reply
reply n yes' = record { number = n; yes = yes' }

abbrev pub with_reply : Coordinator → ℕ → Reply → Coordinator
with_reply k m y = with_queue k m (push (queue k m) y)

-- a LOCK takes all its lines or none, and queues a reply; coordinator c locks as holder c + 1
unfoldable pub poll_lock : ℕ → Local → ℕ → Note → List Note → Bool → Try Accepted
poll_lock c x m r rest true =
    accept (number_of Lock) (length r.lines) Going
    (with_primaries (with_own x (with_reply (pass_over x.own m r rest) m (reply r.number true))) (lock_lines x.primaries (suc c) r.lines))
poll_lock c x m r rest false = accept (number_of Lock) 0 Going (with_own x (with_reply (pass_over x.own m r rest) m (reply r.number false)))

-- the lines of the transaction that a record belongs to
abbrev pub own_lines : Local → ℕ → Note → List Line
own_lines x m r = locked_lines r.number (log x.own m).polled

-- what a TRUNCATE puts into the backups
abbrev pub truncated : Plan → Local → ℕ → Backups
truncated p x m = back_up_records p m (log x.own m).polled (backups 0 x.firsts x.seconds)

-- and what it leaves in the log: all before it and itself are dropped
abbrev pub dropped : Local → ℕ → List Note → Local
dropped x m rest = with_own x (with_log x.own m (record { polled = []; waiting = rest }))

unfoldable pub poll_record : Plan → ℕ → Local → ℕ → Kind → Note → List Note → Try Accepted
poll_record p c x m Lock r rest = poll_lock c x m r rest (list_all (is_current x.primaries) r.lines)
poll_record p c x m CommitBackup r rest = accept (number_of CommitBackup) 0 Going (polled_over x m r rest)
poll_record p c x m CommitPrimary r rest =
    let ls = own_lines x m r in
    accept (number_of CommitPrimary) (length ls) Going (with_primaries (polled_over x m r rest) (install_lines x.primaries ls))
poll_record p c x m Abort r rest =
    let ls = held_lines x.primaries (suc c) (own_lines x m r) in
    accept (number_of Abort) (length ls) Going (with_primaries (polled_over x m r rest) (free_lines x.primaries ls))
poll_record p c x m Truncate r rest =
    let b = truncated p x m in
    accept (number_of Truncate) b.puts Going (with_backups (dropped x m rest) b.firsts b.seconds)

unfoldable pub poll_next : Plan → ℕ → Local → ℕ → List Note → Try Accepted
poll_next p c x m [] = Err Nothing
poll_next p c x m (r ∷ rest) = poll_record p c x m r.kind r rest

abbrev pub poll_call : Plan → ℕ → Local → ℕ → Try Accepted
poll_call p c x m = do
  unless NoMachine (nat_lt m p.machines)
  poll_next p c x m (log x.own m).waiting

abbrev pub trim_call : Plan → ℕ → Local → ℕ → Try Accepted
trim_call p c x m = do
  unless NoMachine (nat_lt m p.machines)
  unless WrongPhase (is_idle x.own.phase || is_opened x.own.phase)
  unless Nothing (is_untrimmed (records (log x.own m)))
  accept (last_given x.own) 0 Going (with_own x (with_record x.own m (record_for p c x.own Truncate m)))
