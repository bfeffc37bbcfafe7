-- Every call keeps the lines in the logs: their words are there, their versions have one after them, and no two have one address.
use Rattle.std.proofs.Common.{ℕ, ◌<◌, Bool, true, false, cond, ◌≢◌, List, [], ◌∷◌, subst}
use Rattle.std.specs.List.{AllByRecursion, filter}
use Rattle.std.proofs.ByRecursion.{All-push}
use Rattle.protocol.specs.declared.plan.Plan.{Plan}
use Rattle.protocol.specs.declared.record.Line.{Line}
use Rattle.protocol.specs.declared.record.Kind.{Kind}
use Rattle.protocol.specs.declared.record.Kind.TheVariants.{Lock, CommitBackup, CommitPrimary, Abort, Truncate}
use Rattle.protocol.specs.declared.call.Call.{Call}
use Rattle.protocol.specs.Lists.{upd}
use Rattle.protocol.specs.Record.{Note, Log, append}
use Rattle.protocol.specs.Coordinator.{Coordinator, log}
use Rattle.protocol.specs.State.{Local}
use Rattle.protocol.specs.Call.{Accepted}
use Rattle.protocol.specs.Commit.{record_for}
use Rattle.protocol.specs.Kept.{Invariant, Fits, Absent, Apart, Lines}
use Rattle.protocol.proofs.Functions.{upd-each}
use Rattle.protocol.proofs.Moves.{Move, Next, opens, reads-again, reads-new, writes_again, writes-new, abandons, commits, sends-lock, sends-backup, sends-primary, sends-abort, locks, denies, keeps-backup, installs, frees, truncates, takes_one, takes-denied, takes-last, check-fails, check-passes, check-commits, check-ends, trims}

-- A part of a list that is apart.
all-if : {X : Type 0} (P : X → Type 0) (b : Bool) (l : X) (ls : List X) → P l → AllByRecursion P ls → AllByRecursion P (cond b (l ∷ ls) ls)
all-if P true l ls h t = (h, t)
all-if P false l ls h t = t

pub all_filter : {X : Type 0} (P : X → Type 0) (test : X → Bool) (ls : List X) → AllByRecursion P ls → AllByRecursion P (filter test ls)
all_filter P test [] h = tt
all_filter P test (l ∷ ls) h = all-if P (test l) l (filter test ls) h.0 (all_filter P test ls h.1)

apart_if : (b : Bool) (l : Line) (ls : List Line) → Absent l.address ls → Apart ls → Apart (cond b (l ∷ ls) ls)
apart_if true l ls a h = (a, h)
apart_if false l ls a h = h

pub apart-filter : (test : Line → Bool) (ls : List Line) → Apart ls → Apart (filter test ls)
apart-filter test [] h = tt
apart-filter test (l ∷ ls) h =
    apart_if (test l) l (filter test ls) (all_filter (λ (k : Line). l.address ≢ k.address) test ls h.0) (apart-filter test ls h.1)

pub lines-filter : (p : Plan) (test : Line → Bool) (ls : List Line) → Lines p ls → Lines p (filter test ls)
lines-filter p test ls h = record { fit = all_filter (Fits p) test ls h.fit; apart = apart-filter test ls h.apart }

pub lines_none : (p : Plan) → Lines p []
lines_none p = record { fit = tt; apart = tt }

-- the lines of the records that a coordinator writes
pub record-lines : (p : Plan) (c : ℕ) (k : Coordinator) (kind : Kind) (m : ℕ) → Lines p k.writes → Lines p (record_for p c k kind m).lines
record-lines p c k Lock m h = lines-filter p _ k.writes h
record-lines p c k CommitBackup m h = lines-filter p _ k.writes h
record-lines p c k CommitPrimary m h = lines_none p
record-lines p c k Abort m h = lines_none p
record-lines p c k Truncate m h = lines_none p

-- the lines of the records, polled and not
abbrev Fine : Plan → List Note → Type 0
Fine p rs = AllByRecursion (λ (r : Note). Lines p r.lines) rs

record Logged (p : Plan) (g : Log) : Type 0 where
  polled : Fine p g.polled
  waiting : Fine p g.waiting

abbrev AllLogged : Plan → (ℕ → Log) → Type 0
AllLogged p logs = (m : ℕ) → m < p.machines → Logged p (logs m)

module _ (p : Plan) (x : Local) (inv : Invariant p x.own) where
  abbrev own : Coordinator
  own = x.own

  before : AllLogged p own.logs
  before m b = record { polled = inv.polled m b; waiting = inv.waiting m b }

  changed : (m : ℕ) (g : Log) → (m < p.machines → Logged p g) → AllLogged p (upd own.logs m g)
  changed m g h = upd-each (λ i (z : Log). i < p.machines → Logged p z) own.logs m g h (λ i d b. before i b)

  written : (c m : ℕ) (kind : Kind) → AllLogged p (upd own.logs m (append (log own m) (record_for p c own kind m)))
  written c m kind = changed m _ (λ b. record {
    polled = inv.polled m b;
    waiting = All-push (λ (r : Note). Lines p r.lines) (log own m).waiting _ (inv.waiting m b) (record-lines p c own kind m inv.writes_fit);
  })

  module _ {m : ℕ} {sort : Kind} (r : Note) (rest : List Note) (n : Next p x m sort r rest) where
    next : Fine p (r ∷ rest)
    next = subst (Fine p) n.waiting (inv.waiting m n.machine)

    passed : AllLogged p (upd own.logs m (record { polled = r ∷ (log own m).polled; waiting = rest }))
    passed = changed m _ (λ b. record { polled = (next.0, inv.polled m b); waiting = next.1 })

    dropped : AllLogged p (upd own.logs m (record { polled = []; waiting = rest }))
    dropped = changed m _ (λ b. record { polled = tt; waiting = next.1 })

  logs-kept : {call : Call} {a : Accepted} → Move p x call a → AllLogged p a.after.own.logs
  logs-kept (opens e) = before
  logs-kept (reads-again r e s f) = before
  logs-kept (reads-new e s f l) = before
  logs-kept (writes_again r w e s f u h) = before
  logs-kept (writes-new r e s f u h l) = before
  logs-kept (abandons e) = before
  logs-kept (commits e l r) = before
  logs-kept (sends-lock {c = c} m ms n d e) = written c m Lock
  logs-kept (sends-backup {c = c} m ms e) = written c m CommitBackup
  logs-kept (sends-primary {c = c} m ms r e) = written c m CommitPrimary
  logs-kept (sends-abort {c = c} m ms e) = written c m Abort
  logs-kept (locks r rest n h) = passed r rest n
  logs-kept (denies r rest n h) = passed r rest n
  logs-kept (keeps-backup r rest n) = passed r rest n
  logs-kept (installs r rest n) = passed r rest n
  logs-kept (frees r rest n) = passed r rest n
  logs-kept (truncates r rest n) = dropped r rest n
  logs-kept (takes_one due n d r rs k ks h e) = before
  logs-kept (takes-denied due n d r rs h e y) = before
  logs-kept (takes-last due n d r rs h e y) = before
  logs-kept (check-fails l ls e h) = before
  logs-kept (check-passes l k ls e h) = before
  logs-kept (check-commits l e h w) = before
  logs-kept (check-ends l w ws e h f) = before
  logs-kept (trims {c = c} {m = m} b ph u) = written c m Truncate

  pub polled-kept : {call : Call} {a : Accepted} → Move p x call a → (m : ℕ) → m < p.machines → Fine p (log a.after.own m).polled
  polled-kept move m b = (logs-kept move m b).polled

  pub waiting_kept : {call : Call} {a : Accepted} → Move p x call a → (m : ℕ) → m < p.machines → Fine p (log a.after.own m).waiting
  waiting_kept move m b = (logs-kept move m b).waiting
