-- The protocol's invariant: what every call keeps of a coordinator.
use Rattle.std.specs.Prelude.{◌≡◌, ℕ, suc, ◌+◌, ◌^◌, ◌<◌, ◌≤◌, true, ◌≢◌, List, [], ◌∷◌, length, Some, Ok}
use Rattle.std.specs.List.{AllByRecursion, filter}
use Rattle.memory.specs.Words.{at}
use Rattle.protocol.specs.declared.plan.Plan.{Plan}
use Rattle.protocol.specs.declared.record.Line.{Line}
use Rattle.protocol.specs.declared.record.Kind.TheVariants.{Lock}
use Rattle.protocol.specs.declared.call.Call.{Call}
use Rattle.protocol.specs.Lists.{is_member}
use Rattle.protocol.specs.Plan.{is_fine, size}
use Rattle.protocol.specs.Lines.{Words}
use Rattle.protocol.specs.Record.{Note, records, kind_eq}
use Rattle.protocol.specs.Coordinator.{Coordinator, Phase, Idle, Opened, Locking, Checking, Backing, Installing, Aborting, log, queue, line_at}
use Rattle.protocol.specs.Room.{kept, one_if}
use Rattle.protocol.specs.State.{State, Local, start}
use Rattle.protocol.specs.Call.{Accepted}
use Rattle.protocol.specs.Step.{local_call, step}

-- a line's word is there, and its version has one after it: a put at that one is never refused
abbrev pub Fits : Plan → Line → Type 0
Fits p l = (l.address < size p) × (l.version + 1 < 2 ^ 60)

-- no line has the address
abbrev pub Absent : ℕ → List Line → Type 0
Absent a ls = AllByRecursion (λ l. a ≢ l.address) ls

-- no two lines have one address
abbrev pub Apart : List Line → Type 0
Apart [] = Unit {0}
Apart (l ∷ ls) = Absent l.address ls × Apart ls

-- the lines of a record, and of the written words
pub record Lines (p : Plan) (ls : List Line) : Type 0 where
  pub fit : AllByRecursion (Fits p) ls
  pub apart : Apart ls

-- LOCKs not yet polled, which are still to be replied to
abbrev pub to_reply : List Note → List Note
to_reply rs = filter (λ r. kind_eq r.kind Lock) rs

-- the replies of machine m on their way: LOCKs to be polled there, and replies to be taken
abbrev pub on_their_way : Coordinator → ℕ → ℕ
on_their_way k m = length (to_reply (log k m).waiting) + length (queue k m)

-- the machines still due a record
abbrev pub machines_due : Phase → List ℕ
machines_due Idle = []
machines_due Opened = []
machines_due (Locking due awaited denied) = due
machines_due (Checking ls) = []
machines_due (Backing due) = due
machines_due (Installing reported due) = due
machines_due (Aborting due) = due

-- numbers from `low` to below `high`, in rising order
abbrev pub Rising : ℕ → ℕ → List ℕ → Type 0
Rising low high [] = Unit {0}
Rising low high (n ∷ ns) = (low ≤ n) × (n < high) × Rising (suc n) high ns

-- whether machine m is still due a LOCK, and whether its reply is awaited, as numbers
abbrev pub locks_due : Phase → ℕ → ℕ
locks_due Idle m = 0
locks_due Opened m = 0
locks_due (Locking due awaited denied) m = one_if (is_member m due)
locks_due (Checking ls) m = 0
locks_due (Backing due) m = 0
locks_due (Installing reported due) m = 0
locks_due (Aborting due) m = 0

abbrev pub replies_awaited : Phase → ℕ → ℕ
replies_awaited Idle m = 0
replies_awaited Opened m = 0
replies_awaited (Locking due awaited denied) m = one_if (is_member m awaited)
replies_awaited (Checking ls) m = 0
replies_awaited (Backing due) m = 0
replies_awaited (Installing reported due) m = 0
replies_awaited (Aborting due) m = 0

pub record Invariant (p : Plan) (k : Coordinator) : Type 0 where
  -- in every log there is room for what is still to be written
  pub room : (m : ℕ) → m < p.machines → length (records (log k m)) + kept p k m ≤ p.capacity
  -- a reply is awaited exactly where a LOCK is due or a reply is on its way, so there is one at most, and none outside locking
  pub replies : (m : ℕ) → m < p.machines → on_their_way k m + locks_due k.phase m ≡ replies_awaited k.phase m
  -- the machines still due a record are of the plan's, each once, the lowest first
  pub due : Rising 0 p.machines (machines_due k.phase)
  -- the lines in the logs
  pub polled : (m : ℕ) → m < p.machines → AllByRecursion (λ r. Lines p r.lines) (log k m).polled
  pub waiting : (m : ℕ) → m < p.machines → AllByRecursion (λ r. Lines p r.lines) (log k m).waiting
  -- at most eight words read, none twice
  pub reads_few : length k.reads ≤ 8
  pub reads_fit : AllByRecursion (λ r. (r.address < size p) × (r.version < 2 ^ 60)) k.reads
  pub reads_apart : Apart k.reads
  -- at most four words written, each read before at the version that its line has
  pub writes_few : length k.writes ≤ 4
  pub writes_fit : Lines p k.writes
  pub writes_read : AllByRecursion (λ w. (r : Line) × (line_at w.address k.reads ≡ Some r) × (r.version ≡ w.version)) k.writes

-- a memory has the plan's words, each with a version below 2^60
pub record ProperWords (p : Plan) (ws : Words) : Type 0 where
  pub size : length ws ≡ size p
  pub versions : (a : ℕ) → (at ws a).version < 2 ^ 60

pub record Invariants (p : Plan) (s : State) : Type 0 where
  pub coordinators : (c : ℕ) → Invariant p (s.coordinators c)
  pub primaries : ProperWords p s.primaries
  pub firsts : ProperWords p s.firsts
  pub seconds : ProperWords p s.seconds

-- every accepted call of a coordinator keeps its invariant
abbrev pub KeptByCalls : Type 0
KeptByCalls =
    (p : Plan) (x : Local) (call : Call) (a : Accepted) → ProperWords p x.primaries → Invariant p x.own → local_call p x call ≡ Ok a → Invariant p a.after.own

-- set-up establishes the invariants, and every call, accepted or refused, keeps them
pub record Always : Type 0 where
  pub first : (p : Plan) → is_fine p ≡ true → Invariants p (start p)
  pub after : (p : Plan) (s : State) (call : Call) → Invariants p s → Invariants p (step p s call).state
