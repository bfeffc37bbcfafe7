-- The records of a log, as the protocol speaks of them.
use Rattle.std.specs.Prelude.{ℕ, Bool, false, not, List, [], ◌∷◌, ◌++◌, reverse, ◌==◌}
use Rattle.protocol.specs.declared.record.Line.{Line}
use Rattle.protocol.specs.declared.record.Kind.{Kind}
use Rattle.protocol.specs.declared.record.Kind.TheVariants.{Lock, CommitBackup, CommitPrimary, Abort, Truncate}
use Rattle.protocol.specs.declared.record.Record as program
use Rattle.protocol.specs.LineVec.{listed}

-- the number of each kind
abbrev pub number_of : Kind → ℕ
number_of Lock = 1
number_of CommitBackup = 2
number_of CommitPrimary = 3
number_of Abort = 4
number_of Truncate = 5

abbrev pub kind_eq : Kind → Kind → Bool
kind_eq j k = number_of j == number_of k

-- a record with its lines as a list;
-- `regions` has bit r set for each region that the transaction writes; it and the lines are of LOCK and COMMIT-BACKUP alone
pub record Note : Type 0 where
  pub kind : Kind
  pub coordinator : ℕ
  pub number : ℕ
  pub regions : ℕ
  pub lines : List Line

abbrev pub note : program.Record → Note
note r = record { kind = r.kind; coordinator = r.coordinator; number = r.number; regions = r.regions; lines = listed r.lines }

-- a log: the polled records, the newest first, and those not yet polled, the next first
pub record Log : Type 0 where
  pub polled : List Note
  pub waiting : List Note

abbrev pub empty_log : Log
empty_log = record { polled = []; waiting = [] }

-- all the records, in the order of writing
abbrev pub records : Log → List Note
records g = reverse g.polled ++ g.waiting

abbrev pub append : Log → Note → Log
append g r = record { polled = g.polled; waiting = g.waiting ++ (r ∷ []) }

-- a record of another kind than TRUNCATE has no TRUNCATE behind it
abbrev pub is_untrimmed : List Note → Bool
is_untrimmed [] = false
is_untrimmed (r ∷ []) = not (kind_eq r.kind Truncate)
is_untrimmed (r ∷ s ∷ rs) = is_untrimmed (s ∷ rs)
