-- What a commit writes into the logs: to which machines, how many records, and what each says.
use Rattle.std.specs.Prelude.{◌≡◌, ℕ, ◌+◌, ◌-◌, ◌/◌, ◌<◌, Bool, false, List, [], ◌∷◌, Some, None, Option, ◌==◌}
use Rattle.std.specs.Int.{bit_at}
use Rattle.std.specs.List.{AllByRecursion, filter, list_any}
use Rattle.protocol.specs.declared.plan.Plan.{Plan}
use Rattle.protocol.specs.declared.record.Line.{Line}
use Rattle.protocol.specs.declared.record.Kind.{Kind}
use Rattle.protocol.specs.declared.record.Kind.TheVariants.{Lock, CommitBackup, CommitPrimary, Abort, Truncate}
use Rattle.std.specs.List.{range_with_len}
use Rattle.protocol.specs.Plan.{home_of}
use Rattle.protocol.specs.Record.{Note}
use Rattle.protocol.specs.Room.{primary_lines, backup_lines, is_backup, is_at_primary, is_at_backup, regions_byte, one_if}

-- all the records that a commit of these lines writes into the log of machine m: LOCK, COMMIT-BACKUP, and COMMIT-PRIMARY or ABORT
abbrev pub wanted : Plan → List Line → ℕ → ℕ
wanted p ws m = one_if (is_at_primary p ws m) + one_if (is_at_backup p ws m) + one_if (is_at_primary p ws m)

-- a commit of these lines sends machine m a record of that kind; a TRUNCATE belongs to no commit
abbrev pub is_due : Plan → Kind → List Line → ℕ → Bool
is_due p Lock ws = is_at_primary p ws
is_due p CommitBackup ws = is_at_backup p ws
is_due p CommitPrimary ws = is_at_primary p ws
is_due p Abort ws = is_at_primary p ws
is_due p Truncate ws = λ m. false

-- the machines from d on that are due one, the lowest first
abbrev pub due_from : Plan → Kind → List Line → ℕ → List ℕ
due_from p kind ws d = filter (is_due p kind ws) (range_with_len d (p.machines - d))

-- the lowest of them, if there is any
abbrev pub first_machine : List ℕ → Option ℕ
first_machine [] = None
first_machine (m ∷ ms) = Some m

-- a machine that was found is one of the plan's
abbrev pub OfPlan : Plan → Option ℕ → Type 0
OfPlan p None = Unit {0}
OfPlan p (Some m) = m < p.machines

-- a record of that kind for machine m has the line of that address: LOCK and COMMIT-BACKUP alone have lines
abbrev pub is_picked : Plan → Kind → ℕ → ℕ → Bool
is_picked p Lock m a = (home_of p a).primary == m
is_picked p CommitBackup m a = is_backup p a m
is_picked p CommitPrimary m a = false
is_picked p Abort m a = false
is_picked p Truncate m a = false

-- it has a line
abbrev pub has_picked : Plan → Kind → ℕ → List Line → Bool
has_picked p kind m ws = list_any (λ l. is_picked p kind m l.address) ws

-- the lines that it has
abbrev pub picked : Plan → Kind → ℕ → List Line → List Line
picked p Lock m ws = primary_lines p ws m
picked p CommitBackup m ws = backup_lines p ws m
picked p CommitPrimary m ws = []
picked p Abort m ws = []
picked p Truncate m ws = []

-- a byte has bits for eight regions of 64 addresses
abbrev pub InEightRegions : List Line → Type 0
InEightRegions ws = AllByRecursion (λ l. l.address < 512) ws

-- bit r of the byte is 1 where a line is in region r, and else 0
abbrev pub SetsRegions : List Line → ℕ → Type 0
SetsRegions ws byte = (r : ℕ) → bit_at byte r ≡ one_if (list_any (λ l. l.address / 64 == r) ws)

-- the regions that a record of that kind names: LOCK and COMMIT-BACKUP alone name those written
abbrev pub regions_in : Kind → List Line → ℕ
regions_in Lock ws = regions_byte ws
regions_in CommitBackup ws = regions_byte ws
regions_in CommitPrimary ws = 0
regions_in Abort ws = 0
regions_in Truncate ws = 0

-- the record of that kind for machine m, of coordinator c's transaction of that number, which writes these lines
abbrev pub record_of : Plan → ℕ → ℕ → Kind → ℕ → List Line → Note
record_of p c n kind m ws = record { kind = kind; coordinator = c; number = n; regions = regions_in kind ws; lines = picked p kind m ws }
