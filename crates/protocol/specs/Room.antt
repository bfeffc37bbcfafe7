-- Which lines go to which machine, and the places kept in a log for what a commit has yet to write.
use Rattle.std.specs.Prelude.{ℕ, ◌+◌, ◌/◌, ◌^◌, Bool, true, false, not, ◌||◌, List, [], ◌∷◌, length, ◌==◌, bit_or, nat_le}
use Rattle.std.specs.List.{filter, list_all}
use Rattle.protocol.specs.Lists.{is_empty, is_member}
use Rattle.protocol.specs.declared.record.Line.{Line}
use Rattle.protocol.specs.declared.plan.Plan.{Plan}
use Rattle.protocol.specs.Plan.{home_of, machine_list}
use Rattle.protocol.specs.Record.{Note, records, is_untrimmed}
use Rattle.protocol.specs.Coordinator.{Coordinator, Phase, Idle, Opened, Locking, Checking, Backing, Installing, Aborting, log}

-- the written words whose primary is on machine m
abbrev pub primary_lines : Plan → List Line → ℕ → List Line
primary_lines p ws m = filter (λ l. (home_of p l.address).primary == m) ws

-- machine m has a backup of the address
abbrev pub is_backup : Plan → ℕ → ℕ → Bool
is_backup p a m = (home_of p a).first == m || (home_of p a).second == m

-- the written words with a backup on machine m
abbrev pub backup_lines : Plan → List Line → ℕ → List Line
backup_lines p ws m = filter (λ l. is_backup p l.address m) ws

abbrev pub is_at_primary : Plan → List Line → ℕ → Bool
is_at_primary p ws m = not (is_empty (primary_lines p ws m))

abbrev pub is_at_backup : Plan → List Line → ℕ → Bool
is_at_backup p ws m = not (is_empty (backup_lines p ws m))

-- the machines with such lines, the lowest first
abbrev pub primary_machines : Plan → List Line → List ℕ
primary_machines p ws = filter (is_at_primary p ws) (machine_list p)

abbrev pub backup_machines : Plan → List Line → List ℕ
backup_machines p ws = filter (is_at_backup p ws) (machine_list p)

-- bit r is set for each region written
abbrev pub regions_byte : List Line → ℕ
regions_byte [] = 0
regions_byte (l ∷ ls) = bit_or (2 ^ (l.address / 64)) (regions_byte ls)

abbrev pub one_if : Bool → ℕ
one_if true = 1
one_if false = 0

-- the records that the commit in this phase has yet to write into the log of machine m:
-- LOCK, COMMIT-BACKUP, and COMMIT-PRIMARY or ABORT; an aborting coordinator writes no COMMIT-BACKUP
abbrev pub to_write : Plan → List Line → Phase → ℕ → ℕ
to_write p ws Idle m = 0
to_write p ws Opened m = 0
to_write p ws (Locking due awaited denied) m =
    one_if (is_member m due) + one_if (is_member m (backup_machines p ws)) + one_if (is_member m (primary_machines p ws))
to_write p ws (Checking ls) m = one_if (is_member m (backup_machines p ws)) + one_if (is_member m (primary_machines p ws))
to_write p ws (Backing due) m = one_if (is_member m due) + one_if (is_member m (primary_machines p ws))
to_write p ws (Installing reported due) m = one_if (is_member m due)
to_write p ws (Aborting due) m = one_if (is_member m due)

-- with one more for a TRUNCATE, if there are any or if the log has a record with no TRUNCATE behind it
abbrev pub with_trim : ℕ → List Note → ℕ
with_trim n rs = n + one_if (not (n == 0) || is_untrimmed rs)

-- the places kept in the log of machine m
abbrev pub kept : Plan → Coordinator → ℕ → ℕ
kept p k m = with_trim (to_write p k.writes k.phase m) (records (log k m))

-- in every log of the coordinator, records and kept places are no more than there are places
abbrev pub is_roomy : Plan → Coordinator → Bool
is_roomy p k = list_all (λ m. nat_le (length (records (log k m)) + kept p k m) p.capacity) (machine_list p)
