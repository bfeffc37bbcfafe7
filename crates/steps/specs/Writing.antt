-- How entries are written into a step file.
use Rattle.std.specs.Prelude.{◌≡◌, ℕ, ◌<◌, ◌≤◌, List, ◌∷◌, ◌++◌, length, Ok, Err, Result}
use Rattle.std.specs.Int.{bytes_high_first}
use Rattle.std.specs.List.{flat_map}
use Rattle.steps.specs.declared.write.WriteFault.{WriteFault}
use Rattle.steps.specs.declared.write.WriteFault.TheVariants.{EntryTooLong, NoMemory}

-- an entry behind its length in two bytes
abbrev pub with_length : List ℕ → List ℕ
with_length e = bytes_high_first 2 (length e) ++ e

-- a file of these entries: the version byte, then one entry after the other
abbrev pub written : List (List ℕ) → List ℕ
written es = 1 ∷ flat_map with_length es

-- an entry is written if its length fits two bytes and there is memory; else the bytes stay as they were
abbrev pub Wrote : List ℕ → List ℕ → List ℕ → Result (Unit {0}) WriteFault → Type 0
Wrote was after e (Ok x) = (length e < 65536) × (after ≡ was ++ with_length e)
Wrote was after e (Err EntryTooLong) = (65536 ≤ length e) × (after ≡ was)
Wrote was after e (Err (NoMemory a)) = (length e < 65536) × (after ≡ was)
