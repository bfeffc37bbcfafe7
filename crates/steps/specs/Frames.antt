-- How a step file is cut into entries.
use Rattle.std.specs.Prelude.{ℕ, ◌+◌, Bool, cond, ◌&&◌, List, length, take, drop, Some, None, Ok, Err, Option, Result, ◌==◌, nat_le, nat_lt, slice_index}
use Rattle.steps.specs.declared.fault.FrameFault.{FrameFault}
use Rattle.steps.specs.declared.fault.FrameFault.TheVariants.{TooLong, BadVersion, CutShort}
use Rattle.steps.specs.Bytes.{two_at}

-- a file that is read up to a place
pub record Position : Type 0 where
  pub file : List ℕ
  pub place : ℕ

-- the position at a place of a file
abbrev pub at : List ℕ → ℕ → Position
at bytes p = record { file = bytes; place = p }

-- an entry that stands at a place: its kind byte and fields
pub record Framed : Type 0 where
  pub place : ℕ
  pub content : List ℕ

-- a file has at most 65536 bytes and begins with the version byte 1; the first entry stands behind that byte
abbrev pub opened : List ℕ → Result Position FrameFault
opened bytes =
    cond (nat_lt 65536 (length bytes)) (Err TooLong)
    (cond (nat_lt 0 (length bytes) && slice_index bytes 0 == 1) (Ok (at bytes 1)) (Err BadVersion))

-- the place behind the entry: its first two bytes count the bytes that follow them
abbrev pub end_of : Position → ℕ
end_of p = p.place + 2 + two_at p.file p.place

-- the two length bytes are there, and the bytes that they count
abbrev pub is_whole : Position → Bool
is_whole p = nat_le (end_of p) (length p.file)

-- the bytes that the two length bytes count
abbrev pub entry : Position → Framed
entry p = record { place = p.place; content = take (two_at p.file p.place) (drop (p.place + 2) p.file) }

-- what is read at a position: an entry, the end of the file, or that the entry is cut short
abbrev pub entry_at : Position → Result (Option Framed) FrameFault
entry_at p =
    cond (is_whole p) (Ok (Some (entry p)))
    (cond (nat_le (length p.file) p.place) (Ok None) (Err (CutShort p.place)))

-- the position after that: behind the entry that was handed out, else the same
abbrev pub passed : Position → Position
passed p = cond (is_whole p) (at p.file (end_of p)) p
