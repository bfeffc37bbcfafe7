-- What a granted LOCK leaves, word by word.
use Rattle.std.specs.Prelude.{◌≡◌, ℕ, List, length}
use Rattle.std.specs.List.{AllByRecursion}
use Rattle.memory.specs.Words.{at, held_by}
use Rattle.protocol.specs.declared.record.Line.{Line}
use Rattle.protocol.specs.Lines.{Words}
use Rattle.protocol.specs.Kept.{Absent}

-- each line's word is held, with the version and value that it had, and every other word is as it was
pub record Held (holder : ℕ) (ls : List Line) (was after : Words) : Type 0 where
  pub held : AllByRecursion (λ l. at after l.address ≡ held_by holder (at was l.address)) ls
  pub others : (a : ℕ) → Absent a ls → at after a ≡ at was a
  pub size : length after ≡ length was
