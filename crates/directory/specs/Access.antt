-- The word that a read or a write is about.
use Rattle.std.specs.Prelude.{◌≡◌, ◌⊎◌, ℕ, ◌-◌, ◌^◌, ◌<◌, ◌≤◌, false, cond, List, length, is_some, Some, None, Ok, Err, Result}
use Rattle.std.specs.List.{push}
use Rattle.memory.specs.Words.{look_at}
use Rattle.protocol.specs.declared.record.Line.{Line}
use Rattle.protocol.specs.declared.call.Refusal.{Refusal}
use Rattle.protocol.specs.declared.call.Refusal.TheVariants.{NoAddress, TooMany, NotRead, UsedUp}
use Rattle.protocol.specs.Lines.{Words}
use Rattle.protocol.specs.Coordinator.{line_at}
use Rattle.protocol.specs.Transact.{seen, rewrite}

-- a new read, behind the words rs: the word's line as the memory has it; refused as a ninth, or where there is no such word
abbrev pub LooksUp : List Line → Words → ℕ → Result Line Refusal → Type 0
LooksUp rs ws a (Ok l) = (length rs < 8) × (l ≡ seen ws a)
LooksUp rs ws a (Err n) = ((n ≡ TooMany) × (8 ≤ length rs)) ⊎ ((n ≡ NoAddress) × (length rs < 8) × (None ≡ look_at ws a))

-- the word that line l was read of has a version to go on to, and stands among the words written or is at most the fourth
pub record IsWritable (ws : List Line) (a : ℕ) (l : Line) : Type 0 where
  pub here : l.address ≡ a
  pub next : l.version ≡ 2 ^ 60 - 1 → ⊥
  pub few : is_some (line_at a ws) ≡ false → length ws < 4

-- why it cannot be written, in the order of checking: it was not read; it is at the last version; it is a fifth
abbrev pub NotWritable : List Line → List Line → ℕ → Refusal → Type 0
NotWritable rs ws a n =
    ((n ≡ NotRead) × (None ≡ line_at a rs))
    ⊎ ((l : Line) × (Some l ≡ line_at a rs)
    × (((n ≡ UsedUp) × (l.version ≡ 2 ^ 60 - 1))
    ⊎ ((n ≡ TooMany) × (l.version ≡ 2 ^ 60 - 1 → ⊥) × (is_some (line_at a ws) ≡ false) × (4 ≤ length ws))))

-- a write, with rs read and ws written: the line that was read, or the refusal
abbrev pub MayWrite : List Line → List Line → ℕ → Result Line Refusal → Type 0
MayWrite rs ws a (Ok l) = (Some l ≡ line_at a rs) × IsWritable ws a l
MayWrite rs ws a (Err n) = NotWritable rs ws a n

-- the words written with one more: a word written before takes the new value in its place
abbrev pub buffered : List Line → Line → List Line
buffered ws l = cond (is_some (line_at l.address ws)) (rewrite ws l.address l.value) (push ws l)
