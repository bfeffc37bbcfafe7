-- What the lines of a record do to the words of a memory.
use Rattle.std.specs.Prelude.{ℕ, ◌+◌, Bool, true, false, cond, ◌&&◌, List, [], ◌∷◌, ◌==◌, nat_lt, slice_set}
use Rattle.std.specs.List.{filter}
use Rattle.memory.specs.declared.word.Word.{Word}
use Rattle.memory.specs.Words.{word, at, held_by}
use Rattle.protocol.specs.declared.record.Line.{Line}

abbrev pub Words : Type 0
Words = List Word

abbrev pub line : ℕ → ℕ → ℕ → Line
line a version value = record { address = a; version = version; value = value }

-- the word of a line is free and has the version read
abbrev pub is_current : Words → Line → Bool
is_current ws l = (at ws l.address).holder == 0 && (at ws l.address).version == l.version

-- a word is held, and keeps its version and value
abbrev pub hold : Words → ℕ → ℕ → Words
hold ws holder a = slice_set ws a (held_by holder (at ws a))

-- a word takes a version and a value, and is free
abbrev pub put : Words → ℕ → ℕ → ℕ → Words
put ws a version value = slice_set ws a (word version 0 value)

-- LOCK: each line's word is held
abbrev pub lock_lines : Words → ℕ → List Line → Words
lock_lines ws holder [] = ws
lock_lines ws holder (l ∷ ls) = lock_lines (hold ws holder l.address) holder ls

-- COMMIT-PRIMARY: each line's value at the version after the one read
abbrev pub install_lines : Words → List Line → Words
install_lines ws [] = ws
install_lines ws (l ∷ ls) = install_lines (put ws l.address (l.version + 1) l.value) ls

-- ABORT: the lines whose word the holder has, and each of their words freed
abbrev pub held_lines : Words → ℕ → List Line → List Line
held_lines ws holder ls = filter (λ l. (at ws l.address).holder == holder) ls

abbrev pub free_lines : Words → List Line → Words
free_lines ws [] = ws
free_lines ws (l ∷ ls) = free_lines (hold ws 0 l.address) ls

-- TRUNCATE: a line goes into a backup where its new version exceeds that of the word there
abbrev pub is_newer : Words → Line → Bool
is_newer ws l = nat_lt (at ws l.address).version (l.version + 1)

abbrev pub renew : Words → Line → Words
renew ws l = cond (is_newer ws l) (put ws l.address (l.version + 1) l.value) ws

-- how many puts, and both backup memories
pub record Backups : Type 0 where
  pub puts : ℕ
  pub firsts : Words
  pub seconds : Words

abbrev pub backups : ℕ → Words → Words → Backups
backups n f s = record { puts = n; firsts = f; seconds = s }

-- into the first backup, or else the second
abbrev pub back_up : Bool → Line → Backups → Backups
back_up true l b = backups (b.puts + cond (is_newer b.firsts l) 1 0) (renew b.firsts l) b.seconds
back_up false l b = backups (b.puts + cond (is_newer b.seconds l) 1 0) b.firsts (renew b.seconds l)
