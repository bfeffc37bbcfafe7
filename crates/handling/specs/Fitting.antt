-- Which lines of a record a memory takes, whatever words it has.
use Rattle.std.specs.Prelude.{ℕ, ◌+◌, ◌^◌, ◌<◌, Bool, cond, ◌&&◌, List, [], ◌∷◌, ◌==◌, nat_lt}
use Rattle.std.specs.List.{list_all, filter}
use Rattle.memory.specs.Words.{lockable, freeable}
use Rattle.protocol.specs.declared.plan.Plan.{Plan}
use Rattle.protocol.specs.declared.record.Line.{Line}
use Rattle.protocol.specs.Plan.{home_of}
use Rattle.protocol.specs.Lines.{Words, hold}

-- the line's word is one of n, and its version has one after it
abbrev pub Fit : ℕ → Line → Type 0
Fit n l = (l.address < n) × (l.version + 1 < 2 ^ 60)

abbrev pub is_fit : ℕ → Line → Bool
is_fit n l = nat_lt l.address n && nat_lt (l.version + 1) (2 ^ 60)

-- the lines that can be put into a memory of n words
abbrev pub fitting : ℕ → List Line → List Line
fitting n ls = filter (is_fit n) ls

-- each line's word is there, free and at the version read, and the holder is 1 to 15
abbrev pub lockable_lines : Words → ℕ → List Line → Bool
lockable_lines ws holder ls = list_all (λ l. lockable ws l.address l.version holder) ls

-- the lines whose word the holder has, where a word that two lines name is freed by the first
abbrev pub freed_lines : Words → ℕ → List Line → List Line
freed_lines ws holder [] = []
freed_lines ws holder (l ∷ ls) = cond (freeable ws l.address holder) (l ∷ freed_lines (hold ws 0 l.address) holder ls) (freed_lines ws holder ls)

-- machine m has the first backup of the line's word
abbrev pub is_first_backup : Plan → ℕ → Line → Bool
is_first_backup p m l = (home_of p l.address).first == m

-- the line can be put into the backup that machine m has of its word: the first backups have n words, and the second k
abbrev pub is_fit_backup : Plan → ℕ → ℕ → ℕ → Line → Bool
is_fit_backup p m n k l = is_fit (cond (is_first_backup p m l) n k) l

abbrev pub fitting_backup : Plan → ℕ → ℕ → ℕ → List Line → List Line
fitting_backup p m n k ls = filter (is_fit_backup p m n k) ls
