-- What a machine does with the record that it polls, and when that is what the protocol says.
use Rattle.std.specs.Prelude.{◌≡◌, ℕ, suc, ◌+◌, ◌<◌, ◌≤◌, Bool, true, false, cond, List, [], length, Some, None, Option}
use Rattle.std.specs.List.{AllByRecursion, list_all}
use Rattle.ring.specs.declared.Ring.{Ring}
use Rattle.ring.specs.Contents.{Sound}
use Rattle.protocol.specs.declared.plan.Plan.{Plan}
use Rattle.protocol.specs.declared.record.Record.{Record}
use Rattle.protocol.specs.declared.record.Kind.{Kind}
use Rattle.protocol.specs.declared.record.Kind.TheVariants.{Lock, CommitBackup, CommitPrimary, Abort, Truncate}
use Rattle.protocol.specs.Plan.{size}
use Rattle.protocol.specs.Lines.{Words, is_current, lock_lines, install_lines, held_lines, free_lines, Backups, backups}
use Rattle.protocol.specs.Record.{Note}
use Rattle.protocol.specs.Poll.{locked_lines, backup_part, back_up_lines, back_up_records}
use Rattle.protocol.specs.Kept.{Lines}
use Rattle.handling.specs.declared.handle.Done.{Done}
use Rattle.handling.specs.Notes.{notes}

-- what a poll counts, what it replies to a LOCK, and the three memories after it
pub record Effect : Type 0 where
  pub count : ℕ
  pub reply : Option Bool
  pub primaries : Words
  pub firsts : Words
  pub seconds : Words

abbrev pub effect : ℕ → Option Bool → Words → Words → Words → Effect
effect n reply a b d = record { count = n; reply = reply; primaries = a; firsts = b; seconds = d }

abbrev pub on_backups : Words → Backups → Effect
on_backups a b = effect b.puts None a b.firsts b.seconds

-- machine m handles the record r of coordinator c, behind the polled records
abbrev pub handled : Plan → ℕ → ℕ → Words → Words → Words → List Note → Note → Kind → Effect
handled p c m a b d polled r Lock = cond (list_all (is_current a) r.lines) (effect (length r.lines) (Some true) (lock_lines a (suc c) r.lines) b d) (effect 0 (Some false) a b d)
handled p c m a b d polled r CommitBackup = effect 0 None a b d
handled p c m a b d polled r CommitPrimary = effect (length (locked_lines r.number polled)) None (install_lines a (locked_lines r.number polled)) b d
handled p c m a b d polled r Abort =
    effect (length (held_lines a (suc c) (locked_lines r.number polled))) None (free_lines a (held_lines a (suc c) (locked_lines r.number polled))) b d
handled p c m a b d polled r Truncate = on_backups a (back_up_records p m polled (backups 0 b d))

-- a LOCK takes all its lines or none
abbrev pub HandlesLock : Plan → ℕ → Note → Words → Words → Done → Type 0
HandlesLock p c x ws ws' r =
    Lines p x.lines → length ws ≡ size p → c < 15
    → effect r.count r.reply ws' [] [] ≡ cond (list_all (is_current ws) x.lines) (effect (length x.lines) (Some true) (lock_lines ws (suc c) x.lines) [] []) (effect 0 (Some false) ws [] [])

-- what r puts of a record's lines into the backups of machine m leave: at most four, and no memory changes its size
pub record BacksUp (p : Plan) (m : ℕ) (x : Note) (f s f' s' : Words) (r : ℕ) : Type 0 where
  pub few : r ≤ 4
  pub firsts : length f' ≡ length f
  pub seconds : length s' ≡ length s
  pub after : Lines p x.lines → length f ≡ size p → length s ≡ size p → (n : ℕ) → backups (n + r) f' s' ≡ back_up_lines p m (backup_part x) (backups n f s)

-- the ring stands in its few slots, and the lines of its records fit the plan's words
pub record SoundLog (p : Plan) (log : Ring) (slots : List Record) : Type 0 where
  pub stands : Sound log (length slots)
  pub few : length slots ≤ 16
  pub lines : AllByRecursion (λ r. Lines p r.lines) (notes log slots)

-- and the memories have the plan's words
pub record Ready (p : Plan) (log : Ring) (slots : List Record) (a b d : Words) : Type 0 where
  pub lines : SoundLog p log slots
  pub primaries : length a ≡ size p
  pub firsts : length b ≡ size p
  pub seconds : length d ≡ size p
