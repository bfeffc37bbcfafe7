-- Open, read, write and abandon.
use Rattle.std.specs.Prelude.{ℕ, ◌-◌, ◌^◌, cond, not, List, [], map, length, Some, None, Option, ◌==◌, nat_lt}
use Rattle.std.specs.List.{push}
use Rattle.memory.specs.Words.{at}
use Rattle.protocol.specs.declared.record.Line.{Line}
use Rattle.protocol.specs.declared.plan.Plan.{Plan}
use Rattle.protocol.specs.declared.call.Refusal.TheVariants.{WrongPhase, NoAddress, TooMany, NotRead, UsedUp}
use Rattle.protocol.specs.declared.call.Outcome.TheVariants.{Going, Aborted}
use Rattle.protocol.specs.Try.{Try, ◌>>=◌, ◌>>◌, unless, else_refuse}
use Rattle.protocol.specs.Plan.{size}
use Rattle.protocol.specs.Lines.{Words, line}
use Rattle.protocol.specs.Coordinator.{Idle, Opened, is_idle, is_opened, line_at, with_phase, with_words}
use Rattle.protocol.specs.State.{Local, with_own, in_phase}
use Rattle.protocol.specs.Call.{Accepted, accept}

abbrev pub open_call : Local → Try Accepted
open_call x = do
  unless WrongPhase (is_idle x.own.phase)
  accept 0 0 Going (with_own x (with_words (with_phase x.own Opened) [] []))

-- what a new read records and answers; a held word shows what it has
abbrev pub seen : Words → ℕ → Line
seen ws a = line a (at ws a).version (at ws a).value

-- the value of a word read before: the one last written, else the recorded one
abbrev pub value_of : Line → Option Line → ℕ
value_of r None = r.value
value_of r (Some w) = w.value

abbrev pub with_read : Local → Line → Local
with_read x r = with_own x (with_words x.own (push x.own.reads r) x.own.writes)

-- a word read before answers its recorded version; a new one is looked up in the primary memory and recorded, at most eight
unfoldable pub read_word : Local → ℕ → Option Line → Try Accepted
read_word x a (Some r) = accept r.version (value_of r (line_at a x.own.writes)) Going x
read_word x a None = do
  unless TooMany (nat_lt (length x.own.reads) 8)
  accept (seen x.primaries a).version (seen x.primaries a).value Going (with_read x (seen x.primaries a))

abbrev pub read_call : Plan → Local → ℕ → Try Accepted
read_call p x a = do
  unless WrongPhase (is_opened x.own.phase)
  unless NoAddress (nat_lt a (size p))
  read_word x a (line_at a x.own.reads)

-- the line of a word written before takes the new value
abbrev pub revalued : ℕ → ℕ → Line → Line
revalued a v l = line l.address l.version (cond (l.address == a) v l.value)

abbrev pub rewrite : List Line → ℕ → ℕ → List Line
rewrite ls a v = map (revalued a v) ls

abbrev pub with_writes : Local → List Line → Local
with_writes x ws = with_own x (with_words x.own x.own.reads ws)

-- a word written for the first time takes its place behind the others, at most four, with the version read
unfoldable pub write_word : Local → Line → ℕ → Option Line → Try Accepted
write_word x r v (Some w) = accept 0 0 Going (with_writes x (rewrite x.own.writes r.address v))
write_word x r v None = do
  unless TooMany (nat_lt (length x.own.writes) 4)
  accept 0 0 Going (with_writes x (push x.own.writes (line r.address r.version v)))

-- a word at the last version has none to go on to
abbrev pub write_call : Plan → Local → ℕ → ℕ → Try Accepted
write_call p x a v = do
  unless WrongPhase (is_opened x.own.phase)
  unless NoAddress (nat_lt a (size p))
  r ← else_refuse NotRead (line_at a x.own.reads)
  unless UsedUp (not (r.version == 2 ^ 60 - 1))
  write_word x r v (line_at a x.own.writes)

abbrev pub abandon_call : Local → Try Accepted
abandon_call x = do
  unless WrongPhase (is_opened x.own.phase)
  accept 0 0 Aborted (in_phase x Idle)
