-- What a poll leaves of the pair's log and queue, by the kind of the record.
use Rattle.std.specs.Prelude.{◌≡◌, ℕ, ◌+◌, ◌<◌, Bool, List, [], ◌∷◌, length, drop, Some, None, Option, slice_index_or, slice_set}
use Rattle.std.specs.List.{push}
use Rattle.ring.specs.declared.Ring.{Ring}
use Rattle.ring.specs.Contents.{Sound, contents, empty_ring}
use Rattle.protocol.specs.declared.record.Record.{Record}
use Rattle.protocol.specs.declared.record.Kind.{Kind}
use Rattle.protocol.specs.declared.record.Kind.TheVariants.{Lock, CommitBackup, CommitPrimary, Abort, Truncate}
use Rattle.protocol.specs.declared.record.Reply.{Reply}
use Rattle.protocol.specs.Record.{Note, note, Log}
use Rattle.protocol.specs.Poll.{reply}
use Rattle.handling.specs.Notes.{notes, polled, NextIs}
use Rattle.directory.specs.declared.tables.Coordinator.{Coordinator}
use Rattle.directory.specs.View.{log_of}

-- a TRUNCATE drops all before it and itself; any other record is polled, and stays in the log
abbrev pub passed_log : List Note → Note → List Note → Kind → Log
passed_log polled r rest Lock = record { polled = r ∷ polled; waiting = rest }
passed_log polled r rest CommitBackup = record { polled = r ∷ polled; waiting = rest }
passed_log polled r rest CommitPrimary = record { polled = r ∷ polled; waiting = rest }
passed_log polled r rest Abort = record { polled = r ∷ polled; waiting = rest }
passed_log polled r rest Truncate = record { polled = []; waiting = rest }

-- the reply to a LOCK, if it was one, stands last
abbrev pub replied : List Reply → ℕ → Option Bool → List Reply
replied q n None = q
replied q n (Some granted) = push q (reply n granted)

-- A record x was polled: the ring g of a log, over the slots rs, goes on past its next record as one of x's kind and is r;
-- the reply, if there is one, stands last in the queue that was over the places ps and is q over ps'.
pub record PairPasses (g h : Ring) (rs : List Record) (ps ps' : List Reply) (x : Record) (told : Option Bool) (r q : Ring) : Type 0 where
  pub log_stands : Sound g (length rs) → Sound r (length rs)
  pub log : Sound g (length rs) → (y : Record) → NextIs (notes g rs) g.cursor (Some y) → log_of r rs ≡ passed_log (polled g rs) (note y) (drop (g.cursor + 1) (notes g rs)) x.kind
  pub queue_stands : Sound h (length ps) → Sound q (length ps)
  pub queue : Sound h (length ps) → h.len < length ps → contents q ps' ≡ replied (contents h ps) x.number told
  pub long : length ps' ≡ length ps

-- the pair of machine m goes on so, and the rest of the coordinator is as it was
abbrev pub Passes : ℕ → Coordinator → Coordinator → List Record → List Reply → List Reply → Record → Option Bool → Type 0
Passes m co co' rs ps ps' x told =
    (r : Ring) × (q : Ring)
    × (co' ≡ record { work = co.work; logs = slice_set co.logs m r; queues = slice_set co.queues m q })
    × PairPasses (slice_index_or co.logs m empty_ring) (slice_index_or co.queues m empty_ring) rs ps ps' x told r q
