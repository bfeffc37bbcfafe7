-- What the ring of a log holds, as the protocol's records.
use Rattle.std.specs.Prelude.{◌≡◌, ℕ, ◌+◌, List, [], ◌∷◌, map, reverse, take, drop, Some, None, Option}
use Rattle.std.specs.Option.{option_map}
use Rattle.ring.specs.declared.Ring.{Ring}
use Rattle.ring.specs.Contents.{contents}
use Rattle.protocol.specs.declared.record.Record.{Record}
use Rattle.protocol.specs.Record.{Note, note}

-- from the front, in the order of writing
abbrev pub notes : Ring → List Record → List Note
notes r slots = map note (contents r slots)

-- the polled ones, the newest first
abbrev pub polled : Ring → List Record → List Note
polled r slots = reverse (take r.cursor (notes r slots))

-- a record that was found, if any
abbrev pub noted : Option Record → Option Note
noted r = option_map note r

-- from place i on there is nothing, or this record and those behind it
abbrev pub NextIs : List Note → ℕ → Option Record → Type 0
NextIs ns i None = drop i ns ≡ []
NextIs ns i (Some x) = drop i ns ≡ note x ∷ drop (i + 1) ns
