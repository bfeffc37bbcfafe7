-- Whether a log is trimmed.
use Rattle.std.specs.Prelude.{◌≡◌, ◌⊎◌, ℕ, true, false, List, length, Ok, Err, Result}
use Rattle.ring.specs.declared.Ring.{Ring}
use Rattle.ring.specs.Contents.{Sound, room}
use Rattle.protocol.specs.declared.record.Record.{Record}
use Rattle.protocol.specs.declared.call.Refusal.{Refusal}
use Rattle.protocol.specs.declared.call.Refusal.TheVariants.{NoRoom, Nothing}
use Rattle.protocol.specs.Record.{is_untrimmed}
use Rattle.handling.specs.Notes.{notes}

-- a record has no TRUNCATE behind it, and there is a place for one in the k of the log
abbrev pub MayTrim : Ring → List Record → ℕ → Result (Unit {0}) Refusal → Type 0
MayTrim r rs k (Ok x) = (Sound r (length rs) → true ≡ is_untrimmed (notes r rs)) × (room r k ≡ true)
MayTrim r rs k (Err n) =
    ((n ≡ Nothing) × (Sound r (length rs) → false ≡ is_untrimmed (notes r rs)))
    ⊎ ((n ≡ NoRoom) × (Sound r (length rs) → true ≡ is_untrimmed (notes r rs)) × (room r k ≡ false))
