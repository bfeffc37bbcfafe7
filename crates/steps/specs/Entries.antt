-- What an entry's bytes stand for: its kind byte, then its fields.
use Rattle.std.specs.Prelude.{ℕ, ◌+◌, ◌*◌, Bool, cond, not, List, [], ◌∷◌, map, length, drop, Some, None, Ok, Err, Option, Result, ◌==◌, nat_le, slice_index, refl}
use Rattle.std.specs.List.{range_with_len, slice_get}
use Rattle.std.specs.Option.{option_map}
use Rattle.protocol.specs.declared.call.Call.{Call}
use Rattle.protocol.specs.declared.call.Call.TheVariants.{Open, Read, Write, Abandon, Commit, Send, Poll, Take, Check, Trim}
use Rattle.protocol.specs.declared.plan.Home.{Home}
use Rattle.protocol.specs.declared.plan.Plan.{Plan}
use Rattle.steps.specs.declared.fault.EntryFault.{EntryFault}
use Rattle.steps.specs.declared.fault.EntryFault.TheVariants.{UnknownKind, WrongLength, OutOfOrder}
use Rattle.steps.specs.declared.decode.Step.{Step}
use Rattle.steps.specs.declared.decode.Step.TheVariants.{SetUp, Call as ACall}
use Rattle.steps.specs.Bytes.{two_at, eight_at}

-- the coordinator of a call: the byte behind the kind
abbrev pub coordinator : List ℕ → ℕ
coordinator e = slice_index e 1

-- the machine of a poll, take or trim: the byte behind the coordinator
abbrev pub machine : List ℕ → ℕ
machine e = slice_index e 2

-- the address of a read or write: the two bytes behind the coordinator
abbrev pub address : List ℕ → ℕ
address e = two_at e 2

-- the value of a write: the eight bytes behind the address
abbrev pub value : List ℕ → ℕ
value e = eight_at e 4

-- how many regions a set-up has: the byte behind its machines and coordinators
abbrev pub regions : List ℕ → ℕ
regions e = slice_index e 3

-- the home of a region that the plan has not
abbrev pub blank : Home
blank = record { primary = 0; first = 0; second = 0 }

-- three bytes for each region; a region whose bytes are not there has a blank home
abbrev pub home : List ℕ → ℕ → Home
home bytes r =
    cond (nat_le (3 * r + 3) (length bytes))
    (record { primary = slice_index bytes (3 * r); first = slice_index bytes (3 * r + 1); second = slice_index bytes (3 * r + 2) })
    blank

-- a plan has eight homes; those of further regions are left out
abbrev pub homes : List ℕ → List Home
homes bytes = map (home bytes) (range_with_len 0 8)

-- a set-up's machines, coordinators, regions and capacity in a byte each, start version and first number in eight each,
-- and then the homes
unfoldable pub plan : List ℕ → Plan
plan e =
    record { machines = slice_index e 1; coordinators = slice_index e 2; regions = regions e; capacity = slice_index e 4; start = eight_at e 5; first = eight_at e 13; homes = homes (drop 21 e); eight = refl }

-- what an entry holds, if it has this many bytes
abbrev pub sized : {X : Type 0} → List ℕ → ℕ → X → Option X
sized e n x = cond (length e == n) (Some x) None

-- the calls by their kind, from 1 to 10, each with its number of bytes and its fields
abbrev pub calls : List ℕ → List (Option Call)
calls e =
    sized e 2 (Open (coordinator e))
    ∷ sized e 4 (Read (coordinator e) (address e))
    ∷ sized e 12 (Write (coordinator e) (address e) (value e))
    ∷ sized e 2 (Abandon (coordinator e))
    ∷ sized e 2 (Commit (coordinator e))
    ∷ sized e 2 (Send (coordinator e))
    ∷ sized e 3 (Poll (coordinator e) (machine e))
    ∷ sized e 3 (Take (coordinator e) (machine e))
    ∷ sized e 2 (Check (coordinator e))
    ∷ sized e 3 (Trim (coordinator e) (machine e))
    ∷ []

-- the steps by their kind, from 0 to 10: a set-up, with its number of bytes, and then the calls
abbrev pub steps : List ℕ → List (Option Step)
steps e = option_map SetUp (sized e (21 + 3 * regions e) (plan e)) ∷ map (option_map ACall) (calls e)

-- a set-up stands at place 1, right behind the version byte, and a call anywhere else
abbrev pub is_in_order : ℕ → Step → Bool
is_in_order place (SetUp p) = place == 1
is_in_order place (ACall c) = not (place == 1)

-- an entry's step among those of each kind: first its kind is asked for, then its length, then its order
abbrev pub checked : ℕ → Option (Option Step) → Result Step EntryFault
checked place None = Err (UnknownKind place)
checked place (Some None) = Err (WrongLength place)
checked place (Some (Some s)) = cond (is_in_order place s) (Ok s) (Err (OutOfOrder place))

-- what the entry at a place stands for; one with no kind byte has a wrong length
abbrev pub decoded : ℕ → List ℕ → Result Step EntryFault
decoded place e = cond (length e == 0) (Err (WrongLength place)) (checked place (slice_get (steps e) (slice_index e 0)))
