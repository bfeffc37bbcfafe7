-- How a step is written as an entry.
use Rattle.std.specs.Prelude.{◌≡◌, ℕ, ◌^◌, ◌<◌, ◌≤◌, true, List, [], ◌∷◌, ◌++◌, take, Ok, slice_index_or}
use Rattle.std.specs.Int.{bytes_high_first}
use Rattle.std.specs.List.{flat_map}
use Rattle.protocol.specs.declared.call.Call.{Call}
use Rattle.protocol.specs.declared.call.Call.TheVariants.{Open, Read, Write, Abandon, Commit, Send, Poll, Take, Check, Trim}
use Rattle.protocol.specs.declared.plan.Home.{Home}
use Rattle.protocol.specs.declared.plan.Plan.{Plan}
use Rattle.steps.specs.declared.decode.Step.{Step}
use Rattle.steps.specs.declared.decode.Step.TheVariants.{SetUp, Call as ACall}
use Rattle.steps.specs.Entries.{blank, is_in_order, decoded}

-- a home in three bytes
abbrev pub home_bytes : Home → List ℕ
home_bytes h = h.primary ∷ h.first ∷ h.second ∷ []

-- a set-up of this plan: its fields, and the homes of its regions
abbrev pub encoded_plan : Plan → List ℕ
encoded_plan p =
    0
    ∷ p.machines
    ∷ p.coordinators
    ∷ p.regions
    ∷ p.capacity
    ∷ bytes_high_first 8 p.start ++ (bytes_high_first 8 p.first ++ flat_map home_bytes (take p.regions p.homes))

-- each call: its kind and its fields
abbrev pub encoded_call : Call → List ℕ
encoded_call (Open c) = 1 ∷ c ∷ []
encoded_call (Read c a) = 2 ∷ c ∷ bytes_high_first 2 a
encoded_call (Write c a v) = 3 ∷ c ∷ bytes_high_first 2 a ++ bytes_high_first 8 v
encoded_call (Abandon c) = 4 ∷ c ∷ []
encoded_call (Commit c) = 5 ∷ c ∷ []
encoded_call (Send c) = 6 ∷ c ∷ []
encoded_call (Poll c m) = 7 ∷ c ∷ m ∷ []
encoded_call (Take c m) = 8 ∷ c ∷ m ∷ []
encoded_call (Check c) = 9 ∷ c ∷ []
encoded_call (Trim c m) = 10 ∷ c ∷ m ∷ []

-- the bytes of a step's entry
abbrev pub encoded : Step → List ℕ
encoded (SetUp p) = encoded_plan p
encoded (ACall c) = encoded_call c

-- a plan of more than eight regions has not kept the homes of them all
abbrev pub KeepsHomes : Step → Type 0
KeepsHomes (SetUp p) = p.regions ≤ 8
KeepsHomes (ACall c) = Unit {0}

-- each number fits its bytes; a plan has at most eight regions, and a blank home for each that it has not
abbrev pub Encodable : Step → Type 0
Encodable (SetUp p) =
    (p.start < 2 ^ 64) × (p.first < 2 ^ 64) × (p.regions ≤ 8)
    × ((r : ℕ) → p.regions ≤ r → r < 8 → slice_index_or p.homes r blank ≡ blank)
Encodable (ACall (Open c)) = Unit {0}
Encodable (ACall (Read c a)) = a < 2 ^ 16
Encodable (ACall (Write c a v)) = (a < 2 ^ 16) × (v < 2 ^ 64)
Encodable (ACall (Abandon c)) = Unit {0}
Encodable (ACall (Commit c)) = Unit {0}
Encodable (ACall (Send c)) = Unit {0}
Encodable (ACall (Poll c m)) = Unit {0}
Encodable (ACall (Take c m)) = Unit {0}
Encodable (ACall (Check c)) = Unit {0}
Encodable (ACall (Trim c m)) = Unit {0}

-- a step that was decoded is encoded as its entry
abbrev pub EncodesBack : List ℕ → Step → Type 0
EncodesBack content s = KeepsHomes s → encoded s ≡ content

-- at a place where it is in order, what a step was encoded as is decoded as that step
abbrev pub DecodesBack : List ℕ → Step → Type 0
DecodesBack bytes s =
    (place : ℕ) → Encodable s → is_in_order place s ≡ true → decoded place bytes ≡ Ok s
