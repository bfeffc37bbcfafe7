-- The kinds of entries, by their numbers.
use Rattle.std.specs.Prelude.{◌≡◌, ℕ, ◌<◌, List, [], ◌∷◌, codes, Option, Result, MatchResult}
use Rattle.std.specs.List.{find}
use Rattle.std.specs.Str.{bytes_eq}
use Rattle.protocol.specs.declared.call.Call.{Call}
use Rattle.protocol.specs.declared.call.Call.TheVariants as call
use Rattle.steps.specs.declared.kind.EntryKind.{EntryKind}
use Rattle.steps.specs.declared.kind.EntryKind.TheVariants.{SetUp, Open, Read, Write, Abandon, Commit, Send, Poll, Take, Check, Trim}
use Rattle.steps.specs.declared.kind.UnknownKind.{UnknownKind}

-- the first byte of an entry of a kind
abbrev pub kind_number : EntryKind → ℕ
kind_number SetUp = 0
kind_number Open = 1
kind_number Read = 2
kind_number Write = 3
kind_number Abandon = 4
kind_number Commit = 5
kind_number Send = 6
kind_number Poll = 7
kind_number Take = 8
kind_number Check = 9
kind_number Trim = 10

-- the kind of this number, or the number itself where it is above 10 and no kind has it
abbrev pub IsKindOf : ℕ → Result EntryKind UnknownKind → Type 0
IsKindOf number r = MatchResult r (λ kind. kind_number kind ≡ number) (λ e. (e.0 ≡ number) × (10 < number))

-- the kind of a call's entry
abbrev pub kind_of : Call → EntryKind
kind_of (call.Open c) = Open
kind_of (call.Read c a) = Read
kind_of (call.Write c a v) = Write
kind_of (call.Abandon c) = Abandon
kind_of (call.Commit c) = Commit
kind_of (call.Send c) = Send
kind_of (call.Poll c m) = Poll
kind_of (call.Take c m) = Take
kind_of (call.Check c) = Check
kind_of (call.Trim c m) = Trim

-- the name of a kind
abbrev pub kind_name : EntryKind → List ℕ
kind_name SetUp = codes "setup"
kind_name Open = codes "open"
kind_name Read = codes "read"
kind_name Write = codes "write"
kind_name Abandon = codes "abandon"
kind_name Commit = codes "commit"
kind_name Send = codes "send"
kind_name Poll = codes "poll"
kind_name Take = codes "take"
kind_name Check = codes "check"
kind_name Trim = codes "trim"

-- all kinds, by their numbers
abbrev pub kinds : List EntryKind
kinds = SetUp ∷ Open ∷ Read ∷ Write ∷ Abandon ∷ Commit ∷ Send ∷ Poll ∷ Take ∷ Check ∷ Trim ∷ []

-- the first of some kinds that has this name
unfoldable pub first_named : List EntryKind → List ℕ → Option EntryKind
first_named kinds name = find (λ kind. bytes_eq (kind_name kind) name) kinds

-- the kind of this name, if one has it
abbrev pub kind_named : List ℕ → Option EntryKind
kind_named name = first_named kinds name
