-- The fields of an entry: how many bytes each has, and the number in them.
use Rattle.std.specs.Prelude.{ℕ, ◌*◌, ◌^◌, cond, List, [], ◌∷◌, ◌++◌, length, drop, replicate, Some, None, Ok, Err, Option, Result, nat_le, nat_lt, ◌==◌, slice_index}
use Rattle.std.specs.Int.{bytes_high_first}
use Rattle.std.specs.Option.{option_map}
use Rattle.steps.specs.declared.kind.EntryKind.{EntryKind}
use Rattle.steps.specs.declared.kind.EntryKind.TheVariants.{SetUp, Open, Read, Write, Abandon, Commit, Send, Poll, Take, Check, Trim}
use Rattle.steps.specs.Bytes.{two_at, eight_at}
use Rattle.steps.specs.Kinds.{kind_number}
use Rattle.text.specs.declared.fault.LineFault.{LineFault}
use Rattle.text.specs.declared.fault.LineFault.TheVariants.{TooBig, WrongCount}
use Rattle.text.specs.declared.fields.Width.{Width}
use Rattle.text.specs.declared.fields.Width.TheVariants.{One, Two, Eight}

-- how many bytes a field has
abbrev pub size : Width → ℕ
size One = 1
size Two = 2
size Eight = 8

-- no number of a field reaches this one
abbrev pub limit : Width → ℕ
limit One = 2 ^ 8
limit Two = 2 ^ 16
limit Eight = 2 ^ 64

-- the number in a field at the front of bytes
abbrev pub number_at : Width → List ℕ → ℕ
number_at One bs = slice_index bs 0
number_at Two bs = two_at bs 0
number_at Eight bs = eight_at bs 0

-- the bytes of a number
abbrev pub number_bytes : Width → ℕ → List ℕ
number_bytes One n = n ∷ []
number_bytes Two n = bytes_high_first 2 n
number_bytes Eight n = bytes_high_first 8 n

-- the fields that an entry of a kind has at least: a set-up's machines, coordinators, regions, capacity, start version and
-- first number; a call's coordinator, and then its machine, or its address and value
abbrev pub leading : EntryKind → List Width
leading SetUp = One ∷ One ∷ One ∷ One ∷ Eight ∷ Eight ∷ []
leading Open = One ∷ []
leading Read = One ∷ Two ∷ []
leading Write = One ∷ Two ∷ Eight ∷ []
leading Abandon = One ∷ []
leading Commit = One ∷ []
leading Send = One ∷ []
leading Poll = One ∷ One ∷ []
leading Take = One ∷ One ∷ []
leading Check = One ∷ []
leading Trim = One ∷ One ∷ []

-- a set-up has three machines more for each region
abbrev pub widths : EntryKind → ℕ → List Width
widths kind regions = leading kind ++ replicate (3 * regions) One

-- how many regions the numbers of a line say, or the bytes of an entry, whose first three fields are a byte each; a call has none
abbrev pub regions : EntryKind → List ℕ → ℕ
regions SetUp ns = slice_index ns 2
regions Open ns = 0
regions Read ns = 0
regions Write ns = 0
regions Abandon ns = 0
regions Commit ns = 0
regions Send ns = 0
regions Poll ns = 0
regions Take ns = 0
regions Check ns = 0
regions Trim ns = 0

-- the numbers in bytes, if the bytes are just these fields
abbrev pub numbers_in : List Width → List ℕ → Option (List ℕ)
numbers_in [] [] = Some []
numbers_in [] (b ∷ bs) = None
numbers_in (w ∷ ws) bs =
    cond (nat_le (size w) (length bs)) (option_map (λ ns. number_at w bs ∷ ns) (numbers_in ws (drop (size w) bs))) None

-- a list behind another, if there is one
abbrev pub behind : {E : Type 0} → List ℕ → Result (List ℕ) E → Result (List ℕ) E
behind xs (Ok ys) = Ok (xs ++ ys)
behind xs (Err e) = Err e

-- the bytes of numbers, each in its field
abbrev pub bytes_of : List Width → List ℕ → Result (List ℕ) LineFault
bytes_of [] ns = Ok []
bytes_of (w ∷ ws) [] = Ok []
bytes_of (w ∷ ws) (n ∷ ns) = cond (nat_lt n (limit w)) (behind (number_bytes w n) (bytes_of ws ns)) (Err TooBig)

-- the bytes of an entry: its kind, and the numbers, if there are as many as fields
abbrev pub counted : EntryKind → List Width → List ℕ → Result (List ℕ) LineFault
counted kind ws ns =
    cond (length ns == length ws) (behind (kind_number kind ∷ []) (bytes_of ws ns)) (Err (WrongCount (length ws) (length ns)))

-- first the number of regions must fit its field, since it says how many fields there are
abbrev pub entry_of : EntryKind → List ℕ → Result (List ℕ) LineFault
entry_of kind ns = cond (nat_lt (regions kind ns) 256) (counted kind (widths kind (regions kind ns)) ns) (Err TooBig)
