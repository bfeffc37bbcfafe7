-- What holds of the text, however it is made.
use Rattle.std.specs.Prelude.{◌≡◌, ℕ, ◌<◌, ◌≤◌, Bool, List, ◌∷◌, ◌++◌, length, Ok, Result, ◌==◌}
use Rattle.std.specs.List.{AllByRecursion, filter}
use Rattle.protocol.specs.declared.plan.Plan.{Plan}
use Rattle.steps.specs.declared.fault.EntryFault.{EntryFault}
use Rattle.steps.specs.declared.decode.Step.TheVariants.{SetUp}
use Rattle.steps.specs.declared.sequence.Placed.{Placed}
use Rattle.steps.specs.Frames.{Position}
use Rattle.steps.specs.Sequence.{steps_from}
use Rattle.steps.specs.Writing.{written}
use Rattle.playback.specs.Transcript.{start_of, made}

-- Whatever entries a file begins with, its text begins with the whole text of those entries alone: a later entry changes no
-- line before it.
abbrev pub KeepsFronts : (List ℕ → List ℕ) → List ℕ → List ℕ → Type 0
KeepsFronts text_of bytes text =
    (es ds : List (List ℕ)) → AllByRecursion (λ e. length e < 65536) es → bytes ≡ written (es ++ ds) → length bytes ≤ 65536
    → (more : List ℕ) × (text ≡ text_of (written es) ++ more)

-- the lines of a text, by the line feeds that end them
abbrev pub lines_in : List ℕ → ℕ
lines_in text = length (filter (λ c. c == 10) text)

-- Behind a set-up that is accepted every entry has a line, up to the first that cannot be read, which has one too.
abbrev pub HasALineForEach : (ℕ → Bool) → List ℕ → List ℕ → Type 0
HasALineForEach fits bytes text =
    (start : Position) (x : Placed) (behind : List (Result Placed EntryFault)) (p : Plan) (n : ℕ)
    → start_of bytes ≡ Ok start → steps_from start ≡ Ok x ∷ behind → x.step ≡ SetUp p → made fits p ≡ Ok n
    → lines_in text ≡ length (steps_from start)
