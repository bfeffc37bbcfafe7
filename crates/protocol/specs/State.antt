-- The whole state: the coordinators, and the three memories.
use Rattle.std.specs.Prelude.{ℕ, replicate}
use Rattle.memory.specs.Words.{word}
use Rattle.protocol.specs.declared.plan.Plan.{Plan}
use Rattle.protocol.specs.Lists.{upd}
use Rattle.protocol.specs.Lines.{Words}
use Rattle.protocol.specs.Plan.{size}
use Rattle.protocol.specs.Coordinator.{Coordinator, Phase, new_coordinator, with_phase}

pub record State : Type 0 where
  pub coordinators : ℕ → Coordinator
  pub primaries : Words
  pub firsts : Words
  pub seconds : Words

abbrev pub state : (ℕ → Coordinator) → Words → Words → Words → State
state ks p f s = record { coordinators = ks; primaries = p; firsts = f; seconds = s }

-- every word free, at the start version, with value 0
unfoldable pub start_words : Plan → Words
start_words p = replicate (size p) (word p.start 0 0)

-- what an accepted set-up leaves: every coordinator idle, with empty logs and queues
abbrev pub start : Plan → State
start p = state (λ c. new_coordinator p) (start_words p) (start_words p) (start_words p)

-- what a call of one coordinator sees and changes: the coordinator itself, and the memories
pub record Local : Type 0 where
  pub own : Coordinator
  pub primaries : Words
  pub firsts : Words
  pub seconds : Words

abbrev pub local : Coordinator → Words → Words → Words → Local
local k p f s = record { own = k; primaries = p; firsts = f; seconds = s }

abbrev pub local_at : State → ℕ → Local
local_at s c = local (s.coordinators c) s.primaries s.firsts s.seconds

-- the other coordinators stay as they are
abbrev pub with_local : State → ℕ → Local → State
with_local s c x = state (upd s.coordinators c x.own) x.primaries x.firsts x.seconds

abbrev pub with_own : Local → Coordinator → Local
with_own x k = local k x.primaries x.firsts x.seconds

abbrev pub with_primaries : Local → Words → Local
with_primaries x ws = local x.own ws x.firsts x.seconds

abbrev pub with_backups : Local → Words → Words → Local
with_backups x f s = local x.own x.primaries f s

abbrev pub in_phase : Local → Phase → Local
in_phase x phase = with_own x (with_phase x.own phase)
