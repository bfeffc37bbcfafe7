-- What is left to go through.
use Rattle.std.specs.Prelude.{Bool, cond, List, [], ◌++◌}
use Rattle.std.specs.Iterator.Adapters.{chain_first, chain_second, chain_first_done, chain_second_done}
use Rattle.std.specs.Slice.Iter.{iter_rest}
use Rattle.std.specs.declared.iter.Chain.{Chain}
use Rattle.std.specs.declared.slice.Iter.{Iter}

-- entries up to the last slot of a slice, and behind them those from its first on
abbrev pub Entries : Type 0 → Type 0
Entries X = Chain (Iter X) (Iter X)

-- what such a part has left, which is nothing once it has ended
abbrev pub unless_done : {X : Type 0} → Bool → Iter X → List X
unless_done done part = cond done [] (iter_rest part)

-- the entries that are left, in order
abbrev pub left : {X : Type 0} → Entries X → List X
left e = unless_done (chain_first_done e) (chain_first e) ++ unless_done (chain_second_done e) (chain_second e)
