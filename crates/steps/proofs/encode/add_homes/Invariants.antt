-- The homes so far were added.
use Rattle.std.proofs.Common.{◌≡◌, ◌++◌, take, vec_items}
use Rattle.std.specs.List.{flat_map}
use Rattle.steps.specs.Encoding.{home_bytes}
use Rattle.steps.proofs.encode.add_homes.Given as goal

abbrev pub invariant-loop-home : goal.invariant-loop-home
invariant-loop-home l = vec_items l.out ≡ vec_items l.initial.out ++ flat_map home_bytes (take l.home-index l.homes)
