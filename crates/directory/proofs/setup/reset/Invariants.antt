use Rattle.std.proofs.Common.{◌≡◌, ◌++◌, drop, replicate}
use Rattle.memory.specs.Words.{word}
use Rattle.directory.proofs.setup.reset.Given as goal

-- the words below the address are reset, and the others as they were
abbrev pub invariant-loop-address : goal.invariant-loop-address
invariant-loop-address g l =
    let words = g.M.Memory.words in
    words l.memory ≡ replicate l.address (word l.version 0 0) ++ drop l.address (words l.initial.memory)
