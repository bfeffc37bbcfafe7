-- One entry more in a ring of a table.
use Rattle.std.specs.Prelude.{◌≡◌, ℕ, ◌+◌, ◌*◌, List, [], ◌∷◌, ◌++◌, length, take, drop}
use Rattle.ring.specs.declared.Ring.{Ring}
use Rattle.ring.specs.Contents.{contents, with_one_more}
use Rattle.ring.specs.Rings.{block}

-- the entry stands behind the others in block b of the table, of k slots, and the rest of the table is as it was
pub record Appended {X : Type 0} (k b : ℕ) (was after : Ring) (table table' : List X) (entry : X) : Type 0 where
  pub ring : after ≡ with_one_more was
  pub holds : contents after (block k b table') ≡ contents was (block k b table) ++ entry ∷ []
  pub before : take (b * k) table' ≡ take (b * k) table
  pub behind : drop (b * k + k) table' ≡ drop (b * k + k) table
  pub long : length table' ≡ length table
