-- A table that was lent as a slice holds what the slice held last.
use Rattle.std.proofs.Common.{◌≡◌, ℕ, List, ◌++◌, length, take, sym, subst}
use Rattle.std.proofs.lemmas.List.{take_at}
use Rattle.protocol.specs.declared.record.Record.{Record}
use Rattle.protocol.specs.declared.record.Reply.{Reply}
use Rattle.protocol.specs.Lines.{Words}
use Rattle.directory.specs.declared.tables.Coordinator.{Coordinator}
use Rattle.directory.specs.View.{World, world}

pub held-last : {X : Type 0} (last rest : List X) (n : ℕ) → length last ≡ n → last ≡ take n (last ++ rest)
held-last last rest n e = sym (take_at last rest n e)

-- what holds of the slices before and after holds of the tables
pub lent : (F : World → World → Type 0) (cs cs' ds ds' : List Coordinator) (rs rs' ss ss' : List Record) (qs qs' ts ts' : List Reply) (a b d x y z : Words)
    → cs ≡ cs' → ds ≡ ds' → rs ≡ rs' → ss ≡ ss' → qs ≡ qs' → ts ≡ ts'
    → F (world cs rs qs a b d) (world ds ss ts x y z) → F (world cs' rs' qs' a b d) (world ds' ss' ts' x y z)
lent F cs cs' ds ds' rs rs' ss ss' qs qs' ts ts' a b d x y z e f g h i j k =
    let before : world cs rs qs a b d ≡ world cs' rs' qs' a b d = cc in
    let after : world ds ss ts x y z ≡ world ds' ss' ts' x y z = cc in
    subst (λ (u : World). F u (world ds' ss' ts' x y z)) before (subst (F (world cs rs qs a b d)) after k)
