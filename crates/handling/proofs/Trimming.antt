-- The last record of a log says whether a TRUNCATE stands behind all.
use Rattle.std.proofs.Common.{◌≡◌, not, List, [], ◌∷◌, ◌++◌, map, refl, ap, ◌∙◌}
use Rattle.protocol.specs.declared.record.Kind.TheVariants.{Truncate}
use Rattle.protocol.specs.declared.record.Record.{Record}
use Rattle.protocol.specs.Record.{note, kind_eq, is_untrimmed}

behind : (before : List Record) (x : Record) → is_untrimmed (map note (before ++ x ∷ [])) ≡ not (kind_eq (note x).kind Truncate)
behind [] x = refl
behind (y ∷ []) x = refl
behind (y ∷ z ∷ before) x = behind (z ∷ before) x

pub untrimmed_last : (xs before : List Record) (x : Record) → xs ≡ before ++ x ∷ [] → is_untrimmed (map note xs) ≡ not (kind_eq (note x).kind Truncate)
untrimmed_last xs before x e = ap (λ zs. is_untrimmed (map note zs)) e ∙ behind before x
