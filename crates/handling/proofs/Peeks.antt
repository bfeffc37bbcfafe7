-- What a peek into a ring says of the records of its log.
use Rattle.std.proofs.Common.{◌≡◌, ℕ, zero, suc, List, [], ◌∷◌, map, length, drop, Some, None, Option, refl, ap, ◌∙◌, add-one, arith}
use lib.ListN.{length-map}
use Rattle.std.specs.List.{slice_get}
use Rattle.ring.specs.declared.Ring.{Ring}
use Rattle.ring.specs.Contents.{contents, Sound}
use Rattle.ring.proofs.Rotated.{length-contents}
use Rattle.protocol.specs.declared.record.Record.{Record}
use Rattle.protocol.specs.Record.{note}
use Rattle.handling.specs.Notes.{notes, NextIs}

drop_here : (xs : List Record) (i : ℕ) (x : Record) → Some x ≡ slice_get xs i → drop i (map note xs) ≡ note x ∷ drop (suc i) (map note xs)
drop_here [] i x e = let z : ◌≡◌ {A = ℕ} 0 1 = cc in absurd (omega arith)
drop_here (y ∷ xs) zero x e = let same : y ≡ x = cc in ap (λ (z : Record). note z ∷ map note xs) same
drop_here (y ∷ xs) (suc i) x e = drop_here xs i x e

drop_past : (xs : List Record) (i : ℕ) → None ≡ slice_get xs i → drop i (map note xs) ≡ []
drop_past [] zero e = refl
drop_past [] (suc i) e = refl
drop_past (y ∷ xs) zero e = let z : ◌≡◌ {A = ℕ} 0 1 = cc in absurd (omega arith)
drop_past (y ∷ xs) (suc i) e = drop_past xs i e

next-is : (xs : List Record) (i : ℕ) (got : Option Record) → got ≡ slice_get xs i → NextIs (map note xs) i got
next-is xs i None e = drop_past xs i e
next-is xs i (Some x) e = rw add-one (drop_here xs i x e)

pub peek-next : (r : Ring) (slots : List Record) (i : ℕ) (got : Option Record) → got ≡ slice_get (contents r slots) i → NextIs (notes r slots) i got
peek-next r slots i got e = next-is (contents r slots) i got e

-- as many records as entries
pub length-notes : (r : Ring) (slots : List Record) → Sound r (length slots) → length (notes r slots) ≡ r.len
length-notes r slots s = length-map (contents r slots) note ∙ length-contents r slots s.head s.len
