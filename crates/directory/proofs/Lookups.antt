-- The line that a look-up by an address finds has that address.
use Rattle.std.proofs.Common.{◌≡◌, ℕ, Bool, true, false, cond, eqb, List, [], ◌∷◌, Some, refl, ap, ◌∙◌, arith}
use Rattle.std.proofs.lemmas.Bool.{eqb-true}
use Rattle.protocol.specs.declared.record.Line.{Line}
use Rattle.protocol.specs.Coordinator.{line_at}

pub found-at : (a : ℕ) (ls : List Line) (l : Line) → Some l ≡ line_at a ls → l.address ≡ a
found-at a [] l e = let z : ◌≡◌ {A = ℕ} 0 1 = cc in absurd (omega arith)
found-at a (x ∷ ls) l e = go (eqb x.address a) refl e (found-at a ls l)
  where
    go : (b : Bool) → eqb x.address a ≡ b → Some l ≡ cond b (Some x) (line_at a ls) → (Some l ≡ line_at a ls → l.address ≡ a) → l.address ≡ a
    go true q s later = let same : ◌≡◌ {A = Line} l x = cc in ap (λ (z : Line). z.address) same ∙ eqb-true x.address a q
    go false q s later = later s
