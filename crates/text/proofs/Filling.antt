-- Numbers and the bytes of their fields.
use Rattle.std.proofs.Common.{◌≡◌, ℕ, ◌<◌, ◌≤◌, List, [], ◌∷◌, length, drop, min, Ok, refl, ap, ◌∙◌, inl, inr, ◌⊎◌, arith}
use Rattle.std.proofs.lemmas.Bool.{cases_lt}
use Rattle.std.proofs.lemmas.List.{append-nil, drop_all}
use Rattle.text.specs.declared.fault.LineFault.{LineFault}
use Rattle.text.specs.declared.fields.Width.{Width}
use Rattle.text.specs.Fields.{bytes_of, behind}

no-numbers : (ws : List Width) → bytes_of ws [] ≡ Ok []
no-numbers [] = refl
no-numbers (w ∷ ws) = refl

-- where the fields or the numbers have come to their end, no bytes are left
pub none_left : (ws : List Width) (ns : List ℕ) (n : ℕ) → n ≡ min (length ws) (length ns) → bytes_of (drop n ws) (drop n ns) ≡ Ok []
none_left ws ns n h = by (cases_lt (length ws) (length ns))
  where
    by : (length ws < length ns) ⊎ (length ns ≤ length ws) → bytes_of (drop n ws) (drop n ns) ≡ Ok []
    by (inl l) = ap (λ us. bytes_of us (drop n ns)) (drop_all n ws (omega (arith, h)))
    by (inr l) = ap (bytes_of (drop n ws)) (drop_all n ns (omega (arith, h))) ∙ no-numbers (drop n ws)

-- bytes with nothing behind them
pub behind-nothing : (xs : List ℕ) → behind {E = LineFault} xs (Ok []) ≡ Ok xs
behind-nothing xs = ap (λ ys. Ok ys) (append-nil xs)
