-- What the lines of a record do, as the functions on lines ensure it.
use Rattle.std.proofs.Common.{◌≡◌, ℕ, suc, ◌+◌, ◌^◌, ◌<◌, min, Bool, true, false, cond, List, [], ◌∷◌, reverse, length, take, Some, sym, ap, ◌∙◌, subst, arith}
use Rattle.std.specs.List.{AllByRecursion, find}
use Rattle.std.proofs.ByRecursion.{All-append, All-take}
use Rattle.std.proofs.lemmas.List.{reverse-append}
use Rattle.std.proofs.lemmas.Bool.{and_from, lt-ltb}
use Rattle.ring.specs.declared.Ring.{Ring}
use Rattle.memory.specs.Words.{holds}
use Rattle.protocol.specs.declared.plan.Plan.{Plan}
use Rattle.protocol.specs.declared.record.Line.{Line}
use Rattle.protocol.specs.declared.record.Record.{Record}
use Rattle.protocol.specs.Plan.{size}
use Rattle.protocol.specs.Lines.{Words, held_lines, free_lines}
use Rattle.protocol.specs.Record.{Note}
use Rattle.protocol.specs.Poll.{is_lock_of, lines_of, locked_lines}
use Rattle.protocol.specs.Kept.{Lines, Apart}
use Rattle.handling.specs.Fitting.{Fit}
use Rattle.handling.specs.Notes.{notes, polled}
use Rattle.handling.specs.Handling.{SoundLog}

module _ {X : Type 0} (P : X → Type 0) where
  pub all-reverse : (xs : List X) → AllByRecursion P xs → AllByRecursion P (reverse xs)
  all-reverse [] h = tt
  all-reverse (x ∷ xs) h = subst (AllByRecursion P) (sym (reverse-append (x ∷ []) xs)) (All-append P (reverse xs) (x ∷ []) (all-reverse xs h.1) (h.0, tt))

-- a record that was found, if any, has lines that fit
lines-fit : (p : Plan) (test : Note → Bool) (ns : List Note) → AllByRecursion (λ r. Lines p r.lines) ns → Lines p (lines_of (find test ns))
lines-fit p test [] h = record { fit = tt; apart = tt }
lines-fit p test (n ∷ ns) h = go (test n) (lines-fit p test ns h.1)
  where
    go : (b : Bool) → Lines p (lines_of (find test ns)) → Lines p (lines_of (cond b (Some n) (find test ns)))
    go true rest = h.0
    go false rest = rest

-- so have the lines of a LOCK
pub locked-fit : (p : Plan) (log : Ring) (slots : List Record) (number : ℕ) → SoundLog p log slots → Lines p (locked_lines number (polled log slots))
locked-fit p log slots number good =
    lines-fit p (is_lock_of number) (polled log slots) (all-reverse _ (take log.cursor (notes log slots)) (All-take _ log.cursor (notes log slots) good.lines))

fits-words : (p : Plan) (n : ℕ) (ls : List Line) → n ≡ size p → AllByRecursion (λ l. (l.address < size p) × (l.version + 1 < 2 ^ 60)) ls → AllByRecursion (Fit n) ls
fits-words p n ls e h = subst (λ (k : ℕ). AllByRecursion (Fit k) ls) (sym e) h

-- coordinator c holds as c + 1
holder-is : (c h : ℕ) → h ≡ min (c + 1) 255 → c < 15 → h ≡ suc c
holder-is c h e l = omega arith

pub holds-suc : (c : ℕ) → c < 15 → holds (suc c) ≡ true
holds-suc c l = and_from _ _ (lt-ltb 0 (suc c) (omega arith)) (lt-ltb (suc c) 16 (omega arith))

-- what the functions on lines ensure of the lines that they were lent, where these fit the plan
module _ (p : Plan) (lent : List Line) (ws ws' : Words) (good : Lines p lent) (long : length ws ≡ size p) where
  pub fit : AllByRecursion (Fit (length ws)) lent
  fit = fits-words p (length ws) lent long good.fit

  module _ (c h : ℕ) (h-is : h ≡ min (c + 1) 255) (few : c < 15) where
    held-as : h ≡ suc c
    held-as = holder-is c h h-is few

    held : holds h ≡ true
    held = ap holds held-as ∙ holds-suc c few

    pub released : (r : ℕ) → (AllByRecursion (Fit (length ws)) lent → Apart lent → holds h ≡ true → (ws' ≡ free_lines ws (held_lines ws h lent)) × (r ≡ length (held_lines ws h lent)))
        → (ws' ≡ free_lines ws (held_lines ws (suc c) lent)) × (r ≡ length (held_lines ws (suc c) lent))
    released r told = subst (λ (n : ℕ). (ws' ≡ free_lines ws (held_lines ws n lent)) × (r ≡ length (held_lines ws n lent))) held-as (told fit good.apart held)
