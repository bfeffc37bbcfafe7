-- The lines of a transaction's LOCK, freed one after the other where the holder has them, and counted.
use Rattle.std.proofs.Common.{◌≡◌, ℕ, ◌+◌, ◌<◌, ◌≤◌, Bool, true, false, cond, eqb, List, [], ◌∷◌, length, get_or, drop, sym, refl, ap, ◌∙◌, subst, arith}
use mir.Val.{bool_byte}
use Rattle.std.specs.List.{AllByRecursion}
use Rattle.std.proofs.lemmas.List.{length-set, get_or-set_other, drop_more, drop_all}
use Rattle.std.proofs.lemmas.Bool.Decides.{nat_tests}
use Rattle.memory.specs.declared.word.Word.{Word}
use Rattle.memory.specs.Words.{blank, at, holds, freeable}
use Rattle.protocol.specs.declared.record.Line.{Line}
use Rattle.protocol.specs.Kept.{Absent, Apart}
use Rattle.protocol.specs.Lines.{Words, hold, held_lines, free_lines}
use Rattle.handling.specs.Fitting.{Fit, freed_lines}

module _ (h : ℕ) where
  module _ (wanted : Words) (total : ℕ) where
    -- the lines left lead to the words and the count wanted
    pub record Left (ws : Words) (k : ℕ) (ls : List Line) : Type 0 where
      pub words : free_lines ws (freed_lines ws h ls) ≡ wanted
      pub count : k + length (freed_lines ws h ls) ≡ total

    step : (ws : Words) (k : ℕ) (l : Line) (ls : List Line) (done : Bool) → freeable ws l.address h ≡ done → Left ws k (l ∷ ls)
        → Left (cond done (hold ws 0 l.address) ws) (k + bool_byte done) ls
    step ws k l ls true e left = record { words = rw e at left.words; count = omega (arith, rw e at left.count) }
    step ws k l ls false e left = record { words = rw e at left.words; count = omega (arith, rw e at left.count) }

    pub left-more : (ws ws' : Words) (k : ℕ) (ls : List Line) (i : ℕ) (d : Line) (done : Bool) → i < length ls → done ≡ freeable ws (get_or ls i d).address h → ws' ≡ cond done (hold ws 0 (get_or ls i d).address) ws
        → Left ws k (drop i ls) → Left ws' (k + bool_byte done) (drop (i + 1) ls)
    left-more ws ws' k ls i d done lt answer after left =
        subst (λ v. Left v (k + bool_byte done) (drop (i + 1) ls)) (sym after)
        (step ws k (get_or ls i d) (drop (i + 1) ls) done (sym answer) (subst (Left ws k) (drop_more ls i d lt) left))

    pub left-none : (ws : Words) (k : ℕ) (ls : List Line) (i : ℕ) → length ls ≤ i → Left ws k (drop i ls) → (ws ≡ wanted) × (k ≡ total)
    left-none ws k ls i past left = let last = subst (Left ws k) (drop_all i ls past) left in (last.words, omega (arith, last.count))

  -- the words have what they had, at the lines' addresses
  abbrev Same : Words → Words → List Line → Type 0
  Same ws vs ls = AllByRecursion (λ l. at vs l.address ≡ at ws l.address) ls

  same_kept : (ws vs : Words) (a : ℕ) (ls : List Line) → Absent a ls → Same ws vs ls → Same ws (hold vs 0 a) ls
  same_kept ws vs a [] out same = tt
  same_kept ws vs a (l ∷ ls) out same = (get_or-set_other vs a l.address _ blank (λ e. out.0 (sym e)) ∙ same.0, same_kept ws vs a ls out.1 same.1)

  -- where the lines fit and are apart, the holder's are freed, each once
  held-freed : (ws vs : Words) (ls : List Line) → holds h ≡ true → length vs ≡ length ws → AllByRecursion (Fit (length ws)) ls → Apart ls → Same ws vs ls → freed_lines vs h ls ≡ held_lines ws h ls
  held-freed ws vs [] ok long fit apart same = refl
  held-freed ws vs (l ∷ ls) ok long fit apart same =
      let within : l.address < length vs = omega (arith, long, fit.0.0) in
      let here : freeable vs l.address h ≡ eqb (at vs l.address).holder h = grind (arith, nat_tests) in
      let test : freeable vs l.address h ≡ eqb (at ws l.address).holder h = here ∙ ap (λ (w : Word). eqb w.holder h) same.0 in
      let freed-rest = held-freed ws (hold vs 0 l.address) ls ok (length-set vs l.address _ ∙ long) fit.1 apart.1 (same_kept ws vs l.address ls apart.0 same.1) in
      let rest = held-freed ws vs ls ok long fit.1 apart.1 same.1 in
      ap (λ (t : Bool). cond t (l ∷ freed_lines (hold vs 0 l.address) h ls) (freed_lines vs h ls)) test
      ∙ (ap (λ (ks : List Line). cond (eqb (at ws l.address).holder h) (l ∷ ks) (freed_lines vs h ls)) freed-rest
      ∙ ap (λ (ks : List Line). cond (eqb (at ws l.address).holder h) (l ∷ held_lines ws h ls) ks) rest)

  same-all : (ws : Words) (ls : List Line) → Same ws ws ls
  same-all ws [] = tt
  same-all ws (l ∷ ls) = (refl, same-all ws ls)

  pub frees-held : (ws after : Words) (k : ℕ) (ls : List Line) → after ≡ free_lines ws (freed_lines ws h ls) → k ≡ length (freed_lines ws h ls) → AllByRecursion (Fit (length ws)) ls → Apart ls → holds h ≡ true
      → (after ≡ free_lines ws (held_lines ws h ls)) × (k ≡ length (held_lines ws h ls))
  frees-held ws after k ls words count fit apart ok =
      let all = held-freed ws ws ls ok refl fit apart (same-all ws ls) in (words ∙ ap (free_lines ws) all, count ∙ ap length all)
