-- Lines numbered from some number on, and the first of them that is not written.
use Rattle.std.proofs.Common.{◌≡◌, ℕ, suc, ◌+◌, ◌-◌, ◌<◌, ◌≤◌, Bool, true, false, cond, not, List, [], ◌∷◌, length, drop, Some, None, Option, refl, sym, ap, ◌∙◌, subst, ⊎_elim, arith, is_some}
use Rattle.std.specs.List.{filter, find, enumerate_from}
use Rattle.std.specs.Option.{MatchOption}
use Rattle.std.specs.declared.iter.Zip.{Zip}
use Rattle.std.specs.declared.ops.RangeFrom.{RangeFrom}
use Rattle.std.specs.Iterator.{AlwaysYields}
use Rattle.std.specs.Iterator.Adapters.{zip_first, zip_second}
use Rattle.std.proofs.lemmas.Iterator.{YieldsList, zips}
use Rattle.std.proofs.lemmas.List.{drop-drop}
use Rattle.protocol.specs.declared.record.Line.{Line}
use Rattle.protocol.specs.Coordinator.{line_at}
use Rattle.directory.specs.declared.tables.Work.{Work}
use Rattle.directory.specs.View.{reads_of, writes_of}
use Rattle.directory.specs.Progress.{NextUnwritten}

-- Numbers from a on beside the items of another iterator, which ends first.
abbrev pub upward : RangeFrom ℕ → Option ℕ → RangeFrom ℕ → Type 0
upward s r t = MatchOption r ((255 - s.start ≡ 0) × (t ≡ s)) (λ x. (x ≡ s.start) × (t.start ≡ x + 1))

module _ {T A B : Type 0} (others : T → Option A → T → Type 0) (w : A → B) where
  counted : (ys : List B) (a : ℕ) (s : Zip (RangeFrom ℕ) T) → (zip_first s).start ≡ a → a + length ys ≤ 255 → AlwaysYields others w (zip_second s) ys
      → AlwaysYields (zips upward others) (λ p. (p.0, w p.1)) s (enumerate_from a ys)
  counted [] a s e l g = λ x t k. g x.1 (zip_second t) k.1
  counted (y ∷ ys) a s e l g = (
    (λ t k. ⊎_elim (λ h. omega (arith, e, l, h.1.0)) (λ h. g.0 h.0 h.1) k),
    λ x t k. let m = g.1 x.1 (zip_second t) k.1 in (
      ap (λ (n : ℕ). (n, w x.1)) (k.0.0 ∙ e) ∙ ap (λ (b : B). (a, b)) m.0,
      counted ys (a + 1) t (k.0.1 ∙ ap (λ (n : ℕ). n + 1) (k.0.0 ∙ e)) (omega (arith, l)) m.1,
    ),
  )

pub YieldsList-from_counted : {T A B : Type 0} {others : T → Option A → T → Type 0} {w : A → B} {s : Zip (RangeFrom ℕ) T} {ys : List B} (a : ℕ) → (zip_first s).start ≡ a → a + length ys ≤ 255 → YieldsList others w (zip_second s) ys
    → YieldsList (zips upward others) (λ p. (p.0, w p.1)) s (enumerate_from a ys)
YieldsList-from_counted {others = others} {w} {s} {ys} a e l g = record { runs = counted others w ys a s e l g.runs }

-- What is found so among lines numbered from a + 1 on.
abbrev unwritten : List Line → Line → Bool
unwritten ws l = not (is_some (line_at l.address ws))

abbrev pub numbered : List Line → ℕ × Line → Bool
numbered ws x = unwritten ws x.1

abbrev pub FirstOf : List Line → ℕ → List Line → Option (ℕ × Line) → Type 0
FirstOf ws a ls None = filter (unwritten ws) ls ≡ []
FirstOf ws a ls (Some x) = (a < x.0) × (filter (unwritten ws) ls ≡ x.1 ∷ filter (unwritten ws) (drop (x.0 - a) ls))

first-of : (ws : List Line) (a : ℕ) (l : Line) (ls : List Line) (b : Bool) → unwritten ws l ≡ b → (o : Option (ℕ × Line)) → FirstOf ws (a + 1) ls o
    → FirstOf ws a (l ∷ ls) (cond b (Some (a + 1, l)) o)
first-of ws a l ls true e o f =
    let k : 1 ≡ a + 1 - a = omega arith in
    (omega arith, ap (λ (b : Bool). cond b (l ∷ filter (unwritten ws) ls) (filter (unwritten ws) ls)) e ∙ ap (λ (k : ℕ). l ∷ filter (unwritten ws) (drop k (l ∷ ls))) k)
first-of ws a l ls false e None f = ap (λ (b : Bool). cond b (l ∷ filter (unwritten ws) ls) (filter (unwritten ws) ls)) e ∙ f
first-of ws a l ls false e (Some x) f =
    let k : suc (x.0 - (a + 1)) ≡ x.0 - a = omega (arith, f.0) in (
      omega (arith, f.0),
      ap (λ (b : Bool). cond b (l ∷ filter (unwritten ws) ls) (filter (unwritten ws) ls)) e ∙ f.1 ∙ ap (λ (k : ℕ). x.1 ∷ filter (unwritten ws) (drop k (l ∷ ls))) k,
    )

pub found : (ws : List Line) (a : ℕ) (ls : List Line) → FirstOf ws a ls (find (numbered ws) (enumerate_from (a + 1) ls))
found ws a [] = refl
found ws a (l ∷ ls) = first-of ws a l ls (unwritten ws l) refl _ (found ws (a + 1) ls)

-- so the next word to check is found behind the first n reads
module _ (t : Work) (n : ℕ) where
  is-next : (r : Option (ℕ × Line)) → FirstOf (writes_of t) n (drop n (reads_of t)) r → NextUnwritten t n r
  is-next None f = f
  is-next (Some x) f =
      let e : n + (x.0 - n) ≡ x.0 = omega (arith, f.0) in
      f.1 ∙ ap (λ (ls : List Line). x.1 ∷ filter (unwritten (writes_of t)) ls) (drop-drop (x.0 - n) n (reads_of t) ∙ ap (λ (k : ℕ). drop k (reads_of t)) e)

  pub next-found : (r : Option (ℕ × Line)) → r ≡ find (numbered (writes_of t)) (enumerate_from (n + 1) (drop n (reads_of t))) → NextUnwritten t n r
  next-found r e = is-next r (subst (FirstOf (writes_of t) n (drop n (reads_of t))) (sym e) (found (writes_of t) n (drop n (reads_of t))))
