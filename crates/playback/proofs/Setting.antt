-- Memories of a plan's size fit the plan, so a directory over them is refused only for its plan.
use Rattle.std.proofs.Common.{◌≡◌, ℕ, Bool, true, false, cond, ◌&&◌, eqb, length, Ok, Err, Result, sym, refl, ap, ◌∙◌, subst}
use Rattle.std.specs.Result.{MatchResult, IsErrAnd}
use Rattle.std.proofs.lemmas.Bool.{eq-eqb}
use Rattle.std.proofs.lemmas.List.{length-replicate}
use Rattle.memory.specs.declared.make.Rejected.{Rejected}
use Rattle.memory.specs.Words.{blank, blanks}
use Rattle.protocol.specs.declared.plan.Plan.{Plan}
use Rattle.protocol.specs.declared.call.Refusal.TheVariants.{BadPlan, BadTables}
use Rattle.protocol.specs.Lines.{Words}
use Rattle.protocol.specs.Try.{◌>>◌, unless}
use Rattle.protocol.specs.Plan.{is_fine, size}
use Rattle.protocol.specs.Step.{set_up}
use Rattle.directory.specs.Calls.{Ready}
use Rattle.service.specs.declared.owner.Directory.{Directory}
use Rattle.service.specs.declared.make.Unmade.{Unmade}
use Rattle.service.specs.declared.make.Unmade.TheVariants.{Refused, NoMemory}
use Rattle.service.specs.Owned.{owned}
use Rattle.service.specs.Making.{Makes, Caused, has_fitting_memories}
use Rattle.playback.specs.Transcript.{made, each_fits}
use Rattle.playback.specs.Playing.{Sets}

accepted-fine : (f : Bool) (k : ℕ) → (unless BadPlan f >> (unless BadTables true >> Ok k)) ≡ Ok k → f ≡ true
unfolding unless ◌>>◌
accepted-fine true k e = refl
accepted-fine false k e = cc

all-three : (x y z : Bool) → x ≡ true → y ≡ true → z ≡ true → (x && (y && z)) ≡ true
all-three x y z e f g = ap (λ (t : Bool). t && (y && z)) e ∙ ap (λ (t : Bool). t && z) f ∙ g

-- a memory of the size that the code asks for
pub asked-for : {X : Type 0} (words : X → Words) (fits : ℕ → Bool) (x : X) (n m : ℕ) → n ≡ m → (fits n ≡ true) × (words x ≡ blanks n) → (fits m ≡ true) × (words x ≡ blanks m)
asked-for words fits x n m e h = subst (λ (k : ℕ). (fits k ≡ true) × (words x ≡ blanks k)) e h

sized : (p : Plan) (ws : Words) → ws ≡ blanks (size p) → eqb (length ws) (size p) ≡ true
sized p ws e = eq-eqb _ _ (ap length e ∙ length-replicate (size p) blank)

module _ {P F S : Type 0} (words_p : P → Words) (words_f : F → Words) (words_s : S → Words) (p : Plan) (xs : P) (ys : F) (zs : S) where
  -- each memory is new, and of the plan's size
  pub record New (f g h : Bool) : Type 0 where
    pub primaries : (f ≡ true) × (words_p xs ≡ blanks (size p))
    pub firsts : (g ≡ true) × (words_f ys ≡ blanks (size p))
    pub seconds : (h ≡ true) × (words_s zs ≡ blanks (size p))

  module _ (fits : ℕ → Bool) (fitting : fits (size p) ≡ true) (asked : has_fitting_memories p (words_p xs) (words_f ys) (words_s zs) ≡ true) where
    same : set_up p (has_fitting_memories p (words_p xs) (words_f ys) (words_s zs)) ≡ made fits p
    same = ap (set_up p) asked ∙ sym (ap (λ b. cond b (set_up p true) (Err BadPlan)) fitting)

    made_of : (r : Result (Directory P F S) (Rejected Unmade (P × F × S))) (s : Result (Directory P F S) Unmade) → Makes words_p words_f words_s p xs ys zs r
        → MatchResult r (λ x. s ≡ Ok x) (λ e. IsErrAnd s (λ u. u ≡ e.error)) → Sets words_p words_f words_s fits p s
    made_of (Ok d) s m e =
        subst (Sets words_p words_f words_s fits p) (sym e) (
          m.0,
          sym same ∙ m.1,
          record {
            fine = ap is_fine m.0 ∙ accepted-fine (is_fine p) (size p) (sym (ap (set_up p) asked) ∙ m.1);
            ready = subst (λ (q : Plan). Ready q (owned words_p words_f words_s d)) (sym m.0) m.2;
          },
        )
    made_of (Err h) (Ok d) m e = absurd e
    made_of (Err h) (Err u) m e = refused h.error u m.3 e
      where
        refused : (x u : Unmade) → Caused p (words_p xs) (words_f ys) (words_s zs) x → u ≡ x → Sets words_p words_f words_s fits p (Err u)
        refused (Refused n) u c e = subst (λ v. Sets words_p words_f words_s fits p (Err v)) (sym e) (sym same ∙ c)
        refused (NoMemory w) u c e = subst (λ v. Sets words_p words_f words_s fits p (Err v)) (sym e) tt

  pub sets : (f g h : ℕ → Bool) (r : Result (Directory P F S) (Rejected Unmade (P × F × S))) (s : Result (Directory P F S) Unmade)
      → New (f (size p)) (g (size p)) (h (size p)) → Makes words_p words_f words_s p xs ys zs r
      → MatchResult r (λ x. s ≡ Ok x) (λ e. IsErrAnd s (λ u. u ≡ e.error)) → Sets words_p words_f words_s (each_fits f g h) p s
  sets f g h r s new =
      made_of (each_fits f g h) (all-three _ _ _ new.primaries.0 new.firsts.0 new.seconds.0)
      (all-three _ _ _ (sized p _ new.primaries.1) (sized p _ new.firsts.1) (sized p _ new.seconds.1)) r s
