-- What set-up leaves.
use Rattle.std.proofs.Common.{◌≡◌, ℕ, true, false, List, length, take, replicate, Ok, Err, sym, refl, ap, ◌∙◌, subst, arith}
use lib.ListN.{length-replicate}
use borrow.Rule.Slice.PartMut.{put_mid}
use Rattle.std.proofs.lemmas.List.{length-take}
use Rattle.std.proofs.lemmas.Slice.{take-put_mid, drop-put_mid}
use Rattle.memory.specs.Words.{word}
use Rattle.protocol.specs.declared.plan.Plan.{Plan}
use Rattle.protocol.specs.declared.call.Refusal.{Refusal}
use Rattle.protocol.specs.declared.call.Refusal.TheVariants.{BadPlan, BadTables}
use Rattle.protocol.specs.Plan.{is_fine, size}
use Rattle.protocol.specs.Lines.{Words}
use Rattle.protocol.specs.State.{start_words}
use Rattle.protocol.specs.Step.{set_up}
use Rattle.protocol.proofs.Checks.{passes, stops}
use Rattle.directory.specs.declared.tables.Coordinator.{Coordinator}
use Rattle.directory.specs.View.{World, world, is_fitting}
use Rattle.directory.specs.Calls.{SetsUp}
use Rattle.directory.specs.Fresh.{Fresh}
use Rattle.directory.proofs.Plans.{sizes-of, fits-of}
use Rattle.directory.proofs.Starts.{ready}

module _ (p : Plan) (w : World) where
  abbrev LeftAlone : Refusal → Type 0
  LeftAlone n = SetsUp p w w (Err n)

  left_alone : (n : Refusal) → set_up p (is_fitting p w) ≡ Err n → LeftAlone n
  left_alone n e = record { answers = sym e; ready = tt; refused_unchanged = refl; rest = record { coordinators = refl; records = refl; replies = refl } }

  -- the size that stands behind an equation
  pub sized-so : (after : World) (n m : ℕ) → n ≡ m → SetsUp p w after (Ok m) → SetsUp p w after (Ok n)
  sized-so after n m e d = subst (λ (z : ℕ). SetsUp p w after (Ok z)) (sym e) d

  pub bad-plan : false ≡ is_fine p → LeftAlone BadPlan
  bad-plan e = left_alone BadPlan (stops BadPlan (is_fine p) _ (sym e))

  pub bad-tables : true ≡ is_fine p → false ≡ is_fitting p w → LeftAlone BadTables
  bad-tables e f = left_alone BadTables (passes BadPlan (is_fine p) _ (sym e) ∙ stops BadTables (is_fitting p w) _ (sym f))

module _ (p : Plan) (was : World) (fine : true ≡ is_fine p) (fits : true ≡ is_fitting p was) (co : Coordinator) (is : Fresh p.first co) (ys : List Coordinator) (a b d : Words)
    (reset-a : a ≡ replicate (length was.primaries) (word p.start 0 0))
    (reset-b : b ≡ replicate (length was.firsts) (word p.start 0 0))
    (reset-d : d ≡ replicate (length was.seconds) (word p.start 0 0)) where
  abbrev after : ℕ → World
  after k = world (put_mid 0 k was.coordinators ys) was.records was.replies a b d

  -- what the fill of the first k coordinators ensures is what is wanted
  abbrev Done : ℕ → Type 0
  Done k = ys ≡ replicate (length (take k was.coordinators)) co → SetsUp p was (after k) (Ok (size p))

  started : (ws vs : Words) → length vs ≡ size p → ws ≡ replicate (length vs) (word p.start 0 0) → ws ≡ start_words p
  unfolding start_words
  started ws vs e r = r ∙ ap (λ n. replicate n (word p.start 0 0)) e

  accepted : set_up p (is_fitting p was) ≡ Ok (size p)
  accepted = passes BadPlan (is_fine p) _ (sym fine) ∙ passes BadTables (is_fitting p was) _ (sym fits)

  done : Done p.coordinators
  done filled =
      let in_tables = fits-of p was fits in
      let many : ys ≡ replicate p.coordinators co = filled ∙ ap (λ n. replicate n co) (simp length-take (omega arith)) in
      let long : length ys ≡ p.coordinators = ap length many ∙ length-replicate p.coordinators co in
      record {
        answers = sym accepted;
        ready = ready p co (sizes-of p fine) is _ was.records was.replies a b d
            (take-put_mid 0 p.coordinators was.coordinators ys p.coordinators (omega arith) (omega arith) ∙ many)
            (started a _ in_tables.primaries reset-a) (started b _ in_tables.firsts reset-b) (started d _ in_tables.seconds reset-d);
        refused_unchanged = tt;
        rest = record { coordinators = drop-put_mid 0 p.coordinators was.coordinators ys p.coordinators (omega arith) (omega arith) long; records = refl; replies = refl };
      }

  pub sets-up : (k : ℕ) → k ≡ p.coordinators → Done k
  sets-up k e = subst Done (sym e) done
