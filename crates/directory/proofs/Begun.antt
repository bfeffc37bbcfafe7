-- The phase in which a commit begins.
use Rattle.std.proofs.Common.{◌≡◌, ℕ, zero, suc, ◌<◌, ◌≤◌, Bool, true, false, List, [], ◌∷◌, get_or, sym, refl, ap, ◌∙◌, arith}
use Rattle.std.specs.List.{filter}
use Rattle.std.proofs.lemmas.Bool.{true≢false}
use Rattle.protocol.specs.declared.plan.Plan.{Plan}
use Rattle.protocol.specs.declared.record.Line.{Line}
use Rattle.protocol.specs.Lists.{is_empty}
use Rattle.std.specs.List.{range_with_len}
use Rattle.protocol.specs.Room.{primary_machines, is_at_primary}
use Rattle.protocol.specs.Commit.{first_phase, read_only}
use Rattle.protocol.specs.Coordinator as protocol
use Rattle.protocol.proofs.Counting.{filter_same}
use Rattle.directory.specs.declared.tables.Locking.{Locking}
use Rattle.directory.specs.declared.tables.Work.{Work}
use Rattle.directory.specs.declared.tables.Phase.TheVariants as tables
use Rattle.directory.specs.View.{phase_of, reads_of, writes_of, awaited_of}
use Rattle.directory.proofs.Working.{all-due}

all-read-only : (rs : List Line) → read_only rs [] ≡ rs
all-read-only [] = refl
all-read-only (r ∷ rs) = ap (λ ls. r ∷ ls) (all-read-only rs)

-- the tests of the first five numbers, as a list
abbrev pub five : (ℕ → Bool) → List Bool
five f = f 0 ∷ f 1 ∷ f 2 ∷ f 3 ∷ f 4 ∷ []

at_five : (f : ℕ → Bool) (m : ℕ) → m < 5 → get_or (five f) m false ≡ f m
at_five f zero l = refl
at_five f (suc zero) l = refl
at_five f (suc (suc zero)) l = refl
at_five f (suc (suc (suc zero))) l = refl
at_five f (suc (suc (suc (suc zero)))) l = refl
at_five f (suc (suc (suc (suc (suc m))))) l = absurd (omega arith)

-- by what is read and written
module _ (p : Plan) where
  first-locking : (rs ws : List Line) → is_empty ws ≡ false → first_phase p rs ws ≡ protocol.Locking (primary_machines p ws) (primary_machines p ws) false
  first-locking [] [] e = absurd (true≢false e)
  first-locking (r ∷ rs) [] e = absurd (true≢false e)
  first-locking [] (w ∷ ws) e = refl
  first-locking (r ∷ rs) (w ∷ ws) e = refl

  first-idle : (rs ws : List Line) → is_empty rs ≡ true → is_empty ws ≡ true → first_phase p rs ws ≡ protocol.Idle
  first-idle [] [] e f = refl
  first-idle (r ∷ rs) [] e f = absurd (true≢false (sym e))
  first-idle [] (w ∷ ws) e f = absurd (true≢false (sym f))
  first-idle (r ∷ rs) (w ∷ ws) e f = absurd (true≢false (sym f))

  first-checking : (rs ws : List Line) → is_empty rs ≡ false → is_empty ws ≡ true → first_phase p rs ws ≡ protocol.Checking (read_only rs ws)
  first-checking [] [] e f = absurd (true≢false e)
  first-checking (r ∷ rs) [] e f = ap protocol.Checking (sym (all-read-only (r ∷ rs)))
  first-checking [] (w ∷ ws) e f = absurd (true≢false (sym f))
  first-checking (r ∷ rs) (w ∷ ws) e f = absurd (true≢false (sym f))

  module _ (t : Work) where
    pub begins-locking : (few : p.machines ≤ 5) (l : Locking) → l.due ≡ 0 → l.denied ≡ false → l.awaited ≡ five (is_at_primary p (writes_of t))
        → is_empty (writes_of t) ≡ false → phase_of p t (tables.Locking l) ≡ first_phase p (reads_of t) (writes_of t)
    unfolding phase_of
    begins-locking few l due denied awaited some =
        let all : awaited_of p l ≡ primary_machines p (writes_of t) =
        ap (λ (bs : List Bool). filter (λ m. get_or bs m false) (range_with_len 0 p.machines)) awaited
        ∙ filter_same (λ m. get_or (five (is_at_primary p (writes_of t))) m false) (is_at_primary p (writes_of t)) 0 p.machines (λ m b. at_five (is_at_primary p (writes_of t)) m (omega arith)) in
        let first = all-due p (is_at_primary p (writes_of t)) in
        let end = first-locking (reads_of t) (writes_of t) some in
        cc

    pub begins-idle : is_empty (reads_of t) ≡ true → is_empty (writes_of t) ≡ true → phase_of p t tables.Idle ≡ first_phase p (reads_of t) (writes_of t)
    unfolding phase_of
    begins-idle e f = sym (first-idle (reads_of t) (writes_of t) e f)

    pub begins-checking : is_empty (reads_of t) ≡ false → is_empty (writes_of t) ≡ true → phase_of p t (tables.Checking 0) ≡ first_phase p (reads_of t) (writes_of t)
    unfolding phase_of
    begins-checking e f = sym (first-checking (reads_of t) (writes_of t) e f)
