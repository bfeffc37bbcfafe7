-- The lines of a COMMIT-BACKUP, put into the backups one after the other and counted.
use Rattle.std.proofs.Common.{◌≡◌, ℕ, ◌+◌, ◌<◌, ◌≤◌, Bool, true, false, cond, List, ◌∷◌, length, get_or, drop, sym, refl, ap, ◌∙◌, subst, arith}
use mir.Val.{bool_byte}
use Rattle.std.specs.List.{AllByRecursion}
use Rattle.std.proofs.ByRecursion.{All-weaker}
use Rattle.std.proofs.lemmas.List.{length-set, drop_more, drop_all}
use Rattle.protocol.specs.declared.plan.Plan.{Plan}
use Rattle.protocol.specs.declared.record.Line.{Line}
use Rattle.protocol.specs.Lines.{Words, put, is_newer, renew, Backups, backups, back_up}
use Rattle.protocol.specs.Poll.{back_up_lines}
use Rattle.handling.specs.Fitting.{Fit, is_fit, is_first_backup, is_fit_backup, fitting_backup}
use Rattle.handling.proofs.Installing.{filter-all, fits}

length-renew : (ws : Words) (l : Line) → length (renew ws l) ≡ length ws
length-renew ws l = either (is_newer ws l)
  where
    either : (t : Bool) → length (cond t (put ws l.address (l.version + 1) l.value) ws) ≡ length ws
    either true = length-set ws l.address _
    either false = refl

counts-on : (i puts : ℕ) (done : Bool) → i + (puts + bool_byte done) ≡ i + puts + cond done 1 0
counts-on i puts true = omega arith
counts-on i puts false = omega arith

module _ (p : Plan) (m : ℕ) where
  -- what a line does, where it fits
  abbrev backed : Bool → Line → Backups → Backups
  backed fit l b = cond fit (back_up (is_first_backup p m l) l b) b

  sizes : (fit first : Bool) (l : Line) (b : Backups) → let c = cond fit (back_up first l b) b in (length c.firsts ≡ length b.firsts) × (length c.seconds ≡ length b.seconds)
  sizes true true l b = (length-renew b.firsts l, refl)
  sizes true false l b = (refl, length-renew b.seconds l)
  sizes false first l b = (refl, refl)

  module _ (n k : ℕ) (wanted : ℕ → Backups) where
    -- the lines left lead to the backups wanted, from any count on
    pub record Left (fs ss : Words) (puts : ℕ) (ls : List Line) : Type 0 where
      pub firsts : length fs ≡ n
      pub seconds : length ss ≡ k
      pub after : (i : ℕ) → back_up_lines p m (fitting_backup p m n k ls) (backups (i + puts) fs ss) ≡ wanted i

    -- the line goes into a backup, or is passed over
    past-line : (l : Line) (ls : List Line) (b : Backups) (fit : Bool) → is_fit_backup p m n k l ≡ fit → back_up_lines p m (fitting_backup p m n k (l ∷ ls)) b ≡ back_up_lines p m (fitting_backup p m n k ls) (backed fit l b)
    past-line l ls b true e = rw e
    past-line l ls b false e = rw e

    pub left-more : (fs ss fs' ss' : Words) (puts : ℕ) (ls : List Line) (j : ℕ) (d : Line) (done : Bool) → j < length ls
        → ((i : ℕ) → backups (i + cond done 1 0) fs' ss' ≡ backed (is_fit_backup p m (length fs) (length ss) (get_or ls j d)) (get_or ls j d) (backups i fs ss))
        → Left fs ss puts (drop j ls) → Left fs' ss' (puts + bool_byte done) (drop (j + 1) ls)
    left-more fs ss fs' ss' puts ls j d done lt step left =
        let l = get_or ls j d in
        let rest = fitting_backup p m n k (drop (j + 1) ls) in
        let fit : Bool = is_fit_backup p m (length fs) (length ss) l in
        let same : is_fit_backup p m n k l ≡ fit = sym (ap (λ a. is_fit_backup p m a (length ss) l) left.firsts ∙ ap (λ b. is_fit_backup p m n b l) left.seconds) in
        let size = sizes fit (is_first_backup p m l) l (backups 0 fs ss) in
        record {
          firsts = ap (λ (b : Backups). length b.firsts) (step 0) ∙ (size.0 ∙ left.firsts);
          seconds = ap (λ (b : Backups). length b.seconds) (step 0) ∙ (size.1 ∙ left.seconds);
          after = λ i.
              ap (λ (x : ℕ). back_up_lines p m rest (backups x fs' ss')) (counts-on i puts done)
              ∙ (ap (back_up_lines p m rest) (step (i + puts))
              ∙ (sym (past-line l (drop (j + 1) ls) (backups (i + puts) fs ss) fit same)
              ∙ (ap (λ (xs : List Line). back_up_lines p m (fitting_backup p m n k xs) (backups (i + puts) fs ss)) (sym (drop_more ls j d lt)) ∙ left.after i)));
        }

    pub left-none : (fs ss : Words) (puts : ℕ) (ls : List Line) (j : ℕ) → length ls ≤ j → Left fs ss puts (drop j ls) → (i : ℕ) → backups (i + puts) fs ss ≡ wanted i
    left-none fs ss puts ls j past left = (subst (Left fs ss puts) (drop_all j ls past) left).after

  -- where all fit and the backups are of one size, no line is passed over
  backs-up-all : (n k : ℕ) (ls : List Line) → AllByRecursion (Fit n) ls → k ≡ n → fitting_backup p m n k ls ≡ ls
  backs-up-all n k ls fit same = filter-all (is_fit_backup p m n k) ls (All-weaker (Fit n) _ (λ l f. either l f (is_first_backup p m l)) ls fit)
    where
      either : (l : Line) → Fit n l → (t : Bool) → is_fit (cond t n k) l ≡ true
      either l f true = fits n l f
      either l f false = ap (λ i. is_fit i l) same ∙ fits n l f

  pub backs-up-fit : (n k : ℕ) (ls : List Line) (fs ss fs' ss' : Words) (puts : ℕ) → ((i : ℕ) → backups (i + puts) fs' ss' ≡ back_up_lines p m (fitting_backup p m n k ls) (backups i fs ss)) → AllByRecursion (Fit n) ls → k ≡ n
      → (i : ℕ) → backups (i + puts) fs' ss' ≡ back_up_lines p m ls (backups i fs ss)
  backs-up-fit n k ls fs ss fs' ss' puts after fit same i = after i ∙ ap (λ (ks : List Line). back_up_lines p m ks (backups i fs ss)) (backs-up-all n k ls fit same)
