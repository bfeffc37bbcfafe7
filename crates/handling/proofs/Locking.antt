-- The lines of a granted LOCK: each is locked, one after the other, and what that leaves.
use Rattle.std.proofs.Common.{◌≡◌, ℕ, ◌+◌, ◌<◌, ◌≤◌, Bool, true, false, ◌&&◌, ltb, ◌≢◌, ◌⊎◌, List, [], ◌∷◌, length, get_or, drop, set, sym, refl, ap, ◌∙◌, subst, inl, inr, ⊎_elim, arith}
use Rattle.std.specs.List.{AllByRecursion, list_all}
use Rattle.std.proofs.ByRecursion.{All-weaker}
use Rattle.std.proofs.lemmas.List.{length-set, get_or-set_same, get_or-set_other, set_past, set-get_or, drop_all, drop_more}
use Rattle.std.proofs.lemmas.Bool.{and_parts, cases_eq, cases_lt, ltb-true}
use Rattle.std.proofs.lemmas.Bool.Decides.{nat_tests}
use Rattle.memory.specs.declared.word.Word.{Word}
use Rattle.memory.specs.Words.{blank, at, there, held_by, holds, free_at, lockable, locked}
use Rattle.protocol.specs.declared.record.Line.{Line}
use Rattle.protocol.specs.Kept.{Absent}
use Rattle.protocol.specs.Lines.{Words, is_current, hold, lock_lines}
use Rattle.handling.specs.Fitting.{Fit, lockable_lines}
use Rattle.handling.specs.Held.{Held}

length-hold : (ws : Words) (h b : ℕ) → length (hold ws h b) ≡ length ws
length-hold ws h b = length-set ws b _

module _ (h : ℕ) (ws : Words) where
  -- a word of another address
  at_other : (b a : ℕ) → a ≢ b → at (hold ws h b) a ≡ at ws a
  at_other b a ne = get_or-set_other ws b a _ blank ne

  at_same : (b : ℕ) → b < length ws → at (hold ws h b) b ≡ held_by h (at ws b)
  at_same b l = get_or-set_same ws b _ blank l

  past-kept : (b : ℕ) → length ws ≤ b → hold ws h b ≡ ws
  past-kept b l = set_past ws b _ l

  -- a word is as it was, or is now held
  at-hold : (b a : ℕ) → (at (hold ws h b) a ≡ at ws a) ⊎ (at (hold ws h b) a ≡ held_by h (at ws a))
  at-hold b a = ⊎_elim
      (λ e. ⊎_elim (λ l. inr (subst (λ i. at (hold ws h b) i ≡ held_by h (at ws i)) (sym e) (at_same b l))) (λ l. inl (ap (λ v. at v a) (past-kept b l))) (cases_lt b (length ws)))
      (λ ne. inl (at_other b a ne))
      (cases_eq a b)

  -- and keeps its version and value
  rest-kept : (b a : ℕ) → held_by h (at (hold ws h b) a) ≡ held_by h (at ws a)
  rest-kept b a = ⊎_elim (λ e. ap (held_by h) e) (λ e. ap (held_by h) e) (at-hold b a)

module _ (h : ℕ) where
  length-lock_lines : (ws : Words) (ls : List Line) → length (lock_lines ws h ls) ≡ length ws
  length-lock_lines ws [] = refl
  length-lock_lines ws (l ∷ ls) = length-lock_lines (hold ws h l.address) ls ∙ length-hold ws h l.address

  absent-kept : (ws : Words) (ls : List Line) (a : ℕ) → Absent a ls → at (lock_lines ws h ls) a ≡ at ws a
  absent-kept ws [] a out = refl
  absent-kept ws (l ∷ ls) a out = absent-kept (hold ws h l.address) ls a out.1 ∙ at_other h ws l.address a out.0

  held_kept : (ws : Words) (ls : List Line) (a : ℕ) (w : Word) → at ws a ≡ held_by h w → at (lock_lines ws h ls) a ≡ held_by h w
  held_kept ws [] a w e = e
  held_kept ws (l ∷ ls) a w e =
      held_kept (hold ws h l.address) ls a w (⊎_elim (λ q. q ∙ e) (λ q. q ∙ ap (held_by h) e) (at-hold h ws l.address a))

  each-held : (ws : Words) (ls : List Line) → AllByRecursion (λ l. l.address < length ws) ls → AllByRecursion (λ l. at (lock_lines ws h ls) l.address ≡ held_by h (at ws l.address)) ls
  each-held ws [] within = tt
  each-held ws (l ∷ ls) within =
      let after = hold ws h l.address in (
        held_kept after ls l.address (at ws l.address) (at_same h ws l.address within.0),
        All-weaker _ _ (λ k e. e ∙ rest-kept h ws l.address k.address) ls
            (each-held after ls (All-weaker _ _ (λ k b. subst (λ n. k.address < n) (sym (length-hold ws h l.address)) b) ls within.1)),
      )

  lockable-there : (ws : Words) (ls : List Line) → lockable_lines ws h ls ≡ true → AllByRecursion (λ l. l.address < length ws) ls
  lockable-there ws [] ok = tt
  lockable-there ws (l ∷ ls) ok =
      let parts = and_parts (lockable ws l.address l.version h) (lockable_lines ws h ls) ok in
      (ltb-true _ _ (and_parts (there ws l.address) (free_at l.version h (at ws l.address)) parts.0).0, lockable-there ws ls parts.1)

  pub lock-holds : (ws after : Words) (ls : List Line) → lockable_lines ws h ls ≡ true → after ≡ lock_lines ws h ls → Held h ls ws after
  lock-holds ws after ls ok is =
      subst (Held h ls ws) (sym is) (record { held = each-held ws ls (lockable-there ws ls ok); others = absent-kept ws ls; size = length-lock_lines ws ls })

  -- a line that is still to be locked, or whose word an earlier line of the same address locked
  abbrev pub Ready : Words → Line → Type 0
  Ready ws l = (lockable ws l.address l.version h ≡ true) ⊎ (((at ws l.address).holder ≡ h) × (holds h ≡ true))

  all-ready : (ws : Words) (ls : List Line) → lockable_lines ws h ls ≡ true → AllByRecursion (Ready ws) ls
  all-ready ws [] ok = tt
  all-ready ws (l ∷ ls) ok =
      let parts = and_parts (lockable ws l.address l.version h) (lockable_lines ws h ls) ok in (inl parts.0, all-ready ws ls parts.1)

  ready-holder : (ws : Words) (l : Line) → Ready ws l → holds h ≡ true
  ready-holder ws l (inl e) = grind (arith, nat_tests)
  ready-holder ws l (inr q) = q.1

  held-already : (ws : Words) (a : ℕ) → (at ws a).holder ≡ h → hold ws h a ≡ ws
  held-already ws a e = ap (λ (k : ℕ). set ws a (held_by k (at ws a))) (sym e) ∙ set-get_or ws a blank

  ready-locks : (ws : Words) (l : Line) → Ready ws l → locked ws l.address l.version h ≡ hold ws h l.address
  ready-locks ws l (inl e) = rw e
  ready-locks ws l (inr q) =
      let refused : lockable ws l.address l.version h ≡ false = grind (arith, nat_tests) in rw refused (sym (held-already ws l.address q.0))

  ready-kept : (ws : Words) (b : ℕ) → holds h ≡ true → (l : Line) → Ready ws l → Ready (hold ws h b) l
  ready-kept ws b ok l ready = ⊎_elim
      (λ e. ⊎_elim (λ below. inr (ap (λ (w : Word). w.holder) (ap (at (hold ws h b)) e ∙ at_same h ws b below), ok))
      (λ past. subst (λ (v : Words). Ready v l) (sym (past-kept h ws b past)) ready) (cases_lt b (length ws)))
      (λ ne. ⊎_elim
      (λ e. inl (ap (λ (n : ℕ). ltb l.address n && free_at l.version h (at (hold ws h b) l.address)) (length-hold ws h b)
      ∙ (ap (λ (w : Word). there ws l.address && free_at l.version h w) (at_other h ws b l.address ne) ∙ e)))
      (λ q. inr (ap (λ (w : Word). w.holder) (at_other h ws b l.address ne) ∙ q.0, q.1))
      ready)
      (cases_eq l.address b)

  -- one line is locked: the others are still ready
  others-ready : (ws : Words) (l : Line) (ls : List Line) → Ready ws l → AllByRecursion (Ready ws) ls → AllByRecursion (Ready (hold ws h l.address)) ls
  others-ready ws l ls ready all = All-weaker (Ready ws) (Ready (hold ws h l.address)) (ready-kept ws l.address (ready-holder ws l ready)) ls all

  -- the lines left lead to the words wanted, and each is ready
  abbrev pub Left : Words → Words → List Line → Type 0
  Left wanted ws ls = (lock_lines ws h ls ≡ wanted) × AllByRecursion (Ready ws) ls

  pub left-all : (ws : Words) (ls : List Line) → lockable_lines ws h ls ≡ true → Left (lock_lines ws h ls) ws ls
  left-all ws ls ok = (refl, all-ready ws ls ok)

  pub left-more : (wanted ws ws' : Words) (ls : List Line) (i : ℕ) (d : Line) → i < length ls → ws' ≡ locked ws (get_or ls i d).address (get_or ls i d).version h
      → Left wanted ws (drop i ls) → Left wanted ws' (drop (i + 1) ls)
  left-more wanted ws ws' ls i d lt step before =
      let l = get_or ls i d in
      let now = subst (Left wanted ws) (drop_more ls i d lt) before in
      subst (λ v. Left wanted v (drop (i + 1) ls)) (sym (step ∙ ready-locks ws l now.1.0)) (now.0, others-ready ws l (drop (i + 1) ls) now.1.0 now.1.1)

  pub left-none : (wanted ws : Words) (ls : List Line) (i : ℕ) → length ls ≤ i → Left wanted ws (drop i ls) → ws ≡ wanted
  left-none wanted ws ls i past before = (subst (Left wanted ws) (drop_all i ls past) before).0

  -- where the lines fit the memory, they can be locked where their words are free and at the versions read
  pub lockable-fit : (ws : Words) (ls : List Line) → AllByRecursion (Fit (length ws)) ls → holds h ≡ true → lockable_lines ws h ls ≡ list_all (is_current ws) ls
  lockable-fit ws [] fit ok = refl
  lockable-fit ws (l ∷ ls) fit ok =
      let within : l.address < length ws = fit.0.0 in
      let here : lockable ws l.address l.version h ≡ is_current ws l = grind (arith, nat_tests) in
      ap (λ (t : Bool). t && lockable_lines ws h ls) here ∙ ap (λ (t : Bool). is_current ws l && t) (lockable-fit ws ls fit.1 ok)
