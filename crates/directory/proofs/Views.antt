-- One coordinator of the view, and a change of it.
use Rattle.std.proofs.Common.{◌≡◌, ℕ, ◌<◌, ◌≤◌, List, length, get_or, take, set, sym, ap, ◌∙◌, subst, zero-add, arith}
use lib.Seq.{take-set-lt}
use Rattle.std.specs.List.{AllByRecursion}
use Rattle.std.proofs.ByRecursion.{All-get_or, All-set}
use Rattle.std.proofs.lemmas.List.{get_or-take, length-take}
use Rattle.ring.specs.Rings.{mapi}
use Rattle.ring.proofs.Indexed.{mapi-set, length-mapi}
use Rattle.protocol.specs.declared.plan.Plan.{Plan}
use Rattle.protocol.specs.declared.record.Record.{Record}
use Rattle.protocol.specs.declared.record.Reply.{Reply}
use Rattle.protocol.specs.Coordinator as protocol
use Rattle.protocol.specs.Lists.{upd}
use Rattle.protocol.proofs.Functions.{getD-upd}
use Rattle.directory.specs.declared.tables.Coordinator.{Coordinator}
use Rattle.directory.specs.View.{own, owns}
use Rattle.directory.proofs.Each.{entries}
use Rattle.directory.proofs.Rows.{mapi-at}

module _ (p : Plan) (cs : List Coordinator) (rs : List Record) (c : ℕ) (below : c < p.coordinators) (enough : p.coordinators ≤ length cs) where
  pub owns-at : (qs : List Reply) (d : Coordinator) (e : protocol.Coordinator) → get_or (owns p cs rs qs) c e ≡ own p rs qs c (get_or cs c d)
  unfolding owns
  owns-at qs d e = mapi-at (own p rs qs) p.coordinators cs c d e below (omega arith)

  owns-long : (qs : List Reply) → length (owns p cs rs qs) ≡ p.coordinators
  unfolding owns
  owns-long qs = length-mapi (own p rs qs) 0 (take p.coordinators cs) ∙ simp length-take (omega arith)

  -- coordinator c is another, and the tables too, but for what the other coordinators have in them
  owns-set : (rs' : List Record) (qs qs' : List Reply) (co : Coordinator) → ((j : ℕ) (x : Coordinator) → (j ≡ c → ⊥) → own p rs' qs' j x ≡ own p rs qs j x)
      → owns p (set cs c co) rs' qs' ≡ set (owns p cs rs qs) c (own p rs' qs' c co)
  unfolding owns
  owns-set rs' qs qs' co apart =
      let old = own p rs qs in
      let new = own p rs' qs' in
      ap (mapi new 0) (take-set-lt p.coordinators cs c co below)
      ∙ (mapi-set old new 0 (take p.coordinators cs) c co (λ j x _ n. apart j x (λ e. n (e ∙ sym (zero-add c))))
      ∙ ap (λ j. set (mapi old 0 (take p.coordinators cs)) c (new j co)) (zero-add c))

  -- so the view changes at c alone
  pub view-set : (rs' : List Record) (qs qs' : List Reply) (co : Coordinator) → ((j : ℕ) (x : Coordinator) → (j ≡ c → ⊥) → own p rs' qs' j x ≡ own p rs qs j x)
      → (λ (j : ℕ). get_or (owns p (set cs c co) rs' qs') j (protocol.new_coordinator p)) ≡ upd (λ (j : ℕ). get_or (owns p cs rs qs) j (protocol.new_coordinator p)) c (own p rs' qs' c co)
  view-set rs' qs qs' co apart =
      ap (entries (protocol.new_coordinator p)) (owns-set rs' qs qs' co apart)
      ∙ getD-upd (owns p cs rs qs) c (own p rs' qs' c co) (protocol.new_coordinator p) (omega (arith, below, owns-long qs))

  -- what holds of each of the first coordinators holds of coordinator c
  pub first-at : (P : Coordinator → Type 0) (d : Coordinator) → AllByRecursion P (take p.coordinators cs) → P (get_or cs c d)
  first-at P d h =
      subst P (get_or-take p.coordinators cs c d below) (All-get_or P (take p.coordinators cs) c d (simp length-take (omega arith)) h)

  pub first-set : (P : Coordinator → Type 0) (co : Coordinator) → AllByRecursion P (take p.coordinators cs) → P co → AllByRecursion P (take p.coordinators (set cs c co))
  first-set P co h q = subst (AllByRecursion P) (sym (take-set-lt p.coordinators cs c co below)) (All-set P (take p.coordinators cs) c co q h)
