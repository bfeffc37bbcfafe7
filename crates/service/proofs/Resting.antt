-- Whether a coordinator of the view is idle, by its entry in the table.
use Rattle.std.proofs.Common.{◌≡◌, ℕ, ◌<◌, ◌≤◌, true, List, length, get_or, take, sym, refl, ap, ◌∙◌, arith}
use Rattle.std.proofs.lemmas.List.{get_or_past, length-take}
use Rattle.ring.proofs.Indexed.{length-mapi}
use Rattle.protocol.specs.declared.plan.Plan.{Plan}
use Rattle.protocol.specs.declared.record.Record.{Record}
use Rattle.protocol.specs.declared.record.Reply.{Reply}
use Rattle.protocol.specs.Coordinator as protocol
use Rattle.protocol.specs.Coordinator.{is_idle, new_coordinator}
use Rattle.directory.specs.declared.tables.Coordinator.{Coordinator}
use Rattle.directory.specs.declared.tables.Phase as tables
use Rattle.directory.specs.declared.tables.Phase.TheVariants.{Idle, Open, Locking, Checking, Backing, Installing, Aborting}
use Rattle.directory.specs.declared.tables.Work.{Work}
use Rattle.directory.specs.View.{phase_of, own, owns, coordinators_of}
use Rattle.directory.proofs.Rows.{mapi-at}
use Rattle.service.specs.Owned.{is_resting}

-- the tables and the protocol mean the same by it
resting : (p : Plan) (t : Work) (phase : tables.Phase) → is_resting phase ≡ is_idle (phase_of p t phase)
unfolding phase_of
resting p t Idle = refl
resting p t Open = refl
resting p t (Locking l) = refl
resting p t (Checking passed) = refl
resting p t (Backing due) = refl
resting p t (Installing due reported) = refl
resting p t (Aborting due) = refl

module _ (p : Plan) (cs : List Coordinator) (rs : List Record) (qs : List Reply) (c : ℕ) where
  owns-short : length (owns p cs rs qs) ≡ length (take p.coordinators cs)
  unfolding owns
  owns-short = length-mapi (own p rs qs) 0 (take p.coordinators cs)

  -- there is no such coordinator
  absent : length (take p.coordinators cs) ≤ c → true ≡ is_idle (coordinators_of p cs rs qs c).phase
  absent l = sym (ap (λ (k : protocol.Coordinator). is_idle k.phase) (get_or_past (owns p cs rs qs) c (new_coordinator p) (omega (arith, owns-short, l))))

  pub past-plan : p.coordinators ≤ c → true ≡ is_idle (coordinators_of p cs rs qs c).phase
  past-plan l = absent (simp length-take (omega arith))

  pub past-table : length cs ≤ c → true ≡ is_idle (coordinators_of p cs rs qs c).phase
  past-table l = absent (simp length-take (omega arith))

  -- the coordinator has an entry
  module _ (own' : Coordinator) (below : c < p.coordinators) (there : c < length cs) (found : own' ≡ get_or cs c own') where
    entry : coordinators_of p cs rs qs c ≡ own p rs qs c own'
    unfolding owns
    entry = mapi-at (own p rs qs) p.coordinators cs c own' (new_coordinator p) below there ∙ ap (own p rs qs c) (sym found)

    pub resting-entry : is_resting own'.work.phase ≡ is_idle (coordinators_of p cs rs qs c).phase
    unfolding own
    resting-entry = resting p own'.work own'.work.phase ∙ sym (ap (λ (k : protocol.Coordinator). is_idle k.phase) entry)
