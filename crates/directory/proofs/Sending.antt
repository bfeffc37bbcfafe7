-- What send does on each way out.
use Rattle.std.proofs.Common.{◌≡◌, ℕ, ◌+◌, ◌*◌, ◌<◌, true, false, List, [], ◌∷◌, get_or, set, Some, None, Ok, Err, sym, refl, ap, ◌∙◌, subst, ⊎_elim}
use Rattle.std.proofs.lemmas.Bool.{true≢false}
use Rattle.memory.specs.Words.{at, Proper}
use Rattle.ring.specs.declared.Ring.{Ring}
use Rattle.ring.specs.Contents.{room}
use Rattle.protocol.specs.declared.plan.Plan.{Plan}
use Rattle.protocol.specs.declared.record.Line.{Line}
use Rattle.protocol.specs.declared.record.Kind.{Kind}
use Rattle.protocol.specs.declared.record.Kind.TheVariants.{Lock, CommitBackup, CommitPrimary, Abort}
use Rattle.protocol.specs.declared.record.Record.{Record}
use Rattle.protocol.specs.declared.call.Call.TheVariants.{Send}
use Rattle.protocol.specs.declared.call.Outcome.{Outcome}
use Rattle.protocol.specs.declared.call.Outcome.TheVariants.{Going}
use Rattle.protocol.specs.declared.call.Refusal.{Refusal}
use Rattle.protocol.specs.declared.call.Refusal.TheVariants.{WrongPhase, NoRoom, Nothing}
use Rattle.protocol.specs.Record.{number_of}
use Rattle.protocol.specs.Room.{primary_machines}
use Rattle.protocol.specs.Coordinator as protocol
use Rattle.protocol.specs.Coordinator.{new_coordinator, with_words}
use Rattle.protocol.specs.Commit.{after_backup, record_for}
use Rattle.protocol.specs.State.{Local}
use Rattle.protocol.specs.Call.{answered}
use Rattle.protocol.specs.Step.{local_call}
use Rattle.protocol.specs.Kept.{machines_due}
use Rattle.protocol.proofs.Moves.{leaves, writes_record, sends-lock, sends-backup, sends-primary, sends-abort}
use Rattle.protocol.proofs.Accepts.{accepts}
use Rattle.protocol.proofs.Places.{due-has-place}
use Rattle.protocol.proofs.Refusals.{is_sending}
use Rattle.protocol.proofs.Refusals as refusals
use Rattle.handling.specs.Sending.{due_from, first_machine}
use Rattle.handling.proofs.Due.{due-next, due-none}
use Rattle.directory.specs.declared.tables.Phase.{Phase}
use Rattle.directory.specs.declared.tables.Phase.TheVariants as tables
use Rattle.directory.specs.declared.tables.Work.{Work}
use Rattle.directory.specs.declared.tables.Coordinator.{Coordinator}
use Rattle.directory.specs.View.{World, world, own, phase_of, reads_of, writes_of, awaited_of}
use Rattle.directory.specs.Due.{due_in, IsNext, reports, gone_on, GoneOn}
use Rattle.directory.specs.Slots.{Appended}
use Rattle.directory.specs.Calls.{Does}
use Rattle.directory.proofs.Doing.{Inside, mine, here, invariant-of, refuses, refused-so}
use Rattle.directory.proofs.Pairs.{log_ring}
use Rattle.directory.proofs.Working.{same-entry}
use Rattle.directory.proofs.GoingOn.{none-is-some, same_due}
use Rattle.directory.proofs.Logging.{has_room, room-again, AsSent, record-noted, record-appended}

-- The phases in which records are sent.
module _ (p : Plan) (t : Work) where
  not-sending : (ph : Phase) → None ≡ due_in ph → is_sending (phase_of p t ph) ≡ false
  unfolding phase_of
  not-sending tables.Idle e = refl
  not-sending tables.Open e = refl
  not-sending (tables.Locking l) e = none-is-some (sym e)
  not-sending (tables.Checking i) e = refl
  not-sending (tables.Backing d) e = none-is-some (sym e)
  not-sending (tables.Installing d r) e = none-is-some (sym e)
  not-sending (tables.Aborting d) e = none-is-some (sym e)

  is-sending : (ph : Phase) (kind : Kind) (from : ℕ) → Some (kind, from) ≡ due_in ph → is_sending (phase_of p t ph) ≡ true
  unfolding phase_of
  is-sending tables.Idle kind from e = none-is-some e
  is-sending tables.Open kind from e = none-is-some e
  is-sending (tables.Locking l) kind from e = refl
  is-sending (tables.Checking i) kind from e = none-is-some e
  is-sending (tables.Backing d) kind from e = refl
  is-sending (tables.Installing d r) kind from e = refl
  is-sending (tables.Aborting d) kind from e = refl

  abbrev due_to : Kind → ℕ → List ℕ
  due_to kind from = due_from p kind (writes_of t) from

  due-phase : (ph : Phase) (kind : Kind) (from : ℕ) → Some (kind, from) ≡ due_in ph → machines_due (phase_of p t ph) ≡ due_to kind from
  unfolding phase_of
  due-phase tables.Idle kind from e = none-is-some e
  due-phase tables.Open kind from e = none-is-some e
  due-phase (tables.Locking l) kind from e = same_due (λ (k : Kind) (d : ℕ). machines_due (phase_of p t (tables.Locking l)) ≡ due_to k d) Lock l.due kind from e refl
  due-phase (tables.Checking i) kind from e = none-is-some e
  due-phase (tables.Backing n) kind from e = same_due (λ (k : Kind) (d : ℕ). machines_due (phase_of p t (tables.Backing n)) ≡ due_to k d) CommitBackup n kind from e refl
  due-phase (tables.Installing n r) kind from e = same_due (λ (k : Kind) (d : ℕ). machines_due (phase_of p t (tables.Installing n r)) ≡ due_to k d) CommitPrimary n kind from e refl
  due-phase (tables.Aborting n) kind from e = same_due (λ (k : Kind) (d : ℕ). machines_due (phase_of p t (tables.Aborting n)) ≡ due_to k d) Abort n kind from e refl

  -- what follows backing depends on the written words alone
  after_same : (k j : protocol.Coordinator) (ms : List ℕ) → k.writes ≡ j.writes → after_backup p k ms ≡ after_backup p j ms
  after_same k j [] e = ap (λ (ws : List Line). protocol.Installing false (primary_machines p ws)) e
  after_same k j (m ∷ ms) e = refl

  module _ (c : ℕ) (x : Local) (words : x.own.writes ≡ writes_of t) (m : ℕ) (ms : List ℕ) where
    abbrev Sends : Phase → Kind → ℕ → Type 0
    Sends ph kind from = due_to kind from ≡ m ∷ ms → local_call p x (Send c) ≡ Ok (leaves m (number_of kind) (reports ph) (writes_record p c x kind m (gone_on p t ph ms)))

    pub sent : (ph : Phase) (kind : Kind) (from : ℕ) → x.own.phase ≡ phase_of p t ph → Some (kind, from) ≡ due_in ph → Sends ph kind from
    unfolding phase_of gone_on
    sent tables.Idle kind from is e = none-is-some e
    sent tables.Open kind from is e = none-is-some e
    sent (tables.Locking l) kind from is e = same_due (Sends (tables.Locking l)) Lock l.due kind from e
        (λ due. accepts p x (sends-lock m ms (awaited_of p l) l.denied (is ∙ ap (λ (ns : List ℕ). protocol.Locking ns (awaited_of p l) l.denied) due)))
    sent (tables.Checking i) kind from is e = none-is-some e
    sent (tables.Backing n) kind from is e = same_due (Sends (tables.Backing n)) CommitBackup n kind from e
        (λ due. accepts p x (sends-backup m ms (is ∙ ap protocol.Backing due))
        ∙ ap (λ (ph : protocol.Phase). Ok (leaves m (number_of CommitBackup) Going (writes_record p c x CommitBackup m ph))) (after_same x.own (with_words (new_coordinator p) (reads_of t) (writes_of t)) ms words))
    sent (tables.Installing n r) kind from is e = same_due (Sends (tables.Installing n r)) CommitPrimary n kind from e
        (λ due. accepts p x (sends-primary m ms r (is ∙ ap (protocol.Installing r) due)))
    sent (tables.Aborting n) kind from is e = same_due (Sends (tables.Aborting n)) Abort n kind from e (λ due. accepts p x (sends-abort m ms (is ∙ ap protocol.Aborting due)))

-- The entry as it was first read, with default e, and as it is changed, with default d.
module _ (p : Plan) (w : World) (c : ℕ) (in' : Inside p w c) (e : Coordinator) where
  abbrev first : Coordinator
  first = get_or w.coordinators c e

  send-closed : None ≡ due_in first.work.phase → Does p w w (Err WrongPhase) (Send c)
  unfolding own
  send-closed none = refuses p w (Send c) in' e WrongPhase (λ s. refusals.send-closed p _ c (not-sending p first.work first.work.phase none))

  module _ (kind : Kind) (from : ℕ) (due : Some (kind, from) ≡ due_in first.work.phase) where
    send-nothing : None ≡ first_machine (due_to p first.work kind from) → Does p w w (Err Nothing) (Send c)
    unfolding own
    send-nothing none = refuses p w (Send c) in' e Nothing
        (λ s. refusals.send-nothing p _ c (is-sending p first.work first.work.phase kind from due)
        (due-phase p first.work first.work.phase kind from due ∙ due-none _ p.machines from none))

    due-then : (d : Coordinator) → Some (kind, from) ≡ due_in (get_or w.coordinators c d).work.phase
    due-then d = subst (λ (z : Coordinator). Some (kind, from) ≡ due_in z.work.phase) (same-entry p w c in' e d) due

    module _ (m : ℕ) (lowest : Some m ≡ first_machine (due_to p first.work kind from)) (below : m < p.machines) where
      -- on sound tables the log of a machine that is due a record has a place for it
      pub send-full : room (log_ring p w c m in' below e) p.capacity ≡ false → Does p w w (Err NoRoom) (Send c)
      unfolding own
      send-full full = refuses p w (Send c) in' e NoRoom
          (λ s.
          let listed = due-phase p first.work first.work.phase kind from due ∙ due-next _ p.machines from m lowest in
          absurd (true≢false (sym (has_room p w c m in' below e s (due-has-place p _ (invariant-of p w (Send c) in' e s) m _ listed)) ∙ full)))

      module _ (d : Coordinator) where
        abbrev then : Coordinator
        then = get_or w.coordinators c d

        rest_then : due_to p then.work kind from ≡ m ∷ due_from p kind (writes_of then.work) (m + 1)
        rest_then = due-next _ p.machines from m (subst (λ (z : Coordinator). Some m ≡ first_machine (due_to p z.work kind from)) (same-entry p w c in' e d) lowest)

        abbrev on : protocol.Phase
        on = gone_on p then.work then.work.phase (due_from p kind (writes_of then.work) (m + 1))

        pub sends : (words : (a : ℕ) → Proper (at w.primaries a)) → room (log_ring p w c m in' below e) p.capacity ≡ true
            → (b : ℕ) → b ≡ c * p.machines + m → (r : Ring) (rs : List Record) (entry : Record) → Appended p.capacity b (log_ring p w c m in' below d) r w.records rs entry
            → AsSent p c kind m entry first
            → (t : Work) → GoneOn p then.work m t
            → (n : ℕ) → n ≡ number_of kind → (o : Outcome) → o ≡ reports then.work.phase
            → Does p w
            (world (set w.coordinators c (record { work = t; logs = set then.logs m r; queues = then.queues })) rs w.replies w.primaries w.firsts w.seconds)
            (Ok (answered m n o)) (Send c)
        unfolding own
        sends words free b at_place r rs entry appended noted t stands n is-kind o is-outcome =
            record-appended p w (Send c) in' words d m below b at_place r rs entry (room-again p w c m in' below e d free) appended
            t on (record_for p c (mine p w (Send c) in' d) kind m) m n o
            (λ s. stands kind from (due-then d))
            (record-noted p w (Send c) in' e d kind m entry noted)
            (λ s.
            let left = writes_record p c (here p w (Send c) in' d) kind m on in
            sent p then.work c (here p w (Send c) in' d) refl m _ then.work.phase kind from refl (due-then d) rest_then
            ∙ ap (λ (z : Outcome). Ok (leaves m (number_of kind) z left)) (sym is-outcome)
            ∙ ap (λ (z : ℕ). Ok (leaves m z o left)) (sym is-kind))

  -- nothing is sent
  pub send-refused : (n : Refusal) → IsNext p first.work (Err n) → Does p w w (Err n) (Send c)
  send-refused n why = ⊎_elim
      (λ u. refused-so p w (Send c) n WrongPhase u.0 (send-closed u.1))
      (λ u. refused-so p w (Send c) n Nothing u.0 (send-nothing u.1.0 u.1.1 u.1.2 u.1.3))
      why
