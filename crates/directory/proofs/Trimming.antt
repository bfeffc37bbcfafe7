-- What trim does on each way out.
use Rattle.std.proofs.Common.{◌≡◌, ℕ, pred, ◌+◌, ◌*◌, ◌<◌, ◌≤◌, Bool, true, false, ◌||◌, ◌⊎◌, List, length, get_or, set, Ok, Err, sym, refl, ap, ◌∙◌, subst, inl, inr, ⊎_elim}
use Rattle.std.proofs.lemmas.Bool.{true≢false}
use Rattle.memory.specs.Words.{at, Proper}
use Rattle.ring.specs.declared.Ring.{Ring}
use Rattle.ring.specs.Contents.{room}
use Rattle.ring.specs.Contents as ring
use Rattle.protocol.specs.declared.plan.Plan.{Plan}
use Rattle.protocol.specs.declared.record.Record.{Record}
use Rattle.protocol.specs.declared.record.Kind.TheVariants.{Truncate}
use Rattle.protocol.specs.declared.call.Call.TheVariants.{Trim}
use Rattle.protocol.specs.declared.call.Outcome.TheVariants.{Going}
use Rattle.protocol.specs.declared.call.Refusal.{Refusal}
use Rattle.protocol.specs.declared.call.Refusal.TheVariants.{NoMachine, WrongPhase, NoRoom, Nothing}
use Rattle.protocol.specs.Record.{Log, records, is_untrimmed}
use Rattle.protocol.specs.Coordinator as protocol
use Rattle.protocol.specs.Coordinator.{is_idle, is_opened, log, with_record}
use Rattle.protocol.specs.Commit.{record_for}
use Rattle.protocol.specs.State.{with_own}
use Rattle.protocol.specs.Call.{answered}
use Rattle.protocol.proofs.Moves.{leaves, trims}
use Rattle.protocol.proofs.Accepts.{accepts}
use Rattle.protocol.proofs.Places.{trim-has-place}
use Rattle.protocol.proofs.Refusals as refusals
use Rattle.handling.specs.Notes.{notes}
use Rattle.directory.specs.declared.tables.Phase.{Phase}
use Rattle.directory.specs.declared.tables.Phase.TheVariants as tables
use Rattle.directory.specs.declared.tables.Work.{Work}
use Rattle.directory.specs.declared.tables.Coordinator.{Coordinator}
use Rattle.directory.specs.View.{World, world, own, phase_of, next_of}
use Rattle.directory.specs.Slots.{Appended}
use Rattle.directory.specs.Trims.{MayTrim}
use Rattle.directory.specs.Sound.{Sound}
use Rattle.directory.specs.Calls.{Does}
use Rattle.directory.proofs.Doing.{Inside, mine, here, invariant-of, refuses, refused-so, refuses-always}
use Rattle.directory.proofs.Pairs.{slots, log_ring, log-here}
use Rattle.directory.proofs.Working.{not-idle, not-open, as-idle, as-open, same-entry}
use Rattle.directory.proofs.Rooms.{log-records}
use Rattle.directory.proofs.Logging.{stands_here, has_room, room-again, AsSent, record-noted, record-appended}

-- between two commits
abbrev Resting : Phase → Type 0
Resting ph = (ph ≡ tables.Idle) ⊎ (ph ≡ tables.Open)

module _ (p : Plan) (t : Work) (ph : Phase) where
  rests : Resting ph → (phase_of p t ph ≡ protocol.Idle) ⊎ (phase_of p t ph ≡ protocol.Opened)
  rests r = ⊎_elim (λ q. inl (ap (phase_of p t) q ∙ as-idle p t)) (λ q. inr (ap (phase_of p t) q ∙ as-open p t)) r

  is-resting : Resting ph → (is_idle (phase_of p t ph) || is_opened (phase_of p t ph)) ≡ true
  is-resting r = ⊎_elim (ap (λ (z : protocol.Phase). is_idle z || is_opened z)) (ap (λ (z : protocol.Phase). is_idle z || is_opened z)) (rests r)

  not-resting : (ph ≡ tables.Idle → ⊥) → (ph ≡ tables.Open → ⊥) → (is_idle (phase_of p t ph) || is_opened (phase_of p t ph)) ≡ false
  not-resting i o = ap (λ (z : Bool). z || is_opened (phase_of p t ph)) (not-idle p t ph i) ∙ not-open p t ph o

module _ (p : Plan) (w : World) (c m : ℕ) (in' : Inside p w c) where
  pub trim-beyond : p.machines ≤ m → Does p w w (Err NoMachine) (Trim c m)
  trim-beyond far = refuses-always p w (Trim c m) in' NoMachine (λ x. refusals.trim-beyond p x c m far)

  -- the entry as it was first read, with default e, and as it is changed, with default d
  module _ (below : m < p.machines) (e : Coordinator) where
    abbrev first : Coordinator
    first = get_or w.coordinators c e

    pub trim-closed : (first.work.phase ≡ tables.Idle → ⊥) → (first.work.phase ≡ tables.Open → ⊥) → Does p w w (Err WrongPhase) (Trim c m)
    unfolding own
    trim-closed i o = refuses p w (Trim c m) in' e WrongPhase (λ s. refusals.trim-closed p _ c m below (not-resting p first.work first.work.phase i o))

    module _ (rest : Resting first.work.phase) (part : List Record) (is-part : part ≡ slots p w c m in' below) (found : Bool)
        (says : ring.Sound (log_ring p w c m in' below e) (length part) → found ≡ is_untrimmed (notes (log_ring p w c m in' below e) part)) where
      -- what was found of the log is so in the view
      untrimmed-here : Sound p w → found ≡ is_untrimmed (records (log (mine p w (Trim c m) in' e) m))
      unfolding own
      untrimmed-here s =
          let r = log_ring p w c m in' below e in
          subst (λ (xs : List Record). ring.Sound r (length xs) → found ≡ is_untrimmed (notes r xs)) is-part says (stands_here p w c m in' below e s)
          ∙ ap is_untrimmed (sym (log-records r (slots p w c m in' below)))
          ∙ ap (λ (g : Log). is_untrimmed (records g)) (sym (log-here p w c m in' below e s))

      trim-nothing : found ≡ false → Does p w w (Err Nothing) (Trim c m)
      unfolding own
      trim-nothing none = refuses p w (Trim c m) in' e Nothing
          (λ s. refusals.trim-nothing p _ c m below (is-resting p first.work first.work.phase rest) (sym (untrimmed-here s) ∙ none))

      module _ (some : found ≡ true) where
        -- on sound tables a log that may be trimmed has a place for the TRUNCATE
        trim-full : room (log_ring p w c m in' below e) p.capacity ≡ false → Does p w w (Err NoRoom) (Trim c m)
        unfolding own
        trim-full full = refuses p w (Trim c m) in' e NoRoom
            (λ s.
            absurd (true≢false (sym (has_room p w c m in' below e s (trim-has-place p _ (invariant-of p w (Trim c m) in' e s) m below (sym (untrimmed-here s) ∙ some))) ∙ full)))

        pub trims-log : (words : (a : ℕ) → Proper (at w.primaries a)) (d : Coordinator) → room (log_ring p w c m in' below e) p.capacity ≡ true
            → (b : ℕ) → b ≡ c * p.machines + m → (r : Ring) (rs : List Record) (entry : Record) → Appended p.capacity b (log_ring p w c m in' below d) r w.records rs entry
            → AsSent p c Truncate m entry first → (n : ℕ) → n ≡ pred (next_of first.work.next)
            → Does p w
            (world (set w.coordinators c (record { work = (get_or w.coordinators c d).work; logs = set (get_or w.coordinators c d).logs m r; queues = (get_or w.coordinators c d).queues })) rs w.replies w.primaries w.firsts w.seconds)
            (Ok (answered n 0 Going)) (Trim c m)
        unfolding own
        trims-log words d free b at_place r rs entry appended noted n last =
            let same = same-entry p w c in' e d in
            let k = mine p w (Trim c m) in' d in
            record-appended p w (Trim c m) in' words d m below b at_place r rs entry (room-again p w c m in' below e d free) appended
            (get_or w.coordinators c d).work k.phase (record_for p c k Truncate m) n 0 Going
            (λ s. record { phase = refl; next = refl; reads = refl; writes = refl })
            (record-noted p w (Trim c m) in' e d Truncate m entry noted)
            (λ s.
            accepts p (here p w (Trim c m) in' d)
            (trims below (rests p (get_or w.coordinators c d).work _ (subst (λ (z : Coordinator). Resting z.work.phase) same rest))
            (ap (λ (z : Coordinator). is_untrimmed (records (log (own p w.records w.replies c z) m))) (sym same) ∙ sym (untrimmed-here s) ∙ some))
            ∙ ap (λ (z : ℕ). Ok (leaves z 0 Going (with_own (here p w (Trim c m) in' d) (with_record k m (record_for p c k Truncate m)))))
            (sym (last ∙ ap (λ (z : Coordinator). pred (next_of z.work.next)) same)))

    -- a log that is not trimmed
    pub trim-refused : Resting first.work.phase → (part : List Record) → part ≡ slots p w c m in' below → (n : Refusal) → MayTrim (log_ring p w c m in' below e) part p.capacity (Err n)
        → Does p w w (Err n) (Trim c m)
    trim-refused rest part is-part n why = ⊎_elim
        (λ u. refused-so p w (Trim c m) n Nothing u.0 (trim-nothing rest part is-part false u.1 refl))
        (λ u. refused-so p w (Trim c m) n NoRoom u.0 (trim-full rest part is-part true u.1 refl u.2))
        why
