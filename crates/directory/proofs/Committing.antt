-- What commit does on each way out.
use Rattle.std.proofs.Common.{◌≡◌, ℕ, suc, ◌*◌, ◌^◌, ◌<◌, ◌≤◌, Bool, true, false, length, get_or, set, Some, None, Ok, Err, sym, ap, ◌∙◌, subst, arith}
use Rattle.std.specs.List.{list_all}
use Rattle.std.proofs.lemmas.Bool.{ltb-true}
use Rattle.memory.specs.Words.{at, Proper}
use Rattle.protocol.specs.declared.plan.Plan.{Plan}
use Rattle.protocol.specs.declared.call.Call.TheVariants.{Commit}
use Rattle.protocol.specs.declared.call.Outcome.{Outcome}
use Rattle.protocol.specs.declared.call.Refusal.TheVariants.{WrongPhase, UsedUp, NoRoom}
use Rattle.protocol.specs.Plan.{machine_list}
use Rattle.protocol.specs.Room.{is_roomy}
use Rattle.protocol.specs.Call.{answered}
use Rattle.protocol.specs.Commit.{begin, first_phase, first_outcome}
use Rattle.protocol.proofs.Moves.{commits}
use Rattle.protocol.proofs.Accepts.{accepts}
use Rattle.protocol.proofs.Refusals as refusals
use Rattle.directory.specs.declared.tables.Phase.TheVariants as tables
use Rattle.directory.specs.declared.tables.Work.{Work}
use Rattle.directory.specs.declared.tables.Coordinator.{Coordinator}
use Rattle.directory.specs.View.{World, world, own, phase_of, next_of, reads_of, writes_of}
use Rattle.directory.specs.Sound.{Sound, Rings}
use Rattle.directory.specs.Work.{StandsFor}
use Rattle.directory.specs.Calls.{Does}
use Rattle.directory.specs.Commits.{roomy_at}
use Rattle.directory.proofs.Plans.{Sizes, sizes-of, fits-of}
use Rattle.directory.proofs.Doing.{Inside, refuses, rings-of}
use Rattle.directory.proofs.Working.{is_open, not-open, as-open, with_work, own_left, work-changes, same-entry}
use Rattle.directory.proofs.Rooms.{room-is}

module _ (p : Plan) (w : World) (c : ℕ) (in' : Inside p w c) (e : Coordinator) where
  abbrev first : Coordinator
  first = get_or w.coordinators c e

  under : c < p.coordinators
  under = ltb-true c p.coordinators (sym in'.below)

  -- what has_room asks for
  pub commit-sizes : Sizes p
  commit-sizes = sizes-of p in'.fine

  pub commit-records : p.coordinators * p.machines * p.capacity ≤ length w.records
  commit-records = (fits-of p w in'.fits).records

  pub commit-under : c < p.coordinators
  commit-under = under

  pub commit-closed : (first.work.phase ≡ tables.Open → ⊥) → Does p w w (Err WrongPhase) (Commit c)
  unfolding own
  commit-closed n = refuses p w (Commit c) in' e WrongPhase (λ s. refusals.commit-closed p _ c (not-open p first.work _ n))

  module _ (is : first.work.phase ≡ tables.Open) where
    pub commit-used-up : first.work.next ≡ None → Does p w w (Err UsedUp) (Commit c)
    unfolding own
    commit-used-up q = refuses p w (Commit c) in' e UsedUp
        (λ s. refusals.commit-used-up p _ c (is_open p first.work _ is) (subst (λ (n : ℕ). 2 ^ 64 ≤ n) (sym (ap next_of q)) (omega arith)))

    module _ (number : ℕ) (next : first.work.next ≡ Some number) (small : number < 2 ^ 64) (room : Bool)
        (told : Rings p first → room ≡ list_all (roomy_at p c first w.records) (machine_list p)) where
      room-so : (d : Coordinator) → Sound p w → is_roomy p (begin p (own p w.records w.replies c first)) ≡ room
      room-so d s =
          let r = rings-of p w (Commit c) in' e s in
          room-is p c first w.records commit-sizes.machines.1 under commit-records w.replies r ∙ sym (told r)

      pub commit-no-room : false ≡ room → Does p w w (Err NoRoom) (Commit c)
      unfolding own
      commit-no-room q = refuses p w (Commit c) in' e NoRoom
          (λ s. refusals.commit-no-room p _ c (is_open p first.work _ is) (subst (λ (n : ℕ). n < 2 ^ 64) (sym (ap next_of next)) small) (room-so e s ∙ sym q))

      module _ (yes' : true ≡ room) (words : (a : ℕ) → Proper (at w.primaries a)) (d : Coordinator) (t : Work) where
        abbrev then : Coordinator
        then = get_or w.coordinators c d

        abbrev after : World
        after = world (set w.coordinators c (with_work then t)) w.records w.replies w.primaries w.firsts w.seconds

        same : first ≡ then
        same = same-entry p w c in' e d

        next-then : then.work.next ≡ Some number
        next-then = subst (λ (z : Coordinator). z.work.next ≡ Some number) same next

        room-then : Sound p w → is_roomy p (begin p (own p w.records w.replies c then)) ≡ true
        room-then s = subst (λ (z : Coordinator). is_roomy p (begin p (own p w.records w.replies c z)) ≡ true) same (room-so e s ∙ sym yes')

        pub commit-begins : (o : Outcome) → o ≡ first_outcome (reads_of first.work) (writes_of first.work) → (n : ℕ) → n ≡ suc number
            → (p.machines ≤ 5 → StandsFor p t (first_phase p (reads_of then.work) (writes_of then.work)) n (reads_of then.work) (writes_of then.work))
            → Does p w after (Ok (answered number 0 o)) (Commit c)
        unfolding own
        commit-begins o ends n more stands =
            work-changes p w (Commit c) in' words d t (first_phase p (reads_of then.work) (writes_of then.work)) n (reads_of then.work) (writes_of then.work) number 0 o
            (λ s. stands commit-sizes.machines.1)
            (λ s.
            let moved : number ≡ next_of then.work.next = sym (ap next_of next-then) in
            let o_is : first_outcome (reads_of then.work) (writes_of then.work) ≡ o =
            sym (subst (λ (z : Coordinator). o ≡ first_outcome (reads_of z.work) (writes_of z.work)) same ends) in
            accepts p _ (commits (ap (phase_of p then.work) (subst (λ (z : Coordinator). z.work.phase ≡ tables.Open) same is) ∙ as-open p then.work)
            (subst (λ (k : ℕ). k < 2 ^ 64) moved small) (room-then s))
            ∙ ap (λ (k : ℕ). Ok (record { answer = answered k 0 (first_outcome (reads_of then.work) (writes_of then.work)); after = own_left p w (Commit c) in' words d (first_phase p (reads_of then.work) (writes_of then.work)) (suc k) (reads_of then.work) (writes_of then.work) })) (sym moved)
            ∙ ap (λ (z : Outcome). Ok (record { answer = answered number 0 z; after = own_left p w (Commit c) in' words d (first_phase p (reads_of then.work) (writes_of then.work)) (suc number) (reads_of then.work) (writes_of then.work) })) o_is
            ∙ ap (λ (k : ℕ). Ok (record { answer = answered number 0 o; after = own_left p w (Commit c) in' words d (first_phase p (reads_of then.work) (writes_of then.work)) k (reads_of then.work) (writes_of then.work) })) (sym more))
