-- What open, read, write and abandon do on each way out.
use Rattle.std.proofs.Common.{◌≡◌, ℕ, ◌-◌, ◌^◌, ◌<◌, ◌≤◌, Bool, true, false, cond, List, [], length, get_or, set, Some, None, Ok, Err, Option, is_some, refl, sym, ap, ◌∙◌, subst, ⊎_elim, arith}
use Rattle.std.specs.List.{push}
use Rattle.std.proofs.lemmas.Bool.{lt-ltb, true≢false, cond-true, cond-false}
use Rattle.memory.specs.Words.{at, there, look_at, Proper}
use Rattle.protocol.specs.declared.call.Refusal.{Refusal}
use Rattle.protocol.specs.declared.plan.Plan.{Plan}
use Rattle.protocol.specs.declared.record.Line.{Line}
use Rattle.protocol.specs.declared.call.Call.TheVariants.{Open, Read, Write, Abandon}
use Rattle.protocol.specs.declared.call.Refusal.TheVariants.{WrongPhase, NoAddress, TooMany, NotRead, UsedUp}
use Rattle.protocol.specs.declared.call.Outcome.TheVariants.{Going, Aborted}
use Rattle.protocol.specs.Plan.{size}
use Rattle.protocol.specs.Lines.{Words, line}
use Rattle.protocol.specs.Coordinator as protocol
use Rattle.protocol.specs.Coordinator.{is_idle, is_opened, line_at}
use Rattle.protocol.specs.Call.{answered}
use Rattle.protocol.specs.Transact.{value_of, rewrite}
use Rattle.protocol.specs.Step.{local_call}
use Rattle.protocol.proofs.Transacts as protocol-calls
use Rattle.directory.specs.declared.tables.Phase.TheVariants as tables
use Rattle.directory.specs.declared.tables.Work.{Work}
use Rattle.directory.specs.declared.tables.Coordinator.{Coordinator}
use Rattle.directory.specs.View.{World, world, own, phase_of, next_of, reads_of, writes_of}
use Rattle.directory.specs.Access.{LooksUp, IsWritable, MayWrite, buffered}
use Rattle.directory.specs.Work.{Leaves}
use Rattle.directory.specs.Calls.{Does}
use Rattle.directory.proofs.Plans.{fits-of}
use Rattle.directory.proofs.Doing.{Inside, here, refuses, refused-so, only-answers}
use Rattle.directory.proofs.Working.{is-idle, not-idle, is_open, not-open, as-idle, as-open, with_work, own_left, work-changes, same-entry, leaves-stand}

-- a look below the size finds a word
look_none : (ws : Words) (a : ℕ) → None ≡ look_at ws a → a < length ws → ⊥
look_none ws a e l = go (there ws a) (lt-ltb a (length ws) l) e
  where
    go : (b : Bool) → b ≡ true → ◌≡◌ {A = Option (ℕ × ℕ × ℕ)} None (cond b (Some ((at ws a).version, (at ws a).holder, (at ws a).value)) None) → ⊥
    go true t q = let z : ◌≡◌ {A = ℕ} 0 1 = cc in omega arith
    go false t q = let z : ◌≡◌ {A = ℕ} 0 1 = cc in omega arith

-- a line that is there, or not
no-line : (o : Option Line) → is_some o ≡ false → None ≡ o
no-line None e = refl
no-line (Some l) e = absurd (true≢false e)

some-line : (o : Option Line) → is_some o ≡ true → (l : Line) × (Some l ≡ o)
some-line None e = absurd (true≢false (sym e))
some-line (Some l) e = (l, refl)

-- the entry as it was first read, with default e, and as it is changed, with default d
module _ (p : Plan) (w : World) (c : ℕ) (in' : Inside p w c) (e : Coordinator) where
  abbrev first : Coordinator
  first = get_or w.coordinators c e

  pub open-closed : (first.work.phase ≡ tables.Idle → ⊥) → Does p w w (Err WrongPhase) (Open c)
  unfolding own
  open-closed n = refuses p w (Open c) in' e WrongPhase (λ s. protocol-calls.open-closed p _ c (not-idle p first.work _ n))

  pub abandon-closed : (first.work.phase ≡ tables.Open → ⊥) → Does p w w (Err WrongPhase) (Abandon c)
  unfolding own
  abandon-closed n = refuses p w (Abandon c) in' e WrongPhase (λ s. protocol-calls.abandon-closed p _ c (not-open p first.work _ n))

  pub read-closed : (a : ℕ) → (first.work.phase ≡ tables.Open → ⊥) → Does p w w (Err WrongPhase) (Read c a)
  unfolding own
  read-closed a n = refuses p w (Read c a) in' e WrongPhase (λ s. protocol-calls.read-closed p _ c a (not-open p first.work _ n))

  pub write-closed : (a v : ℕ) → (first.work.phase ≡ tables.Open → ⊥) → Does p w w (Err WrongPhase) (Write c a v)
  unfolding own
  write-closed a v n = refuses p w (Write c a v) in' e WrongPhase (λ s. protocol-calls.write-closed p _ c a v (not-open p first.work _ n))

  module _ (is : first.work.phase ≡ tables.Open) (a : ℕ) where
    pub read_past : size p ≤ a → Does p w w (Err NoAddress) (Read c a)
    unfolding own
    read_past l = refuses p w (Read c a) in' e NoAddress (λ s. protocol-calls.read_past p _ c a (is_open p first.work _ is) l)

    pub write-past : (v : ℕ) → size p ≤ a → Does p w w (Err NoAddress) (Write c a v)
    unfolding own
    write-past v l = refuses p w (Write c a v) in' e NoAddress (λ s. protocol-calls.write-past p _ c a v (is_open p first.work _ is) l)

    module _ (within : a < size p) where
      pub reads-again : (r : Line) (v : ℕ) → Some r ≡ line_at a (reads_of first.work) → v ≡ value_of r (line_at a (writes_of first.work))
          → Does p w w (Ok (answered r.version v Going)) (Read c a)
      unfolding own
      reads-again r v found value = only-answers p w (Read c a) in' e (answered r.version v Going)
          (λ s. protocol-calls.reads-again p _ c a (is_open p first.work _ is) within r (sym found)
          ∙ ap (λ (n : ℕ). Ok (record { answer = answered r.version n Going; after = here p w (Read c a) in' e })) (sym value))

      module _ (new : None ≡ line_at a (reads_of first.work)) where
        -- the memory has the plan's words, so a look below its size finds one
        read-unlooked : None ≡ look_at w.primaries a → Does p w w (Err NoAddress) (Read c a)
        read-unlooked q = absurd (look_none w.primaries a q (omega (arith, within, (fits-of p w in'.fits).primaries)))

        read-full : 8 ≤ length (reads_of first.work) → Does p w w (Err TooMany) (Read c a)
        unfolding own
        read-full l = refuses p w (Read c a) in' e TooMany
            (λ s. protocol-calls.read-full p _ c a (is_open p first.work _ is) within (sym new) l)

        pub read-refused : (n : Refusal) → LooksUp (reads_of first.work) w.primaries a (Err n) → Does p w w (Err n) (Read c a)
        read-refused n why = ⊎_elim
            (λ f. refused-so p w (Read c a) n TooMany f.0 (read-full f.1))
            (λ u. refused-so p w (Read c a) n NoAddress u.0 (read-unlooked u.2))
            why

      module _ (v : ℕ) where
        write-unread : None ≡ line_at a (reads_of first.work) → Does p w w (Err NotRead) (Write c a v)
        unfolding own
        write-unread new = refuses p w (Write c a v) in' e NotRead (λ s. protocol-calls.write-unread p _ c a v (is_open p first.work _ is) within (sym new))

        module _ (r : Line) (found : Some r ≡ line_at a (reads_of first.work)) where
          write-used-up : r.version ≡ 2 ^ 60 - 1 → Does p w w (Err UsedUp) (Write c a v)
          unfolding own
          write-used-up q = refuses p w (Write c a v) in' e UsedUp (λ s. protocol-calls.write-used-up p _ c a v (is_open p first.work _ is) within r (sym found) q)

          write-full : (r.version ≡ 2 ^ 60 - 1 → ⊥) → is_some (line_at a (writes_of first.work)) ≡ false → 4 ≤ length (writes_of first.work) → Does p w w (Err TooMany) (Write c a v)
          unfolding own
          write-full n new l = refuses p w (Write c a v) in' e TooMany
              (λ s. protocol-calls.write-full p _ c a v (is_open p first.work _ is) within r (sym found) n (sym (no-line _ new)) l)

        pub write-refused : (n : Refusal) → MayWrite (reads_of first.work) (writes_of first.work) a (Err n) → Does p w w (Err n) (Write c a v)
        write-refused n why = ⊎_elim
            (λ u. refused-so p w (Write c a v) n NotRead u.0 (write-unread u.1))
            (λ r. ⊎_elim
            (λ u. refused-so p w (Write c a v) n UsedUp u.0 (write-used-up r.0 r.1 u.1))
            (λ f. refused-so p w (Write c a v) n TooMany f.0 (write-full r.0 r.1 f.1 f.2 f.3))
            r.2)
            why

  module _ (words : (a : ℕ) → Proper (at w.primaries a)) (d : Coordinator) (t : Work) where
    abbrev then : Coordinator
    then = get_or w.coordinators c d

    abbrev after : World
    after = world (set w.coordinators c (with_work then t)) w.records w.replies w.primaries w.firsts w.seconds

    same : first ≡ then
    same = same-entry p w c in' e d

    pub opens : first.work.phase ≡ tables.Idle → Leaves t tables.Open then.work.next [] [] → Does p w after (Ok (answered 0 0 Going)) (Open c)
    unfolding own
    opens is l = work-changes p w (Open c) in' words d t protocol.Opened _ [] [] 0 0 Going (λ s. leaves-stand p t _ _ _ _ _ l (as-open p t))
        (λ s. protocol-calls.opens p _ c (is-idle p then.work _ (subst (λ (z : Coordinator). z.work.phase ≡ tables.Idle) same is)))

    pub abandons : first.work.phase ≡ tables.Open → Leaves t tables.Idle then.work.next (reads_of then.work) (writes_of then.work) → Does p w after (Ok (answered 0 0 Aborted)) (Abandon c)
    unfolding own
    abandons is l = work-changes p w (Abandon c) in' words d t protocol.Idle _ _ _ 0 0 Aborted (λ s. leaves-stand p t _ _ _ _ _ l (as-idle p t))
        (λ s. protocol-calls.abandons p _ c (is_open p then.work _ (subst (λ (z : Coordinator). z.work.phase ≡ tables.Open) same is)))

    module _ (is : first.work.phase ≡ tables.Open) (a : ℕ) (within : a < size p) where
      is-then : then.work.phase ≡ tables.Open
      is-then = subst (λ (z : Coordinator). z.work.phase ≡ tables.Open) same is

      stays_open : phase_of p t then.work.phase ≡ protocol.Opened
      stays_open = ap (phase_of p t) is-then ∙ as-open p t

      reads_then : (o : Option Line) → o ≡ line_at a (reads_of first.work) → line_at a (reads_of then.work) ≡ o
      reads_then o q = sym (subst (λ (z : Coordinator). o ≡ line_at a (reads_of z.work)) same q)

      writes_then : (o : Option Line) → o ≡ line_at a (writes_of first.work) → line_at a (writes_of then.work) ≡ o
      writes_then o q = sym (subst (λ (z : Coordinator). o ≡ line_at a (writes_of z.work)) same q)

      pub reads-new : None ≡ line_at a (reads_of first.work) → (r : Line) → LooksUp (reads_of first.work) w.primaries a (Ok r)
          → Leaves t then.work.phase then.work.next (push (reads_of then.work) r) (writes_of then.work)
          → Does p w after (Ok (answered r.version r.value Going)) (Read c a)
      unfolding own
      reads-new new r looked l =
          work-changes p w (Read c a) in' words d t protocol.Opened _ _ _ r.version r.value Going (λ s. leaves-stand p t _ _ _ _ _ l stays_open)
          (λ s.
          let few : length (reads_of then.work) < 8 = subst (λ (z : Coordinator). length (reads_of z.work) < 8) same looked.0 in
          protocol-calls.reads-new p _ c a (is_open p then.work _ is-then) within (reads_then None new) few
          ∙ ap (λ (z : Line). Ok (record { answer = answered z.version z.value Going; after = own_left p w (Read c a) in' words d (phase_of p then.work then.work.phase) (next_of then.work.next) (push (reads_of then.work) z) (writes_of then.work) }))
          (sym looked.1)
          ∙ ap (λ (ph : protocol.Phase). Ok (record { answer = answered r.version r.value Going; after = own_left p w (Read c a) in' words d ph (next_of then.work.next) (push (reads_of then.work) r) (writes_of then.work) }))
          (ap (phase_of p then.work) is-then ∙ as-open p then.work))

      module _ (v : ℕ) (r : Line) (found : Some r ≡ line_at a (reads_of first.work)) (next : r.version ≡ 2 ^ 60 - 1 → ⊥) where
        -- the words written are ws, and the coordinator is still open
        writes-left : (ws : List Line) → Leaves t then.work.phase then.work.next (reads_of then.work) ws
            → local_call p (here p w (Write c a v) in' d) (Write c a v) ≡ Ok (record { answer = answered 0 0 Going; after = own_left p w (Write c a v) in' words d (phase_of p then.work then.work.phase) (next_of then.work.next) (reads_of then.work) ws })
            → Does p w after (Ok (answered 0 0 Going)) (Write c a v)
        writes-left ws l accepted =
            work-changes p w (Write c a v) in' words d t protocol.Opened _ _ _ 0 0 Going (λ s. leaves-stand p t _ _ _ _ _ l stays_open)
            (λ s. accepted
            ∙ ap (λ (ph : protocol.Phase). Ok (record { answer = answered 0 0 Going; after = own_left p w (Write c a v) in' words d ph (next_of then.work.next) (reads_of then.work) ws }))
            (ap (phase_of p then.work) is-then ∙ as-open p then.work))

        writes_again : is_some (line_at a (writes_of first.work)) ≡ true
            → Leaves t then.work.phase then.work.next (reads_of then.work) (rewrite (writes_of then.work) r.address v)
            → Does p w after (Ok (answered 0 0 Going)) (Write c a v)
        unfolding own
        writes_again old l =
            let o = some-line (line_at a (writes_of first.work)) old in
            writes-left _ l
            (protocol-calls.writes_again p _ c a v (is_open p then.work _ is-then) within r (reads_then (Some r) found) next o.0 (writes_then (Some o.0) o.1))

        writes-new : is_some (line_at a (writes_of first.work)) ≡ false → length (writes_of first.work) < 4
            → Leaves t then.work.phase then.work.next (reads_of then.work) (push (writes_of then.work) (line r.address r.version v))
            → Does p w after (Ok (answered 0 0 Going)) (Write c a v)
        unfolding own
        writes-new new few l =
            let few' : length (writes_of then.work) < 4 = subst (λ (z : Coordinator). length (writes_of z.work) < 4) same few in
            writes-left _ l
            (protocol-calls.writes-new p _ c a v (is_open p then.work _ is-then) within r (reads_then (Some r) found) next (writes_then None (no-line _ new)) few')

        abbrev written : Line
        written = line r.address r.version v

        -- a word written before, or a new one
        pub writes : IsWritable (writes_of first.work) a r → Leaves t then.work.phase then.work.next (reads_of then.work) (buffered (writes_of then.work) written)
            → Does p w after (Ok (answered 0 0 Going)) (Write c a v)
        writes may l = go (is_some (line_at a (writes_of first.work))) refl
          where
            known : (b : Bool) → is_some (line_at a (writes_of first.work)) ≡ b → is_some (line_at r.address (writes_of then.work)) ≡ b
            known b e = ap (λ (n : ℕ). is_some (line_at n (writes_of then.work))) may.here ∙ subst (λ (z : Coordinator). is_some (line_at a (writes_of z.work)) ≡ b) same e

            go : (b : Bool) → is_some (line_at a (writes_of first.work)) ≡ b → Does p w after (Ok (answered 0 0 Going)) (Write c a v)
            go true e = writes_again e (subst (Leaves t then.work.phase then.work.next (reads_of then.work)) (cond-true _ _ _ (known true e)) l)
            go false e = writes-new e (may.few e) (subst (Leaves t then.work.phase then.work.next (reads_of then.work)) (cond-false _ _ _ (known false e)) l)
