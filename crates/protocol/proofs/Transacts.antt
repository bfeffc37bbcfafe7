-- What open, read, write and abandon answer on each way through their checks.
use Rattle.std.proofs.Common.{◌≡◌, ℕ, ◌-◌, ◌^◌, ◌<◌, ◌≤◌, true, false, not, [], length, Some, None, Err, Option, ap, ◌∙◌}
use Rattle.std.specs.List.{push}
use Rattle.std.proofs.lemmas.Bool.{lt-ltb, le-ltb, eq-eqb, ne_eqb}
use Rattle.protocol.specs.declared.plan.Plan.{Plan}
use Rattle.protocol.specs.declared.record.Line.{Line}
use Rattle.protocol.specs.declared.call.Call.TheVariants.{Open, Read, Write, Abandon}
use Rattle.protocol.specs.declared.call.Refusal.TheVariants.{WrongPhase, NoAddress, TooMany, NotRead, UsedUp}
use Rattle.protocol.specs.declared.call.Outcome.TheVariants.{Going, Aborted}
use Rattle.protocol.specs.Plan.{size}
use Rattle.protocol.specs.Lines.{line}
use Rattle.protocol.specs.Coordinator.{Idle, Opened, is_idle, is_opened, line_at, with_phase, with_words}
use Rattle.protocol.specs.State.{Local, with_own, in_phase}
use Rattle.protocol.specs.Call.{accept}
use Rattle.protocol.specs.Transact.{read_word, write_word, seen, value_of, with_read, with_writes, rewrite}
use Rattle.protocol.specs.Step.{local_call}
use Rattle.protocol.proofs.Checks.{passes, stops, finds, misses}

module _ (p : Plan) (x : Local) (c : ℕ) where
  pub open-closed : is_idle x.own.phase ≡ false → local_call p x (Open c) ≡ Err WrongPhase
  unfolding local_call
  open-closed e = stops WrongPhase _ _ e

  pub opens : is_idle x.own.phase ≡ true → local_call p x (Open c) ≡ accept 0 0 Going (with_own x (with_words (with_phase x.own Opened) [] []))
  unfolding local_call
  opens e = passes WrongPhase _ _ e

  pub abandon-closed : is_opened x.own.phase ≡ false → local_call p x (Abandon c) ≡ Err WrongPhase
  unfolding local_call
  abandon-closed e = stops WrongPhase _ _ e

  pub abandons : is_opened x.own.phase ≡ true → local_call p x (Abandon c) ≡ accept 0 0 Aborted (in_phase x Idle)
  unfolding local_call
  abandons e = passes WrongPhase _ _ e

  module _ (a : ℕ) where
    pub read-closed : is_opened x.own.phase ≡ false → local_call p x (Read c a) ≡ Err WrongPhase
    unfolding local_call
    read-closed e = stops WrongPhase _ _ e

    module _ (is_open : is_opened x.own.phase ≡ true) where
      pub read_past : size p ≤ a → local_call p x (Read c a) ≡ Err NoAddress
      unfolding local_call
      read_past l = passes WrongPhase _ _ is_open ∙ stops NoAddress _ _ (le-ltb a (size p) l)

      module _ (within : a < size p) where
        read-from : (o : Option Line) → line_at a x.own.reads ≡ o → local_call p x (Read c a) ≡ read_word x a o
        unfolding local_call
        read-from o e = passes WrongPhase _ _ is_open ∙ passes NoAddress _ _ (lt-ltb a (size p) within) ∙ ap (read_word x a) e

        pub reads-again : (r : Line) → line_at a x.own.reads ≡ Some r
            → local_call p x (Read c a) ≡ accept r.version (value_of r (line_at a x.own.writes)) Going x
        unfolding read_word
        reads-again r e = read-from (Some r) e

        module _ (new : line_at a x.own.reads ≡ None) where
          pub read-full : 8 ≤ length x.own.reads → local_call p x (Read c a) ≡ Err TooMany
          unfolding read_word
          read-full l = read-from None new ∙ stops TooMany _ _ (le-ltb _ _ l)

          pub reads-new : length x.own.reads < 8
              → local_call p x (Read c a) ≡ accept (seen x.primaries a).version (seen x.primaries a).value Going (with_read x (seen x.primaries a))
          unfolding read_word
          reads-new l = read-from None new ∙ passes TooMany _ _ (lt-ltb _ _ l)

    module _ (v : ℕ) where
      pub write-closed : is_opened x.own.phase ≡ false → local_call p x (Write c a v) ≡ Err WrongPhase
      unfolding local_call
      write-closed e = stops WrongPhase _ _ e

      module _ (is_open : is_opened x.own.phase ≡ true) where
        pub write-past : size p ≤ a → local_call p x (Write c a v) ≡ Err NoAddress
        unfolding local_call
        write-past l = passes WrongPhase _ _ is_open ∙ stops NoAddress _ _ (le-ltb a (size p) l)

        module _ (within : a < size p) where
          pub write-unread : line_at a x.own.reads ≡ None → local_call p x (Write c a v) ≡ Err NotRead
          unfolding local_call
          write-unread e = passes WrongPhase _ _ is_open ∙ passes NoAddress _ _ (lt-ltb a (size p) within) ∙ misses NotRead _ _ e

          module _ (r : Line) (read : line_at a x.own.reads ≡ Some r) where
            pub write-used-up : r.version ≡ 2 ^ 60 - 1 → local_call p x (Write c a v) ≡ Err UsedUp
            unfolding local_call
            write-used-up e =
                passes WrongPhase _ _ is_open ∙ passes NoAddress _ _ (lt-ltb a (size p) within) ∙ finds NotRead _ _ r read
                ∙ stops UsedUp _ _ (ap not (eq-eqb _ _ e))

            module _ (next : r.version ≡ 2 ^ 60 - 1 → ⊥) where
              write-from : (o : Option Line) → line_at a x.own.writes ≡ o → local_call p x (Write c a v) ≡ write_word x r v o
              unfolding local_call
              write-from o e =
                  passes WrongPhase _ _ is_open ∙ passes NoAddress _ _ (lt-ltb a (size p) within) ∙ finds NotRead _ _ r read
                  ∙ passes UsedUp _ _ (ap not (ne_eqb _ _ next)) ∙ ap (write_word x r v) e

              pub writes_again : (w : Line) → line_at a x.own.writes ≡ Some w
                  → local_call p x (Write c a v) ≡ accept 0 0 Going (with_writes x (rewrite x.own.writes r.address v))
              unfolding write_word
              writes_again w e = write-from (Some w) e

              module _ (new : line_at a x.own.writes ≡ None) where
                pub write-full : 4 ≤ length x.own.writes → local_call p x (Write c a v) ≡ Err TooMany
                unfolding write_word
                write-full l = write-from None new ∙ stops TooMany _ _ (le-ltb _ _ l)

                pub writes-new : length x.own.writes < 4
                    → local_call p x (Write c a v) ≡ accept 0 0 Going (with_writes x (push x.own.writes (line r.address r.version v)))
                unfolding write_word
                writes-new l = write-from None new ∙ passes TooMany _ _ (lt-ltb _ _ l)
