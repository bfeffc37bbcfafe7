-- Why commit, send, poll, take, check and trim are refused, in the order of their checks.
use Rattle.std.proofs.Common.{◌≡◌, ℕ, ◌^◌, ◌<◌, ◌≤◌, Bool, true, false, ◌||◌, List, [], Err, sym, refl, ap, ◌∙◌}
use Rattle.std.proofs.lemmas.Bool.{lt-ltb, le-ltb, true≢false}
use Rattle.protocol.specs.declared.plan.Plan.{Plan}
use Rattle.protocol.specs.declared.call.Call.TheVariants.{Commit, Send, Poll, Take, Check, Trim}
use Rattle.protocol.specs.declared.call.Refusal.TheVariants.{NoMachine, WrongPhase, UsedUp, NoRoom, Nothing}
use Rattle.protocol.specs.Record.{records, is_untrimmed}
use Rattle.protocol.specs.Coordinator.{Phase, Idle, Opened, Locking, Checking, Backing, Installing, Aborting, is_idle, is_opened, log, queue}
use Rattle.protocol.specs.Room.{is_roomy}
use Rattle.protocol.specs.State.{Local}
use Rattle.protocol.specs.Commit.{begin, send_in, take_in, take_reply, check_in}
use Rattle.protocol.specs.Poll.{poll_next}
use Rattle.protocol.specs.Step.{local_call}
use Rattle.protocol.specs.Kept.{machines_due}
use Rattle.protocol.proofs.Checks.{passes, stops}

-- the phases in which a record may be due, a reply be taken, a read be checked
abbrev pub is_sending : Phase → Bool
is_sending Idle = false
is_sending Opened = false
is_sending (Locking due awaited denied) = true
is_sending (Checking ls) = false
is_sending (Backing due) = true
is_sending (Installing reported due) = true
is_sending (Aborting due) = true

abbrev pub is_locking : Phase → Bool
is_locking Idle = false
is_locking Opened = false
is_locking (Locking due awaited denied) = true
is_locking (Checking ls) = false
is_locking (Backing due) = false
is_locking (Installing reported due) = false
is_locking (Aborting due) = false

abbrev pub is_checking : Phase → Bool
is_checking Idle = false
is_checking Opened = false
is_checking (Locking due awaited denied) = false
is_checking (Checking ls) = true
is_checking (Backing due) = false
is_checking (Installing reported due) = false
is_checking (Aborting due) = false

module _ (p : Plan) (x : Local) (c : ℕ) where
  pub commit-closed : is_opened x.own.phase ≡ false → local_call p x (Commit c) ≡ Err WrongPhase
  unfolding local_call
  commit-closed e = stops WrongPhase _ _ e

  pub commit-used-up : is_opened x.own.phase ≡ true → 2 ^ 64 ≤ x.own.next → local_call p x (Commit c) ≡ Err UsedUp
  unfolding local_call
  commit-used-up o l = passes WrongPhase _ _ o ∙ stops UsedUp _ _ (le-ltb _ _ l)

  pub commit-no-room : is_opened x.own.phase ≡ true → x.own.next < 2 ^ 64 → is_roomy p (begin p x.own) ≡ false → local_call p x (Commit c) ≡ Err NoRoom
  unfolding local_call
  commit-no-room o l e = passes WrongPhase _ _ o ∙ passes UsedUp _ _ (lt-ltb _ _ l) ∙ stops NoRoom _ _ e

  send-wrong : (phase : Phase) → is_sending phase ≡ false → send_in p c x phase ≡ Err WrongPhase
  unfolding send_in
  send-wrong Idle e = refl
  send-wrong Opened e = refl
  send-wrong (Locking due n d) e = absurd (true≢false e)
  send-wrong (Checking ls) e = refl
  send-wrong (Backing due) e = absurd (true≢false e)
  send-wrong (Installing r due) e = absurd (true≢false e)
  send-wrong (Aborting due) e = absurd (true≢false e)

  pub send-closed : is_sending x.own.phase ≡ false → local_call p x (Send c) ≡ Err WrongPhase
  unfolding local_call
  send-closed e = send-wrong x.own.phase e

  send-none : (phase : Phase) → is_sending phase ≡ true → machines_due phase ≡ [] → send_in p c x phase ≡ Err Nothing
  unfolding send_in
  send-none Idle e f = absurd (true≢false (sym e))
  send-none Opened e f = absurd (true≢false (sym e))
  send-none (Locking due n d) e f = ap (λ (ms : List ℕ). send_in p c x (Locking ms n d)) f
  send-none (Checking ls) e f = absurd (true≢false (sym e))
  send-none (Backing due) e f = ap (λ (ms : List ℕ). send_in p c x (Backing ms)) f
  send-none (Installing r due) e f = ap (λ (ms : List ℕ). send_in p c x (Installing r ms)) f
  send-none (Aborting due) e f = ap (λ (ms : List ℕ). send_in p c x (Aborting ms)) f

  pub send-nothing : is_sending x.own.phase ≡ true → machines_due x.own.phase ≡ [] → local_call p x (Send c) ≡ Err Nothing
  unfolding local_call
  send-nothing e f = send-none x.own.phase e f

  check-wrong : (phase : Phase) → is_checking phase ≡ false → check_in p x phase ≡ Err WrongPhase
  unfolding check_in
  check-wrong Idle e = refl
  check-wrong Opened e = refl
  check-wrong (Locking due n d) e = refl
  check-wrong (Checking ls) e = absurd (true≢false e)
  check-wrong (Backing due) e = refl
  check-wrong (Installing r due) e = refl
  check-wrong (Aborting due) e = refl

  pub check-closed : is_checking x.own.phase ≡ false → local_call p x (Check c) ≡ Err WrongPhase
  unfolding local_call
  check-closed e = check-wrong x.own.phase e

  pub check-none : x.own.phase ≡ Checking [] → local_call p x (Check c) ≡ Err WrongPhase
  unfolding local_call check_in
  check-none e = ap (check_in p x) e

  module _ (m : ℕ) where
    pub poll-beyond : p.machines ≤ m → local_call p x (Poll c m) ≡ Err NoMachine
    unfolding local_call
    poll-beyond l = stops NoMachine _ _ (le-ltb _ _ l)

    pub take_beyond : p.machines ≤ m → local_call p x (Take c m) ≡ Err NoMachine
    unfolding local_call
    take_beyond l = stops NoMachine _ _ (le-ltb _ _ l)

    pub trim-beyond : p.machines ≤ m → local_call p x (Trim c m) ≡ Err NoMachine
    unfolding local_call
    trim-beyond l = stops NoMachine _ _ (le-ltb _ _ l)

    take-wrong : (phase : Phase) → is_locking phase ≡ false → take_in p x m phase ≡ Err WrongPhase
    unfolding take_in
    take-wrong Idle e = refl
    take-wrong Opened e = refl
    take-wrong (Locking due n d) e = absurd (true≢false e)
    take-wrong (Checking ls) e = refl
    take-wrong (Backing due) e = refl
    take-wrong (Installing r due) e = refl
    take-wrong (Aborting due) e = refl

    module _ (there : m < p.machines) where
      pub poll-nothing : (log x.own m).waiting ≡ [] → local_call p x (Poll c m) ≡ Err Nothing
      unfolding local_call poll_next
      poll-nothing e = passes NoMachine _ _ (lt-ltb _ _ there) ∙ ap (poll_next p c x m) e

      pub take-closed : is_locking x.own.phase ≡ false → local_call p x (Take c m) ≡ Err WrongPhase
      unfolding local_call
      take-closed e = passes NoMachine _ _ (lt-ltb _ _ there) ∙ take-wrong x.own.phase e

      pub take-nothing : (due awaited : List ℕ) (denied : Bool) → x.own.phase ≡ Locking due awaited denied → queue x.own m ≡ [] → local_call p x (Take c m) ≡ Err Nothing
      unfolding local_call take_in take_reply
      take-nothing due n d e f = passes NoMachine _ _ (lt-ltb _ _ there) ∙ ap (take_in p x m) e ∙ ap (take_reply p x m due n d) f

      pub trim-closed : (is_idle x.own.phase || is_opened x.own.phase) ≡ false → local_call p x (Trim c m) ≡ Err WrongPhase
      unfolding local_call
      trim-closed e = passes NoMachine _ _ (lt-ltb _ _ there) ∙ stops WrongPhase _ _ e

      pub trim-nothing : (is_idle x.own.phase || is_opened x.own.phase) ≡ true → is_untrimmed (records (log x.own m)) ≡ false → local_call p x (Trim c m) ≡ Err Nothing
      unfolding local_call
      trim-nothing o e = passes NoMachine _ _ (lt-ltb _ _ there) ∙ passes WrongPhase _ _ o ∙ stops Nothing _ _ e
