-- Every move is an accepted call: with `move-of`, the moves are the accepted calls.
use Rattle.std.proofs.Common.{◌≡◌, ℕ, true, not, ◌||◌, eqb, ◌≢◌, ◌⊎◌, List, [], ◌∷◌, Ok, ap, ◌∙◌, ⊎_elim}
use Rattle.std.proofs.lemmas.Bool.{lt-ltb, ne_eqb}
use Rattle.protocol.specs.declared.plan.Plan.{Plan}
use Rattle.protocol.specs.declared.record.Kind.{Kind}
use Rattle.protocol.specs.declared.call.Call.{Call}
use Rattle.protocol.specs.declared.call.Refusal.TheVariants.{NoMachine, WrongPhase, NoAddress, TooMany, NotRead, UsedUp, NoRoom, Nothing}
use Rattle.protocol.specs.Coordinator.{Phase, Idle, Opened, is_idle, is_opened}
use Rattle.protocol.specs.Room.{one_if}
use Rattle.protocol.specs.State.{Local}
use Rattle.protocol.specs.Call.{Accepted}
use Rattle.protocol.specs.Transact.{read_word, write_word}
use Rattle.protocol.specs.Commit.{send_in, take_in, take_reply, taken, check_in, checked, last_passed}
use Rattle.protocol.specs.Poll.{poll_lock, poll_record, poll_next}
use Rattle.protocol.specs.Step.{local_call}
use Rattle.protocol.proofs.Checks.{passes, finds}
use Rattle.protocol.proofs.Moves.{Move, takes, opens, reads-again, reads-new, writes_again, writes-new, abandons, commits, sends-lock, sends-backup, sends-primary, sends-abort, locks, denies, keeps-backup, installs, frees, truncates, takes_one, takes-denied, takes-last, check-fails, check-passes, check-commits, check-ends, trims}

differ : (a b : ℕ) → a ≢ b → not (eqb a b) ≡ true
differ a b d = ap not (ne_eqb a b d)

resting : (phase : Phase) → (phase ≡ Idle) ⊎ (phase ≡ Opened) → (is_idle phase || is_opened phase) ≡ true
resting phase e = ⊎_elim (ap (λ (ph : Phase). is_idle ph || is_opened ph)) (ap (λ (ph : Phase). is_idle ph || is_opened ph)) e

pub accepts : (p : Plan) (x : Local) {call : Call} {a : Accepted} → Move p x call a → local_call p x call ≡ Ok a
unfolding local_call read_word write_word send_in take_in take_reply taken check_in checked last_passed poll_next poll_record poll_lock
accepts p x (opens e) = passes WrongPhase _ _ (ap is_idle e)
accepts p x (reads-again {a = a} r e s f) = passes WrongPhase _ _ (ap is_opened e) ∙ passes NoAddress _ _ (lt-ltb _ _ s) ∙ ap (read_word x a) f
accepts p x (reads-new {a = a} e s f l) =
    passes WrongPhase _ _ (ap is_opened e) ∙ passes NoAddress _ _ (lt-ltb _ _ s) ∙ ap (read_word x a) f ∙ passes TooMany _ _ (lt-ltb _ _ l)
accepts p x (writes_again {v = v} r w e s f u h) =
    passes WrongPhase _ _ (ap is_opened e) ∙ passes NoAddress _ _ (lt-ltb _ _ s) ∙ finds NotRead _ _ r f ∙ passes UsedUp _ _ (differ _ _ u)
    ∙ ap (write_word x r v) h
accepts p x (writes-new {v = v} r e s f u h l) =
    passes WrongPhase _ _ (ap is_opened e) ∙ passes NoAddress _ _ (lt-ltb _ _ s) ∙ finds NotRead _ _ r f ∙ passes UsedUp _ _ (differ _ _ u)
    ∙ ap (write_word x r v) h ∙ passes TooMany _ _ (lt-ltb _ _ l)
accepts p x (abandons e) = passes WrongPhase _ _ (ap is_opened e)
accepts p x (commits e l r) = passes WrongPhase _ _ (ap is_opened e) ∙ passes UsedUp _ _ (lt-ltb _ _ l) ∙ passes NoRoom _ _ r
accepts p x (sends-lock {c = c} m ms n d e) = ap (send_in p c x) e
accepts p x (sends-backup {c = c} m ms e) = ap (send_in p c x) e
accepts p x (sends-primary {c = c} m ms r e) = ap (send_in p c x) e
accepts p x (sends-abort {c = c} m ms e) = ap (send_in p c x) e
accepts p x (locks {c = c} {m = m} r rest n h) =
    passes NoMachine _ _ (lt-ltb _ _ n.machine) ∙ ap (poll_next p c x m) n.waiting ∙ ap (λ (k : Kind). poll_record p c x m k r rest) n.kind
    ∙ ap (poll_lock c x m r rest) h
accepts p x (denies {c = c} {m = m} r rest n h) =
    passes NoMachine _ _ (lt-ltb _ _ n.machine) ∙ ap (poll_next p c x m) n.waiting ∙ ap (λ (k : Kind). poll_record p c x m k r rest) n.kind
    ∙ ap (poll_lock c x m r rest) h
accepts p x (keeps-backup {c = c} {m = m} r rest n) =
    passes NoMachine _ _ (lt-ltb _ _ n.machine) ∙ ap (poll_next p c x m) n.waiting ∙ ap (λ (k : Kind). poll_record p c x m k r rest) n.kind
accepts p x (installs {c = c} {m = m} r rest n) =
    passes NoMachine _ _ (lt-ltb _ _ n.machine) ∙ ap (poll_next p c x m) n.waiting ∙ ap (λ (k : Kind). poll_record p c x m k r rest) n.kind
accepts p x (frees {c = c} {m = m} r rest n) =
    passes NoMachine _ _ (lt-ltb _ _ n.machine) ∙ ap (poll_next p c x m) n.waiting ∙ ap (λ (k : Kind). poll_record p c x m k r rest) n.kind
accepts p x (truncates {c = c} {m = m} r rest n) =
    passes NoMachine _ _ (lt-ltb _ _ n.machine) ∙ ap (poll_next p c x m) n.waiting ∙ ap (λ (k : Kind). poll_record p c x m k r rest) n.kind
accepts p x (takes_one {m = m} due n d r rs k ks h e) =
    passes NoMachine _ _ (lt-ltb _ _ h.machine) ∙ ap (take_in p x m) h.phase ∙ ap (take_reply p x m due n d) h.queue
    ∙ ap (λ (ns : List ℕ). taken p (takes x m rs) due ns (d || not r.yes) (one_if r.yes)) e
accepts p x (takes-denied {m = m} due n d r rs h e y) =
    passes NoMachine _ _ (lt-ltb _ _ h.machine) ∙ ap (take_in p x m) h.phase ∙ ap (take_reply p x m due n d) h.queue
    ∙ ap (λ (ns : List ℕ). taken p (takes x m rs) due ns (d || not r.yes) (one_if r.yes)) e
    ∙ ap (λ b. taken p (takes x m rs) due [] b (one_if r.yes)) y
accepts p x (takes-last {m = m} due n d r rs h e y) =
    passes NoMachine _ _ (lt-ltb _ _ h.machine) ∙ ap (take_in p x m) h.phase ∙ ap (take_reply p x m due n d) h.queue
    ∙ ap (λ (ns : List ℕ). taken p (takes x m rs) due ns (d || not r.yes) (one_if r.yes)) e
    ∙ ap (λ b. taken p (takes x m rs) due [] b (one_if r.yes)) y
accepts p x (check-fails l ls e h) = ap (check_in p x) e ∙ ap (checked p x l.address ls) h
accepts p x (check-passes l k ls e h) = ap (check_in p x) e ∙ ap (checked p x l.address (k ∷ ls)) h
accepts p x (check-commits l e h w) = ap (check_in p x) e ∙ ap (checked p x l.address []) h ∙ ap (last_passed p x l.address) w
accepts p x (check-ends l w ws e h f) = ap (check_in p x) e ∙ ap (checked p x l.address []) h ∙ ap (last_passed p x l.address) f
accepts p x (trims b ph u) = passes NoMachine _ _ (lt-ltb _ _ b) ∙ passes WrongPhase _ _ (resting _ ph) ∙ passes Nothing _ _ u
