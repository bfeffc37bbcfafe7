-- Every call keeps the invariant, and set-up establishes it.
use Rattle.std.proofs.Common.{◌≡◌, ℕ, ◌^◌, ◌<◌, true, replicate, sym, refl, subst, ⊎_elim, arith}
use Rattle.std.proofs.lemmas.List.{length-replicate, get_or-replicate, get_or_past}
use Rattle.std.proofs.lemmas.Bool.{and_parts, cases_lt, ltb-true}
use Rattle.memory.specs.declared.word.Word.{Word}
use Rattle.memory.specs.Words.{word, at, blank}
use Rattle.protocol.specs.declared.plan.Plan.{Plan}
use Rattle.protocol.specs.declared.call.Call.{Call}
use Rattle.protocol.specs.Try.{Try}
use Rattle.protocol.specs.Plan.{is_fine, size}
use Rattle.protocol.specs.Coordinator.{Coordinator, new_coordinator}
use Rattle.protocol.specs.State.{State, Local, start_words, local_at, with_local}
use Rattle.protocol.specs.Call.{Accepted, coordinator_of}
use Rattle.protocol.specs.Step.{settle, step}
use Rattle.protocol.specs.Kept.{Invariant, Invariants, ProperWords, KeptByCalls, Always}
use Rattle.protocol.proofs.Functions.{upd-each}
use Rattle.protocol.proofs.Holds.{Holds, refused, accepted, past, holds-map}
use Rattle.protocol.proofs.Moves.{Move, moves, move-of}
use Rattle.protocol.proofs.Rooms.{room-kept}
use Rattle.protocol.proofs.Replies.{replies-kept}
use Rattle.protocol.proofs.Machines.{due-kept}
use Rattle.protocol.proofs.Logged.{polled-kept, waiting_kept}
use Rattle.protocol.proofs.Transactions.{words-kept}
use Rattle.protocol.proofs.Memories.{primaries-kept, backups-kept}

pub move-keeps : (p : Plan) (x : Local) → ProperWords p x.primaries → Invariant p x.own → {call : Call} {a : Accepted} → Move p x call a → Invariant p a.after.own
move-keeps p x proper inv move = let words = words-kept p x proper inv move in record {
  room = room-kept p x inv move;
  replies = replies-kept p x inv move;
  due = due-kept p x inv move;
  polled = polled-kept p x inv move;
  waiting = waiting_kept p x inv move;
  reads_few = words.reads_few;
  reads_fit = words.reads_fit;
  reads_apart = words.reads_apart;
  writes_few = words.writes_few;
  writes_fit = words.writes_fit;
  writes_read = words.writes_read;
}

pub calls-keep : KeptByCalls
calls-keep p x call a proper inv e = move-keeps p x proper inv (move-of p x call a e)

-- Set-up.
pub new-invariant : (p : Plan) → Invariant p (new_coordinator p)
new-invariant p = record {
  room = λ m b. omega arith;
  replies = λ m b. refl;
  due = tt;
  polled = λ m b. tt;
  waiting = λ m b. tt;
  reads_few = omega arith;
  reads_fit = tt;
  reads_apart = tt;
  writes_few = omega arith;
  writes_fit = record { fit = tt; apart = tt };
  writes_read = tt;
}

start-low : (p : Plan) → is_fine p ≡ true → p.start < 2 ^ 60
unfolding is_fine
start-low p f = ltb-true p.start (2 ^ 60) (and_parts _ _ (and_parts _ _ f).0).1

version-all : (n a : ℕ) (w : Word) → w.version < 2 ^ 60 → (at (replicate n w) a).version < 2 ^ 60
version-all n a w low = ⊎_elim
    (λ l. subst (λ (z : Word). z.version < 2 ^ 60) (sym (get_or-replicate n a w blank l)) low)
    (λ l. subst (λ (z : Word). z.version < 2 ^ 60) (sym (get_or_past (replicate n w) a blank (omega (arith, length-replicate n w)))) (omega arith))
    (cases_lt a n)

start-proper : (p : Plan) → is_fine p ≡ true → ProperWords p (start_words p)
unfolding start_words
start-proper p f =
    let first = word p.start 0 0 in record { size = length-replicate (size p) first; versions = λ a. version-all (size p) a first (start-low p f) }

-- A step.
module _ (p : Plan) (s : State) (inv : Invariants p s) where
  moved : (c : ℕ) {call : Call} (a : Accepted) → Move p (local_at s c) call a → Invariants p (with_local s c a.after)
  moved c a move =
      let backups = backups-kept p (local_at s c) (inv.coordinators c) move (record { firsts = inv.firsts; seconds = inv.seconds }) in
      record {
        coordinators =
            upd-each (λ i (k : Coordinator). Invariant p k) s.coordinators c a.after.own
            (move-keeps p (local_at s c) inv.primaries (inv.coordinators c) move)
            (λ i d. inv.coordinators i);
        primaries = primaries-kept p (local_at s c) (inv.coordinators c) move inv.primaries;
        firsts = backups.firsts;
        seconds = backups.seconds;
      }

  settled : (c : ℕ) {t : Try Accepted} → Holds (λ (a : Accepted). Invariants p (with_local s c a.after)) t → Invariants p (settle s c t).state
  settled c refused = inv
  settled c (accepted h) = h

  pub step_keeps : (call : Call) → Invariants p (step p s call).state
  step_keeps call =
      let c = coordinator_of call in settled c (past _ _ _ (λ t. holds-map (λ (a : Accepted). moved c a) (moves p (local_at s c) call)))

pub always : Always
always = record {
  first = λ p f. record { coordinators = λ c. new-invariant p; primaries = start-proper p f; firsts = start-proper p f; seconds = start-proper p f };
  after = λ p s call inv. step_keeps p s inv call;
}
