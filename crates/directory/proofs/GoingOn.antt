-- How a transaction goes on once a machine has its record.
use Rattle.std.proofs.Common.{◌≡◌, ℕ, ◌+◌, Bool, true, false, List, [], ◌∷◌, get_or, Some, None, Option, sym, refl, ap, ◌∙◌, subst, arith}
use Rattle.std.specs.List.{filter}
use Rattle.protocol.specs.declared.plan.Plan.{Plan}
use Rattle.protocol.specs.declared.record.Kind.{Kind}
use Rattle.protocol.specs.declared.record.Kind.TheVariants.{Lock, CommitBackup, CommitPrimary, Abort}
use Rattle.protocol.specs.Plan.{machine_list}
use Rattle.protocol.specs.Room.{is_at_primary}
use Rattle.protocol.specs.Coordinator as protocol
use Rattle.protocol.specs.Coordinator.{new_coordinator, with_words}
use Rattle.protocol.specs.Commit.{after_backup, after_install, after_abort}
use Rattle.handling.specs.Sending.{is_due, due_from, first_machine}
use Rattle.handling.proofs.Due.{due-none}
use Rattle.directory.specs.declared.tables.Locking.{Locking}
use Rattle.directory.specs.declared.tables.Phase.{Phase}
use Rattle.directory.specs.declared.tables.Phase.TheVariants as tables
use Rattle.directory.specs.declared.tables.Work.{Work}
use Rattle.directory.specs.View.{phase_of, reads_of, writes_of, awaited_of}
use Rattle.directory.specs.Due.{due_in, gone_on, GoesOn, GoneOn}
use Rattle.directory.proofs.Working.{moved, same-phase, all-due}

pub none-is-some : {X P : Type 0} {x : X} → Some x ≡ None → P
none-is-some {X} {P} {x} e = let z : ◌≡◌ {A = ℕ} 0 1 = cc in absurd (omega arith)

-- the kind and the machine that are due are those of the phase
there : Option (Kind × ℕ) → Kind × ℕ
there None = (Lock, 0)
there (Some x) = x

pub same_due : (P : Kind → ℕ → Type 0) (k : Kind) (d : ℕ) (kind : Kind) (from : ℕ) → ◌≡◌ {A = Option (Kind × ℕ)} (Some (kind, from)) (Some (k, d)) → P k d → P kind from
unfolding there
same_due P k d kind from e h = subst (λ (x : Kind × ℕ). P x.0 x.1) (sym (ap there e)) h

-- with some machine left the phase after a record is the same
still-backing : (p : Plan) (k : protocol.Coordinator) (ms : List ℕ) (x : ℕ) → Some x ≡ first_machine ms → protocol.Backing ms ≡ after_backup p k ms
still-backing p k [] x e = none-is-some e
still-backing p k (m ∷ ms) x e = refl

still-installing : (ms : List ℕ) (x : ℕ) → Some x ≡ first_machine ms → protocol.Installing true ms ≡ after_install ms
still-installing [] x e = none-is-some e
still-installing (m ∷ ms) x e = refl

still-aborting : (ms : List ℕ) (x : ℕ) → Some x ≡ first_machine ms → protocol.Aborting ms ≡ after_abort ms
still-aborting [] x e = none-is-some e
still-aborting (m ∷ ms) x e = refl

-- Records are then due to the machines from d on.
module _ (p : Plan) (t : Work) (d : ℕ) where
  abbrev left : Kind → List ℕ
  left kind = due_from p kind (writes_of t) d

  -- the phase q goes on as ph
  abbrev Next : Phase → Phase → Type 0
  Next q ph = (kind : Kind) (from : ℕ) → Some (kind, from) ≡ due_in q → phase_of p t ph ≡ gone_on p t q (left kind)

  pub goes-on : (q ph : Phase) → t.phase ≡ q → Next q ph → GoesOn p t d ph
  goes-on q ph is next = subst (λ (z : Phase). Next z ph) (sym is) next

  none-left : (kind : Kind) → None ≡ first_machine (left kind) → left kind ≡ []
  none-left kind end = due-none (is_due p kind (writes_of t)) p.machines d end

  pub locking-on : (l l' : Locking) → l'.due ≡ d → l'.awaited ≡ l.awaited → l'.denied ≡ l.denied → Next (tables.Locking l) (tables.Locking l')
  unfolding phase_of gone_on
  locking-on l l' due awaited denied = λ kind from e.
      same_due (λ (k : Kind) (_ : ℕ). phase_of p t (tables.Locking l') ≡ gone_on p t (tables.Locking l) (left k)) Lock l.due kind from e
      (ap (λ (n : ℕ). protocol.Locking (due_from p Lock (writes_of t) n) (awaited_of p l') l'.denied) due
      ∙ ap (λ (marks : List Bool). protocol.Locking (left Lock) (filter (λ m. get_or marks m false) (machine_list p)) l'.denied) awaited
      ∙ ap (protocol.Locking (left Lock) (awaited_of p l)) denied)

  pub backing-on : (due x : ℕ) → Some x ≡ first_machine (left CommitBackup) → Next (tables.Backing due) (tables.Backing d)
  unfolding phase_of gone_on
  backing-on due x more = λ kind from e.
      same_due (λ (k : Kind) (_ : ℕ). phase_of p t (tables.Backing d) ≡ gone_on p t (tables.Backing due) (left k)) CommitBackup due kind from e
      (still-backing p (with_words (new_coordinator p) (reads_of t) (writes_of t)) (left CommitBackup) x more)

  -- installing follows backing,
  pub backing-ends : (due : ℕ) → None ≡ first_machine (left CommitBackup) → Next (tables.Backing due) (tables.Installing 0 false)
  unfolding phase_of gone_on
  backing-ends due end = λ kind from e.
      same_due (λ (k : Kind) (_ : ℕ). phase_of p t (tables.Installing 0 false) ≡ gone_on p t (tables.Backing due) (left k)) CommitBackup due kind from e
      (ap (protocol.Installing false) (all-due p (is_at_primary p (writes_of t)))
      ∙ ap (after_backup p (with_words (new_coordinator p) (reads_of t) (writes_of t))) (sym (none-left CommitBackup end)))

  pub installing-on : (due : ℕ) (r : Bool) (x : ℕ) → Some x ≡ first_machine (left CommitPrimary) → Next (tables.Installing due r) (tables.Installing d true)
  unfolding phase_of gone_on
  installing-on due r x more = λ kind from e.
      same_due (λ (k : Kind) (_ : ℕ). phase_of p t (tables.Installing d true) ≡ gone_on p t (tables.Installing due r) (left k)) CommitPrimary due kind from e
      (still-installing (left CommitPrimary) x more)

  -- and the transaction is over after the last COMMIT-PRIMARY or ABORT
  pub installing-ends : (due : ℕ) (r : Bool) → None ≡ first_machine (left CommitPrimary) → Next (tables.Installing due r) tables.Idle
  unfolding phase_of gone_on
  installing-ends due r end = λ kind from e.
      same_due (λ (k : Kind) (_ : ℕ). phase_of p t tables.Idle ≡ gone_on p t (tables.Installing due r) (left k)) CommitPrimary due kind from e
      (ap after_install (sym (none-left CommitPrimary end)))

  pub aborting-on : (due x : ℕ) → Some x ≡ first_machine (left Abort) → Next (tables.Aborting due) (tables.Aborting d)
  unfolding phase_of gone_on
  aborting-on due x more = λ kind from e.
      same_due (λ (k : Kind) (_ : ℕ). phase_of p t (tables.Aborting d) ≡ gone_on p t (tables.Aborting due) (left k)) Abort due kind from e (still-aborting (left Abort) x more)

  pub aborting-ends : (due : ℕ) → None ≡ first_machine (left Abort) → Next (tables.Aborting due) tables.Idle
  unfolding phase_of gone_on
  aborting-ends due end = λ kind from e.
      same_due (λ (k : Kind) (_ : ℕ). phase_of p t tables.Idle ≡ gone_on p t (tables.Aborting due) (left k)) Abort due kind from e (ap after_abort (sym (none-left Abort end)))

-- the transaction in the phase that it goes on to
pub gone-on : (p : Plan) (t : Work) (m : ℕ) (ph : Phase) → GoesOn p t (m + 1) ph → GoneOn p t m (moved t ph)
gone-on p t m ph goes = λ kind from e. record { phase = same-phase p t ph t.next ph ∙ goes kind from e; next = refl; reads = refl; writes = refl }
