-- A coordinator's transaction in the view, and a call that changes it and nothing else.
use Rattle.std.proofs.Common.{◌≡◌, ℕ, Bool, true, false, List, get_or, set, Ok, Option, sym, refl, ap, ◌∙◌, arith}
use Rattle.std.specs.List.{filter}
use Rattle.std.proofs.lemmas.List.{drop-set-lt, get_or_default}
use Rattle.std.proofs.lemmas.Bool.{ltb-true}
use Rattle.memory.specs.Words.{at, Proper}
use Rattle.protocol.specs.declared.plan.Plan.{Plan}
use Rattle.protocol.specs.declared.record.Line.{Line}
use Rattle.protocol.specs.declared.call.Call.{Call}
use Rattle.protocol.specs.declared.call.Outcome.{Outcome}
use Rattle.std.specs.List.{range_with_len}
use Rattle.protocol.specs.Plan.{machine_list}
use Rattle.protocol.specs.Coordinator as protocol
use Rattle.protocol.specs.Coordinator.{is_idle, is_opened}
use Rattle.protocol.specs.State.{Local, local}
use Rattle.protocol.specs.Call.{answered, coordinator_of}
use Rattle.protocol.specs.Step.{local_call}
use Rattle.protocol.specs.Kept.{ProperWords}
use Rattle.directory.specs.declared.tables.Phase.{Phase}
use Rattle.directory.specs.declared.tables.Phase.TheVariants as tables
use Rattle.directory.specs.declared.tables.Work.{Work}
use Rattle.directory.specs.declared.tables.Coordinator.{Coordinator}
use Rattle.directory.specs.View.{World, world, own, phase_of, next_of, due_from}
use Rattle.directory.specs.Progress.{Keeps}
use Rattle.directory.specs.Work.{Leaves, StandsFor}
use Rattle.directory.specs.Sound.{Sound}
use Rattle.directory.specs.Calls.{Does}
use Rattle.directory.proofs.Plans.{fits-of}
use Rattle.directory.proofs.Doing.{Inside, mine, here, changes, rings-of}

pub is-idle : (p : Plan) (t : Work) (ph : Phase) → ph ≡ tables.Idle → is_idle (phase_of p t ph) ≡ true
unfolding phase_of
is-idle p t ph e = ap (λ (z : Phase). is_idle (phase_of p t z)) e

pub not-idle : (p : Plan) (t : Work) (ph : Phase) → (ph ≡ tables.Idle → ⊥) → is_idle (phase_of p t ph) ≡ false
unfolding phase_of
not-idle p t tables.Idle n = absurd (n refl)
not-idle p t tables.Open n = refl
not-idle p t (tables.Locking l) n = refl
not-idle p t (tables.Checking i) n = refl
not-idle p t (tables.Backing d) n = refl
not-idle p t (tables.Installing d r) n = refl
not-idle p t (tables.Aborting d) n = refl

pub is_open : (p : Plan) (t : Work) (ph : Phase) → ph ≡ tables.Open → is_opened (phase_of p t ph) ≡ true
unfolding phase_of
is_open p t ph e = ap (λ (z : Phase). is_opened (phase_of p t z)) e

pub not-open : (p : Plan) (t : Work) (ph : Phase) → (ph ≡ tables.Open → ⊥) → is_opened (phase_of p t ph) ≡ false
unfolding phase_of
not-open p t tables.Idle n = refl
not-open p t tables.Open n = absurd (n refl)
not-open p t (tables.Locking l) n = refl
not-open p t (tables.Checking i) n = refl
not-open p t (tables.Backing d) n = refl
not-open p t (tables.Installing d r) n = refl
not-open p t (tables.Aborting d) n = refl

-- the table's coordinator with another transaction
abbrev pub with_work : Coordinator → Work → Coordinator
with_work co t = record { work = t; logs = co.logs; queues = co.queues }

-- A call that changes the transaction of its coordinator, and nothing else.
module _ (p : Plan) (w : World) (call : Call) (in' : Inside p w (coordinator_of call)) (words : (a : ℕ) → Proper (at w.primaries a)) (d : Coordinator) where
  abbrev c : ℕ
  c = coordinator_of call

  abbrev co : Coordinator
  co = get_or w.coordinators c d

  pub proper : ProperWords p w.primaries
  proper = record { size = (fits-of p w in'.fits).primaries; versions = λ a. (words a).0 }

  abbrev left : Work → World
  left t = world (set w.coordinators c (with_work co t)) w.records w.replies w.primaries w.firsts w.seconds

  abbrev pub own_left : protocol.Phase → ℕ → List Line → List Line → Local
  own_left ph n rs ws =
      local (record { phase = ph; next = n; reads = rs; writes = ws; logs = (mine p w call in' d).logs; queues = (mine p w call in' d).queues }) w.primaries w.firsts w.seconds

  pub work-changes : (t : Work) (ph : protocol.Phase) (n : ℕ) (rs ws : List Line) (a b : ℕ) (o : Outcome) → (Sound p w → StandsFor p t ph n rs ws)
      → (Sound p w → local_call p (here p w call in' d) call ≡ Ok (record { answer = answered a b o; after = own_left ph n rs ws }))
      → Does p w (left t) (Ok (answered a b o)) call
  unfolding own
  work-changes t ph n rs ws a b o stands accepted =
      changes p w call in' proper d (with_work co t) w.records w.replies (λ j x _. refl)
      (record { answer = answered a b o; after = own_left ph n rs ws })
      accepted
      (λ s.
      let e = (stands s).phase in
      let f = (stands s).next in
      let g = (stands s).reads in
      let h = (stands s).writes in
      cc)
      (λ s.
      let r = rings-of p w call in' d s in
      record { five_logs = r.five_logs; five_queues = r.five_queues; logs = r.logs; queues = r.queues })
      (record { coordinators = drop-set-lt _ _ _ _ (ltb-true c p.coordinators (sym in'.below)); records = refl; replies = refl })

-- the transaction in another phase
abbrev pub moved : Work → Phase → Work
moved t ph = record { phase = ph; next = t.next; reads = t.reads; writes = t.writes }

-- what a phase stands for depends on nothing but the words of the transaction
pub same-phase : (p : Plan) (t : Work) (q : Phase) (n : Option ℕ) (ph : Phase) → phase_of p (record { phase = q; next = n; reads = t.reads; writes = t.writes }) ph ≡ phase_of p t ph
unfolding phase_of
same-phase p t q n tables.Idle = refl
same-phase p t q n tables.Open = refl
same-phase p t q n (tables.Locking l) = refl
same-phase p t q n (tables.Checking i) = refl
same-phase p t q n (tables.Backing d) = refl
same-phase p t q n (tables.Installing d r) = refl
same-phase p t q n (tables.Aborting d) = refl

pub keeps-moved : (t : Work) (ph : Phase) → Keeps t (moved t ph)
keeps-moved t ph = record { next = refl; reads = refl; writes = refl }

-- from the first machine on
pub all-due : (p : Plan) (test : ℕ → Bool) → due_from p 0 test ≡ filter test (machine_list p)
all-due p test = ap (λ (n : ℕ). filter test (range_with_len 0 n)) (omega arith)

pub as-open : (p : Plan) (t : Work) → phase_of p t tables.Open ≡ protocol.Opened
unfolding phase_of
as-open p t = refl

pub as-idle : (p : Plan) (t : Work) → phase_of p t tables.Idle ≡ protocol.Idle
unfolding phase_of
as-idle p t = refl

-- an entry is the same with whatever default it is read
pub same-entry : (p : Plan) (w : World) (c : ℕ) → Inside p w c → (e d : Coordinator) → get_or w.coordinators c e ≡ get_or w.coordinators c d
same-entry p w c in' e d = get_or_default w.coordinators c e d (omega (arith, ltb-true c p.coordinators (sym in'.below), (fits-of p w in'.fits).coordinators))

-- a change that keeps the next number
pub leaves-stand : (p : Plan) (t : Work) (ph : Phase) (ph' : protocol.Phase) (n : Option ℕ) (rs ws : List Line) → Leaves t ph n rs ws → phase_of p t ph ≡ ph' → StandsFor p t ph' (next_of n) rs ws
leaves-stand p t ph ph' n rs ws l e = record { phase = ap (phase_of p t) l.phase ∙ e; next = ap next_of l.next; reads = l.reads; writes = l.writes }
