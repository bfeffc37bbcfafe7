-- Calls that were played are those of a run of the protocol.
use Rattle.std.proofs.Common.{◌≡◌, ℕ, suc, ◌+◌, ◌*◌, Bool, true, false, cond, ◌&&◌, leb, List, [], ◌∷◌, ◌++◌, length, Ok, Err, Result, sym, ap, ◌∙◌, subst, append_assoc, append-nil, add-one, arith}
use Rattle.std.proofs.lemmas.Bool.{eq-eqb, le-leb}
use Rattle.protocol.specs.declared.plan.Plan.{Plan}
use Rattle.protocol.specs.declared.call.Call.{Call}
use Rattle.protocol.specs.declared.call.Answer.{Answer}
use Rattle.protocol.specs.declared.call.Refusal.{Refusal}
use Rattle.protocol.specs.declared.call.Refusal.TheVariants.{BadPlan, BadTables}
use Rattle.protocol.specs.Lines.{Words}
use Rattle.protocol.specs.Plan.{is_fine}
use Rattle.protocol.specs.State.{State, start}
use Rattle.protocol.specs.Step.{Stepped, stepped, step, step_behind_checks, Run, extend, run_from, run}
use Rattle.protocol.specs.Kept.{Invariants, ProperWords}
use Rattle.protocol.proofs.Keeps.{always, step_keeps}
use Rattle.directory.specs.View.{World, view, is_fitting}
use Rattle.directory.specs.Sound.{Sound}
use Rattle.directory.specs.Calls.{Ready, Does}
use Rattle.steps.specs.declared.fault.EntryFault.{EntryFault}
use Rattle.steps.specs.declared.fault.RunFault.TheVariants.{Entry as OfEntry}
use Rattle.steps.specs.declared.decode.Step.{Step}
use Rattle.steps.specs.declared.decode.Step.TheVariants.{Call as ACall}
use Rattle.steps.specs.declared.sequence.Placed.{Placed}
use Rattle.playback.specs.Names.{name_of}
use Rattle.playback.specs.Playing.{Tells}
use Rattle.playback.specs.Transcript.{answer_line, fault_line, call_lines, calls_in, fault_in, with_call, behind, calls_told}

abbrev Steps : Type 0
Steps = List (Result Placed EntryFault)

-- tables of the lengths that the plan needs
pub record Long (p : Plan) (w : World) : Type 0 where
  pub coordinators : length w.coordinators ≡ p.coordinators
  pub records : length w.records ≡ p.coordinators * p.machines * p.capacity
  pub replies : length w.replies ≡ p.coordinators * p.machines * 4

all_six : (a b d e f g : Bool) → a ≡ true → b ≡ true → d ≡ true → e ≡ true → f ≡ true → g ≡ true → (a && (b && (d && (e && (f && g))))) ≡ true
all_six true b d e f g x y z u v w = all_five b d e f g y z u v w
  where
    all_four : (d e f g : Bool) → d ≡ true → e ≡ true → f ≡ true → g ≡ true → (d && (e && (f && g))) ≡ true
    all_four true e f g x y z w = ap (λ (t : Bool). t && (f && g)) y ∙ ap (λ (t : Bool). t && g) z ∙ w
    all_four false e f g x y z w = x

    all_five : (b d e f g : Bool) → b ≡ true → d ≡ true → e ≡ true → f ≡ true → g ≡ true → (b && (d && (e && (f && g)))) ≡ true
    all_five true d e f g x y z u v = all_four d e f g y z u v
    all_five false d e f g x y z u v = x
all_six false b d e f g x y z u v w = x

long-enough : (a b : ℕ) → a ≡ b → leb b a ≡ true
long-enough a b e = le-leb b a (omega (arith, e))

fitting : (p : Plan) (w : World) → Long p w → ProperWords p w.primaries → ProperWords p w.firsts → ProperWords p w.seconds → is_fitting p w ≡ true
fitting p w long a b d =
    all_six _ _ _ _ _ _ (long-enough _ _ long.coordinators) (long-enough _ _ long.records) (long-enough _ _ long.replies)
    (eq-eqb _ _ a.size) (eq-eqb _ _ b.size) (eq-eqb _ _ d.size)

-- The calls so far are those of the run, and behind it stand those that are left of all: it left the tables and memories
-- in w and its lines behind `was`, and the next entry has the number n.
pub record Played (p : Plan) (all : Steps) (was : List ℕ) (w : World) (n : ℕ) (left : Steps) (now : List ℕ) : Type 0 where
  pub so_far : Run
  pub sound : Sound p w
  pub stands : view p w ≡ so_far.state
  pub keeps : Invariants p so_far.state
  pub counted : n ≡ suc (length so_far.history)
  pub wrote : now ≡ was ++ call_lines so_far.history
  pub calls : run_from p so_far (calls_in left) ≡ run p (calls_in all)
  pub fault : fault_in left ≡ fault_in all

unchecked : (p : Plan) (fits : Bool) (s : State) (call : Call) → is_fine p ≡ true → fits ≡ true → step_behind_checks p fits s call ≡ step p s call
unchecked p fits s call e f =
    ap (λ (b : Bool). cond b (cond fits (step p s call) (stepped (Err BadTables) s)) (stepped (Err BadPlan) s)) e
    ∙ ap (λ (b : Bool). cond b (step p s call) (stepped (Err BadTables) s)) f

module _ (p : Plan) (fine : is_fine p ≡ true) (all left : Steps) (was now : List ℕ) (w : World) (n : ℕ) where
  -- no call yet
  pub played-none : Ready p w → n ≡ 1 → left ≡ all → now ≡ was → Played p all was w n left now
  played-none ready one same text = record {
    so_far = record { history = []; state = start p };
    sound = ready.sound;
    stands = ready.starts;
    keeps = always.first p fine;
    counted = one;
    wrote = text ∙ sym (append-nil was);
    calls = ap (λ (xs : Steps). run p (calls_in xs)) same;
    fault = ap fault_in same;
  }

  -- one call more
  pub played-more : (x : Placed) (call : Call) (w' : World) (r : Result Answer Refusal) (now' : List ℕ)
      → Played p all was w n (Ok x ∷ left) now → x.step ≡ ACall call → Long p w → Does p w w' r call → now' ≡ now ++ answer_line n (name_of call) r
      → Played p all was w' (suc n) left now'
  played-more x call w' r now' h e long does more =
      let s = h.so_far.state in
      let proper = λ (f : State → Words). λ (k : ProperWords p (f s)). subst (λ (t : State). ProperWords p (f t)) (sym h.stands) k in
      let fits = fitting p w long (proper (λ t. t.primaries) h.keeps.primaries) (proper (λ t. t.firsts) h.keeps.firsts) (proper (λ t. t.seconds) h.keeps.seconds) in
      let done : stepped r (view p w') ≡ step p s call = does.steps h.sound ∙ unchecked p (is_fitting p w) (view p w) call fine fits ∙ ap (λ (t : State). step p t call) h.stands in
      let answered : r ≡ (step p s call).answer = ap (λ (t : Stepped). t.answer) done in
      record {
        so_far = extend p h.so_far call;
        sound = does.stays_sound h.sound;
        stands = ap (λ (t : Stepped). t.state) done;
        keeps = step_keeps p s h.keeps call;
        counted = ap suc h.counted;
        wrote = more ∙ ap (λ (cs : List ℕ). cs ++ answer_line n (name_of call) r) h.wrote ∙ append_assoc was _ _
            ∙ ap (λ (cs : List ℕ). was ++ (call_lines h.so_far.history ++ cs))
            (ap (λ (k : ℕ). answer_line k (name_of call) r) h.counted ∙ ap (answer_line (suc (length h.so_far.history)) (name_of call)) answered);
        calls = sym (ap (λ (t : Step). run_from p h.so_far (with_call t (calls_in left))) e) ∙ h.calls;
        fault = sym (ap (λ (t : Step). behind t (fault_in left)) e) ∙ h.fault;
      }

  -- no call more: what is told ends with what is told behind the calls
  pub played-all : (end : List ℕ) → Played p all was w n left now → calls_in left ≡ [] → fault_in left ≡ end → now ++ end ≡ was ++ calls_told p all
  played-all end h none last =
      let whole : h.so_far ≡ run p (calls_in all) = sym (ap (run_from p h.so_far) none) ∙ h.calls in
      ap (λ (cs : List ℕ). cs ++ end) h.wrote ∙ append_assoc was _ _
      ∙ ap (λ (cs : List ℕ). was ++ cs) (ap (λ (r : Run). call_lines r.history ++ end) whole ∙ ap (λ (cs : List ℕ). call_lines (run p (calls_in all)).history ++ cs) (sym last ∙ h.fault))

  -- the fault that comes next is the last of what is told
  pub played-fault : (f : EntryFault) (rest : Steps) → Played p all was w n left now → left ≡ Err f ∷ rest → now ++ fault_line (OfEntry f) ≡ was ++ calls_told p all
  played-fault f rest h e = played-all (fault_line (OfEntry f)) h (ap calls_in e) (ap fault_in e)

-- one call more, as a loop through the steps makes it
pub played-next : (p q : Plan) (all was-left left : Steps) (was now now' : List ℕ) (w w' : World) (n entry n' : ℕ) (item : Result Placed EntryFault) (x : Placed) (call : Call)
    → is_fine p ≡ true → q ≡ p → Played p all was w n was-left now → was-left ≡ item ∷ left → item ≡ Ok x → x.step ≡ ACall call → Long q w
    → entry ≡ n → n' ≡ n + 1 → Tells q w w' entry call now now' → Played p all was w' n' left now'
played-next p q all was-left left was now now' w w' n entry n' item x call fine same h more taken is long at next t =
    subst (λ (k : ℕ). Played p all was w' k left now') (sym (next ∙ add-one n))
    (played-more p fine all left was now w n x call w' t.0 now'
    (subst (λ (ss : Steps). Played p all was w n ss now) (more ∙ ap (λ i. i ∷ left) taken) h) is
    (subst (λ (k : Plan). Long k w) same long) (subst (λ (k : Plan). Does k w w' t.0 call) same t.1)
    (t.2 ∙ ap (λ (k : ℕ). now ++ answer_line k (name_of call) t.0) at))
