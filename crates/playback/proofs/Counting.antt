-- Behind an accepted set-up each step has a line.
use Rattle.std.proofs.Common.{◌≡◌, ℕ, zero, suc, ◌+◌, ◌-◌, ◌<◌, Bool, true, false, cond, not, eqb, leb, List, [], ◌∷◌, ◌++◌, length, Ok, Err, Some, None, Option, Result, codes, slice_index, sym, refl, ap, ◌∙◌, subst, append-nil, arith}
use Rattle.std.specs.List.{slice_get}
use Rattle.std.specs.Result.{result_map_both}
use Rattle.std.proofs.lemmas.Bool.{ne_eqb}
use Rattle.protocol.specs.declared.plan.Plan.{Plan}
use Rattle.protocol.specs.declared.call.Outcome.TheVariants.{Going}
use Rattle.protocol.specs.Call.{answered}
use Rattle.protocol.specs.State.{start}
use Rattle.protocol.specs.Step.{Run, extend, run_from}
use Rattle.steps.specs.declared.fault.FrameFault.TheVariants.{CutShort}
use Rattle.steps.specs.declared.fault.EntryFault.{EntryFault}
use Rattle.steps.specs.declared.fault.EntryFault.TheVariants.{WrongLength, OutOfOrder}
use Rattle.steps.specs.declared.fault.RunFault.TheVariants.{Entry as OfEntry}
use Rattle.steps.specs.declared.decode.Step.{Step}
use Rattle.steps.specs.declared.decode.Step.TheVariants.{SetUp, Call as ACall}
use Rattle.steps.specs.declared.sequence.Placed.{Placed}
use Rattle.steps.specs.Entries.{steps, checked, decoded}
use Rattle.steps.specs.Frames.{Position, is_whole, entry}
use Rattle.steps.specs.Sequence.{step_of, step_at, moved, and_then, sequence, steps_from}
use Rattle.steps.proofs.Unrolling.{unrolled}
use Rattle.playback.specs.Transcript.{answer_line, fault_line, call_lines, calls_in, fault_in, with_call, behind, calls_told, set_up_told, made, start_of, first_told, steps_told, opened_told, told_by}
use Rattle.playback.specs.Laws.{lines_in, HasALineForEach}
use Rattle.playback.proofs.Lines.{lines-append, answer-line, fault-line, call-lines}

-- Behind place 1 no set-up is read: it is out of order there.
abbrev IsCall : Step → Type 0
IsCall (SetUp p) = ⊥
IsCall (ACall call) = Unit {0}

checked-call : (place : ℕ) (o : Option (Option Step)) (t : Step) → 1 < place → checked place o ≡ Ok t → IsCall t
checked-call place None t l e = cc
checked-call place (Some None) t l e = cc
checked-call place (Some (Some (SetUp p))) t l e =
    let no : eqb place 1 ≡ false = ne_eqb place 1 (λ h. absurd (omega (arith, h))) in
    let z : Err (OutOfOrder place) ≡ Ok t = sym (ap (λ b. cond b (Ok (SetUp p)) (Err (OutOfOrder place))) no) ∙ e in cc
checked-call place (Some (Some (ACall call))) t l e =
    let no : eqb place 1 ≡ false = ne_eqb place 1 (λ h. absurd (omega (arith, h))) in
    let z : ◌≡◌ {A = Result Step EntryFault} (Ok (ACall call)) (Ok t) = sym (ap (λ b. cond (not b) (Ok (ACall call)) (Err (OutOfOrder place))) no) ∙ e in
    let same : ACall call ≡ t = cc in subst IsCall same tt

content-call : (empty : Bool) (place : ℕ) (o : Option (Option Step)) (t : Step) → 1 < place → cond empty (Err (WrongLength place)) (checked place o) ≡ Ok t → IsCall t
content-call true place o t l e = cc
content-call false place o t l e = checked-call place o t l e

placed-call : (place : ℕ) (d : Result Step EntryFault) (x : Placed) → ((t : Step) → d ≡ Ok t → IsCall t)
    → result_map_both (λ s. Some (record { place = place; step = s })) (λ f. f) d ≡ Ok (Some x) → IsCall x.step
placed-call place (Ok t) x h e =
    let same : ◌≡◌ {A = Placed} (record { place = place; step = t }) x = cc in subst (λ (y : Placed). IsCall y.step) same (h t refl)
placed-call place (Err f) x h e = cc

read-call : (whole end : Bool) (p : Position) (x : Placed) → 1 < p.place
    → step_of (cond whole (Ok (Some (entry p))) (cond end (Ok None) (Err (CutShort p.place)))) ≡ Ok (Some x) → IsCall x.step
read-call true end p x l e =
    placed-call p.place (decoded p.place (entry p).content) x
    (λ t. content-call (eqb (length (entry p).content) 0) p.place (slice_get (steps (entry p).content) (slice_index (entry p).content 0)) t l) e
read-call false true p x l e = cc
read-call false false p x l e = cc

step-call : (p : Position) (x : Placed) → 1 < p.place → step_at p ≡ Ok (Some x) → IsCall x.step
step-call p x l e = read-call (is_whole p) (leb (length p.file) p.place) p x l e

moved-on : (p : Position) (o : Result (Option Placed) EntryFault) → 1 < p.place → 1 < (moved p o).place
moved-on p (Err f) l = l
moved-on p (Ok None) l = l
moved-on p (Ok (Some x)) l = omega arith

-- The lines of the calls from a position on, behind those of a run.
abbrev Steps : Type 0
Steps = List (Result Placed EntryFault)

abbrev told_from : Plan → Run → Steps → List ℕ
told_from p r xs = call_lines (run_from p r (calls_in xs)).history ++ fault_in xs

abbrev Counts : Plan → Run → Steps → Type 0
Counts p r xs = lines_in (told_from p r xs) ≡ length r.history + length xs

counts-none : (p : Plan) (r : Run) → Counts p r []
counts-none p r = ap lines_in (append-nil (call_lines r.history)) ∙ call-lines r.history ∙ omega arith

counts-call : (p : Plan) (r : Run) (x : Placed) (s : Step) (xs : Steps) → x.step ≡ s → IsCall s → ((q : Run) → Counts p q xs) → Counts p r (Ok x ∷ xs)
counts-call p r x (SetUp q) xs e h rest = absurd h
counts-call p r x (ACall call) xs e h rest =
    ap (λ (t : Step). lines_in (call_lines (run_from p r (with_call t (calls_in xs))).history ++ behind t (fault_in xs))) e
    ∙ rest (extend p r call) ∙ omega arith

counts-turn : (p : Plan) (r : Run) (o : Result (Option Placed) EntryFault) (xs : Steps) → ((x : Placed) → o ≡ Ok (Some x) → IsCall x.step)
    → ((q : Run) → Counts p q xs) → Counts p r (and_then o xs)
counts-turn p r (Err f) xs call rest =
    lines-append (call_lines r.history) (fault_line (OfEntry f)) ∙ omega (arith, call-lines r.history, fault-line (OfEntry f))
counts-turn p r (Ok None) xs call rest = counts-none p r
counts-turn p r (Ok (Some x)) xs call rest = counts-call p r x x.step xs refl (call x refl) rest

counts : (p : Plan) (n : ℕ) (from : Position) (r : Run) → 1 < from.place → Counts p r (sequence n from)
unfolding sequence
counts p zero from r l = counts-none p r
counts p (suc n) from r l =
    counts-turn p r (step_at from) (sequence n (moved from (step_at from))) (λ x. step-call from x l)
    (λ q. counts p n (moved from (step_at from)) q (moved-on from (step_at from) l))

-- what is behind the first step is read from a place behind it
behind-first : (start : Position) (o : Result (Option Placed) EntryFault) (x : Placed) (xs : Steps)
    → and_then o (steps_from (moved start o)) ≡ Ok x ∷ xs → (xs ≡ steps_from (moved start o)) × (1 < (moved start o).place)
behind-first start (Err f) x xs e = cc
behind-first start (Ok None) x xs e = cc
behind-first start (Ok (Some s)) x xs e = (cc, omega arith)

module _ (fits : ℕ → Bool) (bytes : List ℕ) where
  told-set_up : (start : Position) (x : Placed) (xs : Steps) (p : Plan) (n : ℕ) → start_of bytes ≡ Ok start → steps_from start ≡ Ok x ∷ xs → x.step ≡ SetUp p → made fits p ≡ Ok n
      → told_by fits bytes ≡ answer_line 0 (codes "setup") (Ok (answered n 0 Going)) ++ calls_told p xs
  unfolding told_by
  told-set_up start x xs p n opened steps is accepted =
      ap (opened_told fits) opened ∙ ap (steps_told fits) steps ∙ ap (first_told fits x.place xs) is ∙ ap (set_up_told p x.place xs) accepted

  pub has-a-line-for-each : HasALineForEach fits bytes (told_by fits bytes)
  has-a-line-for-each first x xs p n opened steps is accepted =
      let later = behind-first first (step_at first) x xs (sym (unrolled first) ∙ steps) in
      let q = moved first (step_at first) in
      let none : Run = record { history = []; state = start p } in
      let rest : Counts p none xs = subst (Counts p none) (sym later.0) (counts p (length q.file - q.place) q none later.1) in
      ap lines_in (told-set_up first x xs p n opened steps is accepted)
      ∙ lines-append (answer_line 0 (codes "setup") (Ok (answered n 0 Going))) (calls_told p xs)
      ∙ omega (arith, answer-line 0 (codes "setup") (Ok (answered n 0 Going)) refl, rest, ap length steps)
