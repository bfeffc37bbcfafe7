-- The steps of a file begin with those of its first entries alone, and so does its text.
use Rattle.std.proofs.Common.{◌≡◌, ℕ, ◌<◌, ◌≤◌, Bool, List, [], ◌∷◌, ◌++◌, length, Ok, Err, Some, None, Option, Result, sym, refl, ap, ◌∙◌, subst, append_assoc, append-nil, length-append, arith}
use Rattle.std.specs.List.{AllByRecursion, flat_map}
use Rattle.std.specs.Result.{result_map_both}
use Rattle.std.proofs.lemmas.Grind.{flat_map-append}
use Rattle.std.proofs.lemmas.Bool.{le-ltb, lt-ltb, and_from, cond-true, cond-false}
use Rattle.protocol.specs.declared.plan.Plan.{Plan}
use Rattle.protocol.specs.declared.call.Call.{Call}
use Rattle.protocol.specs.Try.{Try}
use Rattle.protocol.specs.Step.{Run, extend, run_from}
use Rattle.steps.specs.declared.fault.EntryFault.{EntryFault}
use Rattle.steps.specs.declared.fault.EntryFault.TheVariants.{Frame}
use Rattle.steps.specs.declared.decode.Step.{Step}
use Rattle.steps.specs.declared.decode.Step.TheVariants.{SetUp, Call as ACall}
use Rattle.steps.specs.declared.sequence.Placed.{Placed}
use Rattle.steps.specs.Frames.{Position, at, is_whole}
use Rattle.steps.specs.Sequence.{step_of, step_at, moved, and_then, steps_from}
use Rattle.steps.specs.Writing.{with_length, written}
use Rattle.steps.proofs.Rereading.{end-there, whole-there, content-there}
use Rattle.steps.proofs.Unrolling.{none-behind, unrolled}
use Rattle.playback.specs.Transcript.{call_lines, calls_in, fault_in, with_call, behind, set_up_told, made, start_of, first_told, steps_told, opened_told, told_by}
use Rattle.playback.specs.Laws.{KeepsFronts}

abbrev Steps : Type 0
Steps = List (Result Placed EntryFault)

-- ys begins with xs
abbrev Begins : {A : Type 0} → List A → List A → Type 0
Begins {A} xs ys = (more : List A) × (ys ≡ xs ++ more)

begins-all : {A : Type 0} (xs : List A) → Begins xs xs
begins-all xs = ([], sym (append-nil xs))

begins-behind : {A : Type 0} (head xs ys : List A) → Begins xs ys → Begins (head ++ xs) (head ++ ys)
begins-behind head xs ys b = (b.0, ap (λ zs. head ++ zs) b.1 ∙ sym (append_assoc head xs b.0))

-- the file of the entries es behind `pre`, and of those and more
step-there : (pre e rest : List ℕ) → length e < 65536
    → step_at (at (pre ++ (with_length e ++ rest)) (length pre)) ≡ step_of (Ok (Some (record { place = length pre; content = e })))
step-there pre e rest short =
    let p = at (pre ++ (with_length e ++ rest)) (length pre) in
    ap step_of (cond-true (is_whole p) _ _ (whole-there pre e rest short) ∙ ap (λ c. Ok (Some (record { place = length pre; content = c }))) (content-there pre e rest short))

next-there : (pre e rest : List ℕ) (o : Result (Option Placed) EntryFault) (short : length e < 65536)
    → and_then o (steps_from (moved (at (pre ++ (with_length e ++ rest)) (length pre)) o))
    ≡ and_then o (steps_from (at ((pre ++ with_length e) ++ rest) (length (pre ++ with_length e))))
next-there pre e rest (Err f) short = refl
next-there pre e rest (Ok None) short = refl
next-there pre e rest (Ok (Some s)) short =
    ap (λ (p : Position). Ok s ∷ steps_from p)
    (ap (at (pre ++ (with_length e ++ rest))) (end-there pre e rest short) ∙ ap (λ f. at f (length (pre ++ with_length e))) (sym (append_assoc pre (with_length e) rest)))

abbrev read_of : List ℕ → List ℕ → Result (Option Placed) EntryFault
read_of pre e = step_of (Ok (Some (record { place = length pre; content = e })))

steps-there : (pre e rest : List ℕ) → length e < 65536
    → steps_from (at (pre ++ (with_length e ++ rest)) (length pre)) ≡ and_then (read_of pre e) (steps_from (at ((pre ++ with_length e) ++ rest) (length (pre ++ with_length e))))
steps-there pre e rest short =
    let p = at (pre ++ (with_length e ++ rest)) (length pre) in
    unrolled p ∙ ap (λ o. and_then o (steps_from (moved p o))) (step-there pre e rest short) ∙ next-there pre e rest (read_of pre e) short

begins-then : (o : Result (Option Placed) EntryFault) (xs ys : Steps) → Begins xs ys → Begins (and_then o xs) (and_then o ys)
begins-then (Err f) xs ys b = begins-all (Err f ∷ [])
begins-then (Ok None) xs ys b = begins-all []
begins-then (Ok (Some s)) xs ys b = (b.0, ap (λ zs. Ok s ∷ zs) b.1)

abbrev file_of : List (List ℕ) → List ℕ
file_of es = flat_map with_length es

steps-begin : (pre : List ℕ) (es ds : List (List ℕ)) → AllByRecursion (λ e. length e < 65536) es
    → Begins (steps_from (at (pre ++ file_of es) (length pre))) (steps_from (at (pre ++ file_of (es ++ ds)) (length pre)))
steps-begin pre [] ds h =
    let ys = steps_from (at (pre ++ file_of ds) (length pre)) in
    (ys, sym (ap (λ xs. xs ++ ys) (none-behind _ (at (pre ++ []) (length pre)) (omega (arith, ap length (append-nil pre))))))
steps-begin pre (e ∷ es) ds h =
    let rest = steps-begin (pre ++ with_length e) es ds h.1 in
    let both = begins-then (read_of pre e) _ _ rest in
    subst (λ xs. Begins xs (steps_from (at (pre ++ file_of (e ∷ es ++ ds)) (length pre)))) (sym (steps-there pre e (file_of es) h.0))
    (subst (Begins (and_then (read_of pre e) (steps_from (at ((pre ++ with_length e) ++ file_of es) (length (pre ++ with_length e)))))) (sym (steps-there pre e (file_of (es ++ ds)) h.0)) both)

-- Calls that come later change no line.
lines-grow : (p : Plan) (r : Run) (calls : List Call) → Begins (call_lines r.history) (call_lines (run_from p r calls).history)
lines-grow p r [] = begins-all (call_lines r.history)
lines-grow p r (call ∷ calls) =
    let b = lines-grow p (extend p r call) calls in (_, b.1 ∙ append_assoc (call_lines r.history) _ b.0)

abbrev told_from : Plan → Run → List Call → List ℕ → List ℕ
told_from p r calls end = call_lines (run_from p r calls).history ++ end

more-call : (p : Plan) (r : Run) (s : Step) (cs ds : List Call) (f g : List ℕ) → ((q : Run) → Begins (told_from p q cs f) (told_from p q ds g))
    → Begins (told_from p r (with_call s cs) (behind s f)) (told_from p r (with_call s ds) (behind s g))
more-call p r (SetUp q) cs ds f g h = begins-all _
more-call p r (ACall call) cs ds f g h = h (extend p r call)

calls-begin : (p : Plan) (r : Run) (xs more : Steps) → Begins (told_from p r (calls_in xs) (fault_in xs)) (told_from p r (calls_in (xs ++ more)) (fault_in (xs ++ more)))
calls-begin p r [] more =
    let b = lines-grow p r (calls_in more) in
    (_, ap (λ cs. cs ++ fault_in more) (b.1 ∙ ap (λ cs. cs ++ b.0) (sym (append-nil (call_lines r.history)))) ∙ append_assoc (call_lines r.history ++ []) b.0 (fault_in more))
calls-begin p r (Err f ∷ xs) more = begins-all _
calls-begin p r (Ok x ∷ xs) more = more-call p r x.step _ _ _ _ (λ q. calls-begin p q xs more)

module _ (fits : ℕ → Bool) where
  set_up-begins : (p : Plan) (place : ℕ) (xs more : Steps) (t : Try ℕ) → Begins (set_up_told p place xs t) (set_up_told p place (xs ++ more) t)
  set_up-begins p place xs more (Err n) = begins-all _
  set_up-begins p place xs more (Ok n) = begins-behind _ _ _ (calls-begin p _ xs more)

  first-begins : (place : ℕ) (xs more : Steps) (s : Step) → Begins (first_told fits place xs s) (first_told fits place (xs ++ more) s)
  first-begins place xs more (SetUp p) = set_up-begins p place xs more (made fits p)
  first-begins place xs more (ACall call) = begins-all []

  told-begins : (xs more : Steps) → Begins (steps_told fits xs) (steps_told fits (xs ++ more))
  told-begins [] more = (steps_told fits more, refl)
  told-begins (Err f ∷ xs) more = begins-all _
  told-begins (Ok x ∷ xs) more = first-begins x.place xs more x.step

  opens-at : (bytes : List ℕ) → length (1 ∷ bytes) ≤ 65536 → start_of (1 ∷ bytes) ≡ Ok (at (1 ∷ bytes) 1)
  opens-at bytes l =
      ap (result_map_both (λ p. p) Frame)
      (cond-false _ _ _ (le-ltb _ _ l) ∙ cond-true _ _ _ (and_from _ _ (lt-ltb 0 (length (1 ∷ bytes)) (omega arith)) refl))

  told-at : (bytes : List ℕ) → length (1 ∷ bytes) ≤ 65536 → told_by fits (1 ∷ bytes) ≡ steps_told fits (steps_from (at (1 ∷ bytes) 1))
  unfolding told_by
  told-at bytes l = ap (opened_told fits) (opens-at bytes l)

  pub keeps-fronts : (bytes : List ℕ) → KeepsFronts (told_by fits) bytes (told_by fits bytes)
  keeps-fronts bytes es ds short e l =
      let whole : length (written (es ++ ds)) ≤ 65536 = omega (arith, ap length e) in
      let part : length (written es) ≤ 65536 = omega (arith, ap length (flat_map-append with_length es ds), length-append (file_of es) (file_of ds)) in
      let steps = steps-begin (1 ∷ []) es ds short in
      let b = told-begins (steps_from (at (written es) 1)) steps.0 in
      (b.0, ap (told_by fits) e ∙ told-at (file_of (es ++ ds)) whole ∙ ap (steps_told fits) steps.1 ∙ b.1 ∙ ap (λ cs. cs ++ b.0) (sym (told-at (file_of es) part)))
