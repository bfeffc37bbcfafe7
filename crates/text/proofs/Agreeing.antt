-- An entry has a line just where it stands for a step, in order or not.
use Rattle.std.proofs.Common.{◌≡◌, ℕ, zero, suc, ◌+◌, ◌*◌, Bool, true, false, cond, eqb, leb, List, [], ◌∷◌, ◌++◌, length, get_or, drop, replicate, Some, None, Ok, Err, Option, Result, IsOk, sym, refl, ap, ◌∙◌, subst, arith, length-drop}
use Rattle.std.specs.List.{slice_get}
use Rattle.std.specs.Option.{option_map}
use Rattle.std.proofs.lemmas.Bool.{eqb-true, eqb-false, le-leb, leb-true, ne_eqb, cond-true, cond-false}
use Rattle.protocol.specs.declared.call.Call.TheVariants as call
use Rattle.steps.specs.declared.decode.Step.{Step}
use Rattle.steps.specs.declared.decode.Step.TheVariants as step
use Rattle.steps.specs.declared.fault.EntryFault.{EntryFault}
use Rattle.steps.specs.declared.fault.EntryFault.TheVariants.{WrongLength, OutOfOrder}
use Rattle.steps.specs.declared.kind.EntryKind.{EntryKind}
use Rattle.steps.specs.declared.kind.EntryKind.TheVariants.{SetUp, Open, Read, Write, Abandon, Commit, Send, Poll, Take, Check, Trim}
use Rattle.steps.specs.Entries.{coordinator, machine, address, value, plan, steps, is_in_order, checked}
use Rattle.steps.specs.Kinds.{kinds}
use Rattle.text.specs.declared.fields.Width.{Width}
use Rattle.text.specs.declared.fields.Width.TheVariants.{One}
use Rattle.text.specs.Fields.{size, number_at, leading, widths, regions, numbers_in}
use Rattle.text.specs.Laws.{SameFault, FaultsOfSteps}
use Rattle.text.specs.Printing.{numbers_line, kind_line, entry_line}

-- ---- how many bytes fields have

abbrev total : List Width → ℕ
total [] = 0
total (w ∷ ws) = size w + total ws

total-append : (vs ws : List Width) → total (vs ++ ws) ≡ total vs + total ws
total-append [] ws = omega arith
total-append (v ∷ vs) ws = omega (arith, total-append vs ws)

total-replicate : (n : ℕ) → total (replicate n One) ≡ n
total-replicate zero = refl
total-replicate (suc n) = omega (arith, total-replicate n)

-- bytes of that number have numbers
fits : (ws : List Width) (bs : List ℕ) → length bs ≡ total ws → (ns : List ℕ) × (numbers_in ws bs ≡ Some ns)
fits [] [] h = ([], refl)
fits [] (b ∷ bs) h = absurd (omega arith)
fits (w ∷ ws) bs h =
    let rest = fits ws (drop (size w) bs) (omega (arith, h, length-drop (size w) bs)) in (
      number_at w bs ∷ rest.0,
      cond-true (leb (size w) (length bs)) _ _ (le-leb _ _ (omega (arith, h))) ∙ ap (option_map (λ ns. number_at w bs ∷ ns)) rest.1,
    )

-- other bytes have none
misfits : (ws : List Width) (bs : List ℕ) → (length bs ≡ total ws → ⊥) → numbers_in ws bs ≡ None
misfits [] [] h = absurd (h refl)
misfits [] (b ∷ bs) h = refl
misfits (w ∷ ws) bs h =
    by (leb (size w) (length bs)) refl (λ e. misfits ws (drop (size w) bs) (λ r. h (omega (arith, r, length-drop (size w) bs, leb-true (size w) (length bs) e))))
  where
    by : (t : Bool) → leb (size w) (length bs) ≡ t → (leb (size w) (length bs) ≡ true → numbers_in ws (drop (size w) bs) ≡ None) → numbers_in (w ∷ ws) bs ≡ None
    by true e rest = cond-true (leb (size w) (length bs)) _ _ e ∙ ap (option_map (λ ns. number_at w bs ∷ ns)) (rest e)
    by false e rest = cond-false (leb (size w) (length bs)) _ _ e

-- ---- an entry of a kind

found : (place : ℕ) (kind : EntryKind) (o : Option (List ℕ)) (ns : List ℕ) → o ≡ Some ns → IsOk (numbers_line place kind o)
found place kind o ns h = subst (λ (x : Option (List ℕ)). IsOk (numbers_line place kind x)) (sym h) refl

ordered : (place : ℕ) (s : Step) (r : Result (List ℕ) EntryFault) (b : Bool) → IsOk r → SameFault (cond b (Ok s) (Err (OutOfOrder place))) r
ordered place s r true h = h
ordered place s r false h = h

row : {X : Type 0} (f : X → Step) (x : X) (place : ℕ) (kind : EntryKind) (fields : List ℕ) (n : ℕ) → n ≡ 1 + total (widths kind (regions kind fields))
    → (t : Bool) → eqb (suc (length fields)) n ≡ t
    → SameFault (checked place (Some (option_map f (cond t (Some x) None)))) (numbers_line place kind (numbers_in (widths kind (regions kind fields)) fields))
row f x place kind fields n h true e =
    let ws = widths kind (regions kind fields) in
    let all = fits ws fields (omega (arith, h, eqb-true (suc (length fields)) n e)) in
    ordered place (f x) (numbers_line place kind (numbers_in ws fields)) (is_in_order place (f x)) (found place kind (numbers_in ws fields) all.0 all.1)
row f x place kind fields n h false e =
    let ws = widths kind (regions kind fields) in
    ap (numbers_line place kind) (misfits ws fields (λ r. eqb-false (suc (length fields)) n e (omega (arith, h, r))))

set_up-size : (fields : List ℕ) → 21 + 3 * get_or fields 2 0 ≡ 1 + total (widths SetUp (regions SetUp fields))
set_up-size fields = omega (arith, total-append (leading SetUp) (replicate (3 * get_or fields 2 0) One), total-replicate (3 * get_or fields 2 0))

each : (place k : ℕ) (fields : List ℕ) → SameFault (checked place (slice_get (steps (k ∷ fields)) k)) (kind_line place (slice_get kinds k) fields)
each place zero fields =
    let n = 21 + 3 * get_or fields 2 0 in row step.SetUp (plan (0 ∷ fields)) place SetUp fields n (set_up-size fields) (eqb (suc (length fields)) n) refl
each place (suc zero) fields = let e = 1 ∷ fields in row step.Call (call.Open (coordinator e)) place Open fields 2 refl (eqb (suc (length fields)) 2) refl
each place (suc (suc zero)) fields = let e = 2 ∷ fields in row step.Call (call.Read (coordinator e) (address e)) place Read fields 4 refl (eqb (suc (length fields)) 4) refl
each place (suc (suc (suc zero))) fields = let e = 3 ∷ fields in row step.Call (call.Write (coordinator e) (address e) (value e)) place Write fields 12 refl (eqb (suc (length fields)) 12) refl
each place (suc (suc (suc (suc zero)))) fields = let e = 4 ∷ fields in row step.Call (call.Abandon (coordinator e)) place Abandon fields 2 refl (eqb (suc (length fields)) 2) refl
each place (suc (suc (suc (suc (suc zero))))) fields = let e = 5 ∷ fields in row step.Call (call.Commit (coordinator e)) place Commit fields 2 refl (eqb (suc (length fields)) 2) refl
each place (suc (suc (suc (suc (suc (suc zero)))))) fields = let e = 6 ∷ fields in row step.Call (call.Send (coordinator e)) place Send fields 2 refl (eqb (suc (length fields)) 2) refl
each place (suc (suc (suc (suc (suc (suc (suc zero))))))) fields = let e = 7 ∷ fields in row step.Call (call.Poll (coordinator e) (machine e)) place Poll fields 3 refl (eqb (suc (length fields)) 3) refl
each place (suc (suc (suc (suc (suc (suc (suc (suc zero)))))))) fields = let e = 8 ∷ fields in row step.Call (call.Take (coordinator e) (machine e)) place Take fields 3 refl (eqb (suc (length fields)) 3) refl
each place (suc (suc (suc (suc (suc (suc (suc (suc (suc zero))))))))) fields = let e = 9 ∷ fields in row step.Call (call.Check (coordinator e)) place Check fields 2 refl (eqb (suc (length fields)) 2) refl
each place (suc (suc (suc (suc (suc (suc (suc (suc (suc (suc zero)))))))))) fields = let e = 10 ∷ fields in row step.Call (call.Trim (coordinator e) (machine e)) place Trim fields 3 refl (eqb (suc (length fields)) 3) refl
each place (suc (suc (suc (suc (suc (suc (suc (suc (suc (suc (suc k))))))))))) fields = refl

pub faults-of-steps : FaultsOfSteps
faults-of-steps place [] = refl
faults-of-steps place (k ∷ fields) =
    subst (λ (r : Result Step EntryFault). SameFault r (entry_line place (k ∷ fields)))
    (sym (cond-false (eqb (length (k ∷ fields)) 0) (Err (WrongLength place)) (checked place (slice_get (steps (k ∷ fields)) k)) (ne_eqb _ 0 (λ e. omega arith))))
    (each place k fields)
