-- The plan that is made is the plan that the entry holds.
use Rattle.std.proofs.Common.{◌≡◌, ◌+◌, ◌-◌, ◌*◌, length, get_or, take, drop, Some, sym, ap, ◌∙◌, arith, length-drop}
use Rattle.std.specs.Int.{w64, from_be_bytes}
use Rattle.std.proofs.lemmas.Bool.{cond-true, eq-eqb}
use Rattle.std.proofs.lemmas.List.{take_all, drop-drop}
use Rattle.steps.specs.Entries.{homes, plan}
use Rattle.steps.proofs.Numbers.{eight-there}
use Rattle.steps.proofs.Plans.{same-plan}
use Rattle.steps.proofs.decode.plan_of.Goals as goal

pub returns : goal.returns
unfolding plan
returns c =
    let e = c.args.e.now in
    let rest : take (length e - 5) (drop 5 e) ≡ drop 5 e = take_all (length e - 5) (drop 5 e) (omega (arith, length-drop 5 e)) in
    let start : c.in_ok-start.start.now ≡ take 8 (drop 5 e) = c.in_ok-start.ensures.cases.0 ∙ ap (take 8) rest in
    let behind : c.in_ok-start.rest.now ≡ drop 13 e = c.in_ok-start.ensures.cases.1 ∙ ap (drop 8) rest ∙ drop-drop 8 5 e in
    let first : c.in_ok-first.first.now ≡ take 8 (drop 13 e) = c.in_ok-first.ensures.cases.0 ∙ ap (take 8) behind in
    let last : c.in_ok-first.homes.now ≡ drop 21 e = c.in_ok-first.ensures.cases.1 ∙ ap (drop 8) behind ∙ drop-drop 8 13 e in
    let long : length (take (length e - 5) (drop 5 e)) ≡ length e - 5 = ap length rest ∙ length-drop 5 e in
    let more : length c.in_ok-start.rest.now + 8 ≡ length e - 5 = c.in_ok-start.ensures.cases.2 ∙ long in
    let most : length c.in_ok-first.homes.now + 8 ≡ length c.in_ok-start.rest.now = c.in_ok-first.ensures.cases.2 in
    let whole : length e ≡ 21 + 3 * get_or e 3 0 = omega (arith, more, most) in
    ap Some (same-plan _ _ _ _ _ _ _ _ _ _ _ _
    (c.from_be_bytes.ensures ∙ ap (from_be_bytes w64) start ∙ eight-there e 5 (omega (arith, whole)))
    (c.from_be_bytes-2.ensures ∙ ap (from_be_bytes w64) first ∙ eight-there e 13 (omega (arith, whole))) (c.homes_of.ensures ∙ ap homes last))
    ∙ sym (cond-true _ _ _ (eq-eqb _ _ whole))
