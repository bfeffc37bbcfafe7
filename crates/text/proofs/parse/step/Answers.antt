-- The entry of a step of a known kind is that of its numbers.
use Rattle.std.proofs.Common.{◌≡◌, ℕ, List, map, Err, Result, vec_items, sym, ap, ◌∙◌, subst}
use Rattle.std.proofs.lemmas.Result.{err_from_is_err_and}
use Rattle.steps.specs.Kinds.{kind_named}
use Rattle.text.specs.declared.fault.LineFault.{LineFault}
use Rattle.text.specs.Faults.{Answers}
use Rattle.text.specs.Fields.{entry_of}
use Rattle.text.specs.Parsing.{step_read}
use Rattle.text.specs.Words.{and_then, numbers_read}
use Rattle.text.proofs.Reading.{unless-weaker, step-known}
use Rattle.text.proofs.parse.step.Goals as goal

pub returns-in_err-numbers : goal.returns-in_err-numbers
returns-in_err-numbers c =
    let kind = c.in_ok-kind.kind in
    let ws = map (λ w. w.now) c.args.words.now in
    let p = err_from_is_err_and c.from_residual-in_err-numbers.result c.from_residual-in_err-numbers.ensures.1 in
    rw (p.1, p.2)
    (unless-weaker c.in_err-numbers.field-0.0 (numbers_read ws ≡ Err c.in_err-numbers.field-0.0) (step_read (kind_named c.args.name.now) ws ≡ Err c.in_err-numbers.field-0.0)
    (λ h. step-known (kind_named c.args.name.now) kind ws c.in_ok-kind.ensures.value ∙ ap (λ r. and_then r (entry_of kind)) h)
    c.in_err-numbers.ensures)

pub returns : goal.returns
returns c =
    let kind = c.in_ok-kind.kind in
    let ws = map (λ w. w.now) c.args.words.now in
    let known : step_read (kind_named c.args.name.now) ws ≡ entry_of kind c.deref.result.now =
    step-known (kind_named c.args.name.now) kind ws c.in_ok-kind.ensures.value
    ∙ ap (λ r. and_then r (entry_of kind)) c.in_ok-numbers.ensures
    ∙ ap (entry_of kind) (sym c.deref.ensures.value) in
    subst (λ (r : Result (List ℕ) LineFault). Answers vec_items r c.entry_of.result) (sym known) c.entry_of.ensures
