-- What is told of the file, of its first step and of the steps behind it.
use Rattle.std.proofs.Common.{◌++◌, ap, sym, subst, string_bytes}
use Rattle.std.proofs.lemmas.Result.{err_from_is_err_and}
use Rattle.playback.specs.Playing.{Plays}
use Rattle.playback.proofs.Opening.{told-unopened, told-none, told-fault, told-first, told-nothing}
use Rattle.playback.proofs.transcript.play.Goals as goal

pub returns-in_err-steps : goal.returns-in_err-steps
returns-in_err-steps g c =
    let p = err_from_is_err_and c.from_residual.result c.from_residual.ensures.1 in
    rw (p.1, p.2) (ap (λ cs. string_bytes c.args.out.now ++ cs) (sym (told-unopened _ _ _ c.in_err-steps.ensures)))

pub returns-in_default : goal.returns-in_default
returns-in_default g c = told-nothing _ _ (told-none _ _ _ c.in_ok-steps.ensures c.in_default.ensures.steps.0.0)

pub returns-in_err-first : goal.returns-in_err-first
returns-in_err-first g c =
    let p = err_from_is_err_and c.from_residual-in_err-first.result c.from_residual-in_err-first.ensures.1 in
    rw (p.1, p.2)
    (ap (λ cs. string_bytes c.args.out.now ++ cs) (sym (told-fault _ _ _ c.in_ok-steps.ensures _ _ _ c.in-Some.ensures.steps.0 c.in_err-first.was)))

pub returns-in_default-step : goal.returns-in_default-step
returns-in_default-step g c =
    told-nothing _ _ (told-first _ _ _ c.in_ok-steps.ensures _ _ c.in_ok-first.first _ c.in-Some.ensures.steps.0 c.in_ok-first.was c.in_default-step.is)

pub returns : goal.returns
returns g c =
    subst (λ told. Plays (string_bytes c.args.out.now) (string_bytes c.play_plan.new.out) told c.play_plan.result)
    (sym (told-first _ _ _ c.in_ok-steps.ensures _ _ c.in_ok-first.first _ c.in-Some.ensures.steps.0 c.in_ok-first.was c.in-SetUp.is)) c.play_plan.ensures
