-- The loop makes the calls in their order.
use Rattle.std.proofs.Common.{◌∷◌, inl, arith, rules, ap, ◌∙◌, sym, refl, subst}
use Rattle.std.proofs.lemmas.Result.{err_from_is_err_and}
use Rattle.std.specs.Iterator.Adapters.{enumerate_source}
use Rattle.steps.specs.Reading.{steps_left}
use Rattle.playback.specs.Playing.{Numbered}
use Rattle.playback.proofs.Playing.{played-none, played-next, played-fault}
use Rattle.playback.proofs.transcript.play_calls.Goals as goal

pub loop-entry-init : goal.loop-entry-init
loop-entry-init g c =
    let same = c.into_iter-entry-iterator.ensures.into_iter_gives in
    let numbered = subst (Numbered 1) (sym same) c.requires.numbered in (
      (tt, tt, inl (omega (arith, numbered.first, numbered.few))),
      tt,
      refl,
      played-none _ c.requires.starts.fine _ _ _ _ _ _ c.requires.starts.ready numbered.first (ap (λ s. steps_left (enumerate_source s)) same) refl,
    )

pub returns-in_err-call : goal.returns-in_err-call
returns-in_err-call g c =
    let p = err_from_is_err_and c.from_residual.result c.from_residual.ensures.1 in
    rw (p.1, p.2) (played-fault _ c.requires.starts.fine _ _ _ _ _ _ _ _ c.loop-entry.invariant.3 (c.in-Some.ensures.steps.0 ∙ ap (λ i. i ∷ steps_left (enumerate_source c.next.new.self)) c.in_err-call.was))

pub loop-entry-preserved : goal.loop-entry-preserved
loop-entry-preserved g c =
    let h = c.loop-entry.invariant in
    let turn = c.in-Some.ensures.steps in (
      search rules,
      search rules,
      c.play_call.ensures.plan ∙ h.2,
      played-next _ c.loop-entry.directory.plan _ _ _ _ _ _ _ _ _ _ _ _ c.in_ok-call.field-0 _ c.requires.starts.fine h.2 h.3 turn.0 c.in_ok-call.was c.in-Call.is
          (record { coordinators = c.loop-entry.directory.coordinators_fit; records = c.loop-entry.directory.records_fit; replies = c.loop-entry.directory.replies_fit })
          turn.1 turn.2 c.in_ok-play_call.ensures.tells,
    )
