-- The iterator hands out all steps of the file.
use Rattle.std.proofs.Common.{length, sym, ap, ◌∙◌, subst, ◌≤◌}
use Rattle.steps.specs.Reading.{steps_left, steps_position}
use Rattle.playback.proofs.Opening.{few-steps}
use Rattle.playback.proofs.transcript.numbered.Goals as goal

pub returns : goal.returns
returns c =
    let start = steps_position c.in_ok-open.field-0 in
    let opened = c.in_ok-open.ensures.position in
    let left = ap steps_left c.enumerate.ensures.source ∙ c.into_iter.ensures.into_iter_gives in (
      record { first = c.enumerate.ensures.count; few = subst (λ ss. length ss ≤ 65536) (sym left) (few-steps c.args.bytes.now start opened) },
      start,
      sym opened,
      left,
    )
