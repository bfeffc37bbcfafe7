-- A line that belongs there is pushed, and the others are left.
use Rattle.std.proofs.Common.{◌∙◌, ap, arith}
use Rattle.std.specs.List.{filter}
use Rattle.std.proofs.lemmas.List.{take_all}
use Rattle.protocol.specs.declared.record.Line.{Line}
use Rattle.handling.specs.Sending.{is_picked}
use Rattle.handling.proofs.Picking.{picked-is}
use Rattle.handling.proofs.records.lines_for.Goals as goal

pub returns : goal.returns
returns c = λ short.
    c.loop-line.invariant short
    ∙ ap (filter (λ (l : Line). is_picked c.args.plan.now c.args.kind c.args.m l.address)) (take_all _ c.args.lines.now (omega (arith, c.loop-line-test.false)))
    ∙ picked-is c.args.plan.now c.args.kind c.args.m c.args.lines.now
