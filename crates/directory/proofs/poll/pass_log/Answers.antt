-- A TRUNCATE drops, and any other record is passed.
use Rattle.std.proofs.Common.{arith}
use Rattle.directory.proofs.Passing.{more, advanced, dropped}
use Rattle.directory.proofs.poll.pass_log.Goals as goal

pub returns-in-Truncate-clause-after : goal.returns-in-Truncate-clause-after
returns-in-Truncate-clause-after c = λ s x here.
    dropped c.args.log.now c.args.slots.now c.args.kind s x here c.in-Truncate.is c.saturating_add-n.result
    (omega (arith, c.saturating_add-n.ensures, more c.args.log.now c.args.slots.now c.args.kind s x here, s.len))
    _ _ c.drop_front.ensures.answers c.drop_front.ensures.ring c.drop_front.ensures.holds

pub returns-in_default : goal.returns-in_default
returns-in_default c = record {
  stands = c.advance.ensures.stands _;
  after = λ s x here. advanced c.args.log.now c.args.slots.now c.args.kind s x here c.in_default.not-Truncate _ _ c.advance.ensures.answers c.advance.ensures.ring;
}
