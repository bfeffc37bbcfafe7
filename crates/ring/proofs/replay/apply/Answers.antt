-- A ring refuses what a queue of its size refuses.
use Rattle.ring.proofs.Queues.{append-answers, drop-answers}
use Rattle.ring.proofs.replay.apply.Goals as goal

pub returns-in-Append-clause-answers : goal.returns-in-Append-clause-answers
returns-in-Append-clause-answers g c = append-answers c.args.ring.now c.args.slots.now c.args.operation _ c.in-Append.entry c.in-Append.is c.append.ensures.answers

pub returns-in-DropFront-clause-answers : goal.returns-in-DropFront-clause-answers
returns-in-DropFront-clause-answers g c = drop-answers c.args.ring.now c.args.slots.now c.args.operation _ c.in-DropFront.n c.in-DropFront.is c.drop_front.ensures.answers
