-- A decoded step is encoded as its entry.
use Rattle.std.proofs.Common.{◌≡◌, Ok, rules}
use Rattle.steps.specs.Entries.{decoded}
use Rattle.steps.proofs.Coding.{encodes-back}
use Rattle.steps.proofs.decode.decode.Goals as goal

pub returns-clause-encodes_back : goal.returns-clause-encodes_back
returns-clause-encodes_back c =
    let is : decoded c.args.place c.args.content.now ≡ Ok c.in-Some.step = search rules in
    encodes-back c.args.place c.args.content.now c.in-Some.step (λ i. (c.type_inv.content i).fits) is
