-- What a step is encoded as is decoded as that step.
use Rattle.std.proofs.Common.{◌≡◌, IfOk, vec_items, rules}
use Rattle.steps.specs.Encoding.{encoded}
use Rattle.steps.proofs.Encoded.{made-decodes}
use Rattle.steps.proofs.encode.encode.Goals as goal

pub returns-in-SetUp-clause-decodes_back : goal.returns-in-SetUp-clause-decodes_back
returns-in-SetUp-clause-decodes_back c =
    let is : IfOk c.encode_plan.result (λ v. vec_items v ≡ encoded c.args.step.now) = search rules in
    made-decodes vec_items c.encode_plan.result c.args.step.now is

pub returns-in-Call-clause-decodes_back : goal.returns-in-Call-clause-decodes_back
returns-in-Call-clause-decodes_back c =
    let is : IfOk c.encode_call.result (λ v. vec_items v ≡ encoded c.args.step.now) = search rules in
    made-decodes vec_items c.encode_call.result c.args.step.now is
