use Rattle.std.proofs.Common.{◌≡◌, take, Decides}
use Rattle.memory.specs.Requests.{responses, words_after_all}
use Rattle.memory.proofs.runs.alike.Given as goal

abbrev pub invariant-loop-request : goal.invariant-loop-request
invariant-loop-request g l =
    let ws = g.A.Memory.words l.initial.one in
    let vs = g.B.Memory.words l.initial.other in
    let done = take l.request-index l.requests in
    Decides l.same (responses ws done ≡ responses vs done) × (g.A.Memory.words l.one ≡ words_after_all ws done) × (g.B.Memory.words l.other ≡ words_after_all vs done)
