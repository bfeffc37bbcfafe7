use Rattle.std.proofs.Common.{◌≡◌, ◌≤◌, length, take, vec_items, vec_len, vec_capacity}
use Rattle.memory.specs.Requests.{responses, words_after_all}
use Rattle.memory.proofs.runs.run.Given as goal

abbrev pub invariant-loop-request : goal.invariant-loop-request
invariant-loop-request g l =
    let ws = g.M.Memory.words l.initial.memory in
    let done = take l.request-index l.requests in
    (vec_len l.given ≡ l.request-index) × (length l.requests ≤ vec_capacity l.given) × (vec_items l.given ≡ responses ws done) × (g.M.Memory.words l.memory ≡ words_after_all ws done)
