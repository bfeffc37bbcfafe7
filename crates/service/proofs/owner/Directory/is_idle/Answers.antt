-- Each way out of asking whether a coordinator is idle.
use Rattle.std.proofs.Common.{◌∙◌}
use Rattle.service.proofs.Resting.{past-plan, past-table, resting-entry}
use Rattle.service.proofs.owner.Directory.is_idle.Goals as goal

pub returns-then-c-self : goal.returns-then-c-self
returns-then-c-self g c = past-plan _ _ _ _ _ c.if-c-self.true

pub returns-in-Some : goal.returns-in-Some
returns-in-Some g c =
    let entry = c.in-Some.ensures.lookup in
    rw (← c.deref.ensures.value)
    (c.is_resting.ensures ∙ resting-entry _ c.deref.result.now _ _ _ c.in-Some.own.now c.if-c-self.false entry.3.0 entry.1)

pub returns-in-None : goal.returns-in-None
returns-in-None g c = rw (← c.deref.ensures.value) (past-table _ c.deref.result.now _ _ _ c.in-None.ensures.lookup.3)
