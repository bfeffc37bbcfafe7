-- What a ticket holds.
use Rattle.std.specs.Prelude.{ℕ}
use Rattle.protocol.specs.declared.call.Outcome.{Outcome}
use Rattle.tickets.specs.declared.draft.Draft.{Draft}
use Rattle.tickets.specs.declared.filing.Filing.{Filing}

-- the coordinator whose transaction it is
abbrev pub draft_coordinator : Draft → ℕ
draft_coordinator d = d.coordinator

abbrev pub filing_coordinator : Filing → ℕ
filing_coordinator f = f.coordinator

-- what was reported of the transaction so far
abbrev pub filing_reported : Filing → Outcome
filing_reported f = f.reported
