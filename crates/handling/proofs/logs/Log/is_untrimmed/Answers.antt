-- The last record decides, and with no record there is nothing to trim.
use Rattle.std.proofs.Common.{not, sym, ap, ◌∙◌, map}
use Rattle.ring.proofs.Going.{left-none_back, left-some_back}
use Rattle.protocol.specs.Record.{note, is_untrimmed}
use Rattle.handling.proofs.Trimming.{untrimmed_last}
use Rattle.handling.proofs.logs.Log.is_untrimmed.Goals as goal

pub returns-in_default : goal.returns-in_default
returns-in_default c = λ s. ap (λ xs. is_untrimmed (map note xs)) (sym (left-none_back _ _ c.in_default.ensures.steps) ∙ c.entries.ensures.stands s)

pub returns : goal.returns
returns c = λ s. ap not c.is_truncate.ensures ∙ sym (untrimmed_last _ _ _ (left-some_back _ _ _ c.in-Some.ensures.steps)) ∙ ap (λ xs. is_untrimmed (map note xs)) (c.entries.ensures.stands s)
