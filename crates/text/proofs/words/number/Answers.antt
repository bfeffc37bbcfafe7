-- Digits are read as their number, unless it is too big.
use Rattle.std.proofs.Common.{◌∙◌, rules}
use Rattle.text.proofs.Reading.{number-parsed}
use Rattle.text.proofs.words.number.Goals as goal

pub returns : goal.returns
returns c = c.or.ensures ∙ number-parsed c.args.word.now c.parse.result c.parse.ensures.value.0 (search rules)
