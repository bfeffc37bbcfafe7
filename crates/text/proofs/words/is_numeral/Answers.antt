-- All bytes of a word that is not empty are asked for.
use Rattle.std.proofs.Common.{◌≡◌, ◌&&◌, true, ltb, length, Bool, sym, ap, ◌∙◌, rules, tests}
use Rattle.std.specs.Char.{is_ascii_digit}
use Rattle.std.specs.List.{list_all}
use Rattle.std.proofs.lemmas.Iterator.Search.{all_from_yields_List}
use Rattle.std.proofs.lemmas.Iterator.Adapters.{YieldsList-from_bytes}
use Rattle.text.proofs.words.is_numeral.Goals as goal

pub returns-then-not-is_empty : goal.returns-then-not-is_empty
returns-then-not-is_empty c =
    let w = c.args.word.now in
    let some : ltb 0 (length w) ≡ true = search (rules, tests) in
    all_from_yields_List is_ascii_digit _ _ c.all.result c.all.ensures.ran (YieldsList-from_bytes w c.bytes.ensures.rest) (λ x b q k. search (rules, tests))
    ∙ sym (ap (λ (b : Bool). b && list_all is_ascii_digit w) some)
