-- Each turn takes the line of the entry that is read there.
use Rattle.std.proofs.Common.{◌≡◌, ◌<◌, Some, None, Ok, Err, sym, ap, ◌∙◌}
use Rattle.std.proofs.lemmas.Result.{err_from_is_err_and}
use Rattle.std.proofs.ByRecursion.{All-from_get_or}
use Rattle.std.specs.String.{string_bytes}
use Rattle.steps.specs.declared.fault.EntryFault.TheVariants.{Frame}
use Rattle.steps.specs.Frames.{entry_at, passed}
use Rattle.steps.specs.Reading.{position, said}
use Rattle.text.specs.Fields.{behind}
use Rattle.text.specs.Printing.{entry_line, and_lines, and_others, lines_from, text_of}
use Rattle.text.proofs.Unrolling.{unrolled, line-added, line-faulty, behind-none}
use Rattle.text.proofs.Agreeing.{faults-of-steps}
use Rattle.text.proofs.RoundTrip.{reads-back}
use Rattle.text.proofs.print.to_text.Goals as goal

pub returns-in_err-entry-clause-text : goal.returns-in_err-entry-clause-text
returns-in_err-entry-clause-text c =
    let p = err_from_is_err_and c.from_residual-in_err-entry.result c.from_residual-in_err-entry.ensures.1 in
    let here = position c.loop-text.reader in
    let so_far = behind (string_bytes c.loop-text.text) in
    let is : text_of c.args.bytes.now ≡ Err (Frame c.in_err-entry.field-0.0) =
    c.loop-text.invariant ∙ ap so_far (unrolled here ∙ ap (λ o. and_others o (lines_from (passed here))) (sym c.in_err-entry.ensures.entry)) in
    rw (p.1, p.2) is

pub loop-text-preserved : goal.loop-text-preserved
loop-text-preserved c =
    let here = position c.loop-text.reader in
    let text = string_bytes c.loop-text.text in
    let more = string_bytes c.add_entry.new.out in
    let line = entry_line c.in-Some.entry.place c.in-Some.entry.content.now in
    let read : said (Ok (Some c.in-Some.entry)) ≡ entry_at here = ap (λ o. said (Ok o)) (sym c.in-Some.is) ∙ c.in_ok-entry.ensures.entry in
    c.loop-text.invariant
    ∙ ap (behind text) (unrolled here ∙ ap (λ o. and_others o (lines_from (passed here))) (sym read))
    ∙ line-added text more line (lines_from (passed here)) c.in_ok-add_entry.ensures
    ∙ ap (λ q. behind more (lines_from q)) (sym c.next.ensures.after)

pub returns-in_err-add_entry-clause-text : goal.returns-in_err-add_entry-clause-text
returns-in_err-add_entry-clause-text c =
    let p = err_from_is_err_and c.from_residual-in_err-add_entry.result c.from_residual-in_err-add_entry.ensures.1 in
    let here = position c.loop-text.reader in
    let text = string_bytes c.loop-text.text in
    let line = entry_line c.in-Some.entry.place c.in-Some.entry.content.now in
    let read : said (Ok (Some c.in-Some.entry)) ≡ entry_at here = ap (λ o. said (Ok o)) (sym c.in-Some.is) ∙ c.in_ok-entry.ensures.entry in
    let is : text_of c.args.bytes.now ≡ behind text (and_lines line (lines_from (passed here))) =
    c.loop-text.invariant ∙ ap (behind text) (unrolled here ∙ ap (λ o. and_others o (lines_from (passed here))) (sym read)) in
    rw (p.1, p.2) (line-faulty text (text_of c.args.bytes.now) line (lines_from (passed here)) c.in_err-add_entry.field-0.0 is c.in_err-add_entry.ensures)

pub returns-clause-text : goal.returns-clause-text
returns-clause-text c =
    let here = position c.loop-text.reader in
    let text = string_bytes c.loop-text.text in
    let read : said (Ok None) ≡ entry_at here = ap (λ o. said (Ok o)) (sym c.in_default.is) ∙ c.in_ok-entry.ensures.entry in
    c.loop-text.invariant
    ∙ ap (behind text) (unrolled here ∙ ap (λ o. and_others o (lines_from (passed here))) (sym read))
    ∙ behind-none text

pub returns-clause-reads_back : goal.returns-clause-reads_back
returns-clause-reads_back c =
    let bytes = c.args.bytes.now in
    reads-back bytes (string_bytes c.loop-text.text) (All-from_get_or (λ d. d < 256) bytes 0 (λ i _. (c.type_inv.bytes i).fits)) (returns-clause-text c)

pub returns-clause-faults_of_steps : goal.returns-clause-faults_of_steps
returns-clause-faults_of_steps c = faults-of-steps

pub returns-in_err-reader-clause-faults_of_steps : goal.returns-in_err-reader-clause-faults_of_steps
returns-in_err-reader-clause-faults_of_steps c = faults-of-steps

pub returns-in_err-entry-clause-faults_of_steps : goal.returns-in_err-entry-clause-faults_of_steps
returns-in_err-entry-clause-faults_of_steps c = faults-of-steps

pub returns-in_err-add_entry-clause-faults_of_steps : goal.returns-in_err-add_entry-clause-faults_of_steps
returns-in_err-add_entry-clause-faults_of_steps c = faults-of-steps
