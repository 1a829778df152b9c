use Rattle.std.proofs.Common.{◌≡◌, ◌==◌, sym, ◌∙◌, ap, false, Some, Ok, length}
use Rattle.fluxion_lines.specs.Words.{skipped, first_word, after_word}
use Rattle.text_forms.specs.Numbers.{number_in}
use Rattle.fluxion_lines.specs.Commands.{is_none, asked}
use Rattle.fluxion_lines.proofs.CommandLaws.{read_job, none_len}
use Rattle.fluxion_lines.proofs.commands.job_and_ask.Goals as goal

pub returns-in-Ok-clause-read : goal.returns-in-Ok-clause-read
returns-in-Ok-clause-read c =
    let words = c.args.words.now in
    let word = c.first_word.ensures.word in
    let spec = c.skipped-spec.ensures ∙ ap skipped c.first_word.ensures.rest in
    let some : is_none (first_word words) ≡ false = sym (none_len (first_word words))
    ∙ (ap (λ w. length w == 0) (sym word) ∙ (sym c.is_empty.ensures ∙ c.if-is_empty.false)) in
    let more : is_none (skipped (after_word words)) ≡ false =
    sym (none_len (skipped (after_word words)))
    ∙ (ap (λ w. length w == 0) (sym spec) ∙ (sym c.is_empty-else-is_empty.ensures ∙ c.if-is_empty-2.false)) in
    let number : number_in (first_word words) ≡ Some c.in-Some.job =
    ap number_in (sym word) ∙ (sym c.number_in.ensures ∙ c.in-Some.is) in
    let read : asked c.args.graph.now c.args.form (skipped (after_word words)) ≡ Ok c.in-Ok.ask =
    ap (asked c.args.graph.now c.args.form) (sym spec) ∙ (sym c.in_ok-ask.ensures.read ∙ c.in-Ok.is) in
    read_job c.args.graph.now c.args.form words c.in-Some.job c.in-Ok.ask some more number read
