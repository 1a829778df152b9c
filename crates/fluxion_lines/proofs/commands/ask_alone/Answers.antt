use Rattle.std.proofs.Common.{◌≡◌, ◌==◌, sym, ◌∙◌, ap, false, Err, length, codes, if◌then◌else◌}
use Rattle.std.proofs.lemmas.Result.{IfOk-weaker}
use Rattle.fluxion_lines.specs.Words.{skipped}
use Rattle.fluxion_lines.specs.Commands.{is_none, asked, ask_alone}
use Rattle.fluxion_lines.proofs.CommandLaws.{none_len}
use Rattle.fluxion_lines.proofs.commands.ask_alone.Goals as goal

pub returns-clause-read : goal.returns-clause-read
returns-clause-read c =
    let graph = c.args.graph.now in
    let form = c.args.form in
    let words = c.args.words.now in
    let spec = c.skipped-spec.ensures in
    let some : is_none (skipped words) ≡ false = sym (none_len (skipped words))
    ∙ (ap (λ w. length w == 0) (sym spec) ∙ (sym c.is_empty.ensures ∙ c.if-is_empty.false)) in
    IfOk-weaker c.asked.result _ (λ read. read ≡ ask_alone graph form words)
    (λ read is. is ∙ (ap (asked graph form) spec
    ∙ sym (ap (λ b. if b then Err (codes "words") else asked graph form (skipped words)) some))) c.asked.ensures.read
