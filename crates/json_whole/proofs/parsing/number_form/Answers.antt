use Rattle.std.proofs.Common.{◌≡◌, arith}
use Rattle.std.proofs.lemmas.Grind.{common_steps}
use Rattle.json_whole.proofs.PlainSteps.{form_written}
use Rattle.json_whole.proofs.parsing.number_form.Goals as goal

pub returns-in_default-clause-tokens : goal.returns-in_default-clause-tokens
returns-in_default-clause-tokens c =
    let run : c.first_run-run.result.now ≡ c.args.number.now = grind (arith, common_steps) in
    form_written c.form_of.result c.args.number.now (rw run at c.form_of.ensures)
