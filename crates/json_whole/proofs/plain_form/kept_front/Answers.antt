use Rattle.std.proofs.Common.{sym, drop_of_length-le, arith}
use Rattle.std.proofs.lemmas.Grind.{common_steps}
use Rattle.json_whole.proofs.Steps.{no_run, run_stays}
use Rattle.json_whole.proofs.plain_form.kept_front.Goals as goal

pub runs-preserved : goal.runs-preserved
runs-preserved c =
    grind (arith, common_steps, run_stays c.args.text.now c.run_start-start.result c.run_start-start.ensures.run)

pub returns-clause-form : goal.returns-clause-form
returns-clause-form c = rw (drop_of_length-le c.args.text.now c.runs-test.false) (sym no_run)
