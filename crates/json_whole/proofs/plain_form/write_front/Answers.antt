use Rattle.std.proofs.Common.{arith}
use Rattle.std.proofs.lemmas.Grind.{common_steps}
use Rattle.json_whole.proofs.Steps.{run_written}
use Rattle.json_whole.proofs.plain_form.write_front.Goals as goal

pub returns-clause-written : goal.returns-clause-written
returns-clause-written c = grind (
  arith,
  common_steps,
  run_written c.args.out.now.items c.args.text.now c.args.len c.requires.same c.requires.run,
)
