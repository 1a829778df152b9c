use Rattle.std.proofs.Common.{arith}
use Rattle.std.proofs.lemmas.Grind.{common_steps}
use Rattle.json_whole.proofs.Steps.{plain_end}
use Rattle.json_whole.proofs.plain_form.write_plain.Goals as goal

pub returns : goal.returns
returns c = grind (arith, common_steps, plain_end)
