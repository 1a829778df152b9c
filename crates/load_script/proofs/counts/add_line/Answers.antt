use Rattle.std.proofs.Common.{arith}
use Rattle.std.proofs.lemmas.Grind.{common_steps}
use Rattle.load_script.specs.Counts.{count_line}
use Rattle.load_script.proofs.counts.add_line.Goals as goal

pub returns : goal.returns
unfolding count_line
returns c = grind (arith, common_steps)
