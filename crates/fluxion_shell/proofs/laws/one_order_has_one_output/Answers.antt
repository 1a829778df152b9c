use Rattle.fluxion_shell.proofs.Output.{one_output}
use Rattle.fluxion_shell.proofs.laws.one_order_has_one_output.Goals as goal

pub returns : goal.returns
returns c = one_output
