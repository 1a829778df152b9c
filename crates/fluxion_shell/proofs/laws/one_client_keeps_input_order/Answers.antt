use Rattle.fluxion_shell.proofs.Output.{input_ordered}
use Rattle.fluxion_shell.proofs.laws.one_client_keeps_input_order.Goals as goal

pub returns : goal.returns
returns c = input_ordered
