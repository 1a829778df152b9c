use Rattle.fluxion_shell.proofs.Output.{one_output_of_one}
use Rattle.fluxion_shell.proofs.laws.one_client_has_one_output.Goals as goal

pub returns : goal.returns
returns c = one_output_of_one
