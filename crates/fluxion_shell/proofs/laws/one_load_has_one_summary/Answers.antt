use Rattle.fluxion_shell.proofs.Output.{one_summary}
use Rattle.fluxion_shell.proofs.laws.one_load_has_one_summary.Goals as goal

pub returns : goal.returns
returns c = one_summary
