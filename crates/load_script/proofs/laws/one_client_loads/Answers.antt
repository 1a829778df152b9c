use Rattle.load_script.proofs.Read.{one_client}
use Rattle.load_script.proofs.laws.one_client_loads.Goals as goal

pub returns : goal.returns
returns c = one_client
