use Rattle.load_script.proofs.Read.{no_limit}
use Rattle.load_script.proofs.laws.loads_pass_no_limit.Goals as goal

pub returns : goal.returns
returns c = no_limit
