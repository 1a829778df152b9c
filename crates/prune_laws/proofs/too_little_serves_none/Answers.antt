use Rattle.prune_laws.proofs.Demanded.{too_little_none}
use Rattle.prune_laws.proofs.too_little_serves_none.Goals as goal

pub returns : goal.returns
returns c = too_little_none
