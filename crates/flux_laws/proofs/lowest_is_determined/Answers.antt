use Rattle.flux_laws.proofs.Determined.{lowest_once}
use Rattle.flux_laws.proofs.lowest_is_determined.Goals as goal

pub returns : goal.returns
returns c = lowest_once
