use Rattle.prune_laws.proofs.Demanded.{too_little_fit}
use Rattle.prune_laws.proofs.too_little_fits_none.Goals as goal

pub returns : goal.returns
returns c = too_little_fit
