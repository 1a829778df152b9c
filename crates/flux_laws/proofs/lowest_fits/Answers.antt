use Rattle.flux_laws.proofs.Determined as laws
use Rattle.flux_laws.proofs.lowest_fits.Goals as goal

pub returns : goal.returns
returns c = laws.lowest_fits
