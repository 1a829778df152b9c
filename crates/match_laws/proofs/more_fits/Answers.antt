use Rattle.flux_defs.specs.Available.{IsAvailable}
use Rattle.match_laws.proofs.MoreAvailable.{fits_more}
use Rattle.match_laws.proofs.more_fits.Goals as goal

pub returns : goal.returns
returns c = λ vertices s t w x along. fits_more vertices (IsAvailable s w) (IsAvailable t x) along
