use Rattle.flux_defs.specs.Available.{IsAvailable}
use Rattle.flux_laws.proofs.Scaling.{scaled_less}
use Rattle.flux_laws.proofs.Takes.{takes_less}
use Rattle.flux_laws.proofs.fewer_copies_fit.Goals as goal

pub returns : goal.returns
returns c = λ s w. scaled_less s.vertices (IsAvailable s w) (takes_less s w)
