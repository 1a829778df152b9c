use Rattle.flux_defs.specs.Available.{IsAvailable}
use Rattle.match_laws.proofs.NeedLists.{fits_alone, alone_fits}
use Rattle.match_laws.proofs.needs_fit_alone.Goals as goal

pub returns : goal.returns
returns c = λ s w k scope needs.
    (fits_alone s.vertices (IsAvailable s w) k scope needs, alone_fits s.vertices (IsAvailable s w) k scope needs)
