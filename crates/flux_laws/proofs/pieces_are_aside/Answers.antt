use Rattle.flux_defs.specs.Available.{IsAvailable}
use Rattle.flux_laws.proofs.Aside.{pieces_aside}
use Rattle.flux_laws.proofs.pieces_are_aside.Goals as goal

pub returns : goal.returns
returns c = λ g names valid need vn s w. pieces_aside g names valid need vn (IsAvailable s w)
