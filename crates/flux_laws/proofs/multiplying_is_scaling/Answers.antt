use mathlib.Core.Path.{transport, transport⁻¹}
use Rattle.flux_defs.specs.Available.{IsAvailable}
use Rattle.flux_laws.proofs.Scaling.{fits_scaled}
use Rattle.flux_laws.proofs.multiplying_is_scaling.Goals as goal

pub returns : goal.returns
returns c = λ s w k scope needs claims. (
  transport (fits_scaled s.vertices (IsAvailable s w) k scope needs claims),
  transport⁻¹ (fits_scaled s.vertices (IsAvailable s w) k scope needs claims),
)
