use Rattle.flux_defs.specs.Graph.{Everywhere}
use Rattle.flux_defs.specs.Available.{IsAvailable}
use Rattle.flux_defs.specs.Asks.{scene_of}
use Rattle.flux_laws.proofs.Aside.{separate_fits}
use Rattle.flux_laws.proofs.fits_are_separate.Goals as goal

pub returns : goal.returns
returns c = λ g names valid ask vs present w.
    separate_fits g names valid (IsAvailable (scene_of g.vertices present ask) w) 1 Everywhere ask.needs vs
