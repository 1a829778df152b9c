use Rattle.std.proofs.Common.{refl}
use Rattle.flux_defs.specs.Present.{up_with}
use Rattle.calls_compared.proofs.adding.first_gone.Goals as goal

pub returns : goal.returns
returns g c = λ jobs stands. c.still_free.ensures.answer (up_with jobs) (stands, refl)
