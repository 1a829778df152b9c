use Rattle.std.proofs.Common.{length}
use Rattle.calls_compared.proofs.adding.+fit_together.Given as goal

abbrev pub decreases-fit_together : goal.decreases-fit_together
decreases-fit_together l = length l.claims.now
