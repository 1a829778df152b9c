use Rattle.resource_set_r.proofs.SaidLaws.{ranks_said}
use Rattle.resource_set_r.proofs.laws.ranks_are_those_of_the_claims.Goals as goal

pub returns : goal.returns
returns c = ranks_said
