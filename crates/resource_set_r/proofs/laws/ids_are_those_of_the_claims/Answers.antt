use Rattle.resource_set_r.proofs.SaidLaws.{ids_said}
use Rattle.resource_set_r.proofs.laws.ids_are_those_of_the_claims.Goals as goal

pub returns : goal.returns
returns c = ids_said
