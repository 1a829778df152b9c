use Rattle.resource_set_r.proofs.SetsBack.{set_back}
use Rattle.resource_set_r.proofs.laws.written_sets_are_read_back.Goals as goal

pub returns : goal.returns
returns c g job can = set_back g job can
