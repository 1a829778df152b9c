use Rattle.earliest_search.proofs.StartLaws.{start_before}
use Rattle.earliest_search.proofs.starts_wait_for_ends.Goals as goal

pub returns : goal.returns
returns c = start_before
