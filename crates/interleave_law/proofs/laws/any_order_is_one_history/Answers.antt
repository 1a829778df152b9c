use Rattle.interleave_law.proofs.OneHistory.{one_first, one_runs}
use Rattle.flux_defs.specs.Interleaving.{first_machine}
use Rattle.interleave_law.proofs.laws.any_order_is_one_history.Goals as goal

pub returns : goal.returns
returns c = λ g script events m runs. one_runs g script events (first_machine script) m (one_first g script) runs
