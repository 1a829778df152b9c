use Rattle.graph_json.proofs.FitBuilt.{read_fits}
use Rattle.graph_json.proofs.ReadBack.{read_back}
use Rattle.graph_json.proofs.laws.written_graphs_are_read_back.Goals as goal

pub returns : goal.returns
returns c = record { written = read_back; again = λ bytes g text. read_back g (read_fits bytes g text) }
