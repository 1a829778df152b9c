use Rattle.graph_json.proofs.FitBuilt.{read_fits}
use Rattle.graph_json.proofs.laws.graphs_of_files_fit_files.Goals as goal

pub returns : goal.returns
returns c bytes g text = read_fits bytes g text
