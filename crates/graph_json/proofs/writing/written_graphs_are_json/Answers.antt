use Rattle.graph_json.proofs.WrittenLaws.{read-graph_text}
use Rattle.graph_json.proofs.writing.written_graphs_are_json.Goals as goal

pub returns : goal.returns
returns c g small = read-graph_text g small
