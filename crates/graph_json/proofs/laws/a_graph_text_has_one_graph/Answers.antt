use Rattle.graph_json.proofs.TextLaws.{one_graph_told}
use Rattle.graph_json.proofs.laws.a_graph_text_has_one_graph.Goals as goal

pub returns : goal.returns
returns c bytes g h a b = one_graph_told bytes g h a b
