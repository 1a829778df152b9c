use Rattle.graph_json.proofs.TextLaws.{no_fault_told}
use Rattle.graph_json.proofs.reading.graph_texts_have_no_fault.Goals as goal

pub returns : goal.returns
returns c bytes graph fault text told = no_fault_told bytes graph fault text told
