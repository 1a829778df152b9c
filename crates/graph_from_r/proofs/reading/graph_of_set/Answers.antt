use Rattle.json_whole.specs.Values.{view}
use Rattle.resource_set_r.proofs.SetFacts.{facts_of}
use Rattle.graph_from_r.proofs.Rise.{fair_of}
use Rattle.graph_from_r.proofs.reading.graph_of_set.Goals as goal

pub graph_with-requires-clause-apart : goal.graph_with-requires-clause-apart
graph_with-requires-clause-apart c = (facts_of (view c.args.value.now) c.args.set.now c.requires).apart

pub graph_with-requires-clause-hosts : goal.graph_with-requires-clause-hosts
graph_with-requires-clause-hosts c = (facts_of (view c.args.value.now) c.args.set.now c.requires).hosts

pub graph_with-requires-clause-rows : goal.graph_with-requires-clause-rows
graph_with-requires-clause-rows c =
    fair_of c.args.set.now.rows (facts_of (view c.args.value.now) c.args.set.now c.requires).rows
