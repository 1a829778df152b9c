use Rattle.std.proofs.Common.{◌≡◌, drop}
use Rattle.json_whole.specs.Values.{items_view}
use Rattle.graph_json.specs.Nodes.{first_misfit}
use Rattle.graph_json.proofs.nodes.first_misfit.Given as goal

abbrev pub invariant-members : goal.invariant-members
invariant-members l =
    first_misfit l.at l.member (items_view (drop l.member l.members)) ≡ first_misfit l.at 0 (items_view l.members)
