use Rattle.std.proofs.Common.{◌<◌, ◌≤◌, length, arith}
use Rattle.flux_defs.specs.declared.limits.TheConstants.{MOST_VERTICES}
use Rattle.graph_build.proofs.Facts.{at_most}
use Rattle.graph_build.specs.Checks.{graph_in}
use Rattle.graph_build.proofs.RowLaws.{parents_clear}
use Rattle.graph_build.proofs.checks.check_devices.Goals as goal

pub house_table-requires-clause-parents : goal.house_table-requires-clause-parents
house_table-requires-clause-parents c = parents_clear (graph_in c.args.kinds.now c.args.vertices.now)
    c.requires.links.1.1.0

pub overflow_cast-result-in-Some-2 : goal.overflow_cast-result-in-Some-2
overflow_cast-result-in-Some-2 c =
    let few : length c.args.vertices.now ≤ MOST_VERTICES = at_most (length c.args.vertices.now) MOST_VERTICES
    c.requires.links.0 in
    let lt : c.in-Some-2.vertex < length c.args.vertices.now = rw c.in-Some-2.is at c.in_ok-vertex.ensures.within in
    omega arith
