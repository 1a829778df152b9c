use Rattle.std.proofs.Common.{◌↔◌, ◌<◌, IsTrue, arith, rules}
use Rattle.resource_graph.specs.Preorder.{plain}
use Rattle.graph_build.specs.Faults.{IsRoot, IsSecondRoot}
use Rattle.graph_build.proofs.FindLaws.{first_fact}
use Rattle.graph_build.proofs.CheckLaws.{after_first}
use Rattle.graph_build.proofs.links.second_root.Goals as goal

pub returns-clause-first : goal.returns-clause-first
returns-clause-first c =
    let vertices = c.args.vertices.now in
    let first = c.args.first in
    first_fact (IsSecondRoot (plain vertices)) _ _ _ c.first_where.result c.first_where.ensures
    (λ v b low high is.
    let root : IsTrue b ↔ IsRoot (plain vertices) v = search rules in
    (λ h. (root.0 h, (first, omega arith, c.requires.root)), λ second. root.1 second.0))
    (λ v second. (
      (let after : first < v = after_first vertices first c.requires.root c.requires.least v second in omega arith),
      second.0.0,
    ))
