use Rattle.std.proofs.Common.{◌≡◌, ◌<◌, None, Some, length, sym, ◌∙◌, arith}
use Rattle.std.proofs.lemmas.Option.{slice_get-get_or}
use Rattle.flux_defs.specs.Graph.{parent_of}
use Rattle.resource_graph.proofs.ChainLaws.{parent_at, no_vertex}
use Rattle.resource_graph.proofs.TableLaws.{node_here, no_node_here, node_from_parent, node_of_root, self_node}
use Rattle.resource_graph.proofs.TableLaws.{parent_before}
use Rattle.resource_graph.proofs.tables.node_at.Goals as goal

pub returns-then-is_some : goal.returns-then-is_some
returns-then-is_some c = self_node c.args.vertices.now c.requires.order c.args.v c.requires.within
    (node_here c.args.vertices.now c.args.v c.requires.within (sym c.if-is_some.ensures))

pub bounds-nodes-parent : goal.bounds-nodes-parent
bounds-nodes-parent c =
    let before : c.in-Some.parent < c.args.v = parent_before c.args.vertices.now c.requires.order c.args.v
    c.in-Some.parent (sym (parent_at c.args.vertices.now c.args.v no_vertex c.requires.within) ∙ c.in-Some.is) in
    omega (arith, c.requires.before.as_many)

pub returns-in-Some : goal.returns-in-Some
returns-in-Some c =
    let parent : parent_of c.args.vertices.now c.args.v ≡ Some c.in-Some.parent =
    sym (parent_at c.args.vertices.now c.args.v no_vertex c.requires.within) ∙ c.in-Some.is in
    let before : c.in-Some.parent < c.args.v =
    parent_before c.args.vertices.now c.requires.order c.args.v c.in-Some.parent parent in
    let within : c.in-Some.parent < length c.args.nodes.now = omega (arith, c.requires.before.as_many) in
    node_from_parent c.args.vertices.now c.requires.order c.args.v c.in-Some.parent _ c.requires.within
    (no_node_here c.args.vertices.now c.args.v c.requires.within (sym c.if-is_some.ensures)) parent
    (c.requires.before.each c.in-Some.parent _ (slice_get-get_or c.args.nodes.now c.in-Some.parent None within))

pub returns-in-None : goal.returns-in-None
returns-in-None c =
    let parent : parent_of c.args.vertices.now c.args.v ≡ None =
    sym (parent_at c.args.vertices.now c.args.v no_vertex c.requires.within) ∙ c.in-None.is in
    node_of_root c.args.vertices.now c.requires.order c.args.v c.requires.within
    (no_node_here c.args.vertices.now c.args.v c.requires.within (sym c.if-is_some.ensures)) parent
