use Rattle.std.proofs.Common.{◌≡◌, ◌<◌, ◌+◌, Some, Bool, Vec, Global, length, sym, ◌∙◌, subst, arith}
use Rattle.flux_defs.specs.Graph.{parent_of}
use Rattle.graph_build.specs.Checks.{HasChildren}
use Rattle.resource_graph.proofs.ChainLaws.{parent_at, parent_at_none, no_vertex}
use Rattle.graph_build.proofs.AboveLaws.{children_more, children_same}
use Rattle.graph_build.proofs.above.child_table.Goals as goal
use Rattle.graph_build.proofs.above.child_table.Goals.{in-Some, in_default}

pub index_mut-requires : goal.index_mut-requires
index_mut-requires c =
    let parent : parent_of c.args.vertices.now c.loop-v.v ≡ Some c.in-Some.parent =
    sym (parent_at c.args.vertices.now c.loop-v.v no_vertex (omega arith)) ∙ c.in-Some.is in
    let low : c.in-Some.parent < length c.args.vertices.now = c.requires c.loop-v.v c.in-Some.parent parent in
    omega (arith, c.loop-v.invariant.as_many)

pub loop-v-preserved : goal.loop-v-preserved
loop-v-preserved c =
    let vertices = c.args.vertices.now in
    let v = c.loop-v.v in
    let v_in : v < length vertices = omega arith in
    elim c.match-vertices-v.branch [
      | in-Some w ↦
          (let parent : parent_of vertices v ≡ Some w.in-Some.parent = sym (parent_at vertices v no_vertex v_in)
          ∙ w.in-Some.is in
          subst (λ (l : Vec Bool Global). HasChildren vertices (v + 1) l.items) (sym w.children-is)
          (children_more vertices v w.in-Some.parent c.loop-v.children.items (c.requires v w.in-Some.parent parent)
          parent c.loop-v.invariant))
      | in_default w ↦
          subst (λ (l : Vec Bool Global). HasChildren vertices (v + 1) l.items) (sym w.children-is)
          (children_same vertices v c.loop-v.children.items (parent_at_none vertices v v_in w.in_default.not-Some)
          c.loop-v.invariant)
    ]
