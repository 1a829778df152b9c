use Rattle.std.proofs.Common.{ℕ, List, length, map, sym, subst}
use Rattle.flux_defs.specs.declared.vertices.Vertex.{Vertex}
use Rattle.resource_graph.specs.Chains.{KnowsParents}
use Rattle.graph_build.specs.Orders.{IsRooted, IsOrderOf}
use Rattle.graph_build.specs.Raw.{shape_of, raw_graph, raw_names}
use Rattle.graph_build.specs.Arranged.{HasKindNumbers}
use Rattle.graph_build.proofs.Facts.{facts}
use Rattle.graph_build.proofs.BuildLaws.{rooted, kind_numbers, built_steps, built_same}
use Rattle.graph_build.proofs.building.parts_of.Goals as goal

pub preorder_of-requires-clause-rooted : goal.preorder_of-requires-clause-rooted
preorder_of-requires-clause-rooted c =
    subst (λ (l : List Vertex). IsRooted l) (sym c.requires.shapes)
    (rooted c.args.kinds.now (raw_names c.args.raw) (map shape_of c.args.raw)
    (facts (raw_graph c.args.kinds.now c.args.raw) (raw_names c.args.raw) c.requires.fine))

pub vertices_of-requires-clause-parents : goal.vertices_of-requires-clause-parents
vertices_of-requires-clause-parents c =
    subst (λ (l : List Vertex). KnowsParents l) (sym c.requires.shapes)
    (rooted c.args.kinds.now (raw_names c.args.raw) (map shape_of c.args.raw)
    (facts (raw_graph c.args.kinds.now c.args.raw) (raw_names c.args.raw) c.requires.fine)).known

pub vertices_of-requires-clause-numbered : goal.vertices_of-requires-clause-numbered
vertices_of-requires-clause-numbered c =
    let shapes = c.args.shapes.now in
    let indices : IsOrderOf (length shapes) c.as_slice-2.result.now =
    subst (λ (l : List ℕ). IsOrderOf (length shapes) l)
    (sym c.as_slice-2.ensures.value) c.in_ok-order.ensures.indices in
    subst (HasKindNumbers shapes) (sym c.as_slice-5.ensures.value)
    (kind_numbers c.args.kinds.now shapes c.as_slice-2.result.now indices c.in_ok-numbering.numbering
    c.in_ok-numbering.ensures)

pub returns : goal.returns
returns c =
    built_same c.args.kinds.now c.args.raw c.in_ok-numbering.numbering.kinds.items c.of_vec.result
    c.in_ok-made.made.items c.of_vec-2.result c.in_ok-texts.texts c.of_vec.ensures c.of_vec-2.ensures
    (built_steps c.args.kinds.now c.args.raw c.into_vec.result.items c.args.shapes.now c.in_ok-order.order.items
    c.as_slice.result.now c.as_slice-2.result.now c.as_slice-3.result.now c.as_slice-6.result.now
    c.in_ok-numbers.numbers.items c.as_slice-4.result.now
    c.in_ok-numbering.numbering c.as_slice-5.result.now c.in_ok-made.made.items c.in_ok-list.list.items
    c.in_ok-texts.texts c.requires.apart
    (facts (raw_graph c.args.kinds.now c.args.raw) (raw_names c.args.raw) c.requires.fine) c.requires.shapes
    c.in_ok-order.ensures
    c.as_slice.ensures.value c.in_ok-numbers.ensures c.as_slice-2.ensures.value c.in_ok-numbering.ensures
    c.as_slice-3.ensures.value c.as_slice-4.ensures.value c.as_slice-5.ensures.value c.in_ok-made.ensures
    c.into_vec.ensures c.as_slice-6.ensures.value c.in_ok-list.ensures c.in_ok-texts.ensures)
