use Rattle.std.proofs.Common.{◌≡◌, ◌<◌, ◌∷◌, sym, ◌∙◌, arith, Some, None}
use Rattle.flux_defs.specs.Graph.{parent_of}
use Rattle.graph_laws.proofs.Preorder.{parents_first}
use Rattle.resource_graph.specs.NamedGraph.{name_step}
use Rattle.resource_graph.specs.Preorder.{plain}
use Rattle.resource_graph.proofs.ChainLaws.{parent_at, no_vertex}
use Rattle.resource_graph.proofs.PathLaws.{step_read, not_path, is_path_below, is_root_path, none_left}
use Rattle.resource_graph.proofs.paths.+is_path.Goals as goal

pub returns-in_default : goal.returns-in_default
returns-in_default t c =
    let first = parents_first (plain c.args.vertices.now) c.requires.order in
    let step : name_step c.args.names.now c.args.vertex ≡ 47 ∷ c.bytes.result.now =
    step_read c.args.names.now c.args.vertex _ _ (omega arith) c.index-names-vertex.is c.bytes.ensures in (
      (λ h. absurd (cc)),
      (λ e. absurd (not_path c.args.vertices.now first c.args.names.now c.args.vertex c.args.text.now c.bytes.result.now
          c.requires.within step c.in_default.ensures e)),
    )

pub is_path-requires : goal.is_path-requires
is_path-requires t c =
    let first = parents_first (plain c.args.vertices.now) c.requires.order in
    let parent : parent_of c.args.vertices.now c.args.vertex ≡ Some c.in-Some-parent.parent =
    sym (parent_at c.args.vertices.now c.args.vertex no_vertex c.requires.within) ∙ c.in-Some-parent.is in
    let less : c.in-Some-parent.parent < c.args.vertex = first c.args.vertex c.in-Some-parent.parent parent in
    (omega arith, (c.requires.order, (c.requires.named, omega arith)))

pub returns-in-Some-parent : goal.returns-in-Some-parent
returns-in-Some-parent t c =
    let first = parents_first (plain c.args.vertices.now) c.requires.order in
    let step : name_step c.args.names.now c.args.vertex ≡ 47 ∷ c.bytes.result.now =
    step_read c.args.names.now c.args.vertex _ _ (omega arith) c.index-names-vertex.is c.bytes.ensures in
    let parent : parent_of c.args.vertices.now c.args.vertex ≡ Some c.in-Some-parent.parent =
    sym (parent_at c.args.vertices.now c.args.vertex no_vertex c.requires.within) ∙ c.in-Some-parent.is in
    let both = is_path_below c.args.vertices.now first c.args.names.now c.args.vertex c.in-Some-parent.parent
    c.args.text.now c.in-Some.rest.now c.bytes.result.now c.requires.within parent step c.in-Some.ensures in
    ((λ h. both.0 (c.is_path.ensures.0 h)), (λ e. c.is_path.ensures.1 (both.1 e)))

pub returns-in-None : goal.returns-in-None
returns-in-None t c =
    let first = parents_first (plain c.args.vertices.now) c.requires.order in
    let step : name_step c.args.names.now c.args.vertex ≡ 47 ∷ c.bytes.result.now =
    step_read c.args.names.now c.args.vertex _ _ (omega arith) c.index-names-vertex.is c.bytes.ensures in
    let parent : parent_of c.args.vertices.now c.args.vertex ≡ None =
    sym (parent_at c.args.vertices.now c.args.vertex no_vertex c.requires.within) ∙ c.in-None.is in
    let both = is_root_path c.args.vertices.now first c.args.names.now c.args.vertex
    c.args.text.now c.in-Some.rest.now c.bytes.result.now c.requires.within parent step c.in-Some.ensures in
    let none = none_left c.in-Some.rest.now c.is_empty.result c.is_empty.ensures in
    ((λ h. both.0 (none.0 h)), (λ e. none.1 (both.1 e)))
