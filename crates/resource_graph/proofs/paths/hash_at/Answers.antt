use Rattle.std.proofs.Common.{◌≡◌, ◌<◌, ◌∷◌, sym, ◌∙◌, ap, arith, Some, None}
use Rattle.std.specs.List.{fold}
use Rattle.flux_defs.specs.Graph.{parent_of}
use Rattle.graph_laws.proofs.Preorder.{parents_first}
use Rattle.resource_graph.specs.NamedGraph.{name_step}
use Rattle.resource_graph.specs.Paths.{mixed}
use Rattle.resource_graph.specs.Preorder.{plain}
use Rattle.resource_graph.proofs.ChainLaws.{parent_at, no_vertex}
use Rattle.resource_graph.proofs.PathLaws.{step_read, hash_below, hash_root}
use Rattle.resource_graph.proofs.paths.hash_at.Goals as goal

pub bounds-hashes-parent : goal.bounds-hashes-parent
bounds-hashes-parent c =
    let first = parents_first (plain c.args.vertices.now) c.requires.order in
    let less : c.in-Some.parent < c.args.v = first c.args.v c.in-Some.parent
    (sym (parent_at c.args.vertices.now c.args.v no_vertex c.requires.within) ∙ c.in-Some.is) in
    omega (arith, c.requires.before.as_many)

pub returns-in-Some : goal.returns-in-Some
returns-in-Some c =
    let first = parents_first (plain c.args.vertices.now) c.requires.order in
    let step : name_step c.args.names.now c.args.v ≡ 47 ∷ c.bytes-name.result.now =
    step_read c.args.names.now c.args.v _ _ (omega arith) c.index-names-v.is c.bytes-name.ensures in
    let parent : parent_of c.args.vertices.now c.args.v ≡ Some c.in-Some.parent =
    sym (parent_at c.args.vertices.now c.args.v no_vertex c.requires.within) ∙ c.in-Some.is in
    let less : c.in-Some.parent < c.args.v = first c.args.v c.in-Some.parent parent in
    c.hash_on.ensures ∙ (ap (λ h. fold mixed h c.bytes-name.result.now) c.mix.ensures
    ∙ hash_below c.args.vertices.now first c.args.names.now c.args.v c.in-Some.parent _ c.bytes-name.result.now
    c.requires.within parent step (c.requires.before.each c.in-Some.parent less))

pub returns-in-None : goal.returns-in-None
returns-in-None c =
    let first = parents_first (plain c.args.vertices.now) c.requires.order in
    let step : name_step c.args.names.now c.args.v ≡ 47 ∷ c.bytes-name.result.now =
    step_read c.args.names.now c.args.v _ _ (omega arith) c.index-names-v.is c.bytes-name.ensures in
    let parent : parent_of c.args.vertices.now c.args.v ≡ None =
    sym (parent_at c.args.vertices.now c.args.v no_vertex c.requires.within) ∙ c.in-None.is in
    c.hash_on-in-None.ensures ∙ (ap (λ h. fold mixed h c.bytes-name.result.now) c.mix-in-None.ensures
    ∙ hash_root c.args.vertices.now first c.args.names.now c.args.v c.bytes-name.result.now
    c.requires.within parent step)
