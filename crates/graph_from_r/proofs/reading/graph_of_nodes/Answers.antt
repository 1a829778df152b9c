use Rattle.std.proofs.Common.{List, ℕ, sym, subst}
use Rattle.graph_build.specs.declared.raw.RawVertex.{RawVertex}
use Rattle.graph_build.specs.Raw.{KindsApart, raw_graph, raw_names}
use Rattle.graph_build.specs.Table.{IsFirstFault}
use Rattle.graph_build.proofs.RowLaws.{nothing_told}
use Rattle.graph_from_r.specs.Vertices.{r_kinds, r_vertices}
use Rattle.graph_from_r.proofs.Fair.{kinds_apart, r_faultless}
use Rattle.graph_from_r.proofs.reading.graph_of_nodes.Goals as goal

pub build-requires : goal.build-requires
build-requires c = record { apart = subst KindsApart (sym c.in_ok-kinds.ensures) kinds_apart }

pub memory_fault-requires : goal.memory_fault-requires
memory_fault-requires c =
    let nodes = c.args.nodes.now in
    let told : IsFirstFault (raw_graph r_kinds (r_vertices nodes)) (raw_names (r_vertices nodes)) c.in-Err.fault =
    subst (λ (raw : List RawVertex). IsFirstFault (raw_graph r_kinds raw)
    (raw_names raw) c.in-Err.fault) c.in_ok-vertices.ensures
    (subst (λ (kinds : List (List ℕ)). IsFirstFault (raw_graph kinds c.in_ok-vertices.vertices)
    (raw_names c.in_ok-vertices.vertices) c.in-Err.fault)
    c.in_ok-kinds.ensures c.in-Err.ensures.told) in
    nothing_told (raw_graph r_kinds (r_vertices nodes)) (raw_names (r_vertices nodes)) c.in-Err.fault
    (r_faultless nodes c.requires.fair c.requires.apart) told
