use Rattle.std.proofs.Common.{◌≡◌, sym, ap, subst, ◌∙◌, arith, true≢false, ℕ, List, length, map, Option, slice_get}
use Rattle.std.proofs.lemmas.List.{length-map}
use Rattle.graph_build.specs.Raw.{IsBuiltFrom, KindsApart, raw_graph, raw_names}
use Rattle.graph_build.specs.Table.{IsFaultless}
use Rattle.graph_build.specs.Table.{IsFirstFault}
use Rattle.graph_build.specs.declared.raw.RawVertex.{RawVertex}
use Rattle.graph_json.specs.Nodes.{FileNode, node_held}
use Rattle.graph_json.specs.Edges.{FileEdge, parent_of, parents_of}
use Rattle.graph_json.specs.Ids.{ids_of}
use Rattle.graph_json.specs.RawLists.{kinds_of, vertex_of, vertices_of, zip_with}
use Rattle.graph_json.proofs.RawLaws.{kinds-few, kinds-apart, parents-within, zipped}
use Rattle.graph_json.proofs.reading.graph_from.Goals as goal

-- what was made is the raw vertices of the file
made : (nodes : List FileNode) (edges : List FileEdge) (kinds : List (List ℕ)) (parents : List (Option ℕ))
    (raw : List RawVertex) → kinds ≡ kinds_of nodes → parents ≡ parents_of (ids_of nodes) edges
    → raw ≡ zip_with (vertex_of kinds) nodes parents → raw ≡ vertices_of nodes edges
made nodes edges kinds parents raw ke pe re =
    re ∙ ap (λ ks. zip_with (vertex_of ks) nodes parents) ke ∙ ap (zip_with (vertex_of (kinds_of nodes)) nodes) pe
    ∙ zipped (vertex_of (kinds_of nodes)) (parent_of (ids_of nodes) edges) nodes

pub vertices_of-requires-clause-few : goal.vertices_of-requires-clause-few
vertices_of-requires-clause-few c =
    let nodes = map node_held c.args.nodes.now in
    omega (arith, kinds-few nodes, length-map c.args.nodes.now node_held, ap length c.in_ok-kinds.ensures)

pub vertices_of-requires-clause-within : goal.vertices_of-requires-clause-within
vertices_of-requires-clause-within c i p at =
    let ids = ids_of (map node_held c.args.nodes.now) in
    let within = parents-within ids c.requires.0 i p (ap (λ ps. slice_get ps i) (sym c.requires.1) ∙ at) in
    omega
    (arith, within, length-map (map node_held c.args.nodes.now) (λ x. x.id), length-map c.args.nodes.now node_held)

pub build-requires : goal.build-requires
build-requires c =
    let kinds : c.in_ok-names.names ≡ kinds_of (map node_held c.args.nodes.now) =
    c.in_ok-names.ensures ∙ c.in_ok-kinds.ensures in
    record { apart = subst KindsApart (sym kinds) (kinds-apart (map node_held c.args.nodes.now)) }

pub returns-in-Ok-clause-built : goal.returns-in-Ok-clause-built
returns-in-Ok-clause-built c edges parents =
    let nodes = map node_held c.args.nodes.now in
    let kinds : c.in_ok-names.names ≡ kinds_of nodes = c.in_ok-names.ensures ∙ c.in_ok-kinds.ensures in
    let raw = made nodes edges
    c.in_ok-kinds.kinds c.args.parents.now c.in_ok-raw.raw c.in_ok-kinds.ensures parents c.in_ok-raw.ensures in (
      subst (λ ks. IsBuiltFrom ks (vertices_of nodes edges) c.in-Ok.graph) kinds
          (subst (λ rs. IsBuiltFrom c.in_ok-names.names rs c.in-Ok.graph) raw c.in-Ok.ensures.built),
      subst (λ ks. IsFaultless (raw_graph ks (vertices_of nodes edges)) (raw_names (vertices_of nodes edges))) kinds
          (subst (λ rs. IsFaultless (raw_graph c.in_ok-names.names rs) (raw_names rs)) raw c.in-Ok.ensures.faultless),
    )

pub returns : goal.returns
returns c = record {
  built = tt;
  told = λ edges parents.
      let nodes = map node_held c.args.nodes.now in
      let kinds : c.in_ok-names.names ≡ kinds_of nodes = c.in_ok-names.ensures ∙ c.in_ok-kinds.ensures in
      let raw = made nodes edges
      c.in_ok-kinds.kinds c.args.parents.now c.in_ok-raw.raw c.in_ok-kinds.ensures parents c.in_ok-raw.ensures in (
        subst (λ ks. IsFirstFault
            (raw_graph ks (vertices_of nodes edges)) (raw_names (vertices_of nodes edges)) c.in-Err.fault) kinds
            (subst (λ rs. IsFirstFault (raw_graph c.in_ok-names.names rs) (raw_names rs) c.in-Err.fault)
            raw c.in-Err.ensures.told),
        λ memory. true≢false (sym (c.is_memory.ensures.1 memory) ∙ c.if-is_memory.false),
      );
}
