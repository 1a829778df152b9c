use Rattle.std.proofs.Common.{◌≡◌, Err, ap, subst, ◌∙◌, ℕ, List, map, Ok, Result, length, take, drop, ◌++◌, append-nil}
use Rattle.std.proofs.Common.{arith, Option, IfOk, IfErr}
use Rattle.std.proofs.lemmas.List.{take_all, drop_all}
use Rattle.serde_json.specs.Data.{Data}
use Rattle.json_whole.specs.Values.{view, items_view}
use Rattle.graph_json.specs.Nodes.{FileNode, node_held, nodes_of}
use Rattle.graph_json.specs.Edges.{FileEdge, edges_of, counted, parents_of, IsFirstWrong, IsWrongEdge}
use Rattle.graph_json.specs.Ids.{ids_of, IsRepeated, IsSetOf}
use Rattle.resource_graph.specs.Finds.{IsLeast, Nowhere}
use Rattle.resource_graph.specs.NamedGraph.{NamedGraph}
use Rattle.graph_build.specs.Table.{IsFaultless}
use Rattle.graph_build.specs.Raw.{IsBuiltFrom, raw_graph, raw_names}
use Rattle.graph_json.specs.declared.faults.ReadFault.{ReadFault}
use Rattle.graph_json.specs.RawLists.{kinds_of, vertices_of}
use Rattle.graph_json.specs.GraphFile.{FileLists, GraphFile, lists_held, lists_of}
use Rattle.graph_json.specs.GraphText.{IsValueOf, IsGraphText, Says, HasRightEdges, IsFirstFault, IsFirstRawFault}
use Rattle.graph_json.proofs.TextLaws.{matched_ok, matched_err, file_with, file-read, told_edge, told_raw}
use Rattle.graph_json.proofs.reading.graph_of.Goals as goal

-- what was written over all items is what stands there
written : {A : Type 0} (n : ℕ) (xs ys : List A) →
    length xs ≡ n → length ys ≡ n → take n (xs ++ drop (length xs) ys) ≡ xs
written n xs ys long full = ap (λ zs. take n (xs ++ zs)) (drop_all (length xs) ys (omega arith))
    ∙ ap (take n) (append-nil xs) ∙ take_all n xs (omega arith)

pub returns-in-Err-2-clause-fault : goal.returns-in-Err-2-clause-fault
returns-in-Err-2-clause-fault c bytes is =
    let held = c.as_slice-held.result.now in
    let lists = lists_held c.in-Ok.lists in
    let ids = ids_of (map node_held held) in
    let read = ap (λ xs. Ok (map node_held xs)) c.as_slice-held.ensures.value
    ∙ c.in-Ok-nodes_of.ensures.read ∙ ap (λ vs. nodes_of 0 (items_view vs)) c.as_slice.ensures.value in
    let least = matched_err
    (IsSetOf ids) (IsLeast (IsRepeated ids)) c.in_ok-ids.field-0 c.in-Err-2.at c.in-Err-2.is c.in_ok-ids.ensures in (
      file_with lists (map node_held held),
      (
        view c.args.value.now,
        is,
        file-read (view c.args.value.now) lists (map node_held held) c.in-Ok.ensures read,
      ),
      least,
    )

pub returns-in-Err-join_edges-clause-fault : goal.returns-in-Err-join_edges-clause-fault
returns-in-Err-join_edges-clause-fault c bytes is =
    let held = c.as_slice-held.result.now in
    let lists = lists_held c.in-Ok.lists in
    let ids = ids_of (map node_held held) in
    let read = ap (λ xs. Ok (map node_held xs)) c.as_slice-held.ensures.value
    ∙ c.in-Ok-nodes_of.ensures.read ∙ ap (λ vs. nodes_of 0 (items_view vs)) c.as_slice.ensures.value in
    let set = matched_ok
    (IsSetOf ids) (IsLeast (IsRepeated ids)) c.in_ok-ids.field-0 c.in-Ok-2.ids c.in-Ok-2.is c.in_ok-ids.ensures in
    let first =
    subst (λ vs. IsFirstWrong ids (edges_of 0 (items_view vs)) c.in-Err-join_edges.fault) c.as_slice-2.ensures.value
    (subst (λ found. IsFirstWrong found (edges_of 0 (items_view c.as_slice-2.result.now)) c.in-Err-join_edges.fault)
    set.kept c.in-Err-join_edges.ensures.wrong) in
    told_edge bytes (file_with lists (map node_held held))
    (view c.args.value.now, is, file-read (view c.args.value.now) lists (map node_held held) c.in-Ok.ensures read)
    set.each c.in-Err-join_edges.fault c.edge_fault.result first c.edge_fault.ensures

pub graph_from-requires : goal.graph_from-requires
graph_from-requires c =
    let held = c.as_slice-held.result.now in
    let lists = lists_held c.in-Ok.lists in
    let ids = ids_of (map node_held held) in
    let set = matched_ok
    (IsSetOf ids) (IsLeast (IsRepeated ids)) c.in_ok-ids.field-0 c.in-Ok-2.ids c.in-Ok-2.is c.in_ok-ids.ensures in
    let joined : c.join_edges.new.parents ≡ parents_of ids (counted (edges_of 0 lists.edges)) =
    c.in-Ok-join_edges.ensures.joined
    ∙ ap (λ found. parents_of found (counted (edges_of 0 (items_view c.as_slice-2.result.now)))) set.kept
    ∙ ap (λ vs. parents_of ids (counted (edges_of 0 (items_view vs)))) c.as_slice-2.ensures.value in
    let v = c.as_slice-3.ensures.value in (
      counted (edges_of 0 lists.edges),
      v ∙ written c.in_ok-parents.parents.len
          c.join_edges.new.parents c.in_ok-parents.parents.items (omega arith) (omega arith) ∙ joined,
    )

-- what is found of the raw vertices is told of the file
module _ (d : Data) (lists : FileLists) (nodes : List FileNode)
    (parents : List (Option ℕ)) (listed : Ok lists ≡ lists_of d) (read : Ok nodes ≡ nodes_of 0 lists.nodes)
    (right : HasRightEdges (file_with lists nodes))
    (same : parents ≡ parents_of (ids_of nodes) (counted (edges_of 0 lists.edges))) where
  abbrev file : GraphFile
  file = file_with lists nodes

  says : (bytes : List ℕ) → IsValueOf bytes d → Says bytes file
  says bytes is = (d, is, file-read d lists nodes listed read)

  graph_told : (r : Result NamedGraph ReadFault) → IfOk r (λ g. (edges : List FileEdge) →
      parents ≡ parents_of (ids_of nodes) edges → IsBuiltFrom (kinds_of nodes) (vertices_of nodes edges) g
      × IsFaultless (raw_graph (kinds_of nodes) (vertices_of nodes edges)) (raw_names (vertices_of nodes edges)))
      → IfOk r (λ g. (bytes : List ℕ) → IsValueOf bytes d → IsGraphText bytes g)
  graph_told (Ok g) built = λ bytes is.
      (let made = built (counted (edges_of 0 lists.edges)) same in (file, says bytes is, right, made.0, made.1))
  graph_told (Err e) built = tt

  fault_told : (r : Result NamedGraph ReadFault) →
      IfErr r (λ f. (edges : List FileEdge) → parents ≡ parents_of (ids_of nodes) edges →
      IsFirstRawFault (kinds_of nodes) (vertices_of nodes edges) f)
      → IfErr r (λ f. (bytes : List ℕ) → IsValueOf bytes d → IsFirstFault bytes f)
  fault_told (Ok g) told = tt
  fault_told (Err e) told =
      λ bytes is. told_raw bytes file (says bytes is) right e (told (counted (edges_of 0 lists.edges)) same)

pub returns-clause-graph : goal.returns-clause-graph
returns-clause-graph c =
    let held = c.as_slice-held.result.now in
    let lists = lists_held c.in-Ok.lists in
    let ids = ids_of (map node_held held) in
    let read = ap (λ xs. Ok (map node_held xs)) c.as_slice-held.ensures.value
    ∙ c.in-Ok-nodes_of.ensures.read ∙ ap (λ vs. nodes_of 0 (items_view vs)) c.as_slice.ensures.value in
    let set = matched_ok
    (IsSetOf ids) (IsLeast (IsRepeated ids)) c.in_ok-ids.field-0 c.in-Ok-2.ids c.in-Ok-2.is c.in_ok-ids.ensures in
    let joined : c.join_edges.new.parents ≡ parents_of ids (counted (edges_of 0 lists.edges)) =
    c.in-Ok-join_edges.ensures.joined
    ∙ ap (λ found. parents_of found (counted (edges_of 0 (items_view c.as_slice-2.result.now)))) set.kept
    ∙ ap (λ vs. parents_of ids (counted (edges_of 0 (items_view vs)))) c.as_slice-2.ensures.value in
    let same = c.as_slice-3.ensures.value ∙ written c.in_ok-parents.parents.len
    c.join_edges.new.parents c.in_ok-parents.parents.items (omega arith) (omega arith) ∙ joined in
    let right = subst (λ vs. Nowhere (IsWrongEdge ids (edges_of 0 (items_view vs)))) c.as_slice-2.ensures.value
    (subst (λ found. Nowhere (IsWrongEdge found (edges_of 0 (items_view c.as_slice-2.result.now))))
    set.kept c.in-Ok-join_edges.ensures.right) in
    graph_told (view c.args.value.now) lists (map node_held held) c.as_slice-3.result.now c.in-Ok.ensures read
    (set.each, right) same c.graph_from.result c.graph_from.ensures.built

pub returns-clause-fault : goal.returns-clause-fault
returns-clause-fault c =
    let held = c.as_slice-held.result.now in
    let lists = lists_held c.in-Ok.lists in
    let ids = ids_of (map node_held held) in
    let read = ap (λ xs. Ok (map node_held xs)) c.as_slice-held.ensures.value
    ∙ c.in-Ok-nodes_of.ensures.read ∙ ap (λ vs. nodes_of 0 (items_view vs)) c.as_slice.ensures.value in
    let set = matched_ok
    (IsSetOf ids) (IsLeast (IsRepeated ids)) c.in_ok-ids.field-0 c.in-Ok-2.ids c.in-Ok-2.is c.in_ok-ids.ensures in
    let joined : c.join_edges.new.parents ≡ parents_of ids (counted (edges_of 0 lists.edges)) =
    c.in-Ok-join_edges.ensures.joined
    ∙ ap (λ found. parents_of found (counted (edges_of 0 (items_view c.as_slice-2.result.now)))) set.kept
    ∙ ap (λ vs. parents_of ids (counted (edges_of 0 (items_view vs)))) c.as_slice-2.ensures.value in
    let same = c.as_slice-3.ensures.value ∙ written c.in_ok-parents.parents.len
    c.join_edges.new.parents c.in_ok-parents.parents.items (omega arith) (omega arith) ∙ joined in
    let right = subst (λ vs. Nowhere (IsWrongEdge ids (edges_of 0 (items_view vs)))) c.as_slice-2.ensures.value
    (subst (λ found. Nowhere (IsWrongEdge found (edges_of 0 (items_view c.as_slice-2.result.now))))
    set.kept c.in-Ok-join_edges.ensures.right) in
    fault_told (view c.args.value.now) lists (map node_held held) c.as_slice-3.result.now c.in-Ok.ensures read
    (set.each, right) same c.graph_from.result c.graph_from.ensures.told
