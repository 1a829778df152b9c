-- The text of a valid graph is JSON of the graph's value, as files are read.
use Rattle.std.proofs.Common.{◌≡◌, refl, ap, ◌∙◌, ℕ, suc, ◌+◌, ◌^◌, ◌<◌, ◌≤◌, List, [], ◌∷◌}
use Rattle.std.proofs.Common.{length, map, true, Option, Some, None, if◌then◌else◌, unwrap_or, slice_get}
use Rattle.std.proofs.Common.{codes, IsUtf8, IfSome, arith}
use Rattle.std.specs.List.{AllByRecursion, fold}
use Rattle.std.specs.Ordering.{nat_cmp, match_ordering}
use Rattle.std.specs.declared.cmp.Ordering.{Ordering}
use Rattle.std.specs.declared.cmp.Ordering.TheVariants.{Less, Equal, Greater}
use Rattle.std.specs.Cmp.Lexicographic.{slice_cmp}
use Rattle.std.specs.BTreeSet.{insert_key}
use Rattle.std.specs.Str.{is_utf8}
use Rattle.std.proofs.lemmas.Str.{IsUtf8-nil}
use Rattle.std.proofs.lemmas.Str.{is_utf8-from_IsUtf8}
use Rattle.json.proofs.Printed.Utf8.{IsUtf8-are_ascii}
use Rattle.serde_json.specs.Written.{compact_text}
use Rattle.serde_json.specs.Read.{read}
use Rattle.json_whole.specs.Whole.{value_in, value_of}
use Rattle.flux_defs.specs.declared.vertices.Vertex.{Vertex}
use Rattle.resource_graph.specs.NamedGraph.{NamedGraph, path_text}
use Rattle.resource_graph.specs.Tables.{name_at, base_at, properties_at, unit_at}
use Rattle.graph_json.specs.Nodes.{in_order}
use Rattle.graph_json.specs.WrittenGraph.{keys_object, paths_data, metadata_data, node_data, nodes_data, contains_data}
use Rattle.graph_json.specs.WrittenGraph.{edge_data, with_edge, edges_data, graph_data, graph_text, HasAllSmallNumbers}
use Rattle.json_written.specs.Texts.{readable}
use Rattle.json_written.proofs.PlainLaws.{IsPlain}
use Rattle.json_written.proofs.PlainText.{plain-compact_text}
use Rattle.json_written.proofs.ClearText.{IsClear, AreClear, HasClear, utf8_value, clear_readable}
use Rattle.graph_json.proofs.WrittenLaws.{plain_graph, read-graph_text}
use Rattle.text_forms.proofs.Ascii.{utf8_decimal}

-- ---- a graph's value

clear_all : (texts : List (List ℕ)) → AllByRecursion IsUtf8 (map readable texts)
clear_all [] = tt
clear_all (t ∷ ts) = (clear_readable t, clear_all ts)

clear_insert : (k : List ℕ) (ks : List (List ℕ)) →
    IsUtf8 k → AllByRecursion IsUtf8 ks → AllByRecursion IsUtf8 (insert_key (slice_cmp nat_cmp) ks k)
clear_insert k [] u all = (u, tt)
clear_insert k (x ∷ xs) u all = by (slice_cmp nat_cmp k x) (clear_insert k xs u all.1)
  where
    by : (o : Ordering) → AllByRecursion IsUtf8 (insert_key (slice_cmp nat_cmp) xs k) →
        AllByRecursion IsUtf8 (match_ordering o (k ∷ x ∷ xs) (x ∷ xs) (x ∷ insert_key (slice_cmp nat_cmp) xs k))
    by Less rest = (u, all)
    by Equal rest = all
    by Greater rest = (all.0, rest)

clear_fold : (ks more : List (List ℕ)) → AllByRecursion IsUtf8 ks →
    AllByRecursion IsUtf8 more → AllByRecursion IsUtf8 (fold (insert_key (slice_cmp nat_cmp)) ks more)
clear_fold ks [] all rest = all
clear_fold ks (k ∷ more) all rest =
    clear_fold (insert_key (slice_cmp nat_cmp) ks k) more (clear_insert k ks rest.0 all) rest.1

clear_keys : (ks : List (List ℕ)) → AllByRecursion IsUtf8 ks → HasClear (keys_object ks)
clear_keys [] all = tt
clear_keys (k ∷ ks) all = (all.0, IsUtf8-nil, clear_keys ks all.1)

clear_properties : (texts : List (List ℕ)) → HasClear (keys_object (in_order (map readable texts)))
clear_properties texts =
    clear_keys (in_order (map readable texts)) (clear_fold [] (map readable texts) tt (clear_all texts))

clear_paths : (g : NamedGraph) (v : ℕ) → IsClear (paths_data g v)
clear_paths g v = (IsUtf8-are_ascii (codes "containment") refl, clear_readable (path_text g v), tt)

clear_metadata : (g : NamedGraph) (v : ℕ) (x : Vertex) → IsClear (metadata_data g v x)
clear_metadata g v x = (
  IsUtf8-are_ascii (codes "basename") refl,
  clear_readable (base_at g v),
  (
    IsUtf8-are_ascii (codes "id") refl,
    tt,
    (
      IsUtf8-are_ascii (codes "name") refl,
      clear_readable (name_at g v),
      (
        IsUtf8-are_ascii (codes "paths") refl,
        clear_paths g v,
        (
          IsUtf8-are_ascii (codes "properties") refl,
          clear_properties (properties_at g v),
          (
            IsUtf8-are_ascii (codes "rank") refl,
            tt,
            (
              IsUtf8-are_ascii (codes "size") refl,
              tt,
              (
                IsUtf8-are_ascii (codes "type") refl,
                clear_readable (unwrap_or (slice_get g.resources.kinds x.kind) []),
                (IsUtf8-are_ascii (codes "unit") refl, clear_readable (unit_at g v), tt),
              ),
            ),
          ),
        ),
      ),
    ),
  ),
)

clear_node : (g : NamedGraph) (v : ℕ) (x : Vertex) → v < 2 ^ 64 → IsClear (node_data g v x)
clear_node g v x small = (
  IsUtf8-are_ascii (codes "id") refl,
  utf8_decimal v small,
  (IsUtf8-are_ascii (codes "metadata") refl, clear_metadata g v x, tt),
)

clear_nodes : (g : NamedGraph) (v : ℕ) (xs : List Vertex) → v + length xs ≤ 2 ^ 64 → AreClear (nodes_data g v xs)
clear_nodes g v [] few = tt
clear_nodes g v (x ∷ xs) few = (clear_node g v x (omega arith), clear_nodes g (suc v) xs (omega arith))

clear_contains : IsClear contains_data
clear_contains = (
  IsUtf8-are_ascii (codes "name") refl,
  (IsUtf8-are_ascii (codes "containment") refl, IsUtf8-are_ascii (codes "contains") refl, tt),
  tt,
)

clear_edge : (p v : ℕ) → p < 2 ^ 64 → v < 2 ^ 64 → IsClear (edge_data p v)
clear_edge p v p_small v_small = (
  IsUtf8-are_ascii (codes "metadata") refl,
  clear_contains,
  (
    IsUtf8-are_ascii (codes "source") refl,
    utf8_decimal p p_small,
    (IsUtf8-are_ascii (codes "target") refl, utf8_decimal v v_small, tt),
  ),
)

-- each parent is less than this
abbrev pub HasParentsBelow : ℕ → List Vertex → Type 0
HasParentsBelow most xs = AllByRecursion (λ x. IfSome x.parent (λ p. p < most)) xs

clear_edges : (v : ℕ) (xs : List Vertex) →
    v + length xs ≤ 2 ^ 64 → HasParentsBelow (2 ^ 64) xs → AreClear (edges_data v xs)
clear_edges v [] few below = tt
clear_edges v (x ∷ xs) few below = by x.parent below.0 (clear_edges (suc v) xs (omega arith) below.1)
  where
    by : (o : Option ℕ) →
        IfSome o (λ p. p < 2 ^ 64) → AreClear (edges_data (suc v) xs) → AreClear (with_edge o v (edges_data (suc v) xs))
    by None small rest = rest
    by (Some p) small rest = (clear_edge p v small (omega arith), rest)

clear_graph : (g : NamedGraph) →
    length g.resources.vertices ≤ 2 ^ 64 → HasParentsBelow (2 ^ 64) g.resources.vertices → IsClear (graph_data g)
clear_graph g few below = (
  IsUtf8-are_ascii (codes "graph") refl,
  (
    IsUtf8-are_ascii (codes "edges") refl,
    clear_edges 0 g.resources.vertices (omega arith) below,
    (IsUtf8-are_ascii (codes "nodes") refl, clear_nodes g 0 g.resources.vertices (omega arith), tt),
  ),
  tt,
)

-- what is written of a graph is read as the graph's value
pub value_of-graph_text : (g : NamedGraph) → HasAllSmallNumbers g → length g.resources.vertices ≤ 2 ^ 64 →
    HasParentsBelow (2 ^ 64) g.resources.vertices → value_of (graph_text g) ≡ Some (graph_data g)
unfolding graph_text value_of
value_of-graph_text g small few below =
    let plain : IsPlain 6 (graph_data g) = plain_graph g small in
    let utf8 : is_utf8 (compact_text (graph_data g)) ≡ true = is_utf8-from_IsUtf8
    (compact_text (graph_data g)) (utf8_value 6 (graph_data g) plain (clear_graph g few below)) in
    ap value_in (plain-compact_text 6 (graph_data g) plain)
    ∙ (ap (λ b. if b then read (compact_text (graph_data g)) else None) utf8 ∙ read-graph_text g small)
