-- What is written of a graph is read as the value of the graph.
use Rattle.std.proofs.Common.{◌≡◌, refl, sym, ap, ◌∙◌, ℕ, suc, ◌<◌, ◌^◌, List, [], ◌∷◌, map, Bool, true, ◌&&◌, Option}
use Rattle.std.proofs.Common.{Some, None, IfSome, arith}
use Rattle.std.specs.List.{AllByRecursion, fold}
use Rattle.std.specs.Ordering.{nat_cmp, match_ordering, is_lt, ordering_reverse}
use Rattle.std.specs.declared.cmp.Ordering.{Ordering}
use Rattle.std.specs.declared.cmp.Ordering.TheVariants.{Less, Equal, Greater}
use Rattle.std.specs.Cmp.Lexicographic.{slice_cmp, nat_list_cmp_total}
use Rattle.std.specs.BTreeSet.{insert_key}
use Rattle.std.proofs.lemmas.Bool.{and_from, and_parts}
use Rattle.resource_graph.specs.Tables.{properties_at}
use Rattle.serde_json.specs.Read.{read}
use Rattle.flux_defs.specs.declared.vertices.Vertex.{Vertex}
use Rattle.resource_graph.specs.NamedGraph.{NamedGraph}
use Rattle.graph_json.specs.WrittenGraph.{or_none, keys_object, edges_data, with_edge, nodes_data, node_data, edge_data}
use Rattle.graph_json.specs.WrittenGraph.{written_properties, graph_data, graph_text, HasSmallNumbers}
use Rattle.graph_json.specs.WrittenGraph.{HasAllSmallNumbers}
use Rattle.json_written.specs.Texts.{readable}
use Rattle.json_written.proofs.PlainLaws.{IsWhole, IsPlain, ArePlain, HasPlain, is_below, read_compact}

-- ---- keys in order

abbrev pub less : List ℕ → List ℕ → Bool
less k l = is_lt (slice_cmp nat_cmp k l)

abbrev pub below : List ℕ → List (List ℕ) → Bool
below k [] = true
below k (l ∷ ls) = less k l && below k ls

abbrev pub ordered : List (List ℕ) → Bool
ordered [] = true
ordered (k ∷ ks) = below k ks && ordered ks

pub is_less : (o : Ordering) → is_lt o ≡ true → o ≡ Less
is_less Less e = refl
is_less Equal e = absurd (cc)
is_less Greater e = absurd (cc)

less_then : (k l m : List ℕ) → less k l ≡ true → less l m ≡ true → less k m ≡ true
less_then k l m p q =
    ap is_lt (nat_list_cmp_total.trans k l m (is_less (slice_cmp nat_cmp k l) p) (is_less (slice_cmp nat_cmp l m) q))

below_then : (k l : List ℕ) (ks : List (List ℕ)) → less k l ≡ true → below l ks ≡ true → below k ks ≡ true
below_then k l [] p h = refl
below_then k l (m ∷ ks) p h = and_from (less k m) (below k ks)
    (less_then k l m p ((and_parts (less l m) (below l ks) h).0))
    (below_then k l ks p ((and_parts (less l m) (below l ks) h).1))

below_insert : (x k : List ℕ) (ks : List (List ℕ)) →
    less x k ≡ true → below x ks ≡ true → below x (insert_key (slice_cmp nat_cmp) ks k) ≡ true
below_insert x k [] p h = and_from (less x k) true p refl
below_insert x k (y ∷ ys) p h =
    by (slice_cmp nat_cmp k y) (below_insert x k ys p ((and_parts (less x y) (below x ys) h).1))
  where
    by : (o : Ordering) → below x (insert_key (slice_cmp nat_cmp) ys k) ≡ true →
        below x (match_ordering o (k ∷ y ∷ ys) (y ∷ ys) (y ∷ insert_key (slice_cmp nat_cmp) ys k)) ≡ true
    by Less ih = and_from (less x k) (below x (y ∷ ys)) p h
    by Equal ih = h
    by Greater ih = and_from (less x y) _ ((and_parts (less x y) (below x ys) h).0) ih

pub ordered_insert : (k : List ℕ) (ks : List (List ℕ)) →
    ordered ks ≡ true → ordered (insert_key (slice_cmp nat_cmp) ks k) ≡ true
ordered_insert k [] h = refl
ordered_insert k (x ∷ xs) h =
    by (slice_cmp nat_cmp k x) refl (ordered_insert k xs ((and_parts (below x xs) (ordered xs) h).1))
  where
    after : Greater ≡ slice_cmp nat_cmp k x → less x k ≡ true
    after e = ap is_lt (nat_list_cmp_total.antisymm x k) ∙ ap (λ o. is_lt (ordering_reverse o)) (sym e)

    by : (o : Ordering) → o ≡ slice_cmp nat_cmp k x → ordered (insert_key (slice_cmp nat_cmp) xs k) ≡ true →
        ordered (match_ordering o (k ∷ x ∷ xs) (x ∷ xs) (x ∷ insert_key (slice_cmp nat_cmp) xs k)) ≡ true
    by Less e ih =
        let first : less k x ≡ true = ap is_lt (sym e) in
        and_from (below k (x ∷ xs)) (ordered (x ∷ xs))
        (and_from (less k x) (below k xs) first (below_then k x xs first ((and_parts (below x xs) (ordered xs) h).0))) h
    by Equal e ih = h
    by Greater e ih = and_from (below x (insert_key (slice_cmp nat_cmp) xs k)) _
        (below_insert x k xs (after e) ((and_parts (below x xs) (ordered xs) h).0)) ih

pub ordered_all : (ks more : List (List ℕ)) →
    ordered ks ≡ true → ordered (fold (insert_key (slice_cmp nat_cmp)) ks more) ≡ true
ordered_all ks [] h = h
ordered_all ks (k ∷ more) h = ordered_all (insert_key (slice_cmp nat_cmp) ks k) more (ordered_insert k ks h)

below_keys : (k : List ℕ) (ks : List (List ℕ)) → below k ks ≡ true → is_below k (keys_object ks) ≡ true
below_keys k [] h = refl
below_keys k (l ∷ ls) h =
    and_from (less k l) _ ((and_parts (less k l) (below k ls) h).0)
    (below_keys k ls ((and_parts (less k l) (below k ls) h).1))

plain_keys : (n : ℕ) (ks : List (List ℕ)) → ordered ks ≡ true → HasPlain n (keys_object ks)
plain_keys n [] h = tt
plain_keys n (k ∷ ks) h = (
  tt,
  below_keys k ks ((and_parts (below k ks) (ordered ks) h).0),
  plain_keys n ks ((and_parts (below k ks) (ordered ks) h).1),
)

-- ---- a graph's value

whole_or_none : (o : Option ℕ) → IfSome o (λ n. n < 2 ^ 64) → IsWhole (or_none o)
whole_or_none None h = omega arith
whole_or_none (Some n) h = h

plain_node : (g : NamedGraph) (v : ℕ) (x : Vertex) → HasSmallNumbers x → IsPlain 3 (node_data g v x)
plain_node g v x small = (
  tt,
  refl,
  (
    (
      tt,
      refl,
      (
        whole_or_none x.id small.1,
        refl,
        (
          tt,
          refl,
          (
            (tt, refl, tt),
            refl,
            (
              plain_keys 0 (written_properties g v)
                  (ordered_all [] (map readable (properties_at g v)) refl),
              refl,
              (whole_or_none x.rank small.2, refl, (small.0, refl, (tt, refl, (tt, refl, tt)))),
            ),
          ),
        ),
      ),
    ),
    refl,
    tt,
  ),
)

plain_nodes : (g : NamedGraph) (v : ℕ) (xs : List Vertex) →
    AllByRecursion HasSmallNumbers xs → ArePlain 3 (nodes_data g v xs)
plain_nodes g v [] all = tt
plain_nodes g v (x ∷ xs) all = (plain_node g v x all.0, plain_nodes g (suc v) xs all.1)

plain_edge : (p v : ℕ) → IsPlain 3 (edge_data p v)
plain_edge p v = (((tt, refl, tt), refl, tt), refl, (tt, refl, (tt, refl, tt)))

plain_edges : (v : ℕ) (xs : List Vertex) → ArePlain 3 (edges_data v xs)
plain_edges v [] = tt
plain_edges v (x ∷ xs) = by x.parent (plain_edges (suc v) xs)
  where
    by : (o : Option ℕ) → ArePlain 3 (edges_data (suc v) xs) → ArePlain 3 (with_edge o v (edges_data (suc v) xs))
    by None ih = ih
    by (Some p) ih = (plain_edge p v, ih)

pub plain_graph : (g : NamedGraph) → HasAllSmallNumbers g → IsPlain 6 (graph_data g)
plain_graph g small =
    ((plain_edges 0 g.resources.vertices, refl, (plain_nodes g 0 g.resources.vertices small, refl, tt)), refl, tt)

pub read-graph_text : (g : NamedGraph) → HasAllSmallNumbers g → read (graph_text g) ≡ Some (graph_data g)
unfolding graph_text
read-graph_text g small = read_compact 6 (graph_data g) (omega arith) (plain_graph g small)
