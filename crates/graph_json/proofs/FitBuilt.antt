-- The graph that is built from nodes that keep their rules is one that a file can hold.
use Rattle.std.proofs.Common.{◌≡◌, refl, sym, ap, subst, ◌∙◌, ℕ, suc, ◌<◌, ◌≤◌, List, [], ◌∷◌, ◌++◌, length}
use Rattle.std.proofs.Common.{take, map, get_or, Bool, true, false, cond, Some, None, if◌then◌else◌, slice_get, IfSome}
use Rattle.std.proofs.Common.{option_map, option_and_then, arith}
use Rattle.std.specs.List.{AllByRecursion, list_all, fold}
use Rattle.std.specs.Option.{option_map_or}
use Rattle.std.proofs.lemmas.Bool.{and_parts, and_from}
use Rattle.std.proofs.lemmas.List.{length-take}
use Rattle.std.proofs.lemmas.List.Sums.{AllPass-from_list_all, count_by-le-length}
use Rattle.std.proofs.lemmas.Option.{slice_get-map, slice_get-get_or, slice_get_within, get_or_from_slice_get}
use Rattle.flux_defs.specs.declared.limits.TheConstants.{MOST_NAME_BYTES, MOST_TYPE_BYTES, MOST_VERTICES, GREATEST_ID}
use Rattle.flux_defs.specs.declared.vertices.Vertex.{Vertex}
use Rattle.resource_graph.specs.NamedGraph.{NamedGraph}
use Rattle.graph_build.specs.Raw.{IsBuiltFrom, IsRenumbered, shape_of, rank_of, is_node_of, some_ranked, nodes_among}
use Rattle.graph_build.specs.declared.raw.RawVertex.{RawVertex}
use Rattle.graph_build.proofs.ArrangeLaws.{index_at, index_in}
use Rattle.resource_graph.proofs.ChainLaws.{no_vertex}
use Rattle.list_laws.proofs.Values.{value_of}
use Rattle.graph_json.specs.Fields.{is_unit}
use Rattle.text_forms.specs.Names.{is_name}
use Rattle.graph_json.specs.Nodes.{FileNode}
use Rattle.graph_json.specs.Edges.{FileEdge, counted, is_among, parent_of}
use Rattle.graph_json.specs.Ids.{ids_of}
use Rattle.graph_json.specs.RawLists.{kinds_of, vertex_of, vertices_of}
use Rattle.text_table.specs.Tables.{with_text}
use Rattle.graph_json.specs.GraphText.{IsGraphText}
use Rattle.graph_json.specs.FileGraph.{IsFileGraph, AreProperties, HasFileNumbers}
use Rattle.graph_json.proofs.FittingGraph.{IsFitNode, list_all_append, nodes_fit}
use Rattle.graph_json.proofs.OrderedData.{map_some, then_some}
use Rattle.list_laws.proofs.Lists.{all_from, all_at}

tests_from : {A : Type 0} (p : A → Bool) (xs : List A) →
    ((k : ℕ) (x : A) → slice_get xs k ≡ Some x → p x ≡ true) → list_all p xs ≡ true
tests_from p [] each = refl
tests_from p (x ∷ xs) each = and_from (p x) (list_all p xs) (each 0 x refl) (tests_from p xs (λ k. each (suc k)))

tests_at : {A : Type 0} (p : A → Bool) (xs : List A) →
    list_all p xs ≡ true → (k : ℕ) (x : A) → slice_get xs k ≡ Some x → p x ≡ true
tests_at p xs all k x e =
    ap p (sym (get_or_from_slice_get xs k x x e)) ∙ AllPass-from_list_all p xs all k x (slice_get_within xs k x e)

-- ---- types

abbrev AreTypes : List (List ℕ) → Type 0
AreTypes list = list_all (is_name MOST_TYPE_BYTES) list ≡ true

types_more : (b : Bool) (list : List (List ℕ)) (t : List ℕ) →
    AreTypes list → is_name MOST_TYPE_BYTES t ≡ true → AreTypes (if b then list else list ++ t ∷ [])
types_more true list t all one = all
types_more false list t all one =
    list_all_append (is_name MOST_TYPE_BYTES) list (t ∷ []) all (and_from (is_name MOST_TYPE_BYTES t) true one refl)

types_fold : (list more : List (List ℕ)) → AreTypes list → AreTypes more → AreTypes (fold with_text list more)
types_fold list [] all rest = all
types_fold list (t ∷ more) all rest =
    let p = and_parts (is_name MOST_TYPE_BYTES t) (list_all (is_name MOST_TYPE_BYTES) more) rest in
    types_fold (with_text list t) more (types_more (is_among list t) list t all p.0) p.1

node_types : (nodes : List FileNode) → AllByRecursion IsFitNode nodes → AreTypes (map (λ x. x.kind) nodes)
node_types [] all = refl
node_types (x ∷ xs) all = and_from (is_name MOST_TYPE_BYTES x.kind)
    (list_all (is_name MOST_TYPE_BYTES) (map (λ y. y.kind) xs)) all.0.kind (node_types xs all.1)

-- ---- the graph

module _ (nodes : List FileNode) (edges : List FileEdge) (fit : AllByRecursion IsFitNode nodes)
    (g : NamedGraph) (built : IsBuiltFrom (kinds_of nodes) (vertices_of nodes edges) g) where
  abbrev raw : List RawVertex
  raw = vertices_of nodes edges

  abbrev shapes : List Vertex
  shapes = map shape_of raw

  abbrev made : FileNode → RawVertex
  made x = vertex_of (kinds_of nodes) x (parent_of (ids_of nodes) edges x.id)

  raw_fit : (P : RawVertex → Type 0) →
      ((x : FileNode) → IsFitNode x → P (made x)) → (i : ℕ) (r : RawVertex) → slice_get raw i ≡ Some r → P r
  raw_fit P each i r e =
      let x = map_some made (slice_get nodes i) r (sym (slice_get-map made nodes i) ∙ e) in
      subst P x.2 (each x.0 (all_at IsFitNode nodes i x.0 fit x.1))

  text_fit : {T : Type 0} (field : RawVertex → T) (list : List T) (P : T → Type 0) →
      ((k : ℕ) → slice_get list k ≡ option_and_then (λ i. option_map field (slice_get raw i)) (slice_get built.order k))
      → ((x : FileNode) → IsFitNode x → P (field (made x))) → (k : ℕ) (t : T) → slice_get list k ≡ Some t → P t
  text_fit field list P keeps each k t e =
      let i = then_some (λ i. option_map field (slice_get raw i)) (slice_get built.order k) t (sym (keeps k) ∙ e) in
      let r = map_some field (slice_get raw i.0) t i.2 in
      subst P r.2 (raw_fit (λ r. P (field r)) each i.0 r.0 r.1)

  shape_fit : (i : ℕ) (x : Vertex) → slice_get shapes i ≡ Some x → HasFileNumbers x
  shape_fit i x e =
      let r = map_some shape_of (slice_get raw i) x (sym (slice_get-map shape_of raw i) ∙ e) in
      subst HasFileNumbers r.2 (raw_fit (λ r. HasFileNumbers (shape_of r)) (λ n own. (own.number, own.rank)) i r.0 r.1)

  rank_small : (k : ℕ) (x : Vertex) → k < length shapes →
      HasFileNumbers x → IfSome (rank_of (kinds_of nodes) shapes built.order k x) (λ n. n ≤ GREATEST_ID)
  rank_small k x lt own = by (is_node_of (kinds_of nodes) x) (some_ranked (kinds_of nodes) shapes)
    where
      count_small : nodes_among (kinds_of nodes) shapes (take k built.order) ≤ GREATEST_ID
      count_small =
          let counted : nodes_among (kinds_of nodes) shapes (take k built.order) ≤ length (take k built.order) =
          count_by-le-length
          (λ i. option_map_or (is_node_of (kinds_of nodes)) (slice_get shapes i) false) (take k built.order) in
          let many : length g.resources.vertices ≡ length shapes = built.arranged.as_many in
          let few : length g.resources.vertices ≤ MOST_VERTICES = built.whole.valid.few in
          omega (arith, length-take k built.order)

      by : (node ranked : Bool) →
          IfSome (cond node (cond ranked x.rank (Some (nodes_among (kinds_of nodes) shapes (take k built.order)))) None)
          (λ n. n ≤ GREATEST_ID)
      by true true = own.1
      by true false = count_small
      by false ranked = tt

  -- vertex k, which is y, is this raw vertex with other numbers
  record Comes (k : ℕ) (y : Vertex) : Type 0 where
    index : ℕ
    shape : Vertex
    within : k < length shapes
    at : slice_get built.order k ≡ Some index
    here : slice_get shapes index ≡ Some shape
    renumbered : IsRenumbered (kinds_of nodes) g.resources built.order shape y
    rank : y.rank ≡ rank_of (kinds_of nodes) shapes built.order k shape

  comes : (k : ℕ) (y : Vertex) → slice_get g.resources.vertices k ≡ Some y → Comes k y
  comes k y e =
      let many : length g.resources.vertices ≡ length shapes = built.arranged.as_many in
      let in_g : k < length g.resources.vertices = slice_get_within g.resources.vertices k y e in
      let within : k < length shapes = omega arith in
      let index = get_or built.order k (length shapes) in
      let shape = get_or shapes index no_vertex in
      let at = index_at (kinds_of nodes) shapes built.order g.resources built.arranged k within in
      let here = slice_get-get_or shapes index no_vertex
      (index_in (kinds_of nodes) shapes built.order g.resources built.arranged k within) in
      record {
        index = index;
        shape = shape;
        within = within;
        at = at;
        here = here;
        renumbered = built.arranged.renumbered k index shape y at here e;
        rank = built.arranged.ranks k index shape y at here e;
      }

  numbers_fit : (k : ℕ) (y : Vertex) → slice_get g.resources.vertices k ≡ Some y → HasFileNumbers y
  numbers_fit k y e =
      let from = comes k y e in
      let own = shape_fit from.index from.shape from.here in (
        subst (λ o. IfSome o (λ n. n ≤ GREATEST_ID)) (sym from.renumbered.id) own.0,
        subst (λ o. IfSome o (λ n. n ≤ GREATEST_ID)) (sym from.rank) (rank_small k from.shape from.within own),
      )

  type_fit : (k : ℕ) (t : List ℕ) → slice_get g.resources.kinds k ≡ Some t → is_name MOST_TYPE_BYTES t ≡ true
  type_fit k t e =
      let used = built.whole.valid.kinds.used k (slice_get_within g.resources.kinds k t e) in
      let y = value_of (slice_get g.resources.vertices used.0) (λ y. y.kind ≡ k) used.1 in
      let from = comes used.0 y.0 y.1 in
      let called : slice_get (kinds_of nodes) from.shape.kind ≡ Some t =
      sym from.renumbered.kind ∙ (ap (slice_get g.resources.kinds) y.2 ∙ e) in
      tests_at (is_name MOST_TYPE_BYTES) (kinds_of nodes)
      (types_fold [] (map (λ x. x.kind) nodes) refl (node_types nodes fit)) from.shape.kind t called

  pub built_fits : IsFileGraph g
  built_fits = record {
    whole = built.whole;
    kinds = tests_from (is_name MOST_TYPE_BYTES) g.resources.kinds type_fit;
    names = tests_from (is_name MOST_NAME_BYTES) g.names
        (text_fit (λ r. r.name) g.names (λ t. is_name MOST_NAME_BYTES t ≡ true) built.texts.names (λ x own. own.name));
    bases = tests_from (is_name MOST_NAME_BYTES) g.bases
        (text_fit (λ r. r.base) g.bases (λ t. is_name MOST_NAME_BYTES t ≡ true) built.texts.bases (λ x own. own.base));
    units = tests_from is_unit g.units
        (text_fit (λ r. r.unit) g.units (λ t. is_unit t ≡ true) built.texts.units (λ x own. own.unit));
    properties = all_from AreProperties g.properties
        (text_fit (λ r. r.properties) g.properties AreProperties built.texts.properties (λ x own. own.properties));
    numbers = all_from HasFileNumbers g.resources.vertices numbers_fit;
  }

-- the graph of a file is one that a file can hold
pub read_fits : (bytes : List ℕ) (g : NamedGraph) → IsGraphText bytes g → IsFileGraph g
read_fits bytes g (file, says, right, built, fine) =
    built_fits file.nodes (counted file.edges) (nodes_fit bytes file says) g built
