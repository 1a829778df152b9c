-- What is written of a graph is a graph file of that graph.
use Rattle.std.proofs.Common.{◌≡◌, refl, sym, ap, subst, ◌∙◌, ℕ, zero, suc, ◌+◌, ◌^◌, ◌<◌, ◌≤◌, List, [], ◌∷◌}
use Rattle.std.proofs.Common.{◌++◌, length, take, drop, map, get_or, Bool, true, false, true≢false, not, ◌||◌, cond}
use Rattle.std.proofs.Common.{if◌then◌else◌, Option, Some, None, is_some, Ok, unwrap_or, slice_get, decimal, IfSome}
use Rattle.std.proofs.Common.{option_map, option_and_then, append_assoc, append-nil, arith, inl, inr}
use Rattle.std.specs.List.{IsDistinct, AllByRecursion, find, fold, list_all}
use Rattle.std.specs.Option.{option_map_or, IsSomeAnd}
use Rattle.std.specs.Str.{bytes_eq}
use Rattle.std.proofs.lemmas.Bool.{cases_lt, false_from_ne_true, or_from}
use Rattle.std.proofs.lemmas.Fmt.{decimal_injective}
use Rattle.std.proofs.lemmas.List.{length-take, take-append-drop, take_all, drop_all}
use Rattle.std.proofs.lemmas.List.Sums.{AllPass-from_list_all}
use Rattle.std.proofs.lemmas.List.Folds.{list_any_at, Any-from_list_any}
use Rattle.std.proofs.lemmas.Option.{slice_get-map, slice_get-get_or, slice_get_within, get_or_from_slice_get}
use Rattle.std.proofs.lemmas.Option.{same_Some, unwrap_or-slice_get}
use Rattle.flux_defs.specs.declared.limits.TheConstants.{MOST_NAME_BYTES, MOST_TYPE_BYTES, MOST_VERTICES, GREATEST_ID}
use Rattle.flux_defs.specs.declared.limits.TheConstants.{GREATEST_NUMBER}
use Rattle.flux_defs.specs.declared.vertices.Vertex.{Vertex}
use Rattle.flux_defs.specs.Graph.{HasKind}
use Rattle.flux_defs.specs.ValidGraph.{NumbersKinds}
use Rattle.resource_graph.specs.NamedGraph.{NamedGraph, IsWhole}
use Rattle.graph_build.specs.Raw.{IsBuiltFrom, raw_graph, raw_names}
use Rattle.graph_build.specs.Table.{IsFaultless}
use Rattle.graph_build.specs.OwnList.{own_vertex, own_list}
use Rattle.graph_build.specs.declared.raw.RawVertex.{RawVertex}
use Rattle.resource_graph.proofs.ChainLaws.{no_vertex, parent_read}
use Rattle.graph_build.proofs.OneGraph.{same_items}
use Rattle.graph_build.proofs.OwnGraph.{built_from_itself, own_faultless, own_at}
use Rattle.resource_graph.proofs.Queries.{parents_known}
use Rattle.list_laws.proofs.Values.{value_of}
use Rattle.graph_json.specs.Nodes.{FileNode}
use Rattle.graph_json.specs.Edges.{FileEdge, counted, is_among, is_wrong, IsWrongEdge, parent_of}
use Rattle.text_table.specs.Tables.{number_of}
use Rattle.graph_json.specs.Ids.{ids_of, IsRepeated}
use Rattle.graph_json.specs.RawLists.{kinds_of, vertex_of, vertices_of}
use Rattle.text_table.specs.Tables.{with_text}
use Rattle.graph_json.specs.GraphText.{IsGraphText, HasRightEdges, raw_of}
use Rattle.graph_json.specs.Fields.{is_unit}
use Rattle.text_forms.specs.Names.{is_name}
use Rattle.graph_json.specs.FileGraph.{IsFileGraph, AreProperties, HasFileNumbers}
use Rattle.graph_json.specs.WrittenGraph.{graph_data, graph_text, HasSmallNumbers}
use Rattle.graph_json.proofs.EdgeLaws.{same_text, itself, placed, at_field}
use Rattle.graph_json.proofs.RawLaws.{distinct_indices, kinds-distinct}
use Rattle.graph_json.proofs.Sets.{doubled_at}
use Rattle.graph_json.proofs.WrittenFile.{file_node, file_nodes, file_edge, with_file_edge, file_edges, written_file}
use Rattle.graph_json.proofs.WrittenFile.{FitsNode, AllFit, file_written}
use Rattle.graph_json.proofs.WrittenText.{HasParentsBelow, value_of-graph_text}
use Rattle.list_laws.proofs.Lists.{drop_here, all_from, take_next, all_at}

-- ---- texts without repeats

not_repeated : (texts : List (List ℕ)) → IsDistinct bytes_eq texts → (k : ℕ) → IsRepeated texts k → ⊥
not_repeated texts distinct k repeated = by (slice_get texts k) refl repeated
  where
    by : (o : Option (List ℕ)) → slice_get texts k ≡ o → option_map_or (is_among (take k texts)) o false ≡ true → ⊥
    by None e any = true≢false (sym any)
    by (Some x) e any =
        let split : texts ≡ take k texts ++ x ∷ drop (k + 1) texts =
        sym (take-append-drop k texts) ∙ ap (λ l. take k texts ++ l) (drop_here texts k x e) in
        doubled_at (take k texts) x
        (drop (k + 1) texts) any (subst (λ (l : List (List ℕ)). IsDistinct bytes_eq l) split distinct)

-- where a text stands it is among them
among_at : (texts : List (List ℕ)) (k : ℕ) (x : List ℕ) → slice_get texts k ≡ Some x → is_among texts x ≡ true
among_at texts k x e = list_any_at (bytes_eq x) texts k x
    (slice_get_within texts k x e) (ap (bytes_eq x) (get_or_from_slice_get texts k x x e) ∙ itself x)

-- and that is its number
number_at : (texts : List (List ℕ)) →
    IsDistinct bytes_eq texts → (k : ℕ) (x : List ℕ) → slice_get texts k ≡ Some x → number_of texts x ≡ Some k
number_at texts distinct k x e = by (number_of texts x) refl (placed texts x ∙ among_at texts k x e)
  where
    by : (o : Option ℕ) → number_of texts x ≡ o → is_some o ≡ true → o ≡ Some k
    by None f some = absurd (true≢false (sym some))
    by (Some j) f some = ap Some (distinct_indices texts distinct j k x (at_field texts x j f) e)

-- ---- ids

abbrev ids_from : ℕ → ℕ → List (List ℕ)
ids_from v zero = []
ids_from v (suc n) = decimal v ∷ ids_from (suc v) n

ids_written : (g : NamedGraph) (v : ℕ) (xs : List Vertex) → ids_of (file_nodes g v xs) ≡ ids_from v (length xs)
ids_written g v [] = refl
ids_written g v (x ∷ xs) = ap (λ l. decimal v ∷ l) (ids_written g (suc v) xs)

ids_at : (v n k : ℕ) → k < n → slice_get (ids_from v n) k ≡ Some (decimal (v + k))
ids_at v zero k lt = absurd (omega arith)
ids_at v (suc n) zero lt = let same : v ≡ v + 0 = omega arith in ap (λ w. Some (decimal w)) same
ids_at v (suc n) (suc k) lt = let same : suc v + k ≡ v + suc k = omega arith in
    ids_at (suc v) n k (omega arith) ∙ ap (λ w. Some (decimal w)) same

-- numbers that differ have ids that differ
other_id : (v w : ℕ) → v < 2 ^ 64 → w < 2 ^ 64 → (v ≡ w → ⊥) → bytes_eq (decimal v) (decimal w) ≡ false
other_id v w v_small w_small differ = false_from_ne_true (bytes_eq (decimal v) (decimal w))
    (λ same. differ (decimal_injective v w v_small w_small (same_text (decimal v) (decimal w) same)))

later_ids : (u v n : ℕ) → u < v → v + n ≤ 2 ^ 64 → AllByRecursion (λ y. bytes_eq (decimal u) y ≡ false) (ids_from v n)
later_ids u v zero lt few = tt
later_ids u v (suc n) lt few =
    (other_id u v (omega arith) (omega arith) (λ e. omega arith), later_ids u (suc v) n (omega arith) (omega arith))

distinct_ids : (v n : ℕ) → v + n ≤ 2 ^ 64 → IsDistinct bytes_eq (ids_from v n)
unfolding IsDistinct
distinct_ids v zero few = tt
distinct_ids v (suc n) few = (later_ids v (suc v) n (omega arith) (omega arith), distinct_ids (suc v) n (omega arith))

id_at : (n k : ℕ) → k < n → slice_get (ids_from 0 n) k ≡ Some (decimal k)
id_at n k lt = let same : 0 + k ≡ k = omega arith in ids_at 0 n k lt ∙ ap (λ w. Some (decimal w)) same

id_among : (n k : ℕ) → k < n → is_among (ids_from 0 n) (decimal k) ≡ true
id_among n k lt = among_at (ids_from 0 n) k (decimal k) (id_at n k lt)

id_number : (n k : ℕ) → n ≤ 2 ^ 64 → k < n → number_of (ids_from 0 n) (decimal k) ≡ Some k
id_number n k few lt = number_at (ids_from 0 n) (distinct_ids 0 n (omega arith)) k (decimal k) (id_at n k lt)

-- ---- edges

counted_front : (v : ℕ) (xs : List Vertex) (k : ℕ) →
    counted (take k (map (λ e. Ok e) (file_edges v xs))) ≡ take k (file_edges v xs)
counted_front v [] k = none k
  where
    none : (k : ℕ) → counted (take k []) ≡ take k []
    none zero = refl
    none (suc k) = refl
counted_front v (x ∷ xs) k = by x.parent k (counted_front (suc v) xs)
  where
    by : (o : Option ℕ) (k : ℕ) →
        ((k : ℕ) → counted (take k (map (λ e. Ok e) (file_edges (suc v) xs))) ≡ take k (file_edges (suc v) xs))
        → counted (take k (map (λ e. Ok e) (with_file_edge o v (file_edges (suc v) xs))))
        ≡ take k (with_file_edge o v (file_edges (suc v) xs))
    by None k rest = rest k
    by (Some p) zero rest = refl
    by (Some p) (suc k) rest = ap (λ es. file_edge p v ∷ es) (rest k)

counted_all : (v : ℕ) (xs : List Vertex) → counted (map (λ e. Ok e) (file_edges v xs)) ≡ file_edges v xs
counted_all v [] = refl
counted_all v (x ∷ xs) = by x.parent (counted_all (suc v) xs)
  where
    by : (o : Option ℕ) → counted (map (λ e. Ok e) (file_edges (suc v) xs)) ≡ file_edges (suc v) xs → counted
        (map (λ e. Ok e) (with_file_edge o v (file_edges (suc v) xs))) ≡ with_file_edge o v (file_edges (suc v) xs)
    by None rest = rest
    by (Some p) rest = ap (λ es. file_edge p v ∷ es) rest

-- each edge goes to a vertex before v
abbrev HasTargetsBelow : ℕ → List FileEdge → Type 0
HasTargetsBelow v es = AllByRecursion (λ e. (w : ℕ) × (w < v) × (e.target ≡ decimal w)) es

targets_more : (v : ℕ) (es : List FileEdge) → HasTargetsBelow v es → HasTargetsBelow (suc v) es
targets_more v [] below = tt
targets_more v (e ∷ es) below =
    ((below.0.0, (let lt : below.0.0 < v = below.0.1 in omega arith), below.0.2), targets_more v es below.1)

targets_push : (p v : ℕ) (es : List FileEdge) →
    HasTargetsBelow v es → HasTargetsBelow (suc v) (es ++ file_edge p v ∷ [])
targets_push p v [] below = ((v, omega arith, refl), tt)
targets_push p v (e ∷ es) below =
    ((below.0.0, (let lt : below.0.0 < v = below.0.1 in omega arith), below.0.2), targets_push p v es below.1)

new_target : (v : ℕ) (es : List FileEdge) →
    v < 2 ^ 64 → HasTargetsBelow v es → is_among (map (λ e. e.target) es) (decimal v) ≡ false
new_target v [] small below = refl
new_target v (e ∷ es) small below =
    let lt : below.0.0 < v = below.0.1 in
    or_from (bytes_eq (decimal v) e.target) (is_among (map (λ f. f.target) es) (decimal v)) (ap (bytes_eq (decimal v))
    below.0.2 ∙ other_id v below.0.0 small (omega arith) (λ e. omega arith)) (new_target v es small below.1)

abbrev is_wrong_at : List (List ℕ) → List FileEdge → List FileEdge → ℕ → Bool
is_wrong_at ids before es k =
    option_map_or (is_wrong ids (before ++ take k es)) (slice_get (map (λ e. Ok e) es) k) false

module _ (n : ℕ) (few : n ≤ 2 ^ 64) where
  right_edge : (p v : ℕ) (before : List FileEdge) →
      p < n → v < n → HasTargetsBelow v before → is_wrong (ids_from 0 n) (before ++ []) (Ok (file_edge p v)) ≡ false
  right_edge p v before p_in v_in below =
      or_from (not (is_among (ids_from 0 n) (decimal p)) || not (is_among (ids_from 0 n) (decimal v)))
      (is_among (map (λ e. e.target) (before ++ [])) (decimal v))
      (or_from (not (is_among (ids_from 0 n) (decimal p)))
      (not (is_among (ids_from 0 n) (decimal v))) (ap not (id_among n p p_in)) (ap not (id_among n v v_in)))
      (ap (λ es. is_among (map (λ e. e.target) es) (decimal v)) (append-nil before)
      ∙ new_target v before (omega arith) below)

  right_edges : (v : ℕ) (xs : List Vertex) → v + length xs ≤ n → HasParentsBelow n xs → (before : List FileEdge) →
      HasTargetsBelow v before → (k : ℕ) → is_wrong_at (ids_from 0 n) before (file_edges v xs) k ≡ false
  right_edges v [] within parents before below k = refl
  right_edges v (x ∷ xs) within parents before below k =
      by x.parent parents.0 k (right_edges (suc v) xs (omega arith) parents.1)
    where
      by : (o : Option ℕ) → IfSome o (λ p. p < n) → (k : ℕ) → ((before : List FileEdge) → HasTargetsBelow
          (suc v) before → (k : ℕ) → is_wrong_at (ids_from 0 n) before (file_edges (suc v) xs) k ≡ false)
          → is_wrong_at (ids_from 0 n) before (with_file_edge o v (file_edges (suc v) xs)) k ≡ false
      by None p_in k rest = rest before (targets_more v before below) k
      by (Some p) p_in zero rest = right_edge p v before p_in (omega arith) below
      by (Some p) p_in (suc k) rest =
          ap (λ es. option_map_or (is_wrong (ids_from 0 n) es) (slice_get (map (λ e. Ok e) (file_edges (suc v) xs)) k)
          false) (sym (append_assoc before (file_edge p v ∷ []) (take k (file_edges (suc v) xs))))
          ∙ rest (before ++ file_edge p v ∷ []) (targets_push p v before below) k

  pub no_wrong_edge : (xs : List Vertex) → length xs ≤ n →
      HasParentsBelow n xs → (k : ℕ) → IsWrongEdge (ids_from 0 n) (map (λ e. Ok e) (file_edges 0 xs)) k → ⊥
  no_wrong_edge xs within parents k wrong =
      let same : is_wrong_at (ids_from 0 n) [] (file_edges 0 xs) k
      ≡ option_map_or (is_wrong (ids_from 0 n) (counted (take k (map (λ e. Ok e) (file_edges 0 xs)))))
      (slice_get (map (λ e. Ok e) (file_edges 0 xs)) k) false =
      ap (λ es. option_map_or (is_wrong (ids_from 0 n) es) (slice_get (map (λ e. Ok e) (file_edges 0 xs)) k) false)
      (sym (counted_front 0 xs k)) in
      true≢false (sym wrong ∙ (sym same ∙ right_edges 0 xs (omega arith) parents [] tt k))

-- ---- parents

-- no edge goes to a vertex before these
no_edge : (w v : ℕ) (xs : List Vertex) →
    w < v → v + length xs ≤ 2 ^ 64 → find (λ e. bytes_eq (decimal w) e.target) (file_edges v xs) ≡ None
no_edge w v [] lt few = refl
no_edge w v (x ∷ xs) lt few = by x.parent (no_edge w (suc v) xs (omega arith) (omega arith))
  where
    by : (o : Option ℕ) → find (λ e. bytes_eq (decimal w) e.target) (file_edges (suc v) xs) ≡ None →
        find (λ e. bytes_eq (decimal w) e.target) (with_file_edge o v (file_edges (suc v) xs)) ≡ None
    by None rest = rest
    by (Some p) rest =
        ap (λ b. cond b (Some (file_edge p v)) (find (λ e. bytes_eq (decimal w) e.target) (file_edges (suc v) xs)))
        (other_id w v (omega arith) (omega arith) (λ e. omega arith)) ∙ rest

-- the edge to a vertex comes from its parent
edge_to : (v : ℕ) (xs : List Vertex) (k : ℕ) → v + length xs ≤ 2 ^ 64 → k < length xs
    → find (λ e. bytes_eq (decimal (v + k)) e.target) (file_edges v xs)
    ≡ option_map (λ p. file_edge p (v + k)) (option_and_then (λ x. x.parent) (slice_get xs k))
edge_to v [] k few lt = absurd (omega arith)
edge_to v (x ∷ xs) zero few lt = by x.parent
  where
    same : v + 0 ≡ v
    same = omega arith

    by : (o : Option ℕ) → find (λ e. bytes_eq (decimal (v + 0)) e.target) (with_file_edge o v (file_edges (suc v) xs))
        ≡ option_map (λ p. file_edge p (v + 0)) o
    by None = no_edge (v + 0) (suc v) xs (omega arith) (omega arith)
    by (Some p) =
        let here : bytes_eq (decimal (v + 0)) (decimal v) ≡ true =
        ap (λ w. bytes_eq (decimal w) (decimal v)) same ∙ itself (decimal v) in
        ap (λ b. cond b (Some (file_edge p v)) (find (λ e. bytes_eq (decimal (v + 0)) e.target)
        (file_edges (suc v) xs))) here ∙ ap (λ w. Some (file_edge p w)) (sym same)
edge_to v (x ∷ xs) (suc k) few lt = by x.parent (edge_to (suc v) xs k (omega arith) (omega arith))
  where
    same : suc v + k ≡ v + suc k
    same = omega arith

    moved : find (λ e. bytes_eq (decimal (suc v + k)) e.target) (file_edges (suc v) xs)
        ≡ option_map (λ p. file_edge p (suc v + k)) (option_and_then (λ x. x.parent) (slice_get xs k))
        → find (λ e. bytes_eq (decimal (v + suc k)) e.target) (file_edges (suc v) xs)
        ≡ option_map (λ p. file_edge p (v + suc k)) (option_and_then (λ x. x.parent) (slice_get xs k))
    moved rest = subst (λ (w : ℕ). find (λ e. bytes_eq (decimal w) e.target) (file_edges (suc v) xs)
        ≡ option_map (λ p. file_edge p w) (option_and_then (λ x. x.parent) (slice_get xs k))) same rest

    by : (o : Option ℕ) → find (λ e. bytes_eq (decimal (suc v + k)) e.target) (file_edges (suc v) xs)
        ≡ option_map (λ p. file_edge p (suc v + k)) (option_and_then (λ x. x.parent) (slice_get xs k))
        → find (λ e. bytes_eq (decimal (v + suc k)) e.target) (with_file_edge o v (file_edges (suc v) xs))
        ≡ option_map (λ p. file_edge p (v + suc k)) (option_and_then (λ x. x.parent) (slice_get xs k))
    by None rest = moved rest
    by (Some p) rest =
        ap (λ b. cond b (Some (file_edge p v))
        (find (λ e. bytes_eq (decimal (v + suc k)) e.target) (file_edges (suc v) xs)))
        (other_id (v + suc k) v (omega arith) (omega arith) (λ e. omega arith)) ∙ moved rest

parent_back : (xs : List Vertex) (k : ℕ) (x : Vertex) →
    length xs ≤ 2 ^ 64 → slice_get xs k ≡ Some x → IfSome x.parent (λ p. p < length xs)
    → parent_of (ids_from 0 (length xs)) (file_edges 0 xs) (decimal k) ≡ x.parent
parent_back xs k x few here small =
    let same : 0 + k ≡ k = omega arith in
    let found : find (λ e. bytes_eq (decimal k) e.target) (file_edges 0 xs) ≡ option_map (λ p. file_edge p k) x.parent =
    subst (λ (w : ℕ). find (λ e. bytes_eq (decimal w) e.target) (file_edges 0 xs)
    ≡ option_map (λ p. file_edge p w) (option_and_then (λ x. x.parent) (slice_get xs k))) same
    (edge_to 0 xs k (omega arith) (slice_get_within xs k x here))
    ∙ ap (λ o. option_map (λ p. file_edge p k) (option_and_then (λ x. x.parent) o)) here in
    ap (option_and_then (λ e. number_of (ids_from 0 (length xs)) e.source)) found ∙ by x.parent small
  where
    by : (o : Option ℕ) → IfSome o (λ p. p < length xs) →
        option_and_then (λ e. number_of (ids_from 0 (length xs)) e.source) (option_map (λ p. file_edge p k) o) ≡ o
    by None lt = refl
    by (Some p) lt = id_number (length xs) p few lt

-- ---- items by their indices

all_within : {A : Type 0} (P : A → Type 0) (xs : List A) (k : ℕ) (d : A) →
    AllByRecursion P xs → k < length xs → P (unwrap_or (slice_get xs k) d)
all_within P xs k d all lt = let here = slice_get-get_or xs k d lt in
    subst P (ap (λ o. unwrap_or o d) (sym here)) (all_at P xs k (get_or xs k d) all here)

test_within : {A : Type 0} (p : A → Bool) (xs : List A) (k : ℕ) (d : A) →
    list_all p xs ≡ true → k < length xs → p (unwrap_or (slice_get xs k) d) ≡ true
test_within p xs k d all lt = ap p (unwrap_or-slice_get xs k d) ∙ AllPass-from_list_all p xs all k d lt

take_same : {A : Type 0} (m k : ℕ) (xs : List A) → k < m → slice_get (take m xs) k ≡ slice_get xs k
take_same zero k xs lt = absurd (omega arith)
take_same (suc m) k [] lt = refl
take_same (suc m) zero (x ∷ xs) lt = refl
take_same (suc m) (suc k) (x ∷ xs) lt = take_same m k xs (omega arith)

-- ---- types

module _ (g : NamedGraph) (numbered : NumbersKinds g.resources) where
  abbrev types : List (List ℕ)
  types = g.resources.kinds

  abbrev list : List Vertex
  list = g.resources.vertices

  abbrev type_of : Vertex → List ℕ
  type_of x = unwrap_or (slice_get types x.kind) []

  types_written : (v : ℕ) (xs : List Vertex) → map (λ x. x.kind) (file_nodes g v xs) ≡ map type_of xs
  types_written v [] = refl
  types_written v (x ∷ xs) = ap (λ l. type_of x ∷ l) (types_written (suc v) xs)

  type_at : (v : ℕ) (x : Vertex) → slice_get list v ≡ Some x → slice_get types x.kind ≡ Some (type_of x)
  type_at v x e =
      let known : x.kind < length types = numbered.known v x e in
      let here = slice_get-get_or types x.kind [] known in
      here ∙ ap (λ o. Some (unwrap_or o [])) (sym here)

  -- the first so many types are those of the first so many vertices
  record IsUsedTo (v m : ℕ) : Type 0 where
    few : m ≤ length types
    within : (u : ℕ) (x : Vertex) → u < v → slice_get list u ≡ Some x → x.kind < m
    used : (k : ℕ) → k < m → (u : ℕ) × (u < v) × HasKind list k u

  none_used : IsUsedTo 0 0
  none_used =
      record { few = omega arith; within = λ u x lt e. absurd (omega arith); used = λ k lt. absurd (omega arith) }

  old_type : (v m : ℕ) (x : Vertex) → slice_get list v ≡ Some x → x.kind < m → IsUsedTo v m → IsUsedTo (v + 1) m
  old_type v m x e lt has = record {
    few = has.few;
    within = λ u y u_in at. elim (cases_lt u v) [
      | inl before ↦ has.within u y before at
      | inr last ↦ (let is : u ≡ v = omega arith in let same : x ≡ y = same_Some x y
          (sym e ∙ (ap (slice_get list) (sym is) ∙ at)) in subst (λ (z : Vertex). z.kind < m) same lt)
    ];
    used = λ k k_in. let u = has.used k k_in in (u.0, (let before : u.0 < v = u.1 in omega arith), u.2);
  }

  not_skipped : (v m : ℕ) (x : Vertex) → slice_get list v ≡ Some x → m ≤ x.kind → IsUsedTo v m → x.kind ≡ m
  not_skipped v m x e le has = elim (cases_lt m x.kind) [
    | inl less ↦ (
        let u = numbered.rising v x e m less in
        let y = value_of (slice_get list u.0) (λ y. y.kind ≡ m) u.2 in
        let below : y.0.kind < m = has.within u.0 y.0 u.1 y.1 in
        let is : y.0.kind ≡ m = y.2 in
        absurd (omega arith))
    | inr ge ↦ omega arith
  ]

  new_type : (v m : ℕ) (x : Vertex) → slice_get list v ≡ Some x → x.kind ≡ m → IsUsedTo v m → IsUsedTo (v + 1) (m + 1)
  new_type v m x e is has = record {
    few = (let known : x.kind < length types = numbered.known v x e in omega arith);
    within = λ u y u_in at. elim (cases_lt u v) [
      | inl before ↦ (let below : y.kind < m = has.within u y before at in omega arith)
      | inr last ↦ (let here : u ≡ v = omega arith in let same : y ≡ x = same_Some y x (sym at
          ∙ (ap (slice_get list) here ∙ e)) in let kind : y.kind ≡ x.kind = ap (λ z. z.kind) same in omega arith)
    ];
    used = λ k k_in. elim (cases_lt k m) [
      | inl below ↦ (let u = has.used k below in (u.0, (let before : u.0 < v = u.1 in omega arith), u.2))
      | inr last ↦ (let same : x.kind ≡ k = omega arith in
          (v, omega arith, subst (λ (o : Option Vertex). IsSomeAnd o (λ y. y.kind ≡ k)) (sym e) same))
    ];
  }

  take_at : (m k : ℕ) → k < m → slice_get (take m types) k ≡ slice_get types k
  take_at m k lt = take_same m k types lt

  -- a type that is among the first so many stands there
  found_before : (m k : ℕ) (t : List ℕ) → slice_get types k ≡ Some t → is_among (take m types) t ≡ true → k < m
  found_before m k t e there =
      let any = Any-from_list_any (bytes_eq t) (take m types) there in
      let short : any.0 < length (take m types) = any.2 in
      let j_in : any.0 < m = omega (arith, length-take m types) in
      let here : slice_get (take m types) any.0 ≡ Some any.1 =
      slice_get-get_or (take m types) any.0 any.1 any.2 ∙ ap Some any.3 in
      let at : slice_get types any.0 ≡ Some t =
      sym (take_at m any.0 j_in) ∙ (here ∙ ap Some (sym (same_text t any.1 any.4))) in
      let same : any.0 ≡ k = numbered.apart any.0 k (ap is_some at) (at ∙ sym e) in
      omega arith

  all_types : (left v m : ℕ) →
      v + left ≡ length list → IsUsedTo v m → fold with_text (take m types) (map type_of (drop v list)) ≡ types
  all_types zero v m count has =
      let all : length types ≤ m = elim (cases_lt m (length types)) [
        | inl more ↦ (
            let u = numbered.used m more in
            let x = value_of (slice_get list u.0) (λ x. x.kind ≡ m) u.1 in
            let u_in : u.0 < length list = slice_get_within list u.0 x.0 x.1 in
            let below : x.0.kind < m = has.within u.0 x.0 (omega arith) x.1 in
            let is : x.0.kind ≡ m = x.2 in
            absurd (omega arith))
        | inr le ↦ le
      ] in
      ap (λ l. fold with_text (take m types) (map type_of l)) (drop_all v list (omega arith)) ∙ take_all m types all
  all_types (suc left) v m count has =
      ap (λ l. fold with_text (take m types) (map type_of l)) (drop_here list v x here) ∙ elim (cases_lt x.kind m) [
        | inl old ↦ (
            let there : is_among (take m types) (type_of x) ≡ true =
            among_at (take m types) x.kind (type_of x) (take_at m x.kind old ∙ called) in
            ap (λ b. fold with_text
            (if b then take m types else take m types ++ type_of x ∷ []) (map type_of (drop (v + 1) list))) there
            ∙ all_types left (v + 1) m (omega arith) (old_type v m x here old has))
        | inr le ↦ (
            let is : x.kind ≡ m = not_skipped v m x here le has in
            let absent : is_among (take m types) (type_of x) ≡ false =
            false_from_ne_true (is_among (take m types) (type_of x))
            (λ there. let before : x.kind < m = found_before m x.kind (type_of x) called there in omega arith) in
            let next : take (m + 1) types ≡ take m types ++ type_of x ∷ [] =
            take_next types m (type_of x) (ap (slice_get types) (sym is) ∙ called) in
            ap (λ b. fold with_text
            (if b then take m types else take m types ++ type_of x ∷ []) (map type_of (drop (v + 1) list))) absent
            ∙ (ap (λ l. fold with_text l (map type_of (drop (v + 1) list))) (sym next)
            ∙ all_types left (v + 1) (m + 1) (omega arith) (new_type v m x here is has)))
      ]
    where
      x : Vertex
      x = get_or list v no_vertex

      here : slice_get list v ≡ Some x
      here = slice_get-get_or list v no_vertex (omega arith)

      called : slice_get types x.kind ≡ Some (type_of x)
      called = type_at v x here

  pub kinds_written : kinds_of (file_nodes g 0 list) ≡ types
  kinds_written = ap (fold with_text []) (types_written 0 list) ∙ all_types (length list) 0 0 (omega arith) none_used

-- ---- the vertices

nodes_item : (g : NamedGraph) (v : ℕ) (xs : List Vertex) (k : ℕ) →
    slice_get (file_nodes g v xs) k ≡ option_map (file_node g (v + k)) (slice_get xs k)
nodes_item g v [] k = refl
nodes_item g v (x ∷ xs) zero = let same : v ≡ v + 0 = omega arith in ap (λ n. Some (file_node g n x)) same
nodes_item g v (x ∷ xs) (suc k) = let same : suc v + k ≡ v + suc k = omega arith in
    nodes_item g (suc v) xs k ∙ ap (λ n. option_map (file_node g n) (slice_get xs k)) same

nodes_at : (g : NamedGraph) (k : ℕ) →
    slice_get (file_nodes g 0 g.resources.vertices) k ≡ option_map (file_node g k) (slice_get g.resources.vertices k)
nodes_at g k = let same : 0 + k ≡ k = omega arith in
    nodes_item g 0 g.resources.vertices k ∙ ap (λ n. option_map (file_node g n) (slice_get g.resources.vertices k)) same

module _ (g : NamedGraph) (whole : IsWhole g) where
  abbrev vertices : List Vertex
  vertices = g.resources.vertices

  abbrev nodes : List FileNode
  nodes = file_nodes g 0 vertices

  abbrev edges : List FileEdge
  edges = file_edges 0 vertices

  count_small : length vertices ≤ 2 ^ 64
  count_small = let few : length vertices ≤ MOST_VERTICES = whole.valid.few in omega arith

  parent_small : (k : ℕ) (x : Vertex) → slice_get vertices k ≡ Some x → IfSome x.parent (λ p. p < length vertices)
  parent_small k x e = by x.parent refl
    where
      by : (o : Option ℕ) → x.parent ≡ o → IfSome o (λ p. p < length vertices)
      by None f = tt
      by (Some p) f = parents_known g.resources g.names whole.valid k p (parent_read vertices k x e ∙ f)

  same_types : kinds_of nodes ≡ g.resources.kinds
  same_types = kinds_written g whole.valid.kinds

  same_ids : ids_of nodes ≡ ids_from 0 (length vertices)
  same_ids = ids_written g 0 vertices

  type_number : (k : ℕ) (x : Vertex) → slice_get vertices k ≡ Some x →
      unwrap_or (number_of (kinds_of nodes) (unwrap_or (slice_get g.resources.kinds x.kind) [])) 0 ≡ x.kind
  type_number k x e =
      let called : slice_get (kinds_of nodes) x.kind ≡ Some (unwrap_or (slice_get g.resources.kinds x.kind) []) =
      ap (λ l. slice_get l x.kind) same_types ∙ type_at g whole.valid.kinds k x e in
      ap (λ o. unwrap_or o 0) (number_at
      (kinds_of nodes) (kinds-distinct nodes) x.kind (unwrap_or (slice_get g.resources.kinds x.kind) []) called)

  same_parent : (k : ℕ) (x : Vertex) →
      slice_get vertices k ≡ Some x → parent_of (ids_of nodes) edges (decimal k) ≡ x.parent
  same_parent k x e =
      ap (λ ids. parent_of ids edges (decimal k)) same_ids ∙ parent_back vertices k x count_small e (parent_small k x e)

  abbrev raw_with : ℕ → Option ℕ → ℕ → Vertex → RawVertex
  raw_with kind parent k x = record (own_vertex g k x) { kind = kind; parent = parent }

  same_vertex : (k : ℕ) (x : Vertex) → slice_get vertices k ≡ Some x →
      vertex_of (kinds_of nodes) (file_node g k x) (parent_of (ids_of nodes) edges (decimal k)) ≡ own_vertex g k x
  same_vertex k x e = ap (λ n. raw_with n (parent_of (ids_of nodes) edges (decimal k)) k x) (type_number k x e)
      ∙ ap (λ o. raw_with x.kind o k x) (same_parent k x e)

  same_vertices : vertices_of nodes edges ≡ own_list g
  same_vertices = same_items (vertices_of nodes edges) (own_list g) at
    where
      by : (k : ℕ) (o : Option Vertex) → slice_get vertices k ≡ o → option_map (λ y. vertex_of (kinds_of nodes) y
          (parent_of (ids_of nodes) edges y.id)) (option_map (file_node g k) o) ≡ option_map (own_vertex g k) o
      by k None e = refl
      by k (Some x) e = ap Some (same_vertex k x e)

      at : (k : ℕ) → slice_get (vertices_of nodes edges) k ≡ slice_get (own_list g) k
      at k =
          slice_get-map (λ y. vertex_of (kinds_of nodes) y (parent_of (ids_of nodes) edges y.id)) nodes k
          ∙ (ap (option_map (λ y. vertex_of (kinds_of nodes) y (parent_of (ids_of nodes) edges y.id))) (nodes_at g k)
          ∙ (by k (slice_get vertices k) refl ∙ sym (own_at g k)))

  same_raw : raw_of (written_file g) ≡ own_list g
  same_raw = ap (vertices_of nodes) (counted_all 0 vertices) ∙ same_vertices

  right_written : HasRightEdges (written_file g)
  right_written = (
    subst (λ ids. (k : ℕ) → IsRepeated ids k → ⊥) (sym same_ids)
        (not_repeated (ids_from 0 (length vertices)) (distinct_ids 0 (length vertices) (omega (arith, count_small)))),
    subst (λ ids. (k : ℕ) → IsWrongEdge ids (map (λ e. Ok e) edges) k → ⊥) (sym same_ids)
        (no_wrong_edge (length vertices) count_small vertices
        (omega arith) (all_from (λ x. IfSome x.parent (λ p. p < length vertices)) vertices parent_small)),
  )

  built_written : IsBuiltFrom (kinds_of nodes) (raw_of (written_file g)) g
  built_written = subst (λ ks. IsBuiltFrom ks (raw_of (written_file g)) g)
      (sym same_types) (subst (λ rs. IsBuiltFrom g.resources.kinds rs g) (sym same_raw) (built_from_itself g whole))

  faultless_written : IsFaultless
      (raw_graph (kinds_of nodes) (raw_of (written_file g))) (raw_names (raw_of (written_file g)))
  faultless_written =
      subst (λ ks. IsFaultless (raw_graph ks (raw_of (written_file g))) (raw_names (raw_of (written_file g))))
      (sym same_types)
      (subst (λ rs. IsFaultless (raw_graph g.resources.kinds rs) (raw_names rs)) (sym same_raw) (own_faultless g whole))

-- ---- the law

module _ (g : NamedGraph) (fits : IsFileGraph g) where
  node_fits : (k : ℕ) (x : Vertex) → slice_get g.resources.vertices k ≡ Some x → FitsNode g k x
  node_fits k x e =
      let lt : k < length g.resources.vertices = slice_get_within g.resources.vertices k x e in
      let named : length g.names ≡ length g.resources.vertices = fits.whole.valid.named in
      record {
        kind = test_within
            (is_name MOST_TYPE_BYTES) g.resources.kinds x.kind [] fits.kinds (fits.whole.valid.kinds.known k x e);
        base = test_within (is_name MOST_NAME_BYTES) g.bases k [] fits.bases (omega (arith, fits.whole.bases));
        name = test_within (is_name MOST_NAME_BYTES) g.names k [] fits.names (omega arith);
        unit = test_within is_unit g.units k [] fits.units (omega (arith, fits.whole.units));
        properties = all_within AreProperties g.properties k [] fits.properties (omega (arith, fits.whole.properties));
        numbers = all_at HasFileNumbers g.resources.vertices k x fits.numbers e;
        size = fits.whole.valid.sizes.most k x e;
      }

  all_fit : (v : ℕ) (xs : List Vertex) →
      ((k : ℕ) → slice_get xs k ≡ slice_get g.resources.vertices (v + k)) → AllFit g v xs
  all_fit v [] same = tt
  all_fit v (x ∷ xs) same = (
    (let at : v + 0 ≡ v = omega arith in node_fits v x (sym (same 0 ∙ ap (slice_get g.resources.vertices) at))),
    all_fit (suc v) xs
        (λ k. let at : v + suc k ≡ suc v + k = omega arith in same (suc k) ∙ ap (slice_get g.resources.vertices) at),
  )

  small_numbers : (k : ℕ) (x : Vertex) → slice_get g.resources.vertices k ≡ Some x → HasSmallNumbers x
  small_numbers k x e =
      let size : x.size ≤ GREATEST_NUMBER = fits.whole.valid.sizes.most k x e in
      let own = all_at HasFileNumbers g.resources.vertices k x fits.numbers e in
      (omega arith, small x.id own.0, small x.rank own.1)
    where
      small : (o : Option ℕ) → IfSome o (λ n. n ≤ GREATEST_ID) → IfSome o (λ n. n < 2 ^ 64)
      small None h = tt
      small (Some n) h = omega arith

  parents_below : (k : ℕ) (x : Vertex) → slice_get g.resources.vertices k ≡ Some x → IfSome x.parent (λ p. p < 2 ^ 64)
  parents_below k x e = by x.parent (parent_small g fits.whole k x e)
    where
      by : (o : Option ℕ) → IfSome o (λ p. p < length g.resources.vertices) → IfSome o (λ p. p < 2 ^ 64)
      by None h = tt
      by (Some p) h = let few : length g.resources.vertices ≤ MOST_VERTICES = fits.whole.valid.few in omega arith

  -- what is written of a graph that a file can hold is a file of that graph
  pub read_back : IsGraphText (graph_text g) g
  read_back =
      let value =
      value_of-graph_text g (all_from HasSmallNumbers g.resources.vertices small_numbers) (count_small g fits.whole)
      (all_from (λ x. IfSome x.parent (λ p. p < 2 ^ 64)) g.resources.vertices parents_below) in
      let file = file_written g (all_fit 0 g.resources.vertices
      (λ k. let at : k ≡ 0 + k = omega arith in ap (slice_get g.resources.vertices) at)) in (
        written_file g,
        (graph_data g, value, file),
        right_written g fits.whole,
        built_written g fits.whole,
        faultless_written g fits.whole,
      )
