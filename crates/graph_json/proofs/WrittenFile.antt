-- What the value of a graph says as a graph file.
use Rattle.std.proofs.Common.{◌≡◌, refl, ap, ap₂, ◌∙◌, ℕ, suc, ◌<◌, ◌≤◌, List, [], ◌∷◌, length, map, Bool}
use Rattle.std.proofs.Common.{true, ◌&&◌, nat_lt, nat_le, Option, Some, None, Ok, Err, if◌then◌else◌, unwrap_or}
use Rattle.std.proofs.Common.{slice_get, get_or, codes, decimal, IsUtf8, IfSome, arith}
use Rattle.std.specs.List.{list_all}
use Rattle.std.specs.Result.{result_map_both}
use Rattle.std.specs.Char.{is_ascii_graphic}
use Rattle.std.proofs.lemmas.Bool.{and_parts, le-leb, le-ltb}
use Rattle.std.proofs.lemmas.List.Sums.{AllPass-from_list_all}
use Rattle.std.proofs.lemmas.Str.{IsUtf8-from_ascii, is_utf8-from_IsUtf8}
use Rattle.std.proofs.lemmas.Str.Ascii.{IsAscii-from_all}
use Rattle.flux_defs.specs.declared.limits.TheConstants.{MOST_NAME_BYTES, MOST_TYPE_BYTES, GREATEST_ID, MOST_UNIT_BYTES}
use Rattle.flux_defs.specs.declared.limits.TheConstants.{GREATEST_NUMBER}
use Rattle.serde_json.specs.Data.{Data}
use Rattle.json_whole.specs.declared.fields.FieldFault.{FieldFault}
use Rattle.flux_defs.specs.declared.vertices.Vertex.{Vertex}
use Rattle.resource_graph.specs.NamedGraph.{NamedGraph}
use Rattle.resource_graph.specs.Tables.{name_at, base_at, properties_at, unit_at}
use Rattle.graph_json.specs.Fields.{is_unit, small_number, small_given, size_given}
use Rattle.text_forms.specs.Names.{is_name, is_name_byte}
use Rattle.json_fields.specs.Names.{ruled, ruled_field, ruled_given}
use Rattle.graph_json.specs.Nodes.{FileNode, in_order, name_given, properties_given, node_with, node_of, nodes_of}
use Rattle.json_fields.specs.Values.{keys_of}
use Rattle.graph_json.specs.Edges.{FileEdge, edge_of, edges_of}
use Rattle.graph_json.specs.GraphFile.{GraphFile, file_of}
use Rattle.graph_json.specs.FileGraph.{AreProperties, HasFileNumbers}
use Rattle.graph_json.specs.WrittenGraph.{or_none, keys_object, written_properties, metadata_data, node_data}
use Rattle.graph_json.specs.WrittenGraph.{nodes_data}
use Rattle.graph_json.specs.WrittenGraph.{edge_data, with_edge, edges_data, graph_data}
use Rattle.json_written.specs.Texts.{readable}
use Rattle.graph_json.specs.declared.field_paths.FieldPath.TheVariants.{PropertyKey}
use Rattle.graph_json.specs.declared.edges.Role.TheVariants.{Counted}
use Rattle.text_forms.proofs.Ascii.{name_byte_small}

-- ---- the file of a graph

-- the node that vertex v, which is x, is
abbrev pub file_node : NamedGraph → ℕ → Vertex → FileNode
file_node g v x = record {
  id = decimal v;
  kind = unwrap_or (slice_get g.resources.kinds x.kind) [];
  base = base_at g v;
  number = x.id;
  name = name_at g v;
  rank = x.rank;
  size = x.size;
  unit = unit_at g v;
  properties = properties_at g v;
}

abbrev pub file_nodes : NamedGraph → ℕ → List Vertex → List FileNode
file_nodes g v [] = []
file_nodes g v (x ∷ xs) = file_node g v x ∷ file_nodes g (suc v) xs

-- the edge to vertex v from its parent
abbrev pub file_edge : ℕ → ℕ → FileEdge
file_edge p v = record { source = decimal p; target = decimal v; role = Counted }

abbrev pub with_file_edge : Option ℕ → ℕ → List FileEdge → List FileEdge
with_file_edge None v rest = rest
with_file_edge (Some p) v rest = file_edge p v ∷ rest

abbrev pub file_edges : ℕ → List Vertex → List FileEdge
file_edges v [] = []
file_edges v (x ∷ xs) = with_file_edge x.parent v (file_edges (suc v) xs)

abbrev pub written_file : NamedGraph → GraphFile
written_file g =
    record { nodes = file_nodes g 0 g.resources.vertices; edges = map (λ e. Ok e) (file_edges 0 g.resources.vertices) }

-- the texts and numbers of vertex v, which is x, keep their rules
pub record FitsNode (g : NamedGraph) (v : ℕ) (x : Vertex) : Type 0 where
  pub kind : is_name MOST_TYPE_BYTES (unwrap_or (slice_get g.resources.kinds x.kind) []) ≡ true
  pub base : is_name MOST_NAME_BYTES (base_at g v) ≡ true
  pub name : is_name MOST_NAME_BYTES (name_at g v) ≡ true
  pub unit : is_unit (unit_at g v) ≡ true
  pub properties : AreProperties (properties_at g v)
  pub numbers : HasFileNumbers x
  pub size : x.size ≤ GREATEST_NUMBER

-- ---- fields

ascii_text : (p : ℕ → Bool) → ((b : ℕ) → p b ≡ true → b < 128) → (t : List ℕ) → list_all p t ≡ true → readable t ≡ t
ascii_text p small t all =
    let utf8 : IsUtf8 t = IsUtf8-from_ascii t
    (IsAscii-from_all t (λ k d h. small (get_or t k d) (AllPass-from_list_all p t all k d h))) in
    ap (λ b. if b then t else []) (is_utf8-from_IsUtf8 t utf8)

graphic_small : (b : ℕ) → is_ascii_graphic b ≡ true → b < 128
graphic_small b e = grind arith

readable_name : (most : ℕ) (t : List ℕ) → is_name most t ≡ true → readable t ≡ t
readable_name most t e = ascii_text is_name_byte name_byte_small t
    (and_parts (nat_lt 0 (length t) && nat_le (length t) most) (list_all is_name_byte t) e).1

readable_unit : (t : List ℕ) → is_unit t ≡ true → readable t ≡ t
readable_unit t e = ascii_text is_ascii_graphic graphic_small t
    (and_parts (nat_le (length t) MOST_UNIT_BYTES) (list_all is_ascii_graphic t) e).1

-- a text that keeps its rule
kept : (rule : List ℕ → Bool) (t : List ℕ) → readable t ≡ t → rule t ≡ true → ruled rule (readable t) ≡ Ok t
kept rule t same fits = ap (ruled rule) same ∙ ap (λ b. if b then Ok t else Err FieldFault.Text) fits

kept_small : (o : Option ℕ) → IfSome o (λ n. n ≤ GREATEST_ID) → small_number (or_none o) ≡ Ok o
kept_small None h = refl
kept_small (Some n) h = ap (λ b. if b then Ok (Some n) else Err FieldFault.Large) (le-leb n (GREATEST_ID) h)

kept_size : (n : ℕ) → n ≤ GREATEST_NUMBER →
    (if nat_lt n 0 then Err FieldFault.Small else (if nat_lt GREATEST_NUMBER n then Err FieldFault.Large else Ok n))
    ≡ Ok n
kept_size n h = rw (le-ltb n 0 (omega arith), le-ltb GREATEST_NUMBER n h) refl

readable_names : (list : List (List ℕ)) → list_all (is_name MOST_NAME_BYTES) list ≡ true → map readable list ≡ list
readable_names [] all = refl
readable_names (t ∷ ts) all =
    let p = and_parts (is_name MOST_NAME_BYTES t) (list_all (is_name MOST_NAME_BYTES) ts) all in
    ap₂ (λ x xs. x ∷ xs) (readable_name MOST_NAME_BYTES t p.0) (readable_names ts p.1)

same_keys : (ks : List (List ℕ)) → keys_of (keys_object ks) ≡ ks
same_keys [] = refl
same_keys (k ∷ ks) = ap (λ l. k ∷ l) (same_keys ks)

-- ---- nodes

read_node : (at : ℕ) (id : List ℕ) (d : Data) (x : FileNode) → ruled_field (is_name MOST_TYPE_BYTES) (codes "type") d
    ≡ Ok x.kind → ruled_given (is_name MOST_NAME_BYTES) x.kind (codes "basename") d ≡ Ok x.base
    → small_given (codes "id") d ≡ Ok x.number → name_given x.base x.number d ≡ Ok x.name →
    small_given (codes "rank") d ≡ Ok x.rank → size_given (codes "size") d ≡ Ok x.size
    → ruled_given is_unit [] (codes "unit") d ≡ Ok x.unit →
    properties_given at d ≡ Ok x.properties → id ≡ x.id → node_with at id d ≡ Ok x
read_node at id d x kind base n name rank size unit properties same =
    rw (kind, base, n, name, rank, size, unit, properties, same) refl

module _ (g : NamedGraph) (v : ℕ) (x : Vertex) (fits : FitsNode g v x) where
  same_properties : written_properties g v ≡ properties_at g v
  same_properties = ap in_order (readable_names (properties_at g v) fits.properties.0)
      ∙ fits.properties.1

  kept_properties : (at : ℕ) → properties_given at (metadata_data g v x) ≡ Ok (properties_at g v)
  kept_properties at =
      let keys : keys_of (keys_object (written_properties g v)) ≡ properties_at g v =
      same_keys (written_properties g v) ∙ same_properties in
      ap (λ ks. if list_all (is_name MOST_NAME_BYTES) ks then Ok ks else Err
      (record { field = PropertyKey at; fault = FieldFault.Text })) keys
      ∙ ap (λ b. if b then Ok (properties_at g v) else Err
      (record { field = PropertyKey at; fault = FieldFault.Text })) fits.properties.0

  pub node_read : (at : ℕ) → node_of at (node_data g v x) ≡ Ok (file_node g v x)
  node_read at =
      read_node at (decimal v) (metadata_data g v x) (file_node g v x)
      (kept (is_name MOST_TYPE_BYTES) (unwrap_or (slice_get g.resources.kinds x.kind) [])
      (readable_name MOST_TYPE_BYTES (unwrap_or (slice_get g.resources.kinds x.kind) []) fits.kind) fits.kind)
      (kept (is_name MOST_NAME_BYTES) (base_at g v)
      (readable_name MOST_NAME_BYTES (base_at g v) fits.base) fits.base)
      (kept_small x.id fits.numbers.0)
      (kept (is_name MOST_NAME_BYTES) (name_at g v)
      (readable_name MOST_NAME_BYTES (name_at g v) fits.name) fits.name)
      (kept_small x.rank fits.numbers.1)
      (kept_size x.size fits.size)
      (kept is_unit (unit_at g v)
      (readable_unit (unit_at g v) fits.unit) fits.unit)
      (kept_properties at)
      refl

abbrev pub AllFit : NamedGraph → ℕ → List Vertex → Type 0
AllFit g v [] = Unit {0}
AllFit g v (x ∷ xs) = FitsNode g v x × AllFit g (suc v) xs

nodes_read : (g : NamedGraph) (at v : ℕ) (xs : List Vertex) →
    AllFit g v xs → nodes_of at (nodes_data g v xs) ≡ Ok (file_nodes g v xs)
nodes_read g at v [] all = refl
nodes_read g at v (x ∷ xs) all = rw (node_read g v x all.0 at, nodes_read g (suc at) (suc v) xs all.1) refl

-- ---- edges

edge_read : (at p v : ℕ) → edge_of at (edge_data p v) ≡ Ok (file_edge p v)
edge_read at p v = refl

edges_read : (at v : ℕ) (xs : List Vertex) → edges_of at (edges_data v xs) ≡ map (λ e. Ok e) (file_edges v xs)
edges_read at v [] = refl
edges_read at v (x ∷ xs) = by x.parent (edges_read at (suc v) xs) (edges_read (suc at) (suc v) xs)
  where
    by : (o : Option ℕ) → edges_of at (edges_data (suc v) xs) ≡ map (λ e. Ok e) (file_edges (suc v) xs) →
        edges_of (suc at) (edges_data (suc v) xs) ≡ map (λ e. Ok e) (file_edges (suc v) xs)
        → edges_of at (with_edge o v (edges_data (suc v) xs))
        ≡ map (λ e. Ok e) (with_file_edge o v (file_edges (suc v) xs))
    by None same next = same
    by (Some p) same next = ap₂ (λ e es. e ∷ es) (edge_read at p v) next

-- ---- the file

pub file_written : (g : NamedGraph) → AllFit g 0 g.resources.vertices → file_of (graph_data g) ≡ Ok (written_file g)
file_written g all =
    ap (result_map_both (λ nodes. record { nodes = nodes; edges = edges_of 0 (edges_data 0 g.resources.vertices) })
    (λ m. m)) (nodes_read g 0 0 g.resources.vertices all)
    ∙ ap (λ es. Ok (record { nodes = file_nodes g 0 g.resources.vertices; edges = es }))
    (edges_read 0 0 g.resources.vertices)
