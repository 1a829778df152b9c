-- The edges of a graph file, and whom they make the parent of whom.
use Rattle.std.specs.Prelude.{◌≡◌, ℕ, suc, ◌<◌, List, [], ◌∷◌, map, take, Bool, true, false, not, ◌&&◌, ◌||◌}
use Rattle.std.specs.Prelude.{if◌then◌else◌, Option, Some, None, is_some, unwrap_or, slice_get, slice_set, option_map}
use Rattle.std.specs.Prelude.{option_and_then, IsTrue, Result, Ok, Err, codes}
use Rattle.std.specs.List.{AllByRecursion, filter_map, find, list_any}
use Rattle.std.specs.Option.{option_map_or}
use Rattle.std.specs.Str.{bytes_eq}
use Rattle.serde_json.specs.Data.{Data, Items, no_items, item}
use Rattle.serde_json.specs.Find.{get, as_str}
use Rattle.graph_json.specs.Fields.{id_field}
use Rattle.json_fields.specs.Values.{result_and_then, given, object_value, object_or_none}
use Rattle.json_fields.specs.Misfits.{at_field}
use Rattle.text_table.specs.Tables.{number_of}
use Rattle.graph_json.specs.Nodes.{id_bytes}
use Rattle.graph_json.specs.declared.field_paths.EdgeKey.TheVariants.{Source, Target, EdgeMetadata}
use Rattle.graph_json.specs.declared.field_paths.FieldPath.TheVariants.{Edge, EdgeField}
use Rattle.graph_json.specs.FieldPaths.{FileMisfit}
use Rattle.graph_json.specs.declared.edges.Role.{Role}
use Rattle.graph_json.specs.declared.edges.Role.TheVariants.{Counted, Skipped, Refused}
use Rattle.graph_json.specs.declared.edges.EdgeFields.{EdgeFields}
use Rattle.graph_json.specs.declared.edges.EdgeFault.{EdgeFault}
use Rattle.graph_json.specs.declared.edges.EdgeFault.TheVariants.{Unfit, Wrong}

-- An edge of a file: the ids of its ends, and what is made of it.
pub record FileEdge : Type 0 where
  pub source : List ℕ
  pub target : List ℕ
  pub role : Role

-- ---- one edge

-- a direction of containment counts, unless it is `in`
abbrev pub direction_role : List ℕ → Role
direction_role text = if bytes_eq text (codes "in") then Skipped else Counted

-- by the text at `name.containment`, where there is one
abbrev pub name_role : Data → Option Role
name_role d = option_map direction_role
    (option_and_then as_str (option_and_then (get (codes "containment")) (get (codes "name") d)))

-- its subsystem is called containment
abbrev pub is_contained : Data → Bool
is_contained d = option_map_or
    (λ text. bytes_eq text (codes "containment")) (option_and_then as_str (get (codes "subsystem") d)) false

-- it has neither a name nor a subsystem
abbrev pub is_plain : Data → Bool
is_plain d = not (is_some (get (codes "name") d)) && not (is_some (get (codes "subsystem") d))

-- what is made of an edge with this metadata: the name is looked at first
abbrev pub role_in : Data → Role
role_in d = unwrap_or (name_role d) (if is_contained d || is_plain d then Counted else Refused)

-- and where it has none, the edge counts
abbrev pub role_of : Option Data → Role
role_of None = Counted
role_of (Some d) = role_in d

-- the edge with these ends that the value with this index is
abbrev pub edge_with : ℕ → Data → Result FileEdge FileMisfit
edge_with at d =
    result_and_then (at_field (EdgeField at Source) (id_field (codes "source") d)) (λ source.
    result_and_then (at_field (EdgeField at Target) (id_field (codes "target") d)) (λ target.
    result_and_then (at_field (EdgeField at EdgeMetadata) (object_or_none (given (codes "metadata") d))) (λ metadata.
    Ok (record { source = source; target = target; role = role_of metadata }))))

-- the edge that the value with this index is
abbrev pub edge_of : ℕ → Data → Result FileEdge FileMisfit
edge_of at d = result_and_then (at_field (Edge at) (object_value d)) (edge_with at)

-- ---- all edges

-- each edge of a list from this index on, as it is read
abbrev pub edges_of : ℕ → Items → List (Result FileEdge FileMisfit)
edges_of at no_items = []
edges_of at (item d ds) = edge_of at d ∷ edges_of (suc at) ds

abbrev pub if_counted : Role → FileEdge → Option FileEdge
if_counted Counted e = Some e
if_counted Skipped e = None
if_counted Refused e = None

abbrev pub counts : Result FileEdge FileMisfit → Option FileEdge
counts (Ok e) = if_counted e.role e
counts (Err m) = None

-- the edges that count
abbrev pub counted : List (Result FileEdge FileMisfit) → List FileEdge
counted edges = filter_map counts edges

-- the text is one of these
abbrev pub is_among : List (List ℕ) → List ℕ → Bool
is_among texts text = list_any (bytes_eq text) texts

-- an edge with this role, after these that count, is wrong: refused, or between what are no nodes, or a second one to
-- its target
abbrev pub is_wrong_as : List (List ℕ) → List FileEdge → Role → FileEdge → Bool
is_wrong_as ids earlier Counted e =
    not (is_among ids e.source) || not (is_among ids e.target) || is_among (map (λ f. f.target) earlier) e.target
is_wrong_as ids earlier Skipped e = false
is_wrong_as ids earlier Refused e = true

-- an edge as it is read is wrong, after these that count
abbrev pub is_wrong : List (List ℕ) → List FileEdge → Result FileEdge FileMisfit → Bool
is_wrong ids earlier (Ok e) = is_wrong_as ids earlier e.role e
is_wrong ids earlier (Err m) = true

-- the k-th edge is wrong
abbrev pub IsWrongEdge : List (List ℕ) → List (Result FileEdge FileMisfit) → ℕ → Type 0
IsWrongEdge ids edges k = IsTrue (option_map_or (is_wrong ids (counted (take k edges))) (slice_get edges k) false)

-- what is told of an edge as it is read with this index
abbrev pub IsFaultOfEdge : Result FileEdge FileMisfit → ℕ → EdgeFault → Type 0
IsFaultOfEdge (Ok e) at (Wrong k) = k ≡ at
IsFaultOfEdge (Ok e) at (Unfit m) = ⊥
IsFaultOfEdge (Err m) at (Wrong k) = ⊥
IsFaultOfEdge (Err m) at (Unfit n) = n ≡ m

-- the fault is that of the first wrong edge
pub record IsFirstWrong
    (ids : List (List ℕ)) (edges : List (Result FileEdge FileMisfit)) (fault : EdgeFault) : Type 0 where
  pub at : ℕ
  pub read : Result FileEdge FileMisfit
  pub here : slice_get edges at ≡ Some read
  pub wrong : IsWrongEdge ids edges at
  pub first : (k : ℕ) → k < at → IsWrongEdge ids edges k → ⊥
  pub told : IsFaultOfEdge read at fault

-- ---- parents

-- the index of the parent of the node with this id: that of the source of the edge to it
abbrev pub parent_of : List (List ℕ) → List FileEdge → List ℕ → Option ℕ
parent_of ids edges id = option_and_then (λ e. number_of ids e.source) (find (λ e. bytes_eq id e.target) edges)

-- by node, the index of its parent
abbrev pub parents_of : List (List ℕ) → List FileEdge → List (Option ℕ)
parents_of ids edges = map (parent_of ids edges) ids

-- ---- what the code holds

abbrev pub edge_held : EdgeFields → FileEdge
edge_held e = record { source = id_bytes e.source; target = id_bytes e.target; role = e.role }

-- the parents with one more, unless there is one already
abbrev pub with_parent : List (Option ℕ) → ℕ → ℕ → Option (List (Option ℕ))
with_parent parents child parent =
    if is_some (unwrap_or (slice_get parents child) None) then None else Some (slice_set parents child (Some parent))

abbrev pub joined_as : List (List ℕ) → List (Option ℕ) → Role → FileEdge → Option (List (Option ℕ))
joined_as ids parents Counted e =
    option_and_then
    (λ parent. option_and_then (λ child. with_parent parents child parent) (number_of ids e.target))
    (number_of ids e.source)
joined_as ids parents Skipped e = Some parents
joined_as ids parents Refused e = None

-- the parents after an edge, and none where it is wrong
abbrev pub joined : List (List ℕ) → List (Option ℕ) → FileEdge → Option (List (Option ℕ))
joined ids parents e = joined_as ids parents e.role e

-- the first so many edges are right, and these are the parents that they give
pub record HasJoined (ids : List (List ℕ))
    (edges : List (Result FileEdge FileMisfit)) (most : ℕ) (parents : List (Option ℕ)) : Type 0 where
  pub parents_are : parents ≡ parents_of ids (counted (take most edges))
  pub right : (k : ℕ) → k < most → IsWrongEdge ids edges k → ⊥
  pub known : AllByRecursion (λ e. is_among ids e.source ≡ true) (counted (take most edges))
