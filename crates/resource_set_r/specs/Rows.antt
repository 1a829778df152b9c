-- What a job has of the nodes: their ranks, and by rank the ids of cores and gpus.
use Rattle.std.specs.Prelude.{ℕ, ◌==◌, Bool, false, not, ◌&&◌, ◌||◌, nat_lt, if◌then◌else◌, List, [], ◌∷◌, ◌++◌, length}
use Rattle.std.specs.Prelude.{Option, None, is_some, slice_get, option_and_then, codes}
use Rattle.std.specs.List.{fold, filter, filter_map, flat_map, find, position}
use Rattle.std.specs.Option.{option_map_or}
use Rattle.std.specs.Ordering.{nat_cmp}
use Rattle.std.specs.BTreeSet.{insert_key}
use Rattle.std.specs.Str.{bytes_eq}
use Rattle.flux_defs.specs.declared.vertices.Vertex.{Vertex}
use Rattle.flux_defs.specs.declared.claims.Claim.{Claim}
use Rattle.flux_defs.specs.Graph.{ResourceGraph, is_at_or_below}
use Rattle.flux_defs.specs.Jobs.{vertex_of, holds_over}
use Rattle.resource_graph.specs.NamedGraph.{NamedGraph}
use Rattle.resource_graph.specs.Tables.{rank_at, name_at}
use Rattle.idset_text.specs.Idsets.{ids_from}
use Rattle.resource_set_r.specs.declared.rows.Children.{Children}
use Rattle.resource_set_r.specs.declared.rows.Element.{Element}

-- the numbers of a graph's vertices
abbrev pub numbers : List Vertex → List ℕ
numbers vertices = ids_from (length vertices) 0

-- numbers in rising order, each once
abbrev pub rising : List ℕ → List ℕ
rising ns = fold (insert_key nat_cmp) [] ns

-- ---- what the claims give

-- a claim gives the vertex that it is on, and a hold gives all below that too
abbrev pub is_given_by : List Vertex → Claim → ℕ → Bool
is_given_by vertices c v = (vertex_of c == v) || holds_over vertices v c

abbrev pub given_by : List Vertex → Claim → List ℕ
given_by vertices c = filter (is_given_by vertices c) (numbers vertices)

-- the vertices that have a claim or lie at or below a held vertex
abbrev pub given : List Vertex → List Claim → List ℕ
given vertices claims = rising (flat_map (given_by vertices) claims)

-- ---- ranks

-- the node that v is or lies below
abbrev pub node_above : List Vertex → ℕ → Option ℕ
node_above vertices v = find (λ n. is_some (rank_at vertices n) && is_at_or_below vertices v n) (numbers vertices)

abbrev pub rank_above : List Vertex → ℕ → Option ℕ
rank_above vertices v = option_and_then (rank_at vertices) (node_above vertices v)

abbrev pub is_in_rank : List Vertex → ℕ → ℕ → Bool
is_in_rank vertices rank v = option_map_or (λ r. r == rank) (rank_above vertices v) false

-- the ranks of the nodes of which something is given
abbrev pub ranks_in : List Vertex → List Claim → List ℕ
ranks_in vertices claims = rising (filter_map (rank_above vertices) (given vertices claims))

-- the node of a rank, and what it is called
abbrev pub node_with : List Vertex → ℕ → Option ℕ
node_with vertices rank = find (λ v. option_map_or (λ r. r == rank) (rank_at vertices v) false) (numbers vertices)

abbrev pub host_of : NamedGraph → ℕ → List ℕ
host_of g rank = option_map_or (name_at g) (node_with g.resources.vertices rank) []

-- ---- cores and gpus

-- the number of the type that is called so
abbrev pub type_called : ResourceGraph → List ℕ → Option ℕ
type_called g name = position (bytes_eq name) g.kinds

-- v is of this type, where there is such a type
abbrev pub is_of_type : List Vertex → Option ℕ → ℕ → Bool
is_of_type vertices kind v =
    option_map_or (λ x. option_map_or (λ k. x.kind == k) kind false) (slice_get vertices v) false

-- the id of v, if it is of this type
abbrev pub id_of_type : List Vertex → Option ℕ → ℕ → Option ℕ
id_of_type vertices kind v =
    if is_of_type vertices kind v then option_and_then (λ x. x.id) (slice_get vertices v) else None

-- what is given of the node of a rank
abbrev pub part_of : List Vertex → List ℕ → ℕ → List ℕ
part_of vertices vs rank = filter (is_in_rank vertices rank) vs

-- the ids of this type there
abbrev pub ids_among : List Vertex → Option ℕ → List ℕ → List ℕ
ids_among vertices kind part = rising (filter_map (id_of_type vertices kind) part)

-- the children of a rank: the ids of its cores and of its gpus, where these are types
abbrev pub children_among : List Vertex → Option ℕ → Option ℕ → List ℕ → Children
children_among vertices core gpu part =
    record { cores = ids_among vertices core part; gpus = ids_among vertices gpu part }

abbrev pub children_in : List Vertex → Option ℕ → Option ℕ → List ℕ → ℕ → Children
children_in vertices core gpu vs rank = children_among vertices core gpu (part_of vertices vs rank)

-- ---- elements of R_lite

abbrev pub is_same : Children → Children → Bool
is_same a b = bytes_eq a.cores b.cores && bytes_eq a.gpus b.gpus

-- an element of one rank
abbrev pub element_of : ℕ → Children → Element
element_of rank children = record { ranks = rank ∷ []; children = children }

-- one more rank with equal children
abbrev pub with_rank : Element → ℕ → Element
with_rank e rank = record { ranks = e.ranks ++ rank ∷ []; children = e.children }

-- a rank joins the last element where its children are equal, and else begins a new one
abbrev pub elements_from : (ℕ → Children) → Element → List ℕ → List Element
elements_from children last [] = last ∷ []
elements_from children last (rank ∷ ranks) =
    if is_same last.children (children rank) then elements_from children (with_rank last rank) ranks
    else (last ∷ elements_from children (element_of rank (children rank)) ranks)

abbrev pub elements : (ℕ → Children) → List ℕ → List Element
elements children [] = []
elements children (rank ∷ ranks) = elements_from children (element_of rank (children rank)) ranks

-- the elements of a job with these claims
abbrev pub elements_of : ResourceGraph → List Claim → List Element
elements_of g claims =
    elements
    (children_in g.vertices (type_called g (codes "core")) (type_called g (codes "gpu")) (given g.vertices claims))
    (ranks_in g.vertices claims)

-- ---- other claims

-- the claim is on a vertex of the graph that is no node, core or gpu, where these are types
abbrev pub is_other_than : List Vertex → Option ℕ → Option ℕ → Option ℕ → Claim → Bool
is_other_than vertices node core gpu c = let v = vertex_of c in
    nat_lt v (length vertices)
    && not (is_of_type vertices node v || is_of_type vertices core v || is_of_type vertices gpu v)

abbrev pub is_other : ResourceGraph → Claim → Bool
is_other g c = is_other_than g.vertices
    (type_called g (codes "node")) (type_called g (codes "core")) (type_called g (codes "gpu")) c
