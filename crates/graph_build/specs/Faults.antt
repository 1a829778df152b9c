-- What may be wrong with a list of vertices, one vertex at a time. The vertices stand in any order; `names` are theirs.
use Rattle.std.specs.Prelude.{◌≡◌, ◌≢◌, ℕ, suc, ◌<◌, ◌≤◌, ◌⊎◌, List, length, Some, None, slice_get, codes, IsTrue}
use Rattle.std.specs.Prelude.{IsSome}
use Rattle.std.specs.Option.{IsSomeAnd}
use Rattle.flux_defs.specs.declared.limits.TheConstants.{GREATEST_NUMBER, MOST_LEVELS}
use Rattle.flux_defs.specs.Graph.{ResourceGraph, parent_of, chain, is_below, HasKind, is_pool}
use Rattle.flux_defs.specs.ValidGraph.{HasType, HasId, HasRank, IsDevice}
use Rattle.resource_graph.specs.Chains.{chain_of}

-- v is a vertex of the type node
abbrev pub IsNodeType : ResourceGraph → ℕ → Type 0
IsNodeType g v = HasType g (codes "node") v

-- its parent is no index of the list
abbrev pub HasUnknownParent : ResourceGraph → ℕ → Type 0
HasUnknownParent g v = (p : ℕ) × (parent_of g.vertices v ≡ Some p) × (length g.vertices ≤ p)

-- its kind is no index of the list of types
abbrev pub HasUnknownKind : ResourceGraph → ℕ → Type 0
HasUnknownKind g v = IsSomeAnd (slice_get g.vertices v) (λ x. length g.kinds ≤ x.kind)

-- it has no parent
abbrev pub IsRoot : ResourceGraph → ℕ → Type 0
IsRoot g v = (v < length g.vertices) × (parent_of g.vertices v ≡ None)

-- it has no parent, and nor has an earlier vertex
abbrev pub IsSecondRoot : ResourceGraph → ℕ → Type 0
IsSecondRoot g v = IsRoot g v × ((u : ℕ) × (u < v) × IsRoot g u)

-- its chain of parents never reaches the root: it is longer than the graph
abbrev pub NeverEnds : ResourceGraph → ℕ → Type 0
NeverEnds g v = (v < length g.vertices) ×
    (length g.vertices < length (chain g.vertices (suc (length g.vertices)) (Some v)))

-- more than 16 vertices from the root to it, both counted
abbrev pub IsDeep : ResourceGraph → ℕ → Type 0
IsDeep g v = (v < length g.vertices) × (MOST_LEVELS < length (chain_of g.vertices v))

-- a vertex above has its kind
abbrev pub IsNestedInKind : ResourceGraph → ℕ → Type 0
IsNestedInKind g v = (u : ℕ) × (kind : ℕ) × HasKind g.vertices kind v × HasKind g.vertices kind u
    × IsTrue (is_below g.vertices v u)

-- its type is called slot
abbrev pub IsReserved : ResourceGraph → ℕ → Type 0
IsReserved g v = HasType g (codes "slot") v

-- it is of a pool type and has a child
abbrev pub IsPoolWithChild : ResourceGraph → ℕ → Type 0
IsPoolWithChild g v = IsTrue (is_pool g.vertices v) × ((w : ℕ) × (parent_of g.vertices w ≡ Some v))

-- a node, core or gpu of a size other than 1
abbrev pub IsSized : ResourceGraph → ℕ → Type 0
IsSized g v = (IsNodeType g v ⊎ IsDevice g v) × IsSomeAnd (slice_get g.vertices v) (λ x. x.size ≢ 1)

-- its size is past the greatest number
abbrev pub IsLarge : ResourceGraph → ℕ → Type 0
IsLarge g v = IsSomeAnd (slice_get g.vertices v) (λ x. GREATEST_NUMBER < x.size)

-- it lies below a node
abbrev pub IsHoused : ResourceGraph → ℕ → Type 0
IsHoused g v = (n : ℕ) × IsNodeType g n × IsTrue (is_below g.vertices v n)

-- a core or gpu with no node above
abbrev pub IsLoose : ResourceGraph → ℕ → Type 0
IsLoose g v = IsDevice g v × (IsHoused g v → ⊥)

-- a core or gpu without an id
abbrev pub HasNoId : ResourceGraph → ℕ → Type 0
HasNoId g v = IsDevice g v × IsSomeAnd (slice_get g.vertices v) (λ x. x.id ≡ None)

-- an earlier core (or gpu) of its node has its id
abbrev pub HasDoubleId : ResourceGraph → ℕ → Type 0
HasDoubleId g v = IsDevice g v × ((u : ℕ) × (u < v) × (kind : ℕ) × HasKind g.vertices kind v × HasKind g.vertices kind u
    × (id : ℕ) × HasId g id v × HasId g id u × (n : ℕ) × IsNodeType g n × IsTrue (is_below g.vertices v n)
    × IsTrue (is_below g.vertices u n))

-- an earlier sibling has its name, or it is a node and an earlier node has
abbrev pub HasDoubleName : ResourceGraph → List (List ℕ) → ℕ → Type 0
HasDoubleName g names v = (u : ℕ) × (u < v) × (slice_get names u ≡ slice_get names v)
    × ((IsSome (parent_of g.vertices v) × (parent_of g.vertices u ≡ parent_of g.vertices v)) ⊎
    (IsNodeType g u × IsNodeType g v))

-- some node has a rank
abbrev pub RanksSome : ResourceGraph → Type 0
RanksSome g = (v : ℕ) × IsNodeType g v × ((rank : ℕ) × HasRank g rank v)

-- some node has a rank, and this node has none, or that of an earlier node
abbrev pub HasBadRank : ResourceGraph → ℕ → Type 0
HasBadRank g v = RanksSome g × IsNodeType g v
    × (IsSomeAnd (slice_get g.vertices v) (λ x. x.rank ≡ None) ⊎
    ((u : ℕ) × (u < v) × IsNodeType g u × (rank : ℕ) × HasRank g rank v × HasRank g rank u))
