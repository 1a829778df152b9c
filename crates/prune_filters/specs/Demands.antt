-- What a need demands of each kind (pruning by aggregates, as flux-sched does it).
use Rattle.std.specs.Prelude.{ℕ, ◌+◌, ◌*◌, ◌-◌, ◌^◌, ◌==◌, ◌&&◌, Bool, List, [], ◌∷◌, is_some, if◌then◌else◌, min}
use Rattle.std.specs.List.{list_any}
use Rattle.flux_defs.specs.declared.vertices.Vertex.{Vertex}
use Rattle.flux_defs.specs.declared.requests.Need.{Need, Vert', Pool, Spread', Row_of-Need, end_of-Need, more_of-Need}
use Rattle.flux_defs.specs.Needs.{amount_of}

-- 1 where this holds, else 0
abbrev pub one_if : Bool → ℕ
one_if b = if b then 1 else 0

-- whether some node is of this kind
abbrev pub is_node_kind : List Vertex → ℕ → Bool
is_node_kind vertices kind = list_any (λ x. (x.kind == kind) && is_some x.rank) vertices

-- over the vertices, and the kind that is asked about
module _ (vertices : List Vertex) (kind : ℕ) where
  abbrev mutual
    -- How much of the kind n of a need demand: each vertex 1 of its own kind and all that its inner needs demand;
    -- each unit of a pool 1; a spread one node, since all its copies may lie in one, and each copy what its needs
    -- demand.
    pub demand : ℕ → Need → ℕ
    demand n (Vert' own count hold m needs) = n * (one_if (own == kind) + row_demand needs)
    demand n (Pool own quantity) = n * one_if (own == kind)
    demand n (Spread' count m needs) = one_if (is_node_kind vertices kind) + n * row_demand needs

    -- how much a row of needs demands, each its amount
    pub row_demand : {m : _} → Row_of-Need m → ℕ
    row_demand end_of-Need = 0
    row_demand (more_of-Need need rest) = demand (amount_of need) need + row_demand rest

  -- the same of a list of needs
  abbrev pub needs_demand : List Need → ℕ
  needs_demand [] = 0
  needs_demand (need ∷ rest) = demand (amount_of need) need + needs_demand rest

-- a number, or the greatest of 64 bits where it is greater
abbrev pub capped : ℕ → ℕ
capped n = min n (2 ^ 64 - 1)
