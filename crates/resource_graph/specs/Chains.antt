-- Chains of parents, in a list of vertices whose order is free.
use Rattle.std.specs.Prelude.{◌≡◌, ℕ, ◌<◌, List, length, Some, slice_get}
use Rattle.flux_defs.specs.declared.vertices.Vertex.{Vertex}
use Rattle.flux_defs.specs.Graph.{parent_of, chain}

-- the vertex and those above it, up to the root
abbrev pub chain_of : List Vertex → ℕ → List ℕ
chain_of vertices v = chain vertices (length vertices) (Some v)

-- each parent is a vertex of the list
abbrev pub KnowsParents : List Vertex → Type 0
KnowsParents vertices = (v p : ℕ) → parent_of vertices v ≡ Some p → p < length vertices

-- each number of the list is less than this
abbrev pub AllBelow : ℕ → List ℕ → Type 0
AllBelow most list = (i v : ℕ) → slice_get list i ≡ Some v → v < most
