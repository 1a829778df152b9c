-- What the tables of a graph ask of its vertices.
use Rattle.std.specs.Prelude.{◌≡◌, ℕ, ◌<◌, List, [], Some, slice_get}
use Rattle.flux_defs.specs.declared.vertices.Vertex.{Vertex}
use Rattle.flux_defs.specs.Graph.{ResourceGraph}
use Rattle.flux_defs.specs.ValidGraph.{StandsInPreorder, HasRank}

-- vertices without the names of their types
abbrev pub plain : List Vertex → ResourceGraph
plain vertices = record { kinds = []; vertices = vertices }

-- the vertices stand in preorder
abbrev pub InPreorder : List Vertex → Type 0
InPreorder vertices = StandsInPreorder (plain vertices)

-- each vertex has a kind below this number
abbrev pub KnowsKinds : List Vertex → ℕ → Type 0
KnowsKinds vertices kinds = (v : ℕ) (x : Vertex) → slice_get vertices v ≡ Some x → x.kind < kinds

-- no two vertices have the same rank
abbrev pub RanksApart : List Vertex → Type 0
RanksApart vertices = (v u rank : ℕ) → HasRank (plain vertices) rank v → HasRank (plain vertices) rank u → v ≡ u
