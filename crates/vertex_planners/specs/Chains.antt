-- Sums along the chain of a vertex's parents.
use Rattle.std.specs.Prelude.{◌≡◌, ℕ, ◌<◌, ◌==◌, if◌then◌else◌, List, sum_by, length, Some}
use Rattle.flux_defs.specs.declared.vertices.Vertex.{Vertex}
use Rattle.flux_defs.specs.Graph.{parent_of}

-- so much for each time that v is in the list
abbrev pub sum_on : ℕ → ℕ → List ℕ → ℕ
sum_on v more vs = sum_by (λ u. if u == v then more else 0) vs

-- parents are vertices of the list
abbrev pub ParentsIn : List Vertex → Type 0
ParentsIn vertices = (v p : ℕ) → parent_of vertices v ≡ Some p → p < length vertices
