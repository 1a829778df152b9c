-- Sums over the first vertices of a list.
use Rattle.std.specs.Prelude.{◌≡◌, ℕ, ◌+◌, ◌≤◌, ◌==◌, if◌then◌else◌, List, take, length, sum_by, slice_index}
use Rattle.flux_defs.specs.declared.vertices.Vertex.{Vertex}

-- the vertex's units, if it is of the kind
abbrev pub units_in : ℕ → Vertex → ℕ
units_in kind x = if x.kind == kind then x.size else 0

-- the units of the vertices of the kind among the first n
abbrev pub units_before : List Vertex → ℕ → ℕ → ℕ
units_before vertices kind n = sum_by (units_in kind) (take n vertices)

-- item i is the units among the first i vertices, from none of them to all
pub record IsPrefix (vertices : List Vertex) (kind : ℕ) (sums : List ℕ) : Type 0 where
  pub as_many : length sums ≡ length vertices + 1
  pub each : (i : ℕ) → i ≤ length vertices → slice_index sums i ≡ units_before vertices kind i
