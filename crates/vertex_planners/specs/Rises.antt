-- So much more for a vertex and each one above it.
use Rattle.std.specs.Prelude.{ℕ, ◌<◌, ◌==◌, if◌then◌else◌, List, length, IfSome}
use Rattle.flux_defs.specs.declared.vertices.Vertex.{Vertex}
use Rattle.flux_defs.specs.Graph.{chain}
use Rattle.vertex_planners.specs.declared.measures.Rise.{Rise}
use Rattle.vertex_planners.specs.Chains.{sum_on}

-- how much more v gets
abbrev pub rise_at : List Vertex → Rise → ℕ → ℕ
rise_at vertices rise v = sum_on v rise.more (chain vertices (length vertices) rise.from)

-- for how many vertices a number is kept at most that none was kept for before
abbrev pub weight_of : Rise → ℕ
weight_of rise = if rise.more == 0 then 0 else 16

-- it begins at a vertex of the list, if at one
abbrev pub IsInside : List Vertex → Rise → Type 0
IsInside vertices rise = IfSome rise.from (λ v. v < length vertices)
