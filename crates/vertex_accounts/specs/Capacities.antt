-- The capacities of a type.
use Rattle.std.specs.Prelude.{◌≡◌, ℕ, List}
use Rattle.flux_defs.specs.declared.vertices.Vertex.{Vertex}
use Rattle.vertex_accounts.specs.declared.capacities.Capacities.{Capacities}
use Rattle.vertex_accounts.specs.Prefixes.{IsPrefix}

-- these are the capacities of the kind in the graph of these vertices
pub record AreOf (vertices : List Vertex) (kind : ℕ) (all : Capacities) : Type 0 where
  pub kind_is : all.kind ≡ kind
  pub sums : IsPrefix vertices kind all.sums
