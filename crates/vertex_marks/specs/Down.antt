-- Lists of down vertices.
use Rattle.std.specs.Prelude.{ℕ, ◌<◌, ◌≤◌, Bool, not, nat_eq, if◌then◌else◌, List, [], ◌∷◌, ◌++◌, length, filter}
use Rattle.std.specs.Prelude.{count_by, IsTrue}
use Rattle.std.specs.List.{list_any}
use Rattle.flux_defs.specs.declared.vertices.Vertex.{Vertex}
use Rattle.flux_defs.specs.Graph.{is_at_or_below}

-- v itself is down
abbrev pub is_among : List ℕ → ℕ → Bool
is_among down v = list_any (nat_eq v) down

-- v or a vertex above it is down
abbrev pub is_shut : List Vertex → List ℕ → ℕ → Bool
is_shut vertices down v = list_any (is_at_or_below vertices v) down

-- v or a vertex below it is down
abbrev pub has_shut : List Vertex → List ℕ → ℕ → Bool
has_shut vertices down v = list_any (λ u. is_at_or_below vertices u v) down

-- how many of them are v or below it
abbrev pub down_within : List Vertex → List ℕ → ℕ → ℕ
down_within vertices down v = count_by (λ u. is_at_or_below vertices u v) down

-- v is put at the end, or taken out
abbrev pub marked : List ℕ → ℕ → Bool → List ℕ
marked down v goes_down = if goes_down then down ++ v ∷ [] else filter (λ u. not (nat_eq v u)) down

-- each is a vertex, and none is there twice
pub record AreDown (vertices : List Vertex) (down : List ℕ) : Type 0 where
  pub within : (v : ℕ) → IsTrue (is_among down v) → v < length vertices
  pub once : (v : ℕ) → count_by (nat_eq v) down ≤ 1
