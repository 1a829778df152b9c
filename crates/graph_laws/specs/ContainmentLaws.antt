-- What preorder and the chains of parents say of containment (RFC 4).
use Rattle.std.specs.Prelude.{◌≡◌, ℕ, ◌<◌, ◌≤◌, ◌⊎◌, length, Some, IsTrue}
use Rattle.flux_defs.specs.Graph.{ResourceGraph, parent_of, is_at_or_below}
use Rattle.flux_defs.specs.ValidGraph.{StandsInPreorder}

abbrev pub ParentsStandFirst : Type 0
ParentsStandFirst = (g : ResourceGraph) → StandsInPreorder g → (v p : ℕ) → parent_of g.vertices v ≡ Some p → p < v

abbrev pub IsTransitive : Type 0
IsTransitive = (g : ResourceGraph) → StandsInPreorder g → (w v u : ℕ) → w < length g.vertices →
    IsTrue (is_at_or_below g.vertices w v) →
    IsTrue (is_at_or_below g.vertices v u) → IsTrue (is_at_or_below g.vertices w u)

abbrev pub IsChain : Type 0
IsChain = (g : ResourceGraph) → StandsInPreorder g → (w a b : ℕ) → w < length g.vertices →
    IsTrue (is_at_or_below g.vertices w a) → IsTrue (is_at_or_below g.vertices w b) →
    IsTrue (is_at_or_below g.vertices a b) ⊎ IsTrue (is_at_or_below g.vertices b a)

abbrev pub FollowsWithoutGap : Type 0
FollowsWithoutGap = (g : ResourceGraph) → StandsInPreorder g → (u v w : ℕ) → u ≤ v → v ≤ w → w < length g.vertices →
    IsTrue (is_at_or_below g.vertices w u) → IsTrue (is_at_or_below g.vertices v u)
