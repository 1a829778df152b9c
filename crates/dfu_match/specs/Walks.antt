-- What a walk over the vertices of a need passes over.
use Rattle.std.specs.Prelude.{◌≡◌, ℕ, ◌<◌, ◌≤◌, true, List, [], Option, Some, MatchOption}
use Rattle.flux_defs.specs.declared.vertices.Vertex.{Vertex}
use Rattle.flux_defs.specs.declared.claims.Claim.{Claim}
use Rattle.flux_defs.specs.declared.requests.Need.{Need, Vert}
use Rattle.flux_defs.specs.Graph.{Scope, IsIn, parent_of}
use Rattle.flux_defs.specs.Needs.{IsOfNeed}
use Rattle.flux_defs.specs.Lowest.{CanServe}
use Rattle.match_laws.specs.Offers.{IsGreatest}

-- the vertex's parent, where it has one from `low` on
abbrev pub IsParentFrom : List Vertex → ℕ → ℕ → Option ℕ → Type 0
IsParentFrom vertices v low found =
    MatchOption found ((p : ℕ) → parent_of vertices v ≡ Some p →
    p < low) (λ p. (parent_of vertices v ≡ Some p) × (low ≤ p))

-- no vertex from `from` on and before `to` can serve any of the need, wherever it is looked for
abbrev pub ServesNone : List Vertex → (Claim → Type 0) → Need → ℕ → ℕ → Type 0
ServesNone vertices ok need from to =
    (scope : Scope) (v q : ℕ) → from ≤ v → v < to → 1 ≤ q → CanServe vertices ok scope need v q → ⊥

-- each vertex of the need serves exactly 1 of it, wherever it is looked for
abbrev pub ServesOneEach : List Vertex → (Claim → Type 0) → Need → Type 0
ServesOneEach vertices ok need =
    (scope : Scope) (v most : ℕ) → IsOfNeed vertices need v → IsIn vertices scope v → 1 ≤ most →
    IsGreatest (CanServe vertices ok scope need v) most 1

-- a need of vertices that are held, within which nothing is asked
abbrev pub IsPlainHold : Need → Type 0
IsPlainHold need = (kind : ℕ) × (count : ℕ) × (need ≡ Vert kind count true [])
