-- What a search looks for, and where.
use Rattle.std.specs.Prelude.{◌≡◌, ℕ, ◌<◌, ◌≤◌, ◌^◌, ◌⊎◌, ◌↔◌, Bool, List, length, Option, Some, None, MatchOption}
use Rattle.std.specs.Prelude.{if◌then◌else◌}
use Rattle.std.specs.List.{AllByRecursion}
use Rattle.flux_defs.specs.declared.vertices.Vertex.{Vertex}
use Rattle.flux_defs.specs.declared.claims.Claim.{Claim}
use Rattle.flux_defs.specs.declared.claims.Claim.TheVariants.{Hold, Pass}
use Rattle.flux_defs.specs.declared.claims.Window.{Window}
use Rattle.flux_defs.specs.declared.requests.Need.{Need, Vert', Pool, Spread'}
use Rattle.flux_defs.specs.Graph.{Scope, Everywhere, Beneath, IsIn, HasKind}
use Rattle.flux_defs.specs.Closed.{Scene, IsClosedIn}
use Rattle.flux_defs.specs.Available.{IsAvailable}
use Rattle.flux_defs.specs.Needs.{IsOfNeed, HasNoSpread}
use Rattle.flux_defs.specs.Present.{Present, InEach}

-- where is looked: below this vertex, or everywhere
abbrev pub scope_of : Option ℕ → Scope
scope_of None = Everywhere
scope_of (Some u) = Beneath u

-- the vertex, where there is one, is one of the graph
abbrev pub IsScope : List Vertex → Option ℕ → Type 0
IsScope vertices scope = MatchOption scope (Unit {0}) (λ u. u < length vertices)

-- what an ask with these bars meets
abbrev pub meets : List Vertex → Present → List ℕ → Scene
meets vertices present barred = record { vertices = vertices; present = present; barred = barred }

-- the claims that are available over the window to an ask with these bars
abbrev pub open_to : List Vertex → Present → List ℕ → Window → Claim → Type 0
open_to vertices present barred w = IsAvailable (meets vertices present barred) w

-- the vertex, where there is one, isn't closed over the window, whatever the view stands for
abbrev pub IsOpenScope : List Vertex → (Present → Type 0) → List ℕ → Window → Option ℕ → Type 0
IsOpenScope vertices stands barred w scope = MatchOption scope (Unit {0})
    (λ u. InEach stands (λ present. IsClosedIn (meets vertices present barred) w u → ⊥))

-- what a need of vertices claims of one of them: all of it, or its pass
abbrev pub claim_on : Bool → ℕ → Claim
claim_on hold v = if hold then Hold v else Pass v

-- exactly the vertices from `from` on and before `to` are in the scope
abbrev pub Covers : List Vertex → Scope → ℕ → ℕ → Type 0
Covers vertices scope from to = (v : ℕ) → v < length vertices → (IsIn vertices scope v ↔ ((from ≤ v) × (v < to)))

-- exactly the vertices of the kind are of the need; where there is no kind, no vertex is
abbrev pub IsKindOfNeed : List Vertex → Need → Option ℕ → Type 0
IsKindOfNeed vertices need kind = MatchOption kind ((v : ℕ) → IsOfNeed vertices need v → ⊥)
    (λ k. (v : ℕ) → (IsOfNeed vertices need v ↔ HasKind vertices k v))

-- needs that are scaled: by 1, or needs without a spread
abbrev pub MayScale : ℕ → List Need → Type 0
MayScale k needs = (k ≡ 1) ⊎ AllByRecursion HasNoSpread needs

abbrev pub MayScaleNeed : ℕ → Need → Type 0
MayScaleNeed k need = (k ≡ 1) ⊎ HasNoSpread need

-- so much may be asked of one vertex: a number of copies is below 2 ^ 64
abbrev pub MayAsk : ℕ → Need → Type 0
MayAsk most (Vert' kind count hold m needs) = Unit {0}
MayAsk most (Pool kind quantity) = Unit {0}
MayAsk most (Spread' count m needs) = most < 2 ^ 64
