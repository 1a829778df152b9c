-- The laws of pruning, as statements.
use Rattle.std.specs.Prelude.{ℕ, ◌≤◌, List, IsTrue}
use Rattle.flux_defs.specs.declared.claims.Claim.{Claim}
use Rattle.flux_defs.specs.declared.claims.Window.{Window}
use Rattle.flux_defs.specs.declared.requests.Need.{Need}
use Rattle.flux_defs.specs.Graph.{ResourceGraph, Scope, Everywhere, is_at_or_below}
use Rattle.flux_defs.specs.ValidGraph.{IsValidGraph}
use Rattle.flux_defs.specs.Jobs.{EachMoment}
use Rattle.flux_defs.specs.Closed.{Scene}
use Rattle.flux_defs.specs.Free.{total_at, IsTooLittle}
use Rattle.flux_defs.specs.Available.{IsAvailable}
use Rattle.flux_defs.specs.Needs.{IsValidNeed, AreValidNeeds}
use Rattle.flux_defs.specs.Fits.{Fits}
use Rattle.flux_defs.specs.Lowest.{CanServe}
use Rattle.flux_defs.specs.Present.{Present}
use Rattle.prune_filters.specs.Demands.{demand, needs_demand, capped}
use Rattle.prune_filters.specs.Shorts.{HasTooLittleFor}

-- what an ask with these bars meets
abbrev pub scene : ResourceGraph → Present → List ℕ → Scene
scene g present barred = record { vertices = g.vertices; present = present; barred = barred }

-- A vertex that can serve so many of a need has free, at it and below it, as much of each kind as they demand, at each
-- moment of the window.
abbrev pub DemandsAreFree : Type 0
DemandsAreFree = (g : ResourceGraph) (names : List (List ℕ)) → IsValidGraph g names →
    (present : Present) (barred : List ℕ) (w : Window) →
    (scope : Scope) (need : Need) → IsValidNeed g.vertices need → (v q : ℕ) → 1 ≤ q →
    CanServe g.vertices (IsAvailable (scene g present barred) w) scope need v q →
    (kind : ℕ) → EachMoment w (λ m. demand g.vertices kind q need ≤ total_at g.vertices present kind m v)

-- Where a vertex has too little of some kind for one of a need, no vertex at or below it can serve any of the need.
abbrev pub TooLittleServesNone : Type 0
TooLittleServesNone = (g : ResourceGraph) (names : List (List ℕ)) → IsValidGraph g names →
    (present : Present) (barred : List ℕ) (w : Window)
    (need : Need) → IsValidNeed g.vertices need → (v : ℕ) → HasTooLittleFor g.vertices present w need v →
    (scope : Scope) (u q : ℕ) → IsTrue (is_at_or_below g.vertices u v) → 1 ≤ q →
    CanServe g.vertices (IsAvailable (scene g present barred) w) scope need u q → ⊥

-- Where the root has too little of some kind for needs in full, each its amount, no claims fit them.
abbrev pub TooLittleFitsNone : Type 0
TooLittleFitsNone = (g : ResourceGraph) (names : List (List ℕ)) → IsValidGraph g names →
    (present : Present) (barred : List ℕ) (w : Window)
    (needs : List Need) → AreValidNeeds g.vertices needs →
    (kind : ℕ) → IsTooLittle g.vertices present w 0 kind (capped (needs_demand g.vertices kind needs)) →
    (claims : List Claim) → Fits g.vertices (IsAvailable (scene g present barred) w) 1 Everywhere needs claims → ⊥
