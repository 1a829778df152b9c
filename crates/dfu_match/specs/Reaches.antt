-- Later windows that a search's answer also holds for.
use Rattle.std.specs.Prelude.{ℕ, ◌<◌, ◌≤◌, List, Option, IfSome}
use Rattle.flux_defs.specs.declared.vertices.Vertex.{Vertex}
use Rattle.flux_defs.specs.declared.claims.Claim.{Claim}
use Rattle.flux_defs.specs.declared.claims.Window.{Window}
use Rattle.flux_defs.specs.declared.requests.Need.{Need}
use Rattle.flux_defs.specs.Graph.{Scope}
use Rattle.flux_defs.specs.Later.{ReachesOver}
use Rattle.flux_defs.specs.Lowest.{CanServe}
use Rattle.flux_defs.specs.Present.{Present, InEach}
use Rattle.dfu_match.specs.Searches.{open_to}

-- a moment falls, and not below the window's start where it was not
abbrev pub FallsWithin : Window → ℕ → ℕ → Type 0
FallsWithin w old new = (new ≤ old) × (w.from ≤ old → w.from ≤ new)

-- the vertex serves no more than n of the need, wherever it is looked for
abbrev pub ServesAtMost : List Vertex → (Claim → Type 0) → Need → ℕ → ℕ → Type 0
ServesAtMost vertices ok need v n = (scope : Scope) (q : ℕ) → n < q → CanServe vertices ok scope need v q → ⊥

-- so much of the need the vertex serves at most over each window that reaches over w from a moment on, whatever
-- the view stands for
abbrev pub AreMostServed : List Vertex → (Present → Type 0) → List ℕ → Window → ℕ → Need → ℕ → Option ℕ → Type 0
AreMostServed vertices stands barred w until need v most =
    InEach stands (λ present. (other : Window) → ReachesOver w until other →
    IfSome most (ServesAtMost vertices (open_to vertices present barred other) need v))

-- nothing of this kind is so over a window that reaches over w from a moment on, which isn't before its start; where
-- it is the start itself, nothing is said
abbrev pub NoneUntil : (Window → Type 0) → Window → ℕ → Type 0
NoneUntil P w until = w.from < until → (other : Window) → ReachesOver w until other → P other → ⊥
