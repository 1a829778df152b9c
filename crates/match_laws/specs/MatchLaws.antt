-- The laws that a search for claims rests on, as statements.
use Rattle.std.specs.Prelude.{ℕ, ◌*◌, List, ◌↔◌}
use Rattle.std.specs.List.{AllByRecursion}
use Rattle.flux_defs.specs.declared.vertices.Vertex.{Vertex}
use Rattle.flux_defs.specs.declared.claims.Claim.{Claim}
use Rattle.flux_defs.specs.declared.claims.Window.{Window}
use Rattle.flux_defs.specs.declared.requests.Need.{Need}
use Rattle.flux_defs.specs.Graph.{Scope}
use Rattle.flux_defs.specs.Needs.{amount_of}
use Rattle.flux_defs.specs.Closed.{Scene}
use Rattle.flux_defs.specs.Available.{IsAvailable}
use Rattle.flux_defs.specs.Fits.{Fits}
use Rattle.match_laws.specs.Offers.{SomeGroup, SomeFits}

-- Where more is available, more fits: claims that fit one scene and window fit another in which every claim is
-- available that is available in the first.
abbrev pub MoreFits : Type 0
MoreFits = (vertices : List Vertex) (s t : Scene) (w x : Window) →
    ((c : Claim) → IsAvailable s w c → IsAvailable t x c) →
    (k : ℕ) (scope : Scope) (needs : List Need) (claims : List Claim) →
    Fits vertices (IsAvailable s w) k scope needs claims → Fits vertices (IsAvailable t x) k scope needs claims

-- Each need is looked for alone: some claims fit the needs scaled by k exactly where each need has a group of k times
-- its amount.
abbrev pub NeedsFitAlone : Type 0
NeedsFitAlone = (s : Scene) (w : Window) (k : ℕ) (scope : Scope) (needs : List Need) →
    (SomeFits s.vertices (IsAvailable s w) scope needs k
    ↔ AllByRecursion (λ need. SomeGroup s.vertices (IsAvailable s w) scope need (k * amount_of need)) needs)
