-- The laws, as statements. Claims are available over any scene and window.
use Rattle.std.specs.Prelude.{◌≡◌, ◌≢◌, ℕ, ◌+◌, List, Some, slice_get, Contains, IsTrue, ◌↔◌}
use Rattle.flux_defs.specs.declared.vertices.Vertex.{Vertex}
use Rattle.flux_defs.specs.declared.claims.Claim.{Claim}
use Rattle.flux_defs.specs.declared.claims.Window.{Window}
use Rattle.flux_defs.specs.declared.requests.Ask.{Ask}
use Rattle.flux_defs.specs.declared.requests.Need.{Need}
use Rattle.flux_defs.specs.declared.journal.Command.{Command}
use Rattle.flux_defs.specs.declared.journal.Reply.{Reply}
use Rattle.flux_defs.specs.Graph.{ResourceGraph, Scope, is_at_or_below}
use Rattle.flux_defs.specs.ValidGraph.{IsValidGraph}
use Rattle.flux_defs.specs.Jobs.{vertex_of}
use Rattle.flux_defs.specs.Present.{Present}
use Rattle.flux_defs.specs.Closed.{Scene}
use Rattle.flux_defs.specs.Available.{IsAvailable}
use Rattle.flux_defs.specs.Needs.{scaled, IsValidNeed, AreValidNeeds}
use Rattle.flux_defs.specs.Fits.{Fits, Group, Piece}
use Rattle.flux_defs.specs.Asks.{scene_of, FitsAsk, IsLowestFirst}
use Rattle.flux_defs.specs.Scheduler.{Setting, State, Replies}
use Rattle.flux_defs.specs.Sound.{AreAllSeparate}

-- An ask over what stands and a window has at most one list of lowest-first claims.
abbrev pub LowestIsDetermined : Type 0
LowestIsDetermined = (vertices : List Vertex) (present : Present) (ask : Ask) (w : Window) (a b : List Claim) →
    IsLowestFirst vertices present ask w a → IsLowestFirst vertices present ask w b → a ≡ b

-- A command has at most one reply in a state. (That it has one needs the facts that it asks about to be decided, as a
-- search does; this law needs nothing to be decidable, since two replies of different branches contradict each other.)
abbrev pub ReplyIsDetermined : Type 0
ReplyIsDetermined = (g : Setting) (s : State) (c : Command) (r t : Reply) → Replies g s c r → Replies g s c t → r ≡ t

-- Lowest-first claims fit.
abbrev pub LowestFits : Type 0
LowestFits = (vertices : List Vertex) (present : Present) (ask : Ask) (w : Window) (claims : List Claim) →
    IsLowestFirst vertices present ask w claims → FitsAsk vertices (IsAvailable (scene_of vertices present ask) w) ask
    claims

-- A fit with the multiplier k is a fit of the needs scaled by k.
abbrev pub MultiplyingIsScaling : Type 0
MultiplyingIsScaling = (s : Scene) (w : Window) (k : ℕ) (scope : Scope) (needs : List Need) (claims : List Claim) →
    Fits s.vertices (IsAvailable s w) k scope needs claims ↔ Fits s.vertices (IsAvailable s w) 1 scope
    (scaled k needs) claims

-- Where claims fit the needs scaled by k + 1, some claims fit them scaled by k.
abbrev pub FewerCopiesFit : Type 0
FewerCopiesFit = (s : Scene) (w : Window) (k : ℕ) (scope : Scope) (needs : List Need) (claims : List Claim) →
    Fits s.vertices (IsAvailable s w) 1 scope (scaled (k + 1) needs) claims →
    (fewer : List Claim) × Fits s.vertices (IsAvailable s w) 1 scope (scaled k needs) fewer

-- none of the first claims is on a vertex at or below one of the others, nor the other way round
abbrev pub AreAside : List Vertex → List Claim → List Claim → Type 0
AreAside vertices cs ds = (c d : Claim) → Contains cs c → Contains ds d →
    (IsTrue (is_at_or_below vertices (vertex_of c) (vertex_of d)) → ⊥)
    × (IsTrue (is_at_or_below vertices (vertex_of d) (vertex_of c)) → ⊥)

-- The groups of two different needs of a valid list are aside of each other.
abbrev pub GroupsAreAside : Type 0
GroupsAreAside = (g : ResourceGraph) (names : List (List ℕ)) →
    IsValidGraph g names → (needs : List Need) → AreValidNeeds g.vertices needs →
    (i j : ℕ) (a b : Need) → i ≢ j → slice_get needs i ≡ Some a → slice_get needs j ≡ Some b →
    (s : Scene) (w : Window) (scope : Scope) (n m : ℕ) (cs ds : List Claim) →
    Group n (Piece g.vertices (IsAvailable s w) scope a) cs → Group m (Piece g.vertices (IsAvailable s w) scope b) ds →
    AreAside g.vertices cs ds

-- The pieces of two different vertices of one valid need are aside of each other.
abbrev pub PiecesAreAside : Type 0
PiecesAreAside = (g : ResourceGraph) (names : List (List ℕ)) →
    IsValidGraph g names → (need : Need) → IsValidNeed g.vertices need →
    (s : Scene) (w : Window) (scope : Scope) (v u q r : ℕ) (cs ds : List Claim) → v ≢ u →
    Piece g.vertices (IsAvailable s w) scope need v q cs → Piece g.vertices (IsAvailable s w) scope need u r ds →
    AreAside g.vertices cs ds

-- So no vertex has two claims of a fit, and none lies below what another holds.
abbrev pub FitsAreSeparate : Type 0
FitsAreSeparate = (g : ResourceGraph) (names : List (List ℕ)) →
    IsValidGraph g names → (ask : Ask) → AreValidNeeds g.vertices ask.needs →
    (present : Present) (w : Window) (claims : List Claim) →
    FitsAsk g.vertices (IsAvailable (scene_of g.vertices present ask) w) ask claims → AreAllSeparate g.vertices claims
