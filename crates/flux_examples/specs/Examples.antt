-- A cluster over two nodes of four cores each, and what the definitions say of requests there.
use Rattle.std.specs.Prelude.{ℕ, ◌<◌, ◌≤◌, true, List, [], ◌∷◌, Some, None}
use Rattle.flux_defs.specs.declared.vertices.Vertex.{Vertex}
use Rattle.flux_defs.specs.declared.claims.Claim.TheVariants.{Hold, Pass}
use Rattle.flux_defs.specs.declared.claims.Job.{Job}
use Rattle.flux_defs.specs.declared.claims.Window.{Window}
use Rattle.flux_defs.specs.declared.requests.Need.{Need, Vert, Spread}
use Rattle.flux_defs.specs.declared.requests.Ask.{Ask}
use Rattle.flux_defs.specs.Graph.{Everywhere}
use Rattle.flux_defs.specs.Closed.{Scene}
use Rattle.flux_defs.specs.Available.{IsAvailable}
use Rattle.flux_defs.specs.Lowest.{CanServe}
use Rattle.flux_defs.specs.Asks.{SomeFit, IsLowestFirst}
use Rattle.flux_defs.specs.Present.{up_with, bare, Present}

abbrev pub cluster : Vertex
cluster = record { kind = 0; size = 1; parent = None; id = Some 0; rank = None }

abbrev pub node : ℕ → Vertex
node n = record { kind = 1; size = 1; parent = Some 0; id = Some n; rank = Some n }

abbrev pub core_of : ℕ → ℕ → Vertex
core_of v n = record { kind = 2; size = 1; parent = Some v; id = Some n; rank = None }

-- 0 is the cluster; 1 is node 0, with cores 2 to 5; 6 is node 1, with cores 7 to 10
abbrev pub two_nodes : List Vertex
two_nodes =
    cluster
    ∷ node 0 ∷ core_of 1 0 ∷ core_of 1 1 ∷ core_of 1 2 ∷ core_of 1 3
    ∷ node 1 ∷ core_of 6 0 ∷ core_of 6 1 ∷ core_of 6 2 ∷ core_of 6 3 ∷ []

-- so many cores, held
abbrev pub cores : ℕ → Need
cores n = Vert 2 n true []

-- so many slots of three cores
abbrev pub slots : ℕ → Ask
slots k = record { needs = Spread k (cores 3 ∷ []) ∷ []; duration = 60; barred = [] }

abbrev pub TwoSlotsAreLowest : Type 0
TwoSlotsAreLowest = (w : Window) → IsLowestFirst two_nodes bare (slots 2) w
    (Pass 1 ∷ Hold 2 ∷ Hold 3 ∷ Hold 4 ∷ Pass 6 ∷ Hold 7 ∷ Hold 8 ∷ Hold 9 ∷ [])

abbrev pub ThreeSlotsNeverFit : Type 0
ThreeSlotsNeverFit = (w : Window) → SomeFit two_nodes bare (slots 3) w → ⊥

-- a job that holds core 0 of node 0 for a hundred seconds
abbrev pub first_core : Job
first_core = record { id = 1; start = 0; end = 100; claims = Pass 1 ∷ Hold 2 ∷ [] }

-- a whole node with four cores, held
abbrev pub whole_node : Need
whole_node = Vert 1 1 true (cores 4 ∷ [])

abbrev pub beside_first_core : Scene
beside_first_core = record { vertices = two_nodes; present = up_with (first_core ∷ []); barred = [] }

abbrev pub WholeNodeWaits : Type 0
WholeNodeWaits = (w : Window) →
    w.from < w.to → w.from < 100 → CanServe two_nodes (IsAvailable beside_first_core w) Everywhere whole_node 1 1 → ⊥

abbrev pub WholeNodeFitsLater : Type 0
WholeNodeFitsLater =
    (w : Window) → 100 ≤ w.from → CanServe two_nodes (IsAvailable beside_first_core w) Everywhere whole_node 1 1

-- an ask that bars node 0
abbrev pub without_node0 : Present → Scene
without_node0 present = record { vertices = two_nodes; present = present; barred = 1 ∷ [] }

abbrev pub BarredBelowIsNotHeld : Type 0
BarredBelowIsNotHeld = (present : Present) (w : Window) → w.from < w.to →
    IsAvailable (without_node0 present) w (Hold 0) → ⊥
