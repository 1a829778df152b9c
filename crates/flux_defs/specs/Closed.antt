-- When a vertex is closed to an ask, and when it is touched (exclusivity, as flux-sched has it).
use Rattle.std.specs.Prelude.{ℕ, Bool, ◌||◌, List, [], IsTrue}
use Rattle.std.specs.List.{list_any}
use Rattle.flux_defs.specs.declared.vertices.Vertex.{Vertex}
use Rattle.flux_defs.specs.declared.claims.Window.{Window}
use Rattle.flux_defs.specs.Graph.{is_at_or_below}
use Rattle.flux_defs.specs.Present.{Present}
use Rattle.flux_defs.specs.Jobs.{some_live_claim, holds_over, is_on_or_below, SomeMoment}

-- What an ask meets: the vertices, what stands, and the vertices that it bars itself.
pub record Scene : Type 0 where
  pub vertices : List Vertex
  pub present : Present
  pub barred : List ℕ

-- the same to an ask that bars nothing
abbrev pub no_bars : List Vertex → Present → Scene
no_bars vertices present = record { vertices = vertices; present = present; barred = [] }

-- v is out of service for the ask, whatever the jobs have: the ask bars it or a vertex above it, or one of these is
-- down
abbrev pub is_withheld : Scene → ℕ → Bool
is_withheld s v =
    list_any (is_at_or_below s.vertices v) s.barred || list_any (is_at_or_below s.vertices v) s.present.down

-- v or a vertex below it is out of service for the ask
abbrev pub has_withheld : Scene → ℕ → Bool
has_withheld s v =
    list_any (λ u. is_at_or_below s.vertices u v) s.barred || list_any (λ u. is_at_or_below s.vertices u v)
    s.present.down

-- v is closed at m: a live job holds it or a vertex above it, or it is withheld
abbrev pub is_closed : Scene → ℕ → ℕ → Bool
is_closed s m v = some_live_claim s.present.jobs m (holds_over s.vertices v) || is_withheld s v

-- v is touched at m: a live job has a claim on it or below it, or something there is withheld
abbrev pub is_touched : Scene → ℕ → ℕ → Bool
is_touched s m v = some_live_claim s.present.jobs m (is_on_or_below s.vertices v) || has_withheld s v

-- closed at some moment of the window
abbrev pub IsClosedIn : Scene → Window → ℕ → Type 0
IsClosedIn s w v = SomeMoment w (λ m. IsTrue (is_closed s m v))

-- touched at some moment of the window
abbrev pub IsTouchedIn : Scene → Window → ℕ → Type 0
IsTouchedIn s w v = SomeMoment w (λ m. IsTrue (is_touched s m v))

-- the same two to an ask that bars nothing
abbrev pub IsClosedOver : List Vertex → Present → Window → ℕ → Type 0
IsClosedOver vertices present w v = IsClosedIn (no_bars vertices present) w v

abbrev pub IsTouchedOver : List Vertex → Present → Window → ℕ → Type 0
IsTouchedOver vertices present w v = IsTouchedIn (no_bars vertices present) w v
