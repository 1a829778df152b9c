-- What a view tells of a vertex over a window, whatever it stands for.
use Rattle.std.specs.Prelude.{ℕ, ◌<◌, ◌↔◌, Bool, List, length, Option, MatchOption, IsTrue}
use Rattle.flux_defs.specs.declared.vertices.Vertex.{Vertex}
use Rattle.flux_defs.specs.declared.claims.Window.{Window}
use Rattle.flux_defs.specs.Present.{Present, InEach}
use Rattle.flux_defs.specs.Later.{IsSoUntil}

-- what may be asked of: a vertex of the graph, over a window that isn't empty
pub record MayBeAsked (vertices : List Vertex) (v : ℕ) (w : Window) : Type 0 where
  pub within : v < length vertices
  pub opens : w.from < w.to

-- the answer says whether it is so over the window
abbrev pub Tells : (Present → Type 0) → (Present → Window → Type 0) → Window → Bool → Type 0
Tells stands P w answer = InEach stands (λ present. IsTrue answer ↔ P present w)

-- it is told until when it is so
abbrev pub TellsUntil : (Present → Type 0) → (Present → Window → Type 0) → Window → Option ℕ → Type 0
TellsUntil stands P w found = InEach stands (λ present. IsSoUntil (P present) w found)

-- a moment is told of which P says how a kept number is too small, and none exactly where none is kept or it isn't
abbrev pub TellsLittle : (Present → Type 0) → Type 0 → (Present → Type 0) → (Present → ℕ → Type 0) → Option ℕ → Type 0
TellsLittle stands kept little P found =
    InEach stands (λ present. MatchOption found (kept → little present → ⊥) (P present))
