-- What asking anew of the vertices of a need takes, and which vertices it needn't ask.
use Rattle.std.specs.Prelude.{◌≡◌, ℕ, ◌+◌, ◌≤◌, List, length}
use Rattle.flux_defs.specs.declared.vertices.Vertex.{Vertex}
use Rattle.flux_defs.specs.declared.claims.Window.{Window}
use Rattle.flux_defs.specs.declared.requests.Need.{Need}
use Rattle.flux_defs.specs.Later.{ReachesOver}
use Rattle.flux_defs.specs.Needs.{IsSpread}
use Rattle.flux_defs.specs.Present.{Present, InEach}
use Rattle.dfu_match.specs.declared.asking.Dead.{Dead}
use Rattle.dfu_match.specs.Searches.{open_to}
use Rattle.dfu_match.specs.Walks.{ServesNone}
use Rattle.dfu_match.specs.Tables.{all_of}
use Rattle.dfu_match.specs.Pairs.{HasEachOpen, IsClearBefore, TakesEach}

-- they serve nothing over each window that reaches over w from their moment on, whatever the view stands for
abbrev pub AreDead : List Vertex → (Present → Type 0) → List ℕ → Window → Need → Dead → Type 0
AreDead vertices stands barred w need dead = InEach stands (λ present. (other : Window) →
    ReachesOver w dead.moment other → ServesNone vertices (open_to vertices present barred other) need dead.top
    dead.past)

-- From one position to another no vertex is left that is short above what follows, and of each open pair of a vertex
-- between and the need, or one within it, at most so many steps are taken: of a spread none for those within it.
pub record IsAsked (vertices : List Vertex) (present : Present) (w : Window) (keeps : ℕ → ℕ → Type 0) (all : List Need)
    (need : Need) (place look old new from to : ℕ) : Type 0 where
  pub clear : IsClearBefore vertices present w keeps need to (length vertices)
  pub later : from ≤ to
  pub within : to ≤ length vertices
  pub own : ℕ
  pub inner : ℕ
  pub spent : new ≤ old + (own + inner)
  pub owns : TakesEach (HasEachOpen vertices present w keeps all) look 0 own place (place + 1) from to
  pub inners : TakesEach (HasEachOpen vertices present w keeps all) look 0 inner (place + 1)
      (place + length (all_of need))
      from to
  pub none : IsSpread need → inner ≡ 0
