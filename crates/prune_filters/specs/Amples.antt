-- When a total at the root is enough again.
use Rattle.std.specs.Prelude.{ℕ, ◌<◌, ◌≤◌, List, Option, MatchOption}
use Rattle.flux_defs.specs.declared.vertices.Vertex.{Vertex}
use Rattle.flux_defs.specs.Jobs.{IsPoint}
use Rattle.flux_defs.specs.Free.{total_at}
use Rattle.flux_defs.specs.Present.{Present}

-- over the vertices, what stands, a kind and an amount of it
module _ (vertices : List Vertex) (present : Present) (kind amount : ℕ) where
  -- the root's total of the kind is that much at the moment
  abbrev pub IsAmple : ℕ → Type 0
  IsAmple m = amount ≤ total_at vertices present kind m 0

  -- the least start or end of a job that is later than a moment, and at which the root's total is that much
  pub record IsNextAmple (after t : ℕ) : Type 0 where
    pub later : after < t
    pub point : IsPoint present.jobs t
    pub ample : IsAmple t
    pub least : (u : ℕ) → after < u → IsPoint present.jobs u → IsAmple u → t ≤ u

  -- it is this one, or there is none
  abbrev pub IsNextAmpleOrNone : ℕ → Option ℕ → Type 0
  IsNextAmpleOrNone after found = MatchOption found ((u : ℕ) → after < u → IsPoint present.jobs u → IsAmple u → ⊥)
      (IsNextAmple after)
