-- When a vertex is short: a total that is kept there is below what is demanded.
use Rattle.std.specs.Prelude.{◌≡◌, ℕ, ◌≤◌, ◌==◌, List, Any, Contains, IsTrue}
use Rattle.std.specs.List.{list_any}
use Rattle.flux_defs.specs.declared.vertices.Vertex.{Vertex}
use Rattle.flux_defs.specs.declared.claims.Window.{Window}
use Rattle.flux_defs.specs.declared.requests.Need.{Need}
use Rattle.flux_defs.specs.Present.{Present}
use Rattle.flux_defs.specs.Free.{IsTooLittle, IsTooLittleAt}
use Rattle.prune_filters.specs.declared.shorts.Demand.{Demand}
use Rattle.prune_filters.specs.declared.shorts.Shortage.{Shortage}
use Rattle.prune_filters.specs.Demands.{demand, capped}

-- over the vertices, what stands and a window
module _ (vertices : List Vertex) (present : Present) (w : Window) where
  -- v has too little of some kind for one of the need; a demand past 64 bits is the greatest number of 64 bits
  abbrev pub HasTooLittleFor : Need → ℕ → Type 0
  HasTooLittleFor need v = (kind : ℕ) × IsTooLittle vertices present w v kind (capped (demand vertices kind 1 need))

  -- where these totals are kept (of a kind, the second number, at a vertex, the first)
  module _ (keeps : ℕ → ℕ → Type 0) where
    -- a total of the kind is kept at v, and it is below the amount
    abbrev pub IsBelow : ℕ → ℕ → ℕ → Type 0
    IsBelow v kind amount = keeps v kind × IsTooLittle vertices present w v kind amount

    -- v is short of some of these demands
    abbrev pub IsShortOf : List Demand → ℕ → Type 0
    IsShortOf demands v = Any (λ d. IsBelow v d.kind d.amount) demands

    -- v is short for the need: a total that is kept there is below what one of it demands
    abbrev pub IsShortFor : Need → ℕ → Type 0
    IsShortFor need v = (kind : ℕ) × IsBelow v kind (capped (demand vertices kind 1 need))

-- over the vertices, what stands, and the totals that are kept
module _ (vertices : List Vertex) (present : Present) (keeps : ℕ → ℕ → Type 0) where
  -- a total of the kind is kept at v, and it is below the amount at a moment
  abbrev pub IsBelowAt : ℕ → ℕ → ℕ → ℕ → Type 0
  IsBelowAt v kind amount m = keeps v kind × IsTooLittleAt vertices present v kind amount m

  -- v is short of this one of these demands at this moment
  abbrev pub IsShortInAt : List Demand → ℕ → Shortage → Type 0
  IsShortInAt demands v s = Contains demands s.demand × IsBelowAt v s.demand.kind s.demand.amount s.moment

-- The demands are those of one of the need: of each kind that it demands as much as it does.
pub record AreDemandsOf (vertices : List Vertex) (need : Need) (demands : List Demand) : Type 0 where
  pub each : (d : Demand) → Contains demands d → d.amount ≡ capped (demand vertices d.kind 1 need)
  pub all : (kind : ℕ) → 1 ≤ demand vertices kind 1 need → IsTrue (list_any (λ d. d.kind == kind) demands)
