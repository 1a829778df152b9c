-- Which moments an earliest search tries, and how many steps that takes.
use Rattle.std.specs.Prelude.{◌≡◌, ℕ, ◌+◌, ◌*◌, ◌<◌, ◌≤◌, ◌⊎◌, List, Option, MatchOption, sum_by, Contains}
use Rattle.flux_defs.specs.declared.vertices.Vertex.{Vertex}
use Rattle.flux_defs.specs.declared.requests.Ask.{Ask}
use Rattle.flux_defs.specs.Jobs.{IsPoint}
use Rattle.flux_defs.specs.Asks.{window_of, CountsWithin}
use Rattle.flux_defs.specs.Present.{Present}
use Rattle.prune_filters.specs.Amples.{IsAmple}
use Rattle.dfu_match.specs.Pairs.{IsEnoughFor}
use Rattle.dfu_match.specs.declared.matching.Matched.{Matched}
use Rattle.dfu_match.specs.declared.matching.Matched.TheVariants.{Fits, Short, NoFit}

-- t is the present moment, or a later start or end of a job
abbrev pub IsNowOrPoint : Present → ℕ → ℕ → Type 0
IsNowOrPoint present now t = (t ≡ now) ⊎ ((now < t) × IsPoint present.jobs t)

-- u is worth a try after a match that came to this: it is past the moment at which the root's total was too small, and
-- that isn't too small at u; or it is past the moment until which none fit
abbrev pub IsWorthTry : List Vertex → Present → Matched → ℕ → Type 0
IsWorthTry vertices present (Fits claims) u = Unit {0}
IsWorthTry vertices present (Short s) u = (s.moment < u) × IsAmple vertices present s.demand.kind s.demand.amount u
IsWorthTry vertices present (NoFit until) u = until < u

-- the least start or end of a job that is later than a moment and worth a try
pub record IsNextTry (vertices : List Vertex) (present : Present) (matched : Matched) (after t : ℕ) : Type 0 where
  pub later : after < t
  pub point : IsPoint present.jobs t
  pub least : (u : ℕ) → after < u → u < t → IsPoint present.jobs u → IsWorthTry vertices present matched u → ⊥

-- it is this one, or there is none
abbrev pub IsNextTryOrNone : List Vertex → Present → Matched → ℕ → Option ℕ → Type 0
IsNextTryOrNone vertices present matched after found = MatchOption found
    ((u : ℕ) → after < u → IsPoint present.jobs u → IsWorthTry vertices present matched u → ⊥)
    (IsNextTry vertices present matched after)

-- the list has each of them up to a last moment at which the ask's window counts
abbrev pub HasEachTried : Present → ℕ → Ask → ℕ → ℕ → List ℕ → Type 0
HasEachTried present horizon ask now last tried =
    (t : ℕ) → IsNowOrPoint present now t → CountsWithin horizon ask t → t ≤ last → Contains tried t

-- From `old` steps to `new` ones, at most these: at each of the moments up to a last one so many looks as are enough
-- for a match over the ask's window there, and one more for the next moment.
abbrev pub TakesTries : List Vertex → Present → (ℕ → ℕ → Type 0) → ℕ → ℕ → Ask → ℕ → ℕ → ℕ → ℕ → Type 0
TakesTries vertices present keeps cost horizon ask now last old new =
    (tried : List ℕ) (looks : ℕ → ℕ) → HasEachTried present horizon ask now last tried →
    ((t : ℕ) → Contains tried t → CountsWithin horizon ask t →
    IsEnoughFor vertices present (window_of horizon ask t) keeps ask.needs (looks t)) →
    new ≤ old + sum_by (λ t. (looks t + 1) * cost) tried
