-- What a look for the uppermost short one of a vertex and those above it tells.
use Rattle.std.specs.Prelude.{ℕ, ◌+◌, ◌≤◌, List, Option, IfSome, MatchOption, IsTrue}
use Rattle.flux_defs.specs.declared.vertices.Vertex.{Vertex}
use Rattle.flux_defs.specs.declared.claims.Window.{Window}
use Rattle.flux_defs.specs.declared.requests.Need.{Need}
use Rattle.flux_defs.specs.Graph.{is_at_or_below}
use Rattle.flux_defs.specs.Later.{ReachesOver}
use Rattle.flux_defs.specs.Present.{Present, InEach}
use Rattle.prune_filters.specs.Shorts.{IsShortFor}
use Rattle.dfu_match.specs.Pairs.{HasEachOpen, IsClearBetween, IsPlaceOf, TakesEach}

-- it is the vertex or stands above it, from `low` on
abbrev pub IsTopFrom : List Vertex → ℕ → ℕ → Option ℕ → Type 0
IsTopFrom vertices low v found = IfSome found (λ top. (low ≤ top) × IsTrue (is_at_or_below vertices v top))

-- the vertex that is told is short for the need over each window that reaches over what is left of w from `until` on
abbrev pub TellsShort : List Vertex → (Present → Type 0) → (ℕ → ℕ → Type 0) → Window → ℕ → Need → Option ℕ → Type 0
TellsShort vertices stands keeps w until need found = InEach stands (λ present. (other : Window) →
    ReachesOver w until other → IfSome found (IsShortFor vertices present other keeps need))

-- none of v and those above it is short that stands from `low` on and before `past`, and before what is told
abbrev pub TellsClear : List Vertex → (Present → Type 0) → (ℕ → ℕ → Type 0) → Window → Need → ℕ → ℕ → ℕ →
    Option ℕ → Type 0
TellsClear vertices stands keeps w need low v past found =
    InEach stands (λ present. MatchOption found (IsClearBetween vertices present w keeps need v low past)
    (IsClearBetween vertices present w keeps need v low))

-- where none of v and those above it is short before `low`, of each open pair of the need and one from `low` on and
-- before `past` so many steps are taken at most
abbrev pub TakesTops : List Vertex → (Present → Type 0) → (ℕ → ℕ → Type 0) → Window → List Need → Need → ℕ → ℕ →
    ℕ → ℕ → ℕ → ℕ → Type 0
TakesTops vertices stands keeps w all need low v past look old new = InEach stands (λ present. (place : ℕ) →
    IsPlaceOf all place need → IsClearBetween vertices present w keeps need v 0 low →
    TakesEach (HasEachOpen vertices present w keeps all) look old new place (place + 1) low past)
