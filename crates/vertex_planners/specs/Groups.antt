-- The planners of sixteen vertices in one list: of each place one after the other those of the sixteen vertices.
use Rattle.std.specs.Prelude.{◌≡◌, ℕ, zero, suc, ◌+◌, ◌/◌, ◌%◌, List, [], ◌∷◌, Some, length, slice_get, unwrap_or}
use Rattle.std.specs.Prelude.{slice_index_or}
use Rattle.planner_points.specs.declared.spans.Span.{Span}

-- every sixteenth one of a list, the first one behind so many others
abbrev pub sixteenths : {P : Type 0} → List P → ℕ → List P
sixteenths [] before = []
sixteenths (p ∷ ps) zero = p ∷ sixteenths ps 15
sixteenths (p ∷ ps) (suc before) = sixteenths ps before

-- the planners of a vertex by place: every sixteenth one of its group, from the vertex's place among the sixteen on
abbrev pub item_at : {P : Type 0} → List (List P) → ℕ → List P
item_at groups v = sixteenths (unwrap_or (slice_get groups (v / 16)) []) (v % 16)

-- those of v and the vertices behind it, of so many in all
abbrev pub items_from : {P : Type 0} → List (List P) → ℕ → ℕ → List (List P)
items_from groups v zero = []
items_from groups v (suc n) = item_at groups v ∷ items_from groups (v + 1) n

-- a planner without spans for each of these totals
pub record AreFresh {P : Type 0}
    (total_of : P → ℕ) (stands_for : P → List Span → Type 0) (totals : List ℕ) (item : List P) : Type 0 where
  pub len : length item ≡ length totals
  pub total : (k : ℕ) (p : P) → slice_get item k ≡ Some p → total_of p ≡ slice_index_or totals k 0
  pub spans : (k : ℕ) (p : P) → slice_get item k ≡ Some p → stands_for p []
