-- The planners of vertices as lists.
use Rattle.std.specs.Prelude.{◌≡◌, ℕ, ◌*◌, ◌-◌, List, [], ◌∷◌, Option, Some, None, length, slice_get}
use Rattle.vertex_planners.specs.declared.planners.VertexPlanners.{VertexPlanners}
use Rattle.vertex_planners.specs.Groups.{items_from}

-- how many vertices there are: sixteen a group, but for those that the last group has room for
abbrev pub count_in : {P : Type 0} → VertexPlanners P → ℕ
count_in all = 16 * length all.groups - all.spare.count

-- the planners of each vertex by place, by the vertices' numbers
abbrev pub items_of : {P : Type 0} → VertexPlanners P → List (List P)
items_of all = items_from all.groups 0 (count_in all)

-- each vertex has planners of so many places
abbrev pub AreWide : {P : Type 0} → ℕ → List (List P) → Type 0
AreWide {P = P} places items = (v : ℕ) (item : List P) → slice_get items v ≡ Some item → length item ≡ places

-- a planner before others, if there is one
abbrev pub put_before : {P : Type 0} → Option P → List P → List P
put_before None ps = ps
put_before (Some p) ps = p ∷ ps

-- the planners of one place, by the vertices' numbers, where each vertex has the place
abbrev pub at_place : {P : Type 0} → ℕ → List (List P) → List P
at_place k [] = []
at_place k (item ∷ items) = put_before (slice_get item k) (at_place k items)
