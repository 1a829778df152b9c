-- How many steps looks at planners and changes of them take.
use Rattle.std.specs.Prelude.{◌≡◌, ℕ, ◌+◌, ◌*◌, ◌≤◌, List, Some, slice_get}
use Rattle.flux_defs.specs.Digits.{dig}

-- a change of one planner of one of so many vertices, which itself takes at most so many steps: the vertex's group is
-- looked up, and the planner is changed where it stands
abbrev pub change_most : ℕ → ℕ → ℕ
change_most vertices changes = 2 * dig (vertices + 1) + changes

-- this cost of any planner of any vertex is at most so many steps
abbrev pub CostWithin : {P : Type 0} → (P → ℕ) → ℕ → List (List P) → Type 0
CostWithin {P = P} cost most items =
    (v k : ℕ) (item : List P) (p : P) → slice_get items v ≡ Some item → slice_get item k ≡ Some p → cost p ≤ most
