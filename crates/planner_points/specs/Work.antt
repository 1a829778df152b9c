-- How many steps calls of a planner take.
use Rattle.std.specs.Prelude.{ℕ, ◌+◌}

-- a planner is made ready and then changed
abbrev pub renew_cost : {P : Type 0} → (P → ℕ) → (P → ℕ) → P → ℕ
renew_cost settle_cost change_cost planner = settle_cost planner + change_cost planner
