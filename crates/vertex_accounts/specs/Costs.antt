-- How many steps the answers and the changes take.
use Rattle.std.specs.Prelude.{ℕ, ◌+◌, ◌*◌}
use Rattle.flux_defs.specs.Digits.{dig}
use Rattle.vertex_planners.specs.Work.{change_most}
use Rattle.vertex_accounts.specs.declared.quantities.Quantity.{Quantity}
use Rattle.vertex_accounts.specs.declared.quantities.Quantity.TheVariants.{Holds, Claims, Takes, Units}

-- a look at one planner of a vertex, of which each look takes at most so many steps: the vertex's item is looked up
abbrev pub look_most : ℕ → ℕ → ℕ
look_most vertices looks = 2 * dig (vertices + 1) + looks + 1

-- whether a vertex is closed, whose item is there: a look at it, and one at each of the 15 vertices at most above it
abbrev pub rest_most : ℕ → ℕ → ℕ
rest_most vertices looks = looks + 15 * look_most vertices looks

-- whether a vertex is closed: a look at each of the 16 vertices at most on the way up
abbrev pub closed_most : ℕ → ℕ → ℕ
closed_most vertices looks = 16 * look_most vertices looks

-- at how many vertices one claim counts at most: at its own, and for what is below too at the 16 at most on the way up
abbrev pub reach_of : Quantity → ℕ
reach_of Holds = 1
reach_of Claims = 16
reach_of Takes = 1
reach_of (Units capacities) = 16

-- a change by so many claims: of one planner for each vertex where a claim counts, of holds and of takes, of claims,
-- and of the units of so many types
abbrev pub accounts_most : ℕ → ℕ → ℕ → ℕ → ℕ
accounts_most vertices changes types claims = (18 + 16 * types) * claims * change_most vertices changes
