use Rattle.std.proofs.Common.{◌≡◌, ℕ, ◌+◌, ◌*◌}
use Rattle.graph_build.specs.Checks.{HasClimbs}
use Rattle.graph_build.proofs.climbs.climbs.Given as goal

abbrev pub invariant-loop-left : goal.invariant-loop-left
invariant-loop-left l = (a : ℕ) × (k : ℕ) × HasClimbs l.vertices a l.reached.items
    × HasClimbs l.vertices k l.jumps.items × (a + l.left * k ≡ l.steps)

abbrev pub decreases-loop-left : goal.decreases-loop-left
decreases-loop-left l = l.left
