use Rattle.std.proofs.Common.{ℕ, ◌<◌, ◌≤◌, false}
use Rattle.graph_build.proofs.finding.first_where.Given as goal

abbrev pub invariant-loop-v : goal.invariant-loop-v
invariant-loop-v g l = (u : ℕ) → l.from ≤ u → u < l.v → goal.F-post g l.test u false
