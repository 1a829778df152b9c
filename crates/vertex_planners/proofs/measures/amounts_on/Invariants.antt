use Rattle.std.proofs.Common.{◌≡◌, ℕ, ◌<◌, ◌≤◌, ◌==◌, cond, take}
use Rattle.std.specs.List.{AllByRecursion, sum_by}
use Rattle.flux_defs.specs.Jobs.{vertex_of}
use Rattle.vertex_planners.specs.Numbers.{amount_at, count_of, HasKeysBelow}
use Rattle.vertex_planners.proofs.measures.amounts_on.Given as goal

-- the numbers of the claims so far
abbrev pub invariant-loop-claim : goal.invariant-loop-claim
invariant-loop-claim g l = record {
  sums : (v : ℕ) → amount_at l.amounts v
      ≡ sum_by (λ c. cond (vertex_of c == v) (g.M.Measure.amount l.measure c) 0) (take l.claim-index l.claims);
  keys : (most : ℕ) → AllByRecursion (λ c. vertex_of c < most) l.claims → HasKeysBelow most l.amounts;
  few : count_of l.amounts ≤ l.claim-index;
}
