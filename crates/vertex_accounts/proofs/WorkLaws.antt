-- How many steps changes of accounts take.
use Rattle.std.proofs.Common.{◌≡◌, ℕ, ◌+◌, ◌*◌, ◌≤◌, ap, arith}
use Rattle.std.proofs.Math.Nat.{mul-le-mul_right}
use Rattle.vertex_planners.specs.Work.{change_most}
use Rattle.vertex_accounts.specs.Costs.{accounts_most}

-- a change of one planner for each number that is kept
pub numbers_cost : (items vertices most types reach claims count old new : ℕ) →
    items ≡ vertices → reach ≡ 18 + 16 * types → count ≤ reach * claims →
    new ≤ old + count * change_most items most → new ≤ old + accounts_most vertices most types claims
numbers_cost items vertices most types reach claims count old new e far few work =
    let times = mul-le-mul_right (change_most vertices most) few in
    let same = ap (λ (k : ℕ). count * change_most k most) e in
    let by_types = ap (λ (r : ℕ). r * claims * change_most vertices most) far in
    omega (arith, work, times, same, by_types)
