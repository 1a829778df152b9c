use Rattle.std.proofs.Common.{arith, ap, ◌≤◌, length}
use Rattle.std.proofs.Math.Nat.{mul-le-mul_right}
use Rattle.dfu_match.specs.Tables.{all_of}
use Rattle.dfu_match.proofs.bounding.least_room.Goals as goal

pub loop-demand-preserved : goal.loop-demand-preserved
loop-demand-preserved g c =
    record { spent = omega (arith, c.loop-demand.invariant.spent, c.room_for.ensures) }

pub returns : goal.returns
returns g c =
    let le = c.requires.few in
    let same = ap length c.items-demand-items.ensures in
    let end = c.loop-demand.auto.demand-index-end in
    let few : c.loop-demand.demand-index ≤ length (all_of c.args.need.now) = omega (arith, le, end, same) in
    let all = mul-le-mul_right (g.F.FreeView.cost c.args.s.now.view.now) few in
    omega (arith, all, c.loop-demand.invariant.spent)
