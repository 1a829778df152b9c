use Rattle.std.proofs.Common.{arith}
use Rattle.std.proofs.Math.Nat.{mul-le-mul_right}
use Rattle.prune_filters.specs.Shorts.{IsBelow, IsBelowAt}
use Rattle.prune_filters.proofs.ShortLaws.{found, none_next, none_at_all}
use Rattle.prune_filters.proofs.shorts.first_short.Goals as goal

pub returns-in-Some : goal.returns-in-Some
returns-in-Some g c =
    let v = c.args.view.now in
    record {
      answer = λ present stands. rw (← c.items-demand-items.ensures) (found
          (λ d. IsBelowAt (g.F.FreeView.graph v) present (g.F.FreeView.keeps v) c.args.vertex d.kind d.amount
          c.in-Some.moment) c.items-demand-items.result.now c.loop-demand.demand-index _ c.loop-demand-test.true
          (c.in-Some.ensures.kept, c.in-Some.ensures.answer present stands));
      within = c.in-Some.ensures.within;
      kept = c.in-Some.ensures.kept;
      work = (
          let each = mul-le-mul_right (g.F.FreeView.cost v) c.loop-demand-test.true in
          let same = c.items-demand-items.ensures in
          rw (← same) (omega (arith, each, c.loop-demand.invariant.spent, c.total_below.ensures.work)));
    }

pub loop-demand-preserved : goal.loop-demand-preserved
loop-demand-preserved g c =
    let v = c.args.view.now in
    record {
      none = λ present stands. none_next
          (λ d. IsBelow (g.F.FreeView.graph v) present c.args.window (g.F.FreeView.keeps v) c.args.vertex d.kind
          d.amount)
          c.items-demand-items.result.now c.loop-demand.demand-index _
          (λ below. c.in_default.ensures.answer present stands below.0 below.1) c.loop-demand-test.true
          (c.loop-demand.invariant.none present stands);
      spent = omega (arith, c.loop-demand.invariant.spent, c.total_below.ensures.work);
    }

pub returns : goal.returns
returns g c =
    let v = c.args.view.now in
    record {
      answer = λ present stands. rw (← c.items-demand-items.ensures) (none_at_all
          (λ d. IsBelow (g.F.FreeView.graph v) present c.args.window (g.F.FreeView.keeps v) c.args.vertex d.kind
          d.amount)
          c.items-demand-items.result.now c.loop-demand.demand-index c.loop-demand-test.false
          (c.loop-demand.invariant.none present stands));
      within = tt;
      kept = tt;
      work = (
          let all = mul-le-mul_right (g.F.FreeView.cost v) c.loop-demand.auto.demand-index-end in
          rw (← c.items-demand-items.ensures) (omega (arith, all, c.loop-demand.invariant.spent)));
    }
