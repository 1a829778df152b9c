use Rattle.std.proofs.Common.{◌≡◌, [], ◌∷◌, ◌++◌, length, length-append, slice_get, Some, ap, sym, ◌∙◌, arith}
use Rattle.multi_planner.proofs.PlaceLaws.{each_more}
use Rattle.multi_planner.proofs.planners.MultiPlanner.empty.Goals as goal

pub loop-place-preserved : goal.loop-place-preserved
loop-place-preserved g c =
    let xs = c.args.totals.now in
    let ys = c.loop-place.planners in
    let planner = c.in_ok-planner.planner in
    let total = c.in-Some.total.now in
    let got : slice_get xs c.loop-place.place ≡ Some total = sym c.in-Some.ensures.value in
    let here : slice_get xs (length ys) ≡ Some total = ap (slice_get xs) c.loop-place.invariant.places ∙ got in
    let more : c.push.new.self ≡ ys ++ planner ∷ [] = c.in-Ok.ensures.ok in
    record {
      places = ap length more ∙ omega (arith, length-append ys (planner ∷ []), c.loop-place.invariant.places);
      total = each_more (λ total planner. g.P.Planner.total_of planner ≡ total) xs ys c.push.new.self total planner
          c.loop-place.invariant.total here c.in_ok-planner.ensures.total more;
      horizon = each_more (λ total planner. g.P.Planner.horizon_of planner ≡ c.args.horizon) xs ys c.push.new.self total
          planner c.loop-place.invariant.horizon here c.in_ok-planner.ensures.horizon more;
      spans = each_more (λ total planner. g.P.Planner.stands_for planner []) xs ys c.push.new.self total planner
          c.loop-place.invariant.spans here c.in_ok-planner.ensures.spans more;
    }
