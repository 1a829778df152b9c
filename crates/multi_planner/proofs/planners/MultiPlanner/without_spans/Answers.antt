use Rattle.std.proofs.Common.{◌≡◌, [], ◌∷◌, ◌++◌, length, length-append, slice_get, ap, sym, ◌∙◌, arith}
use Rattle.multi_planner.proofs.PlaceLaws.{each_more, three_more, work_next, work_stopped}
use Rattle.multi_planner.proofs.planners.MultiPlanner.without_spans.Goals as goal

pub returns-in_err-planner-clause-work : goal.returns-in_err-planner-clause-work
returns-in_err-planner-clause-work g c =
    let got = ap (λ l. slice_get l c.loop-place.place) (sym c.self.view_is) ∙ sym c.in-Some.ensures.value in
    work_stopped g.P.Planner.change_cost c.args.self.now _ _ _ c.loop-place.place _ got c.loop-place.invariant.work
    c.without_span.ensures.work

pub returns-in-Err-clause-work : goal.returns-in-Err-clause-work
returns-in-Err-clause-work g c =
    let got = ap (λ l. slice_get l c.loop-place.place) (sym c.self.view_is) ∙ sym c.in-Some.ensures.value in
    work_stopped g.P.Planner.change_cost c.args.self.now _ _ _ c.loop-place.place _ got c.loop-place.invariant.work
    c.without_span.ensures.work

pub loop-place-preserved : goal.loop-place-preserved
loop-place-preserved g c =
    let xs = c.args.self.now in
    let ys = c.loop-place.planners in
    let got = ap (λ l. slice_get l c.loop-place.place) (sym c.self.view_is) ∙ sym c.in-Some.ensures.value in
    let here = ap (slice_get xs) c.loop-place.invariant.places ∙ got in
    let much = ap (slice_get c.args.amounts.now) c.loop-place.invariant.places ∙ sym c.in-Some-get.ensures.value in
    let more : c.push.new.self ≡ ys ++ c.in_ok-planner.planner ∷ [] = c.in-Ok.ensures.ok in
    record {
      places = ap length more ∙ omega (
        arith,
        length-append ys (c.in_ok-planner.planner ∷ []),
        c.loop-place.invariant.places,
      );
      total = each_more _ xs ys _ _ _ c.loop-place.invariant.total here c.in_ok-planner.ensures.total more;
      horizon = each_more _ xs ys _ _ _ c.loop-place.invariant.horizon here c.in_ok-planner.ensures.horizon more;
      spans = three_more _ xs _ ys _ _ _ _ c.loop-place.invariant.spans here much c.in_ok-planner.ensures.spans more;
      work = work_next g.P.Planner.change_cost xs _ _ _ c.loop-place.place _ got c.loop-place.invariant.work
          c.without_span.ensures.work;
    }
