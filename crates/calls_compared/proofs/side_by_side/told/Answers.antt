use Rattle.std.proofs.Common.{[]}
use Rattle.planner_points.specs.Spans.{span_of, HasSpan}
use Rattle.multi_planner.proofs.PlaceLaws.{through}
use Rattle.calls_compared.proofs.side_by_side.told.Goals as goal

pub without_spans-requires-clause-span : goal.without_spans-requires-clause-span
without_spans-requires-clause-span g c =
    through (λ old. g.P.Planner.stands_for old [])
    (λ planner amount. HasSpan (g.P.Planner.stands_for planner) (span_of (record { from = 0; to = 10 }) amount))
    c.in_ok-totals.totals c.in_ok-none.none c.in_ok-some.some c.in_ok-amounts.amounts c.in_ok-none.ensures.places
    c.in_ok-some.ensures.places c.in_ok-none.ensures.spans
    (λ place old amount new e f h r. ([], [], c.in_ok-some.ensures.spans place old amount new e f h [] [] r))
