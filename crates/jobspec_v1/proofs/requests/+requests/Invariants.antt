use Rattle.std.proofs.Common.{◌≡◌, ◌+◌, ◌*◌, ℕ, List, drop}
use Rattle.std.specs.Result.{result_map_both}
use Rattle.serde_json.specs.Data.{depth, items_depth}
use Rattle.json_whole.specs.Values.{view, items_view}
use Rattle.need_shape.specs.Requests.{AreRequests}
use Rattle.jobspec_v1.specs.Requests.{requests_of, behind}
use Rattle.jobspec_v1.proofs.requests.+requests.Given as goal

abbrev pub decreases-read_request : goal.decreases-read_request
decreases-read_request l = 2 * depth (view l.value.now)

abbrev pub decreases-read_requests : goal.decreases-read_requests
decreases-read_requests l = 2 * items_depth (items_view l.values.now) + 1

abbrev pub invariant-read_requests-values : goal.invariant-read_requests-values
invariant-read_requests-values l = record {
  read : (list : List ℕ) → result_map_both (behind l.needs.items) (λ f. f)
      (requests_of (items_view (drop l.at l.values)) l.in_slot list l.at l.labels)
      ≡ requests_of (items_view l.values) l.in_slot list 0 l.initial.labels;
  fine : AreRequests l.in_slot l.needs.items;
}
