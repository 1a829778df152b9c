use Rattle.std.proofs.Common.{◌≡◌, ◌∙◌, List, ap}
use Rattle.covered_numbers.specs.declared.stretches.Stretch.{Stretch}
use Rattle.covered_numbers.specs.Covers.{is_covered}
use Rattle.graph_from_r.specs.Stretches.{stretches_of}
use Rattle.graph_from_r.proofs.Steps.{covers_same}
use Rattle.graph_from_r.proofs.properties.RankSet.of.Goals as goal

pub invariant_of-result : goal.invariant_of-result
invariant_of-result c = (
  λ id.
      let ranges = c.args.ranges in
      let are : c.in_ok-stretches.stretches.items ≡ stretches_of ranges =
      c.in_ok-stretches.ensures ∙ ap stretches_of c.items.ensures in
      c.in_ok-covered.ensures id ∙ (ap (λ (ss : List Stretch). is_covered ss id) are ∙ covers_same ranges id),
  tt,
)
