use Rattle.std.proofs.Common.{◌≡◌, ◌∙◌, List, map, ap}
use Rattle.std.specs.List.{flat_map}
use Rattle.covered_numbers.specs.declared.stretches.Stretch.{Stretch}
use Rattle.covered_numbers.specs.Covers.{is_covered}
use Rattle.node_constraints.specs.Ranked.{stretch_of}
use Rattle.node_constraints.proofs.RankLaws.{of_all}
use Rattle.node_constraints.proofs.ranks.Ranks.of.Goals as goal

pub invariant_of-result : goal.invariant_of-result
invariant_of-result c = record {
  told = λ id.
      let sets = c.args.sets in
      let are : c.in_ok-stretches.stretches.items ≡ flat_map (map stretch_of) sets
      = c.in_ok-stretches.ensures ∙ ap (flat_map (map stretch_of)) c.items.ensures in
      c.in_ok-covered.ensures id ∙ (ap (λ (ss : List Stretch). is_covered ss id) are ∙ of_all sets id);
}
