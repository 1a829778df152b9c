use Rattle.std.proofs.Common.{◌≡◌, drop, fold}
use Rattle.std.specs.List.{flat_map}
use Rattle.std.specs.Ordering.{nat_cmp}
use Rattle.std.specs.BTreeSet.{insert_key}
use Rattle.resource_set_r.specs.Rows.{given_by, given, rising}
use Rattle.resource_set_r.proofs.given.given_of.Given as goal

abbrev pub invariant-claims : goal.invariant-claims
invariant-claims l =
    fold (insert_key nat_cmp) (rising l.numbers.items)
    (flat_map (given_by l.graph.resources.vertices) (drop l.claim-index l.claims))
    ≡ given l.graph.resources.vertices l.claims
