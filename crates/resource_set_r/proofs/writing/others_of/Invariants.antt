use Rattle.std.proofs.Common.{◌≡◌, ◌++◌, drop}
use Rattle.std.specs.List.{filter}
use Rattle.resource_set_r.specs.Rows.{is_other_than}
use Rattle.resource_set_r.proofs.writing.others_of.Given as goal

abbrev pub invariant-claims : goal.invariant-claims
invariant-claims l =
    l.others.items ++ filter
    (is_other_than l.vertices l.types.node l.types.core l.types.gpu) (drop l.claim-index l.claims)
    ≡ filter (is_other_than l.vertices l.types.node l.types.core l.types.gpu) l.claims
