use Rattle.std.proofs.Common.{[], length, sym, subst}
use Rattle.graph_build.specs.Checks.{HasClimbs}
use Rattle.graph_build.proofs.EndLaws.{finds_endless, none_endless}
use Rattle.graph_build.proofs.endless.first_endless.Goals as goal

pub returns-clause-first : goal.returns-clause-first
returns-clause-first c = finds_endless [] c.args.vertices.now c.as_slice.result.now c.first_reached-found.result
    (subst (HasClimbs c.args.vertices.now (length c.args.vertices.now)) (sym c.as_slice.ensures.value)
    c.in_ok-reached.ensures) c.first_reached-found.ensures.first

pub returns-then-parents_stand_first-clause-first : goal.returns-then-parents_stand_first-clause-first
returns-then-parents_stand_first-clause-first c =
    none_endless c.args.vertices.now (c.parents_stand_first.ensures c.if-parents_stand_first.true) []
