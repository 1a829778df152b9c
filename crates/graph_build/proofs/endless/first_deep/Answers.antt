use Rattle.std.proofs.Common.{[], sym, subst}
use Rattle.flux_defs.specs.declared.limits.TheConstants.{MOST_LEVELS}
use Rattle.graph_build.specs.Checks.{HasClimbs}
use Rattle.graph_build.proofs.EndLaws.{finds_deep}
use Rattle.graph_build.proofs.endless.first_deep.Goals as goal

pub returns-clause-first : goal.returns-clause-first
returns-clause-first c = finds_deep [] c.args.vertices.now c.as_slice.result.now c.first_reached-found.result
    c.requires.ends
    (subst (HasClimbs c.args.vertices.now MOST_LEVELS) (sym c.as_slice.ensures.value) c.in_ok-reached.ensures)
    c.first_reached-found.ensures.first
