use Rattle.std.proofs.Common.{sym, subst}
use Rattle.std.proofs.lemmas.Result.{IfOk-weaker}
use Rattle.resource_graph.specs.NamedGraph.{NamedGraph}
use Rattle.graph_build.specs.Raw.{IsBuiltFrom}
use Rattle.graph_build.proofs.building.build_faultless.Goals as goal

pub of-requires : goal.of-requires
of-requires c = c.in_ok-parts.ensures.whole

pub returns : goal.returns
returns c = IfOk-weaker c.of.result _ _ (λ graph is.
    subst (λ (g : NamedGraph). IsBuiltFrom c.args.kinds.now c.args.raw g) (sym is) c.in_ok-parts.ensures)
    c.of.ensures
