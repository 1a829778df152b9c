use Rattle.std.proofs.Common.{sym, ◌∙◌, subst, length}
use Rattle.std.specs.Ordering.{nat_cmp}
use Rattle.graph_build.specs.Faults.{HasBadRank}
use Rattle.graph_build.specs.Checks.{graph_in}
use Rattle.resource_graph.specs.Finds.{IsFirstOf}
use Rattle.graph_build.specs.Keys.{HasEach, IsNodeRank}
use Rattle.graph_build.proofs.KeyLaws.{no_ranks, finds_bad_rank}
use Rattle.graph_build.proofs.OrderLaws.{same_number, itself_number}
use Rattle.graph_build.proofs.ValidLaws.{ranks_some}
use Rattle.graph_build.proofs.doubles.first_bad_rank.Goals as goal

pub returns-then-not-ranks_given-clause-first : goal.returns-then-not-ranks_given-clause-first
returns-then-not-ranks_given-clause-first c = λ v bad. no_ranks c.args.kinds.now c.args.vertices.now
    (sym c.ranks_given.ensures ∙ c.if-not-ranks_given.true) bad.0

pub returns-clause-first : goal.returns-clause-first
returns-clause-first c =
    let kinds = c.args.kinds.now in
    let vertices = c.args.vertices.now in
    subst (IsFirstOf (HasBadRank (graph_in kinds vertices))) (sym c.lesser.ensures)
    (finds_bad_rank kinds vertices nat_cmp same_number itself_number c.as_slice.result.now
    (subst (HasEach (IsNodeRank (graph_in kinds vertices)) (length vertices)) (sym c.as_slice.ensures.value)
    c.in_ok-ranks.ensures)
    (ranks_some kinds vertices (sym c.ranks_given.ensures ∙ c.if-not-ranks_given.false))
    c.first_unranked-unranked.result c.in_ok-repeated.repeated c.first_unranked-unranked.ensures.first
    c.in_ok-repeated.ensures.first)
