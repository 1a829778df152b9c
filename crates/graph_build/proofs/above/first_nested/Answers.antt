use Rattle.std.proofs.Common.{[], below_more, arith, ◌<◌, length}
use Rattle.std.proofs.lemmas.Bool.{both_ways}
use Rattle.graph_build.proofs.OwnLaws.{nested_within}
use Rattle.graph_build.proofs.above.first_nested.Goals as goal

pub loop-v-preserved : goal.loop-v-preserved
loop-v-preserved c = below_more _ _ c.loop-v.invariant
    (λ bad. both_ways _ c.if-is_nested.false (c.is_nested.ensures.1 bad))

pub returns-clause-first : goal.returns-clause-first
returns-clause-first c = λ v bad.
    let lt : v < length c.args.vertices.now = nested_within [] c.args.vertices.now v bad in
    c.loop-v.invariant v (omega arith) bad
