use Rattle.std.proofs.Common.{ltb, rules, arith}
use Rattle.std.proofs.lemmas.List.Sorted.{IsPartitionPoint-from_clause, IsPartitionedBy-ltb}
use Rattle.vertex_planners.specs.declared.numbers.Number.{Number}
use Rattle.vertex_planners.proofs.RisingLaws.{IsNonDecreasingBy-rises, gap_at_point}
use Rattle.vertex_planners.proofs.numbers.search.Goals as goal
use Rattle.vertex_planners.proofs.numbers.search.Goals.{else-at-numbers-via-then-at-numbers+else-numbers-at}
use Rattle.vertex_planners.proofs.numbers.search.Goals.{else-at-numbers-via-else-at-numbers}

pub returns-clause-gap : goal.returns-clause-gap
returns-clause-gap c =
    let parted = IsPartitionedBy-ltb (λ (n : Number). n.vertex) c.args.numbers.now c.args.vertex
    (IsNonDecreasingBy-rises c.args.numbers.now c.requires) in
    let point = IsPartitionPoint-from_clause (λ (n : Number). ltb n.vertex c.args.vertex) c.args.numbers.now
    c.partition_point-at.result c.partition_point-at.ensures.partitioned parted (λ a r q k. search rules) in
    gap_at_point c.args.numbers.now c.args.vertex c.partition_point-at.result c.requires
    c.partition_point-at.ensures.bound point
    (λ lt. elim c.else-at-numbers.branch [
      | else-at-numbers-via-then-at-numbers+else-numbers-at w ↦ w.if-numbers-at.false
      | else-at-numbers-via-else-at-numbers w ↦ absurd (omega (arith, w.if-at-numbers.false, lt))
    ])
