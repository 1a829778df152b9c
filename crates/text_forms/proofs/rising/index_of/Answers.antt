use Rattle.std.proofs.Common.{ltb, rules}
use Rattle.std.proofs.lemmas.List.Sorted.{IsPartitionPoint-from_clause, IsPartitionedBy-ltb}
use Rattle.text_forms.proofs.RisingLists.{IsNonDecreasingBy-rising, IsIndexOf-point}
use Rattle.text_forms.proofs.rising.index_of.Goals as goal

pub returns : goal.returns
returns c =
    let parted = IsPartitionedBy-ltb (λ v. v) c.args.list.now c.args.from
    (IsNonDecreasingBy-rising c.args.list.now c.requires) in
    let point = IsPartitionPoint-from_clause (λ v. ltb v c.args.from) _ _ c.partition_point.ensures.partitioned parted
    (λ a r q k. search rules) in
    IsIndexOf-point c.args.list.now c.args.from _ c.partition_point.ensures.bound point
