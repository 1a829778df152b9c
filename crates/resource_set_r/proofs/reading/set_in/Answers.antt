use Rattle.std.proofs.Common.{◌≡◌, sym, ap, subst, ◌∙◌, ◌≤◌, List, Some, None, All}
use Rattle.idset_text.specs.declared.idsets.Range.{Range}
use Rattle.json_whole.specs.Values.{view}
use Rattle.resource_set_r.specs.ReadRows.{ranges_in, IsRepeatedRank}
use Rattle.resource_set_r.proofs.RowsRead.{ranges_ordered, set_found, error_found, repeated_found}
use Rattle.resource_set_r.proofs.reading.set_in.Goals as goal

pub repeated_rank-requires : goal.repeated_rank-requires
repeated_rank-requires c =
    let ranges : c.in-Ok-ranges_in.ranges.items ≡ ranges_in c.in-Ok.rows =
    c.in-Ok-ranges_in.ensures ∙ ap ranges_in c.items.ensures in
    subst (λ (rs : List Range). All (λ range. range.lo ≤ range.hi) rs)
    (sym ranges) (ranges_ordered (view c.args.execution.now) c.in-Ok.rows c.in-Ok.ensures)

pub returns-in-Some-clause-error : goal.returns-in-Some-clause-error
returns-in-Some-clause-error c =
    let ranges : c.in-Ok-ranges_in.ranges.items ≡ ranges_in c.in-Ok.rows =
    c.in-Ok-ranges_in.ensures ∙ ap ranges_in c.items.ensures in
    let found = subst (λ (rs : List Range). IsRepeatedRank rs (Some c.in-Some.rank)) ranges c.in-Some.ensures.found in
    repeated_found (view c.args.execution.now) c.in-Ok.rows c.in-Ok.ensures c.in-Some.rank found

pub returns-in-None-clause-set : goal.returns-in-None-clause-set
returns-in-None-clause-set c =
    let ranges : c.in-Ok-ranges_in.ranges.items ≡ ranges_in c.in-Ok.rows =
    c.in-Ok-ranges_in.ensures ∙ ap ranges_in c.items.ensures in
    let none = subst (λ (rs : List Range). IsRepeatedRank rs None) ranges c.in-None.ensures.found in
    set_found (view c.args.execution.now) c.in-Ok.rows c.in-Ok.ensures c.set_with.result c.set_with.ensures none

pub returns-in-None-clause-error : goal.returns-in-None-clause-error
returns-in-None-clause-error c =
    let ranges : c.in-Ok-ranges_in.ranges.items ≡ ranges_in c.in-Ok.rows =
    c.in-Ok-ranges_in.ensures ∙ ap ranges_in c.items.ensures in
    let none = subst (λ (rs : List Range). IsRepeatedRank rs None) ranges c.in-None.ensures.found in
    error_found (view c.args.execution.now) c.in-Ok.rows c.in-Ok.ensures c.set_with.result c.set_with.ensures none
