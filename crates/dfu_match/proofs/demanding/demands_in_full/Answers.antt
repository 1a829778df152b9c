use Rattle.std.proofs.Common.{ap, ◌∙◌, map, inr}
use Rattle.std.proofs.lemmas.List.{take_all}
use Rattle.dfu_match.proofs.DemandLaws.{asked_in_full, are_demands_of_all}
use Rattle.dfu_match.proofs.demanding.demands_in_full.Goals as goal

pub returns-clause-demands : goal.returns-clause-demands
returns-clause-demands c =
    let vs = c.args.kinds.now.graph.now.resources.vertices in
    let needs = c.args.needs.now in
    are_demands_of_all vs needs c.as_slice-kind-items.result.now c.of_vec.result
    (c.of_vec.ensures ∙ (c.loop-kind.invariant ∙ ap (map (asked_in_full vs needs)) (take_all c.loop-kind.kind-index
    c.as_slice-kind-items.result.now c.loop-kind-test.false)))
    (λ kind some. rw c.as_slice-kind-items.ensures.value (c.in_ok-gather_all.ensures.all kind (inr some)))
