use Rattle.std.proofs.Common.{ap, ◌∙◌, map, inr}
use Rattle.std.proofs.lemmas.List.{take_all}
use Rattle.dfu_match.proofs.DemandLaws.{asked, are_demands}
use Rattle.dfu_match.proofs.demanding.demands_of.Goals as goal

pub returns-clause-demands : goal.returns-clause-demands
returns-clause-demands c =
    let vs = c.args.kinds.now.graph.now.resources.vertices in
    let need = c.args.need.now in
    are_demands vs need c.as_slice-kind-items.result.now c.of_vec.result
    (c.of_vec.ensures ∙ (c.loop-kind.invariant ∙ ap (map (asked vs need)) (take_all c.loop-kind.kind-index
    c.as_slice-kind-items.result.now c.loop-kind-test.false)))
    (λ kind some. rw c.as_slice-kind-items.ensures.value (c.in_ok-gather.ensures.all kind (inr some)))
