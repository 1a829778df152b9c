use Rattle.std.proofs.Common.{◌≡◌, ◌∙◌, ℕ, sym, ap, not, length, []}
use Rattle.std.specs.Prelude.{is_some}
use Rattle.std.specs.List.{filter, range_with_len}
use Rattle.json_whole.specs.Values.{view}
use Rattle.node_constraints.specs.Truth.{facts_of, is_true}
use Rattle.node_constraints.specs.Narrowing.{where_true}
use Rattle.node_constraints.proofs.FilterLaws.{filter_twice}
use Rattle.node_constraints.specs.Faults.{fault_at}
use Rattle.node_constraints.specs.Bars.{root}
use Rattle.node_constraints.proofs.bars.false_for.Goals as goal

pub returns-in-Ok-clause-bars : goal.returns-in-Ok-clause-bars
returns-in-Ok-clause-bars c =
    let g = c.args.graph.now in
    let d = view c.args.constraint.now in
    let holds = λ (v : ℕ). is_true (facts_of g v) d in
    let copied : c.in_ok-fitting.fitting.items ≡ c.as_slice-in-Ok.result.now =
    c.in_ok-fitting.ensures.items ∙ (c.as_slice.ensures.value ∙ sym c.as_slice-in-Ok.ensures.value) in
    let fitting = c.as_slice-in-Ok-2.ensures.value
    ∙ (c.in-Ok.ensures.kept ∙ ap (where_true g (λ n. is_true n d)) copied) in
    c.in_ok-others_of-in-Ok.ensures holds fitting
    ∙ (ap (filter (λ v. not (holds v))) (c.as_slice-in-Ok.ensures.value ∙ c.in_ok-nodes.ensures)
    ∙ filter_twice (λ v. is_some (facts_of g v).rank)
    (λ v. not (holds v)) (range_with_len 0 (length g.resources.vertices)))

pub returns-clause-found : goal.returns-clause-found
returns-clause-found c = c.behind.ensures [] (fault_at root (view c.args.constraint.now)) (c.in-Err.ensures.found root)
