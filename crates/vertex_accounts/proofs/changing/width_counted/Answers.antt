use Rattle.std.proofs.Common.{ℕ, Option, inl, inr, sym, ◌∙◌, ap}
use Rattle.std.specs.Option.{unwrap_or}
use Rattle.graph_laws.proofs.Preorder.{parents_first}
use Rattle.vertex_accounts.proofs.WidthLaws.{lowest_of, low_counts}
use Rattle.vertex_accounts.proofs.changing.width_counted.Goals as goal

pub returns-in-Hold : goal.returns-in-Hold
returns-in-Hold c =
    let graph = c.args.graph.now.resources in
    low_counts graph.vertices (parents_first graph c.is_valid.ensures.valid.preorder) c.width_of.result
    c.unwrap_or.result c.args.claim.now
    (ap (lowest_of graph.vertices) c.in-Hold.is
    ∙ sym (c.unwrap_or.ensures ∙ ap (λ (o : Option ℕ). unwrap_or o c.in-Hold.vertex) c.upper.ensures.value))
    c.width_of.ensures.no_narrower

pub returns-in-Take : goal.returns-in-Take
returns-in-Take c =
    let graph = c.args.graph.now.resources in
    low_counts graph.vertices (parents_first graph c.is_valid.ensures.valid.preorder) c.width_of-in-Take.result
    c.in-Take.vertex c.args.claim.now
    (elim c.in-Take.is [
      | inl (units, take) ↦ ap (lowest_of graph.vertices) take
      | inr pass ↦ ap (lowest_of graph.vertices) pass
    ]) c.width_of-in-Take.ensures.no_narrower
