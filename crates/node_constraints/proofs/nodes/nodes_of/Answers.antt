use Rattle.std.proofs.Common.{◌≡◌, ◌∙◌, sym, ap, ◌++◌, ◌∷◌, [], ℕ}
use Rattle.std.specs.Prelude.{is_some}
use Rattle.node_constraints.specs.Truth.{facts_of}
use Rattle.node_constraints.proofs.BarLaws.{one_more_in, one_more_out}
use Rattle.node_constraints.proofs.nodes.nodes_of.Goals as goal
use Rattle.node_constraints.proofs.nodes.nodes_of.Goals.{then-is_some+in_ok-push, else-is_some}

pub vertices-preserved : goal.vertices-preserved
vertices-preserved c =
    let p = λ (v : ℕ). is_some (facts_of c.args.graph.now v).rank in
    let is : c.is_some.result ≡ p c.vertices.vertex = c.is_some.ensures ∙ ap is_some c.rank_at.ensures in
    elim c.if-is_some.branch [
      | then-is_some+in_ok-push w ↦ ap (λ v. v.items) w.nodes-is
          ∙ (w.in_ok-push.ensures.items ∙ (ap (λ ns. ns ++ c.vertices.vertex ∷ []) c.vertices.invariant
          ∙ sym (one_more_in p c.vertices.vertex (sym is ∙ w.if-is_some.true))))
      | else-is_some w ↦ ap (λ v. v.items) w.nodes-is
          ∙ (c.vertices.invariant ∙ sym (one_more_out p c.vertices.vertex (sym is ∙ w.if-is_some.false)))
    ]
