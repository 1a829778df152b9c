use Rattle.std.proofs.Common.{◌≡◌, ℕ, Some, get_or, inl, inr, sym, ◌∙◌, ap, subst, arith}
use Rattle.std.specs.Prelude.{slice_get}
use Rattle.std.proofs.lemmas.Bool.{cases_lt, both_ways}
use Rattle.std.proofs.lemmas.Option.{slice_get-get_or, same_Some}
use Rattle.graph_build.specs.Faults.{IsNodeType}
use Rattle.graph_build.specs.Checks.{graph_in}
use Rattle.graph_build.proofs.AboveLaws.{from_chain, house_nowhere}
use Rattle.graph_build.proofs.above.house_of.Goals as goal

pub returns-then-is_node_at : goal.returns-then-is_node_at
returns-then-is_node_at c =
    let i = c.loop-above.above-index in
    let u = get_or c.args.chain.now i 0 in
    let at : slice_get c.args.chain.now i ≡ Some u = slice_get-get_or c.args.chain.now i 0 (omega arith) in (
      c.is_node_at.ensures.0 c.if-is_node_at.true,
      from_chain c.args.vertices.now c.args.v u i (ap (λ l. slice_get l i) (sym c.requires.chain) ∙ at) c.if-u-v.false,
    )

pub loop-above-preserved : goal.loop-above-preserved
loop-above-preserved c = λ i u lt e differ node.
    let here = c.loop-above.above-index in
    let at : slice_get c.args.chain.now here ≡ Some (get_or c.args.chain.now here 0) = slice_get-get_or c.args.chain.now
    here 0 (omega arith) in
    elim (cases_lt i here) [
      | inl before ↦ c.loop-above.invariant i u before e differ node
      | inr last ↦ (
          let is : here ≡ i = omega arith in
          let same : u ≡ get_or c.args.chain.now here 0 =
          same_Some _ _ (sym e ∙ (ap (slice_get c.args.chain.now) (sym is) ∙ at)) in
          both_ways _ c.if-is_node_at.false (c.is_node_at.ensures.1
          (subst (λ (w : ℕ). IsNodeType (graph_in c.args.kinds.now c.args.vertices.now) w) same node)))
    ]

pub returns : goal.returns
returns c = house_nowhere c.args.kinds.now c.args.vertices.now c.args.v c.args.chain.now c.requires.chain
    (λ i u lt e. c.loop-above.invariant i u (omega arith) e)
