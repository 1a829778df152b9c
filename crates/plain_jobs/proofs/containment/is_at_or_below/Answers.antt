use Rattle.std.proofs.Common.{◌≡◌, ℕ, length, true, inl, inr, sym, ap, subst, arith}
use Rattle.flux_defs.specs.Graph.{is_at_or_below}
use Rattle.plain_jobs.proofs.AnyNumbers.{self_below, past_below}
use Rattle.plain_jobs.proofs.containment.is_at_or_below.Goals as goal
use Rattle.plain_jobs.proofs.containment.is_at_or_below.Goals.{then-vertex-len-via-then-vertex-len}
use Rattle.plain_jobs.proofs.containment.is_at_or_below.Goals.{then-vertex-len-via-else-vertex-len+then-upper-len}

pub returns-then-vertex-upper : goal.returns-then-vertex-upper
returns-then-vertex-upper c =
    let g = c.args.graph.now.resources in
    let self = self_below g c.vertices.ensures.valid.valid.preorder c.args.vertex in
    sym (subst (λ (u : ℕ). is_at_or_below g.vertices c.args.vertex u ≡ true) c.if-vertex-upper.true self)

pub returns-then-vertex-len : goal.returns-then-vertex-len
returns-then-vertex-len c =
    let g = c.args.graph.now.resources in
    let many = ap length c.vertices.ensures.value in
    sym (past_below g c.vertices.ensures.valid.valid.preorder c.args.vertex c.args.upper c.if-vertex-upper.false
    (elim c.then-vertex-len.branch [
      | then-vertex-len-via-then-vertex-len w ↦
          inl (let e = c.len-len.ensures in let k = w.if-vertex-len.true in omega arith)
      | then-vertex-len-via-else-vertex-len+then-upper-len w ↦
          inr (let e = c.len-len.ensures in let k = w.if-upper-len.true in omega arith)
    ]))
