use Rattle.std.proofs.Common.{◌≡◌, sym, ap, subst, ◌∙◌, ℕ, ◌≤◌, Option, Some, None, length, option_and_then, arith}
use Rattle.resource_graph.specs.Tables.{IsNodeOf}
use Rattle.resource_graph.specs.Tables.{rank_at}
use Rattle.resource_set_r.proofs.NodeLaws.{node_above_found, rank_above_past}
use Rattle.resource_set_r.proofs.rows.rank_above.Goals as goal

pub returns-then-vertex-len : goal.returns-then-vertex-len
returns-then-vertex-len c =
    let g = c.args.graph.now in
    let len : c.len.result ≡ length g.resources.vertices =
    c.len.ensures ∙ ap length c.vertices-vertices.ensures.value in
    let le : c.len.result ≤ c.args.vertex = c.if-vertex-len.true in
    sym (rank_above_past g.resources g.names c.vertices-vertices.ensures.valid.valid c.args.vertex (omega arith))

pub returns-in-Some : goal.returns-in-Some
returns-in-Some c =
    let g = c.args.graph.now in
    let at : IsNodeOf g.resources.vertices c.args.vertex (Some c.in-Some.node) =
    subst (λ (o : Option ℕ). IsNodeOf g.resources.vertices c.args.vertex o) c.in-Some.is c.node_of.ensures in
    let rank : c.rank_at.result ≡ rank_at g.resources.vertices c.in-Some.node = c.rank_at.ensures in
    rank ∙ sym (ap (option_and_then (rank_at g.resources.vertices)) (node_above_found
    g.resources g.names c.vertices-vertices.ensures.valid.valid c.args.vertex (Some c.in-Some.node) at))

pub returns-in-None : goal.returns-in-None
returns-in-None c =
    let g = c.args.graph.now in
    let at : IsNodeOf g.resources.vertices c.args.vertex None =
    subst (λ (o : Option ℕ). IsNodeOf g.resources.vertices c.args.vertex o) c.in-None.is c.node_of.ensures in
    sym (ap (option_and_then (rank_at g.resources.vertices))
    (node_above_found g.resources g.names c.vertices-vertices.ensures.valid.valid c.args.vertex None at))
