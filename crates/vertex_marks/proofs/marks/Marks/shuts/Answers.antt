use Rattle.std.proofs.Common.{◌≤◌, ◌+◌, ◌*◌, List, length, sym, ◌∙◌, subst, arith}
use Rattle.std.proofs.Math.Nat.{mul-le-mul_right}
use Rattle.flux_defs.specs.Digits.{dig}
use Rattle.flux_defs.specs.declared.vertices.Vertex.{Vertex}
use Rattle.resource_graph.specs.Chains.{chain_of}
use Rattle.resource_graph.proofs.Queries.{in_preorder, chains_short}
use Rattle.vertex_marks.proofs.marks.Marks.shuts.Goals as goal

pub shut_from-requires-clause-order : goal.shut_from-requires-clause-order
shut_from-requires-clause-order g c = in_preorder c.args.graph.now.resources c.items.result.now
    (c.items.ensures ∙ c.vertices.ensures.value) c.vertices.ensures.valid.valid.preorder

pub returns-clause-work : goal.returns-clause-work
returns-clause-work g c =
    let same = c.items.ensures ∙ c.vertices.ensures.value in
    let short : length (chain_of c.items.result.now c.args.vertex) ≤ 16 =
    subst (λ (l : List Vertex). length (chain_of l c.args.vertex) ≤ 16) (sym same)
    (chains_short c.args.graph.now.resources c.args.graph.now.names c.vertices.ensures.valid.valid c.args.vertex
    c.requires) in
    let all : length (chain_of c.items.result.now c.args.vertex) * (2 * dig (length c.args.self.now.pages + 1))
    ≤ 16 * (2 * dig (length c.args.self.now.pages + 1)) =
    mul-le-mul_right (2 * dig (length c.args.self.now.pages + 1)) short in
    omega (arith, all, c.shut_from.ensures.work)
