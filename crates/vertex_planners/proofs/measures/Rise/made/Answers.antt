use Rattle.std.proofs.Common.{◌<◌, ℕ, List, length, IfSome, sym, ◌∙◌, ap, subst, arith}
use Rattle.flux_defs.specs.declared.vertices.Vertex.{Vertex}
use Rattle.flux_defs.specs.Graph.{chain}
use Rattle.graph_laws.proofs.Preorder.{parents_first}
use Rattle.vertex_planners.specs.Numbers.{HasKeysBelow}
use Rattle.vertex_planners.specs.Chains.{ParentsIn}
use Rattle.vertex_planners.specs.Rises.{rise_at}
use Rattle.vertex_planners.proofs.ClaimSums.{parents_in}
use Rattle.vertex_planners.proofs.RiseLaws.{rise_none, rise_few, weight_some}
use Rattle.vertex_planners.proofs.measures.Rise.made.Goals as goal

pub returns-then-self-eq0-clause-sums : goal.returns-then-self-eq0-clause-sums
returns-then-self-eq0-clause-sums c = λ v.
    let none = rise_none c.args.graph.now.resources.vertices c.args.self v c.if-self-eq0.true in omega (arith, none)

pub returns-clause-sums : goal.returns-clause-sums
returns-clause-sums c = λ v.
    let same = ap (λ (vs : List Vertex). rise_at vs c.args.self v)
    (c.items-vertices.ensures ∙ c.vertices.ensures.value) in
    let raised = c.in_ok-raise.ensures.sums v in omega (arith, same, raised)

pub returns-clause-keys : goal.returns-clause-keys
returns-clause-keys c = λ inside keys.
    let g = c.args.graph.now.resources in
    let same = c.items-vertices.ensures ∙ c.vertices.ensures.value in
    let n = ap (λ (vs : List Vertex). length vs) same in
    subst (λ (most : ℕ). HasKeysBelow most c.raise.new.amounts) n
    (c.in_ok-raise.ensures.keys
    (subst ParentsIn (sym same) (parents_in g.vertices (parents_first g c.vertices.ensures.valid.valid.preorder)))
    (subst (λ (most : ℕ). IfSome c.args.self.from (λ v. v < most)) (sym n) inside)
    (subst (λ (most : ℕ). HasKeysBelow most c.args.amounts.now) (sym n) keys))

pub returns-clause-few : goal.returns-clause-few
returns-clause-few c = λ inside.
    let g = c.args.graph.now.resources in
    let same = ap (λ (vs : List Vertex). length (chain vs (length vs) c.args.self.from))
    (c.items-vertices.ensures ∙ c.vertices.ensures.value) in
    let short = rise_few g.vertices c.args.self.from c.vertices.ensures.valid.valid.shallow inside in
    let few = c.in_ok-raise.ensures.few in
    let weight = weight_some c.args.self c.if-self-eq0.false in omega (arith, same, short, few, weight)
