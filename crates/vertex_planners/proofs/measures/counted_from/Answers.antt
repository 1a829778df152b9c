use Rattle.std.proofs.Common.{ℕ, cond, List, length, Option, Some, refl, sym, ◌∙◌, ap}
use Rattle.flux_defs.specs.declared.vertices.Vertex.{Vertex}
use Rattle.flux_defs.specs.declared.claims.Claim.TheVariants.{Take, Pass}
use Rattle.flux_defs.specs.Graph.{chain, parent_of}
use Rattle.graph_laws.proofs.Preorder.{parents_first}
use Rattle.vertex_planners.specs.Chains.{sum_on}
use Rattle.vertex_planners.specs.Counting.{counts_at}
use Rattle.vertex_planners.proofs.ClaimSums.{above_once, once_above, hold_counts, root_counts, soft_counts}
use Rattle.vertex_planners.proofs.ClaimSums.{parent_inside, parents_in, whole_above}
use Rattle.vertex_planners.proofs.measures.counted_from.Goals as goal

pub returns-then-vertex-eq0-clause-counts : goal.returns-then-vertex-eq0-clause-counts
returns-then-vertex-eq0-clause-counts c = λ v more.
    let g = c.args.graph.now.resources in
    let first = parents_first g c.is_valid.ensures.valid.preorder in
    ap (λ (n : ℕ). sum_on v more (chain g.vertices (length g.vertices) (Some n))) (sym c.if-vertex-eq0.true)
    ∙ once_above g.vertices first v more c.in-Hold.vertex
    ∙ root_counts g.vertices c.in-Hold.vertex v more c.if-vertex-eq0.true
    ∙ ap (λ d. cond (counts_at g.vertices v d) more 0) (sym c.in-Hold.is)

pub returns-in-Hold-clause-counts : goal.returns-in-Hold-clause-counts
returns-in-Hold-clause-counts c = λ v more.
    let g = c.args.graph.now.resources in
    let u = c.in-Hold.vertex in
    let first = parents_first g c.is_valid.ensures.valid.preorder in
    let up = c.parent_in.ensures ∙ ap (λ (vs : List Vertex). parent_of vs u)
    (c.items.ensures ∙ c.vertices.ensures.value) in
    ap (λ (o : Option ℕ). sum_on v more (chain g.vertices (length g.vertices) o)) up
    ∙ sym (ap (sum_on v more) (whole_above g.vertices first u))
    ∙ above_once g.vertices first v more u (parent_of g.vertices u) refl
    ∙ hold_counts g.vertices u v more c.if-vertex-eq0.false
    ∙ ap (λ d. cond (counts_at g.vertices v d) more 0) (sym c.in-Hold.is)

pub returns-in-Hold-clause-inside : goal.returns-in-Hold-clause-inside
returns-in-Hold-clause-inside c = λ within.
    let g = c.args.graph.now.resources in
    parent_inside g.vertices c.in-Hold.vertex c.parent_in.result
    (c.parent_in.ensures ∙ ap (λ (vs : List Vertex). parent_of vs c.in-Hold.vertex)
    (c.items.ensures ∙ c.vertices.ensures.value))
    (parents_in g.vertices (parents_first g c.is_valid.ensures.valid.preorder))

pub returns-in-Take-clause-counts : goal.returns-in-Take-clause-counts
returns-in-Take-clause-counts c = λ v more.
    let g = c.args.graph.now.resources in
    let first = parents_first g c.is_valid.ensures.valid.preorder in
    once_above g.vertices first v more c.in-Take.vertex
    ∙ soft_counts g.vertices v more (Take c.in-Take.vertex c.in-Take.quantity) refl
    ∙ ap (λ d. cond (counts_at g.vertices v d) more 0) (sym c.in-Take.is)

pub returns-in-Pass-clause-counts : goal.returns-in-Pass-clause-counts
returns-in-Pass-clause-counts c = λ v more.
    let g = c.args.graph.now.resources in
    let first = parents_first g c.is_valid.ensures.valid.preorder in
    once_above g.vertices first v more c.in-Pass.vertex ∙ soft_counts g.vertices v more (Pass c.in-Pass.vertex) refl
    ∙ ap (λ d. cond (counts_at g.vertices v d) more 0) (sym c.in-Pass.is)
