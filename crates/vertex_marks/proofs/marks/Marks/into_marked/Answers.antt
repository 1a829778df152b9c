use Rattle.std.proofs.Common.{◌≡◌, ◌<◌, ◌+◌, ◌-◌, ℕ, List, length, not, sym, ◌∙◌, ap, subst, arith}
use Rattle.std.proofs.Common.{◌*◌, ◌≤◌}
use Rattle.std.proofs.Math.Nat.{mul-le-mul_right}
use Rattle.flux_defs.specs.Digits.{dig}
use Rattle.resource_graph.specs.Chains.{chain_of}
use Rattle.std.specs.Prelude.{if◌then◌else◌}
use Rattle.flux_defs.specs.declared.vertices.Vertex.{Vertex}
use Rattle.resource_graph.specs.NamedGraph.{vertices_of}
use Rattle.resource_graph.proofs.Queries.{in_preorder, chains_short}
use Rattle.vertex_marks.specs.Down.{is_among, marked, AreDown}
use Rattle.vertex_marks.specs.Marked.{HaveMarks, MayMark}
use Rattle.vertex_marks.proofs.MarkLaws.{down_still, length_marked}
use Rattle.vertex_marks.proofs.marks.Marks.into_marked.Goals as goal

pub written-requires-clause-order : goal.written-requires-clause-order
written-requires-clause-order g c = in_preorder c.args.graph.now.resources c.items.result.now
    (c.items.ensures ∙ c.vertices.ensures.value) c.vertices.ensures.valid.valid.preorder

pub returns-clause-marks : goal.returns-clause-marks
returns-clause-marks g c = λ old are among.
    let vertices = vertices_of c.args.graph.now in
    let all = subst (λ (l : List Vertex). (old : List ℕ) → MayMark l old c.args.self.pages → AreDown l old →
    is_among old c.args.vertex ≡ not c.args.down →
    HaveMarks l (marked old c.args.vertex c.args.down) c.in_ok-pages.pages)
    (c.items.ensures ∙ c.vertices.ensures.value) c.in_ok-pages.ensures.have in
    let have : HaveMarks (vertices_of c.args.graph.now) (marked old c.args.vertex c.args.down) c.in_ok-pages.pages =
    all old (record { bare = are.bare; made = are.made }) are.fair among in
    let long : length c.in_ok-pages.pages ≡ length (vertices_of c.args.graph.now) = have.as_many in
    let lt : c.args.vertex < length (vertices_of c.args.graph.now) = c.requires in
    record {
      fair = down_still c.args.down c.args.vertex old among are.fair.once (vertices_of c.args.graph.now) c.requires
          are.fair;
      count = c.in_ok-count.ensures ∙ (ap (λ (n : ℕ). if c.args.down then n + 1 else n - 1) are.count
          ∙ sym (length_marked c.args.down c.args.vertex old among are.fair.once));
      bare = λ none. absurd (omega (arith, long, lt, none));
      made = λ some. have;
    }

pub returns-in_err-pages-clause-work : goal.returns-in_err-pages-clause-work
returns-in_err-pages-clause-work g c = λ ready.
    let same : c.items.result.now ≡ vertices_of c.args.graph.now = c.items.ensures ∙ c.vertices.ensures.value in
    let short : length (chain_of c.items.result.now c.args.vertex) ≤ 16 =
    subst (λ (l : List Vertex). length (chain_of l c.args.vertex) ≤ 16) (sym same)
    (chains_short c.args.graph.now.resources c.args.graph.now.names c.vertices.ensures.valid.valid c.args.vertex
    c.requires) in
    let more : length (chain_of c.items.result.now c.args.vertex) + 1 ≤ 17 = omega (arith, short) in
    let all : (length (chain_of c.items.result.now c.args.vertex) + 1) * (4 * dig (length c.items.result.now + 1))
    ≤ 17 * (4 * dig (length c.items.result.now + 1)) =
    mul-le-mul_right (4 * dig (length c.items.result.now + 1)) more in
    let unit : dig (length c.items.result.now + 1) ≡ dig (length (vertices_of c.args.graph.now) + 1) =
    ap (λ (l : List Vertex). dig (length l + 1)) same in
    let own = c.written.ensures.work (ready ∙ sym (ap length same)) in
    omega (arith, all, unit, own)

pub returns-clause-work : goal.returns-clause-work
returns-clause-work g c = λ ready.
    let same : c.items.result.now ≡ vertices_of c.args.graph.now = c.items.ensures ∙ c.vertices.ensures.value in
    let short : length (chain_of c.items.result.now c.args.vertex) ≤ 16 =
    subst (λ (l : List Vertex). length (chain_of l c.args.vertex) ≤ 16) (sym same)
    (chains_short c.args.graph.now.resources c.args.graph.now.names c.vertices.ensures.valid.valid c.args.vertex
    c.requires) in
    let more : length (chain_of c.items.result.now c.args.vertex) + 1 ≤ 17 = omega (arith, short) in
    let all : (length (chain_of c.items.result.now c.args.vertex) + 1) * (4 * dig (length c.items.result.now + 1))
    ≤ 17 * (4 * dig (length c.items.result.now + 1)) =
    mul-le-mul_right (4 * dig (length c.items.result.now + 1)) more in
    let unit : dig (length c.items.result.now + 1) ≡ dig (length (vertices_of c.args.graph.now) + 1) =
    ap (λ (l : List Vertex). dig (length l + 1)) same in
    let own = c.written.ensures.work (ready ∙ sym (ap length same)) in
    omega (arith, all, unit, own)
