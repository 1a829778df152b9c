use Rattle.std.proofs.Common.{◌≡◌, ◌<◌, ◌+◌, ◌*◌, ◌||◌, length, sym, ◌∙◌, ap, arith, rules, Some, None}
use Rattle.flux_defs.specs.Graph.{parent_of}
use Rattle.flux_defs.specs.Digits.{dig}
use Rattle.graph_laws.proofs.Preorder.{parents_first}
use Rattle.resource_graph.specs.Chains.{chain_of}
use Rattle.resource_graph.specs.Preorder.{plain}
use Rattle.resource_graph.proofs.ChainLaws.{parent_at, no_vertex}
use Rattle.vertex_marks.specs.Down.{is_shut}
use Rattle.vertex_marks.proofs.Chains.{shut_root, shut_below, shut_here, chain_long}
use Rattle.vertex_marks.proofs.marks.Marks.+shut_from.Goals as goal

pub returns-then-is_down-clause-value : goal.returns-then-is_down-clause-value
returns-then-is_down-clause-value g t c = λ down are.
    shut_here c.args.vertices.now (parents_first (plain c.args.vertices.now) c.requires.order) down c.args.vertex
    c.requires.within (sym c.if-is_down.true ∙ c.is_down.ensures.value c.args.vertices.now down are c.requires.within)

pub shut_from-requires : goal.shut_from-requires
shut_from-requires g t c κs within =
    let first = parents_first (plain c.args.vertices.now) c.requires.order in
    let less : c.in-Some.parent < c.args.vertex = first c.args.vertex c.in-Some.parent
    (sym (parent_at c.args.vertices.now c.args.vertex no_vertex c.requires.within) ∙ c.in-Some.is) in
    (omega (arith, less, c.decreases), (search rules, (c.requires.order, omega (arith, less, c.requires.within))))

pub returns-in-Some-clause-value : goal.returns-in-Some-clause-value
returns-in-Some-clause-value g t c = λ down are.
    let first = parents_first (plain c.args.vertices.now) c.requires.order in
    let parent : parent_of c.args.vertices.now c.args.vertex ≡ Some c.in-Some.parent =
    sym (parent_at c.args.vertices.now c.args.vertex no_vertex c.requires.within) ∙ c.in-Some.is in
    c.shut_from.ensures.value down are
    ∙ (ap (λ t. t || is_shut c.args.vertices.now down c.in-Some.parent)
    (sym c.if-is_down.false ∙ c.is_down.ensures.value c.args.vertices.now down are c.requires.within)
    ∙ sym (shut_below c.args.vertices.now first down c.args.vertex c.in-Some.parent c.requires.within parent))

pub returns-in-Some-clause-work : goal.returns-in-Some-clause-work
returns-in-Some-clause-work g t c =
    let first = parents_first (plain c.args.vertices.now) c.requires.order in
    let parent : parent_of c.args.vertices.now c.args.vertex ≡ Some c.in-Some.parent =
    sym (parent_at c.args.vertices.now c.args.vertex no_vertex c.requires.within) ∙ c.in-Some.is in
    let long = chain_long c.args.vertices.now first c.args.vertex c.in-Some.parent c.requires.within parent in
    let own = c.is_down.ensures.work in
    let rest = c.shut_from.ensures.work in
    let e : length (chain_of c.args.vertices.now c.args.vertex) * (2 * dig (length c.args.self.now.pages + 1))
    ≡ 2 * dig (length c.args.self.now.pages + 1) + length (chain_of c.args.vertices.now c.in-Some.parent)
    * (2 * dig (length c.args.self.now.pages + 1)) =
    ap (λ n. n * (2 * dig (length c.args.self.now.pages + 1))) long ∙ omega arith in
    omega (arith, own, rest, e)

pub returns-in-None-clause-value : goal.returns-in-None-clause-value
returns-in-None-clause-value g t c = λ down are.
    let first = parents_first (plain c.args.vertices.now) c.requires.order in
    let parent : parent_of c.args.vertices.now c.args.vertex ≡ None =
    sym (parent_at c.args.vertices.now c.args.vertex no_vertex c.requires.within) ∙ c.in-None.is in
    (sym c.if-is_down.false ∙ c.is_down.ensures.value c.args.vertices.now down are c.requires.within)
    ∙ sym (shut_root c.args.vertices.now first down c.args.vertex c.requires.within parent)
