use Rattle.std.proofs.Common.{◌≡◌, ◌<◌, length, sym, ◌∙◌, arith, rules, Some, None}
use Rattle.std.proofs.lemmas.Result.{IfOk-weaker}
use Rattle.std.proofs.Common.{◌+◌, ◌*◌, ◌≤◌, ap}
use Rattle.std.proofs.Math.Nat.{mul-le-mul_right}
use Rattle.flux_defs.specs.Digits.{dig}
use Rattle.resource_graph.specs.Chains.{chain_of}
use Rattle.vertex_marks.proofs.Chains.{chain_long, chain_some}
use Rattle.flux_defs.specs.Graph.{parent_of}
use Rattle.graph_laws.proofs.Preorder.{parents_first}
use Rattle.resource_graph.specs.Preorder.{plain}
use Rattle.resource_graph.proofs.ChainLaws.{parent_at, no_vertex}
use Rattle.vertex_marks.specs.Marked.{AreShifted}
use Rattle.vertex_marks.proofs.MarkLaws.{shifted_root, shifted_below, shifted_length}
use Rattle.vertex_marks.proofs.changing.+shift.Goals as goal

pub shift-requires : goal.shift-requires
shift-requires g t c κs within =
    let first = parents_first (plain c.args.vertices.now) c.requires.order in
    let less : c.in-Some.parent < c.args.vertex = first c.args.vertex c.in-Some.parent
    (sym (parent_at c.args.vertices.now c.args.vertex no_vertex c.requires.within) ∙ c.in-Some.is) in
    let long : length c.shift_at.new.pages ≡ length c.args.pages.now =
    shifted_length c.args.vertex c.args.down c.args.pages.now c.shift_at.new.pages
    (omega (arith, c.requires.within, c.requires.whole)) c.in-Ok.ensures.shifted in (
      omega (arith, less, c.decreases),
      (
        search rules,
        (
          c.requires.order,
          (omega (arith, less, c.requires.within), long ∙ c.requires.whole),
        ),
      ),
    )

pub returns-in-Some-clause-shifted : goal.returns-in-Some-clause-shifted
returns-in-Some-clause-shifted g t c =
    let first = parents_first (plain c.args.vertices.now) c.requires.order in
    let parent : parent_of c.args.vertices.now c.args.vertex ≡ Some c.in-Some.parent =
    sym (parent_at c.args.vertices.now c.args.vertex no_vertex c.requires.within) ∙ c.in-Some.is in
    IfOk-weaker c.shift.result
    (λ _. AreShifted c.args.vertices.now c.in-Some.parent c.args.down c.shift_at.new.pages c.shift.new.pages)
    (λ _. AreShifted c.args.vertices.now c.args.vertex c.args.down c.args.pages.now c.shift.new.pages)
    (λ _ rest. shifted_below c.args.vertices.now first c.args.down c.args.vertex c.in-Some.parent c.args.pages.now
    c.shift_at.new.pages c.shift.new.pages c.requires.within c.requires.whole parent c.in-Ok.ensures.shifted rest)
    c.shift.ensures.shifted

pub returns-in-None-clause-shifted : goal.returns-in-None-clause-shifted
returns-in-None-clause-shifted g t c =
    let first = parents_first (plain c.args.vertices.now) c.requires.order in
    let parent : parent_of c.args.vertices.now c.args.vertex ≡ None =
    sym (parent_at c.args.vertices.now c.args.vertex no_vertex c.requires.within) ∙ c.in-None.is in
    shifted_root c.args.vertices.now first c.args.down c.args.vertex c.args.pages.now c.shift_at.new.pages
    c.requires.within c.requires.whole parent c.in-Ok.ensures.shifted

pub returns-in-Some-clause-work : goal.returns-in-Some-clause-work
returns-in-Some-clause-work g t c =
    let first = parents_first (plain c.args.vertices.now) c.requires.order in
    let parent : parent_of c.args.vertices.now c.args.vertex ≡ Some c.in-Some.parent =
    sym (parent_at c.args.vertices.now c.args.vertex no_vertex c.requires.within) ∙ c.in-Some.is in
    let long = chain_long c.args.vertices.now first c.args.vertex c.in-Some.parent c.requires.within parent in
    let own = c.shift_at.ensures.work in
    let unit : dig (length c.args.pages.now + 1) ≡ dig (length c.args.vertices.now + 1) =
    ap (λ n. dig (n + 1)) c.requires.whole in
    let rest = c.shift.ensures.work in
    let e : length (chain_of c.args.vertices.now c.args.vertex) * (4 * dig (length c.args.vertices.now + 1))
    ≡ 4 * dig (length c.args.vertices.now + 1) + length (chain_of c.args.vertices.now c.in-Some.parent)
    * (4 * dig (length c.args.vertices.now + 1)) =
    ap (λ n. n * (4 * dig (length c.args.vertices.now + 1))) long ∙ omega arith in
    omega (arith, own, unit, rest, e)

pub returns-in-None-clause-work : goal.returns-in-None-clause-work
returns-in-None-clause-work g t c =
    let first = parents_first (plain c.args.vertices.now) c.requires.order in
    let own = c.shift_at.ensures.work in
    let unit : dig (length c.args.pages.now + 1) ≡ dig (length c.args.vertices.now + 1) =
    ap (λ n. dig (n + 1)) c.requires.whole in
    let all : 1 * (4 * dig (length c.args.vertices.now + 1)) ≤ length (chain_of c.args.vertices.now c.args.vertex)
    * (4 * dig (length c.args.vertices.now + 1)) = mul-le-mul_right (4 * dig (length c.args.vertices.now + 1))
    (chain_some c.args.vertices.now first c.args.vertex c.requires.within) in
    omega (arith, own, unit, all)

pub returns-in-Err-clause-work : goal.returns-in-Err-clause-work
returns-in-Err-clause-work g t c =
    let first = parents_first (plain c.args.vertices.now) c.requires.order in
    let own = c.shift_at.ensures.work in
    let unit : dig (length c.args.pages.now + 1) ≡ dig (length c.args.vertices.now + 1) =
    ap (λ n. dig (n + 1)) c.requires.whole in
    let all : 1 * (4 * dig (length c.args.vertices.now + 1)) ≤ length (chain_of c.args.vertices.now c.args.vertex)
    * (4 * dig (length c.args.vertices.now + 1)) = mul-le-mul_right (4 * dig (length c.args.vertices.now + 1))
    (chain_some c.args.vertices.now first c.args.vertex c.requires.within) in
    omega (arith, own, unit, all)
