use Rattle.std.proofs.Common.{◌≡◌, ◌<◌, ◌+◌, ◌-◌, Some, get_or, length, max, set, sym, ◌∙◌, ap, subst, arith, ℕ}
use Rattle.std.proofs.lemmas.List.{get_or_read}
use Rattle.flux_defs.specs.Graph.{parent_of}
use Rattle.resource_graph.proofs.ChainLaws.{parent_at, parent_at_none, no_vertex}
use Rattle.resource_graph.proofs.TableLaws.{parent_before}
use Rattle.resource_graph.proofs.PastLaws.{HasPastsFrom, pasts_none, pasts_root, pasts_more, pasts_all}
use Rattle.resource_graph.proofs.tables.past_table.Goals as goal

pub loop-left-init : goal.loop-left-init
loop-left-init c =
    (pasts_none c.args.vertices.now c.requires.order c.in_ok-past.past.items c.in_ok-past.ensures, omega arith)

pub index-requires : goal.index-requires
index-requires c =
    let within : c.loop-left.left - 1 < length c.args.vertices.now = omega arith in
    let before : c.in-Some.parent < c.loop-left.left - 1 = parent_before c.args.vertices.now c.requires.order _ _
    (sym (parent_at c.args.vertices.now (c.loop-left.left - 1) no_vertex within) ∙ c.in-Some.is) in
    omega (arith, c.loop-left.invariant.0.as_many)

pub index_mut-requires : goal.index_mut-requires
index_mut-requires c =
    let within : c.loop-left.left - 1 < length c.args.vertices.now = omega arith in
    let before : c.in-Some.parent < c.loop-left.left - 1 = parent_before c.args.vertices.now c.requires.order _ _
    (sym (parent_at c.args.vertices.now (c.loop-left.left - 1) no_vertex within) ∙ c.in-Some.is) in
    omega (arith, c.loop-left.invariant.0.as_many)

pub loop-left-preserved-in-Some : goal.loop-left-preserved-in-Some
loop-left-preserved-in-Some c =
    let vertices = c.args.vertices.now in
    let v = c.loop-left.left - 1 in
    let within : v < length vertices = omega arith in
    let back : v + 1 ≡ c.loop-left.left = omega arith in
    let parent : parent_of vertices v ≡ Some c.in-Some.parent =
    sym (parent_at vertices v no_vertex within) ∙ c.in-Some.is in
    let more = pasts_more vertices c.requires.order v c.in-Some.parent c.loop-left.past.items within parent
    (subst (λ (l : ℕ). HasPastsFrom vertices l c.loop-left.past.items) (sym back) c.loop-left.invariant.0) in
    let p_in : c.in-Some.parent < length c.loop-left.past.items =
    (let before : c.in-Some.parent < v = parent_before vertices c.requires.order v c.in-Some.parent parent in
    omega (arith, c.loop-left.invariant.0.as_many)) in
    let v_in : v < length c.loop-left.past.items = omega (arith, c.loop-left.invariant.0.as_many) in
    let a : c.index.result.now ≡ get_or c.loop-left.past.items c.in-Some.parent 0 =
    get_or_read c.loop-left.past.items c.in-Some.parent c.index.result.now p_in c.index.ensures 0 in
    let b : c.index-in-Some.result.now ≡ get_or c.loop-left.past.items v 0 =
    get_or_read c.loop-left.past.items v c.index-in-Some.result.now v_in c.index-in-Some.ensures 0 in
    let is : c.max.result ≡ max (get_or c.loop-left.past.items c.in-Some.parent 0) (get_or c.loop-left.past.items v 0) =
    c.max.ensures ∙ (ap (λ x. max x c.index-in-Some.result.now) a
    ∙ ap (λ y. max (get_or c.loop-left.past.items c.in-Some.parent 0) y) b) in (
      subst (λ (m : ℕ). HasPastsFrom vertices v (set c.loop-left.past.items c.in-Some.parent m)) (sym is) more,
      omega arith,
    )

pub loop-left-preserved : goal.loop-left-preserved
loop-left-preserved c =
    let vertices = c.args.vertices.now in
    let v = c.loop-left.left - 1 in
    let within : v < length vertices = omega arith in
    let back : v + 1 ≡ c.loop-left.left = omega arith in (
      pasts_root vertices c.requires.order v c.loop-left.past.items within
          (parent_at_none vertices v within c.in_default.not-Some)
          (subst (λ (l : ℕ). HasPastsFrom vertices l c.loop-left.past.items) (sym back) c.loop-left.invariant.0),
      omega arith,
    )

pub returns : goal.returns
returns c = pasts_all c.args.vertices.now c.requires.order c.loop-left.left c.loop-left.past.items
    (omega arith) c.loop-left.invariant.0
