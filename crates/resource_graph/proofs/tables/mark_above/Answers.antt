use Rattle.std.proofs.Common.{◌<◌, Option, Some, true, get_or, length, set, sym, ◌∙◌, subst, arith, ℕ}
use Rattle.flux_defs.specs.Graph.{parent_of}
use Rattle.resource_graph.proofs.ChainLaws.{parent_at, no_vertex}
use Rattle.resource_graph.proofs.TableLaws.{parent_before}
use Rattle.resource_graph.proofs.MarkLaws.{Marks, marks_none, marks_more, marks_all, kind_low, reach_in, climb_falls}
use Rattle.resource_graph.proofs.tables.mark_above.Goals as goal

pub loop-above-init : goal.loop-above-init
loop-above-init c =
    subst (λ (o : Option ℕ).
    Marks c.args.vertices.now c.args.kinds c.args.v o c.args.nested.now.items c.args.nested.now.items)
    (sym (parent_at c.args.vertices.now c.args.v no_vertex c.requires.within))
    (marks_none c.args.vertices.now
    c.requires.order c.args.kinds c.requires.known c.args.v c.args.nested.now.items c.requires.within)

pub bounds-vertices-u : goal.bounds-vertices-u
bounds-vertices-u c =
    let before : c.in-Some.u < c.args.v = reach_in c.args.vertices.now c.requires.order c.args.kinds c.requires.known
    c.args.v c.in-Some.u c.requires.within (c.loop-above.invariant.reach c.in-Some.u c.in-Some.is) in
    omega (arith, c.requires.within)

pub cell_of-cell-requires-clause-upper_in : goal.cell_of-cell-requires-clause-upper_in
cell_of-cell-requires-clause-upper_in c =
    let before : c.in-Some.u < c.args.v = reach_in c.args.vertices.now c.requires.order c.args.kinds c.requires.known
    c.args.v c.in-Some.u c.requires.within (c.loop-above.invariant.reach c.in-Some.u c.in-Some.is) in
    kind_low c.args.vertices.now c.requires.order c.args.kinds c.requires.known c.in-Some.u
    (omega (arith, c.requires.within))

pub cell_of-cell-requires-clause-lower_in : goal.cell_of-cell-requires-clause-lower_in
cell_of-cell-requires-clause-lower_in c =
    kind_low c.args.vertices.now c.requires.order c.args.kinds c.requires.known c.args.v c.requires.within

pub bounds-vertices-u-in-Some : goal.bounds-vertices-u-in-Some
bounds-vertices-u-in-Some c =
    let before : c.in-Some.u < c.args.v = reach_in c.args.vertices.now c.requires.order c.args.kinds c.requires.known
    c.args.v c.in-Some.u c.requires.within (c.loop-above.invariant.reach c.in-Some.u c.in-Some.is) in
    omega (arith, c.requires.within)

pub loop-above-smaller : goal.loop-above-smaller
loop-above-smaller c =
    let before : c.in-Some.u < c.args.v = reach_in c.args.vertices.now c.requires.order c.args.kinds c.requires.known
    c.args.v c.in-Some.u c.requires.within (c.loop-above.invariant.reach c.in-Some.u c.in-Some.is) in
    let within : c.in-Some.u < length c.args.vertices.now = omega (arith, c.requires.within) in
    climb_falls c.loop-above.above (get_or c.args.vertices.now c.in-Some.u no_vertex).parent c.in-Some.u c.in-Some.is
    (λ p e. parent_before c.args.vertices.now c.requires.order c.in-Some.u p
    (sym (parent_at c.args.vertices.now c.in-Some.u no_vertex within) ∙ e))

pub loop-above-preserved : goal.loop-above-preserved
loop-above-preserved c =
    let vertices = c.args.vertices.now in
    let u = c.in-Some.u in
    let v = c.args.v in
    let old = c.args.nested.now.items in
    let before : u < v = reach_in vertices c.requires.order c.args.kinds c.requires.known v u c.requires.within
    (c.loop-above.invariant.reach u c.in-Some.is) in
    let within : u < length vertices = omega (arith, c.requires.within) in
    let marks : Marks vertices c.args.kinds v (Some u) old c.loop-above.nested.items = subst (λ (o : Option ℕ).
    Marks vertices c.args.kinds v o old c.loop-above.nested.items) c.in-Some.is c.loop-above.invariant in
    let more = marks_more vertices c.requires.order
    c.args.kinds c.requires.known v u old c.loop-above.nested.items c.requires.within c.requires.whole marks in
    subst (λ (o : Option ℕ). Marks vertices c.args.kinds v o old
    (set c.loop-above.nested.items c.cell_of-cell.result true)) (sym (parent_at vertices u no_vertex within))
    (subst (λ (i : ℕ). Marks vertices c.args.kinds v (parent_of vertices u) old (set c.loop-above.nested.items i true))
    (sym c.cell_of-cell.ensures.index) more)

pub returns : goal.returns
returns c = marks_all c.args.vertices.now c.requires.order c.args.kinds c.requires.known c.args.v
    c.loop-above.above c.args.nested.now.items c.loop-above.nested.items c.in_default.not-Some c.loop-above.invariant
