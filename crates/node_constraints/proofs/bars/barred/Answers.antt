use Rattle.std.proofs.Common.{◌∙◌, sym, ap, subst, length, Ok, arith}
use Rattle.std.specs.List.{AllByRecursion}
use Rattle.json_whole.specs.Values.{view}
use Rattle.flux_defs.specs.Graph.{IsNode}
use Rattle.flux_defs.specs.Needs.{AreRisingFrom}
use Rattle.node_constraints.specs.Bars.{is_barred, barred_by, unless_fault}
use Rattle.node_constraints.proofs.BarLaws.{rising, each_passes, is_barred_node}
use Rattle.node_constraints.proofs.bars.barred.Goals as goal

pub returns-clause-bars : goal.returns-clause-bars
returns-clause-bars c =
    let g = c.args.graph.now in
    let d = view c.args.constraint.now in
    ap (unless_fault (barred_by g d)) c.in_ok-bars.ensures.found
    ∙ ap Ok (sym (c.of_vec.ensures ∙ c.in_ok-bars.ensures.bars))

pub returns-clause-rising : goal.returns-clause-rising
returns-clause-rising c =
    let g = c.args.graph.now in
    let d = view c.args.constraint.now in
    subst (AreRisingFrom 0) (sym (c.of_vec.ensures ∙ c.in_ok-bars.ensures.bars))
    (rising (is_barred g d) (length g.resources.vertices) 0 0 (omega arith))

pub returns-clause-nodes : goal.returns-clause-nodes
returns-clause-nodes c =
    let g = c.args.graph.now in
    let d = view c.args.constraint.now in
    subst (AllByRecursion (IsNode g.resources.vertices)) (sym (c.of_vec.ensures ∙ c.in_ok-bars.ensures.bars))
    (each_passes (IsNode g.resources.vertices) (is_barred g d) (is_barred_node g d) _)
