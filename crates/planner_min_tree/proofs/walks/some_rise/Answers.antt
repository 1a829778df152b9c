use Rattle.std.proofs.Common.{sym, ◌∙◌}
use Rattle.planner_min_tree.specs.Chunks.{flat}
use Rattle.planner_min_tree.proofs.Dips.{rise_found, none_never}
use Rattle.planner_min_tree.proofs.walks.some_rise.Goals as goal

pub returns-clause-none : goal.returns-clause-none
returns-clause-none g c = none_never _ _ (λ e.
    rise_found (flat c.args.side.tree.now.0) c.args.free c.args.quantity c.requires.runs c.requires.less
    (rw c.sum.ensures at (c.reaches.ensures.high (cc))) (sym c.first_rise.ensures.value ∙ e))
