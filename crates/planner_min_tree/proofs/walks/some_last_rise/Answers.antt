use Rattle.std.proofs.Common.{sym, ◌∙◌}
use Rattle.planner_min_tree.specs.Chunks.{flat}
use Rattle.planner_min_tree.proofs.Dips.{none_never}
use Rattle.planner_min_tree.proofs.Lows.{rise_found}
use Rattle.planner_min_tree.proofs.walks.some_last_rise.Goals as goal

pub returns-clause-none : goal.returns-clause-none
returns-clause-none g c = none_never _ _ (λ e.
    rise_found (flat c.args.side.tree.now.0) c.args.free c.args.quantity c.requires.runs
    (rw c.sum-need.ensures at c.if-quantity-free.false) c.requires.much (sym c.last_rise.ensures.value ∙ e))
