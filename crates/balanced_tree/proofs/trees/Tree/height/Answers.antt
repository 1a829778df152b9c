use Rattle.std.proofs.Common.{length}
use Rattle.balanced_tree.proofs.Heights.{low_dig, level_flat}
use Rattle.balanced_tree.specs.Trees.{items_of}
use Rattle.balanced_tree.proofs.trees.Tree.height.Goals as goal

pub returns-clause-low : goal.returns-clause-low
returns-clause-low g c =
    let i = c.self.invariant in
    let low = low_dig c.self.inside.height (length (items_of c.self.inside.body)) i.tall
    (level_flat c.self.inside.height c.self.inside.body i.level) in
    rw (← c.self.view_is) low
