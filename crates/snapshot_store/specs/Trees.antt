-- What is true of the tree of a list.
use Rattle.std.specs.Prelude.{◌≡◌, ◌+◌, ◌*◌, ◌^◌, ◌≤◌, ◌%◌, length}
use Rattle.snapshot_store.specs.Parts.{IsPart}
use Rattle.snapshot_store.specs.declared.trees.Tree.TheInside.{Inside}

-- its root is a part of its height and has whole rows of sixteen items, and is no higher than its length asks for
pub record IsTree {T : Type 0} (tree : Inside T) : Type 0 where
  pub len : tree.len ≡ length tree.root.0
  pub rows : tree.len % 16 ≡ 0
  pub part : IsPart tree.height tree.root
  pub low : 1 ≤ tree.height
  pub high : tree.height ≤ 16
  pub tight : 2 ^ (4 * tree.height) ≤ 16 * tree.len + 16
