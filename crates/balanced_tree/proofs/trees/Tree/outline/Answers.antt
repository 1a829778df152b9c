use Rattle.std.proofs.Common.{◌≡◌, max, length, arith, length-append}
use Rattle.balanced_tree.proofs.Heights.{height_below, tall_fork}
use Rattle.balanced_tree.proofs.trees.Tree.outline.Goals as goal

pub overflow_add-height : goal.overflow_add-height
overflow_add-height g c =
    let l = c.args.left.now in
    let r = c.args.right.now in
    let a = height_below l.1 (length l.0) 64 (c.height.ensures.tall c.requires.some_left) c.height.ensures.fits in
    let b = height_below r.1 (length r.0) 64 (c.height-2.ensures.tall c.requires.some_right) c.height-2.ensures.fits in
    grind arith

pub returns : goal.returns
returns g c =
    let l = c.args.left.now in
    let r = c.args.right.now in
    let t = tall_fork l r c.requires.some_left c.requires.some_right c.requires.near c.height.ensures.tall
    c.height-2.ensures.tall in
    let high : c.max-height.result ≡ max l.1 r.1
    = omega (arith, c.height.ensures.value, c.height-2.ensures.value, c.max-height.ensures) in
    let sum = c.in_ok-sum.ensures _ _ c.left.invariant.sum c.right.invariant.sum in
    record {
      height = omega (arith, high);
      len = rw length-append (grind arith);
      sum = rw (← c.left.view_is, ← c.right.view_is) sum;
      tall = rw high t;
    }
