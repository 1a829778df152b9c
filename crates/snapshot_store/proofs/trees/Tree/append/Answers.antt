use Rattle.std.proofs.Common.{ℕ, List, length, arith, sym, ◌∙◌, ap}
use Rattle.snapshot_store.proofs.ListLaws.{longer_part}
use Rattle.snapshot_store.proofs.trees.Tree.append.Goals as goal

pub invariant_of-self : goal.invariant_of-self
invariant_of-self g c =
    let items = c.in-Ok.ensures.items ∙ ap (λ (u : List _ × ℕ). u.0) c.replace-old.ensures.value in
    let is = longer_part c.in-Ok.height c.self.inside.len c.in-Ok.root c.args.full.now _ c.requires.full
    (c.self.invariant.len ∙ ap length (sym items)) c.self.invariant.rows c.in-Ok.ensures.low
    c.in-Ok.ensures.room c.in-Ok-append.ensures.new in
    record {
      len = is.1;
      rows = omega (arith, c.self.invariant.rows);
      part = is.0;
      low = c.in-Ok.ensures.low;
      high = c.in-Ok.ensures.high;
      tight = omega (arith, c.in-Ok.ensures.tight);
    }
