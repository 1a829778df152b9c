use Rattle.std.proofs.Common.{sym, ◌∙◌}
use Rattle.snapshot_store.proofs.ListLaws.{put_part}
use Rattle.snapshot_store.proofs.trees.Tree.put.Goals as goal

pub invariant_of-self : goal.invariant_of-self
invariant_of-self g c =
    let (item, given) = c.requires.some in
    let is = put_part c.self.inside.height c.self.inside.root c.put.new.self c.args.at item c.self.invariant.part
    (c.in-Ok.ensures.new item given) in
    record {
      len = c.self.invariant.len ∙ sym is.1;
      rows = c.self.invariant.rows;
      part = is.0;
      low = c.self.invariant.low;
      high = c.self.invariant.high;
      tight = c.self.invariant.tight;
    }
