use Rattle.std.proofs.Common.{◌≡◌, ◌*◌, ◌≤◌, length, take}
use Rattle.dfu_match.specs.Rows.{AreLefts, IsLeft}
use Rattle.dfu_match.proofs.knowing.Known.left.Given as goal

abbrev pub invariant-loop-block : goal.invariant-loop-block
invariant-loop-block l = record {
  own : l.self.own ≡ l.fn.self.own;
  rows : l.self.rows.items ≡ l.fn.self.rows.items;
  end : l.self.end ≡ l.fn.self.end;
  length : length l.self.blocks.items ≡ length l.fn.self.blocks.items;
  lefts : AreLefts l.need l.self.rows.items l.self.blocks.items;
  from : l.all.from ≡ l.from;
  opens : l.from ≤ l.all.until;
  left : IsLeft l.need (take (16 * l.block) l.self.rows.items) l.all;
}
