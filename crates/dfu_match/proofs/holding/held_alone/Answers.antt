use Rattle.std.proofs.Common.{refl, arith}
use Rattle.dfu_match.proofs.CountLaws.{alone}
use Rattle.dfu_match.proofs.holding.held_alone.Goals as goal

pub returns-then-is_empty : goal.returns-then-is_empty
returns-then-is_empty c = (
  alone c.args.needs.now c.in_ok-need.need.now (omega (arith, c.len.ensures, c.if-len-ne1.false))
      c.in_ok-need.ensures.value,
  (
    c.in-Vert.kind,
    c.in-Vert.count,
    rw (c.in-Vert.is, c.if-hold.true, c.if-is_empty.ensures.0 refl) refl,
  ),
)
