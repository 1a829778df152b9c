use Rattle.std.proofs.Common.{inr, arith}
use Rattle.dfu_match.proofs.CountLaws.{alone}
use Rattle.dfu_match.proofs.spreads.asks_once.Goals as goal

pub returns-then-is_spread : goal.returns-then-is_spread
returns-then-is_spread c = λ is. inr (
  c.in-Some.need.now,
  alone c.args.needs.now c.in-Some.need.now (omega (arith, c.len.ensures, c.if-len-eq1.true)) c.in-Some.ensures.value,
  c.is_spread.ensures.yes c.if-is_spread.true,
)
