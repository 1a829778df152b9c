-- A take of less is available where one of more is.
use Rattle.std.proofs.Common.{ℕ, ◌+◌, nat_le, IsTrue, arith}
use Rattle.std.proofs.lemmas.Bool.Decides.{nat_tests}
use Rattle.flux_defs.specs.declared.claims.Window.{Window}
use Rattle.flux_defs.specs.Closed.{Scene}
use Rattle.flux_defs.specs.Free.{free_at}
use Rattle.flux_defs.specs.Available.{IsAvailable}
use Rattle.flux_laws.proofs.FitLaws.{TakesLess}

one_less : (q n : ℕ) → IsTrue (nat_le (q + 1) n) → IsTrue (nat_le q n)
one_less q n h = grind (arith, nat_tests)

pub takes_less : (s : Scene) (w : Window) → TakesLess (IsAvailable s w)
takes_less s w v q more m lo hi = one_less q (free_at s m v) (more m lo hi)
