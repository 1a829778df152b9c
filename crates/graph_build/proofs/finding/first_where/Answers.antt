use Rattle.std.proofs.Common.{arith, rules}
use Rattle.graph_build.proofs.finding.first_where.Goals as goal

pub returns-then-test : goal.returns-then-test
returns-then-test g c = record { is = (omega arith, omega arith, search rules, c.loop-v.invariant) }

pub returns : goal.returns
returns g c = record { is = λ u low lt. c.loop-v.invariant u low (omega arith) }
