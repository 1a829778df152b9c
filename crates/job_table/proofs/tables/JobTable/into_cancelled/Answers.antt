use Rattle.std.proofs.Common.{◌+◌, arith}
use Rattle.std.specs.FinMap as map
use Rattle.flux_defs.proofs.DigitLaws.{some_dig}
use Rattle.job_table.proofs.tables.JobTable.into_cancelled.Goals as goal

pub returns-clause-work : goal.returns-clause-work
returns-clause-work g c = omega (arith, some_dig (map.len c.args.self + 2))
