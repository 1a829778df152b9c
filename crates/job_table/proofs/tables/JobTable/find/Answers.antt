use Rattle.std.proofs.Common.{sym, ap, ◌∙◌, ◌+◌, arith}
use Rattle.std.specs.FinMap as map
use Rattle.flux_defs.proofs.DigitLaws.{some_dig}
use Rattle.job_table.proofs.TableLaws.{get_entries}
use Rattle.job_table.proofs.tables.JobTable.find.Goals as goal

pub returns-clause-row : goal.returns-clause-row
returns-clause-row g c = c.find.ensures.row
    ∙ sym (ap (λ m. map.get m c.args.id) (sym c.self.view_is) ∙ get_entries _ c.args.id)

pub returns-clause-work : goal.returns-clause-work
returns-clause-work g c = let high = c.self.invariant.high in
    omega (arith, c.find.ensures.work, some_dig (map.len c.args.self.now + 2))
