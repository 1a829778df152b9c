use Rattle.std.proofs.Common.{ap, ◌∙◌}
use Rattle.std.specs.FinMap as map
use Rattle.job_table.proofs.TableLaws.{insert_entries}
use Rattle.job_table.proofs.tables.JobTable.into_row.Goals as goal

pub returns-in-Ok-clause-row : goal.returns-in-Ok-clause-row
returns-in-Ok-clause-row g c =
    insert_entries _ _ c.args.id c.args.row c.in-Ok.ensures.sets
    ∙ ap (λ m. map.insert m c.args.id c.args.row) c.self.view_is
