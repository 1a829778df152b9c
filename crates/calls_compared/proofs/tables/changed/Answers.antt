use Rattle.std.proofs.Common.{◌≡◌, true, Some, sym, ◌∙◌, ap}
use Rattle.job_table.specs.declared.tables.Row.{Row}
use Rattle.job_table.specs.Rows.{live_row}
use Rattle.calls_compared.proofs.tables.changed.Goals as goal

a_live_row : (row : Row) → row.live ≡ true → row ≡ live_row row.at
a_live_row row e = λ i. record { at = row.at; live = e i }

pub with_cancelled-requires : goal.with_cancelled-requires
with_cancelled-requires g c = (
  c.in-Some.row.at,
  sym c.in-Some.ensures.row
      ∙ ap Some (a_live_row c.in-Some.row c.if-row.true),
)
