-- Rows of jobs, by their ids.
use Rattle.std.specs.Prelude.{◌≡◌, ℕ, Bool, true, false, Some, refl}
use Rattle.std.specs.Ordering.{nat_cmp}
use Rattle.std.specs.FinMap.{FinMap, get}
use Rattle.std.specs.Coded.{Coded, code_by, coded×, coded_ℕ, coded_bool}
use Rattle.job_table.specs.declared.tables.Row.{Row}

-- a row as data: its place, and whether its job is live
abbrev pub row_code : Coded Row
row_code = code_by (ℕ × Bool) (coded× coded_ℕ coded_bool) (λ r. (r.at, r.live)) (λ p. record { at = p.0; live = p.1 })
    (λ _. refl)

-- the row of a job that was accepted by the entry at this place, and not cancelled
abbrev pub live_row : ℕ → Row
live_row at = record { at = at; live = true }

-- the row of a job that was cancelled since
abbrev pub cancelled_row : ℕ → Row
cancelled_row at = record { at = at; live = false }

-- the id has the row of a job that wasn't cancelled
abbrev pub HasLiveRow : FinMap nat_cmp Row → ℕ → Type 0
HasLiveRow rows id = (at : ℕ) × (get rows id ≡ Some (live_row at))
