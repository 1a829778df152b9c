-- How the rows of a book and its jobs agree.
use Rattle.std.specs.Prelude.{◌≡◌, ℕ, Bool, true, false, not, ◌&&◌, ◌==◌, List, [], ◌∷◌, Option, Some, None, IsTrue}
use Rattle.std.specs.List.{list_any}
use Rattle.std.specs.Ordering.{nat_cmp}
use Rattle.std.specs.FinMap.{FinMap, get}
use Rattle.flux_defs.specs.declared.claims.Job.{Job}
use Rattle.job_table.specs.declared.tables.Row.{Row}

-- there is a row, of a job that wasn't cancelled
abbrev pub is_live_row : Option Row → Bool
is_live_row None = false
is_live_row (Some row) = row.live

-- whether some job of the list has this id
abbrev pub has_job : List Job → ℕ → Bool
has_job jobs id = list_any (λ job. job.id == id) jobs

-- whether no two jobs of the list have one id
abbrev pub have_own_ids : List Job → Bool
have_own_ids [] = true
have_own_ids (job ∷ jobs) = not (has_job jobs job.id) && have_own_ids jobs

-- exactly the ids of the jobs have live rows, and no two jobs have one id
pub record Agree (rows : FinMap nat_cmp Row) (jobs : List Job) : Type 0 where
  pub live : (id : ℕ) → is_live_row (get rows id) ≡ has_job jobs id
  pub own : IsTrue (have_own_ids jobs)
