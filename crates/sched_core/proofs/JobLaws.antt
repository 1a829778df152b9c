-- Jobs by their ids, and rows of ids.
use Rattle.std.proofs.Common.{◌≡◌, ◌≢◌, ℕ, suc, ◌<◌, ◌==◌, not, Bool, true, false, cond, if◌then◌else◌, List, [], ◌∷◌}
use Rattle.std.proofs.Common.{◌++◌, length, Option, Some, None, MatchOption, refl, sym, ◌∙◌, ap, subst, arith}
use Rattle.std.proofs.Common.{Contains}
use Rattle.std.proofs.lemmas.Bool.{eqb-true, ne_eqb, eq-eqb}
use Rattle.std.proofs.lemmas.Option.{same_Some, none-some}
use Rattle.flux_defs.specs.declared.claims.Job.{Job}
use Rattle.flux_defs.specs.declared.journal.Entry.{Entry}
use Rattle.flux_defs.specs.Scheduler.{State, job_with, without_job}
use Rattle.job_table.specs.declared.tables.Row.{Row}
use Rattle.job_table.specs.Rows.{live_row}
use Rattle.sched_core.specs.Courses.{IsRowOf, IsNew}

-- a job more, of another id
pub with_other : (k : ℕ) (jobs : List Job) (job : Job) → job.id ≢ k → job_with k (jobs ++ job ∷ []) ≡ job_with k jobs
with_other k [] job ne = ap (λ b. cond b (Some job) None) (ne_eqb job.id k ne)
with_other k (x ∷ xs) job ne = ap (λ r. cond (x.id == k) (Some x) r) (with_other k xs job ne)

-- a job more, whose id none had
pub with_new : (jobs : List Job) (job : Job) →
    job_with job.id jobs ≡ None → job_with job.id (jobs ++ job ∷ []) ≡ Some job
with_new [] job none = ap (λ b. cond b (Some job) None) (eq-eqb job.id job.id refl)
with_new (x ∷ xs) job none = go (x.id == job.id) none (with_new xs job)
  where
    go : (b : Bool) → cond b (Some x) (job_with job.id xs) ≡ None → (job_with job.id xs ≡ None →
        job_with job.id (xs ++ job ∷ []) ≡ Some job) → cond b (Some x) (job_with job.id (xs ++ job ∷ [])) ≡ Some job
    go true e rest = absurd (none-some x (sym e))
    go false e rest = rest e

-- without the job of an id
pub gone : (id : ℕ) (jobs : List Job) → job_with id (without_job id jobs) ≡ None
gone id [] = refl
gone id (x ∷ xs) = go (x.id == id) refl (gone id xs)
  where
    go : (b : Bool) → (x.id == id) ≡ b → job_with id (without_job id xs) ≡ None →
        job_with id (cond (not b) (x ∷ without_job id xs) (without_job id xs)) ≡ None
    go true e rest = rest
    go false e rest = ap (λ c. cond c (Some x) (job_with id (without_job id xs))) e ∙ rest

pub stays : (id k : ℕ) (jobs : List Job) → k ≢ id → job_with k (without_job id jobs) ≡ job_with k jobs
stays id k [] ne = refl
stays id k (x ∷ xs) ne = go (x.id == id) refl (stays id k xs ne)
  where
    go : (b : Bool) → (x.id == id) ≡ b → job_with k (without_job id xs) ≡ job_with k xs →
        job_with k (cond (not b) (x ∷ without_job id xs) (without_job id xs))
        ≡ cond (x.id == k) (Some x) (job_with k xs)
    go true e rest = rest
        ∙ sym (ap (λ c. cond c (Some x) (job_with k xs)) (ne_eqb x.id k (λ f. ne (sym f ∙ eqb-true x.id id e))))
    go false e rest = ap (λ r. cond (x.id == k) (Some x) r) rest

-- the job of an id is one of the list
pub is_there : (id : ℕ) (jobs : List Job) (job : Job) → job_with id jobs ≡ Some job → Contains jobs job × (job.id ≡ id)
is_there id [] job e = absurd (none-some job e)
is_there id (x ∷ xs) job e = go (x.id == id) refl e (is_there id xs job)
  where
    go : (b : Bool) → (x.id == id) ≡ b → cond b (Some x) (job_with id xs) ≡ Some job →
        (job_with id xs ≡ Some job → Contains xs job × (job.id ≡ id)) → Contains (x ∷ xs) job × (job.id ≡ id)
    go true t f rest = let is : x ≡ job = same_Some x job f in
        ((0, omega arith, is), (ap (λ (j : Job). j.id) (sym is) ∙ eqb-true x.id id t))
    go false t f rest = let r = rest f in ((suc r.0.0, (let lt : r.0.0 < length xs = r.0.1 in omega arith), r.0.2), r.1)

module _ (journal : List Entry) (s : State) (id : ℕ) where
  abbrev pub Told : Option Row → Type 0
  Told found = MatchOption found (IsNew s id) (IsRowOf journal s id)

  pub row_found : (found : Option Row) (row : Row) → found ≡ Some row → Told found → IsRowOf journal s id row
  row_found found row e told = subst Told e told

  pub row_none : (found : Option Row) → found ≡ None → Told found → IsNew s id
  row_none found e told = subst Told e told

  -- an id that was never accepted has no row
  pub fresh_row : (found : Option Row) → Told found → (Contains s.used id → ⊥) → found ≡ None
  fresh_row None told fresh = refl
  fresh_row (Some row) told fresh = absurd (fresh told.used)

  -- the id of a job that is there has a live row
  pub live_of : (job : Job) →
      job_with id s.jobs ≡ Some job → (found : Option Row) → Told found → (at : ℕ) × (found ≡ Some (live_row at))
  live_of job there None told = absurd (none-some job (sym told.none ∙ there))
  live_of job there (Some row) told = go row.live refl
    where
      go : (b : Bool) → row.live ≡ b → (at : ℕ) × (Some row ≡ Some (live_row at))
      go true e = (row.at, λ i. Some (record { at = row.at; live = e i }))
      go false e = absurd (none-some job (sym (told.left ∙ ap (λ b. if b then Some told.job else None) e) ∙ there))
