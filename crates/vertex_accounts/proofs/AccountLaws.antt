-- How the planners of one place change with the jobs.
use Rattle.std.proofs.Common.{◌≡◌, ℕ, List, ◌∷◌, ◌++◌, length, Some, slice_get, sym, ◌∙◌, ap, subst}
use Rattle.std.specs.List.{sum_by}
use Rattle.flux_defs.specs.declared.claims.Claim.{Claim}
use Rattle.flux_defs.specs.declared.claims.Job.{Job}
use Rattle.planner_points.specs.declared.spans.Span.{Span}
use Rattle.book_laws.specs.Grouped.{time_of, some_span, grouped, AreKept}
use Rattle.book_laws.proofs.GroupedLaws.{grouped_append, grouped_middle}
use Rattle.vertex_planners.specs.Kept.{Gains, Loses, AtEach}
use Rattle.vertex_planners.proofs.PlaceLaws.{same_place}

module _ {P : Type 0} (total_of : P → ℕ)
    (stands_for : P → List Span → Type 0) (total : ℕ → ℕ) (f : ℕ → Claim → ℕ) (job : Job) (amount : ℕ → ℕ) where
  pub gained_kept : (before after : List Job) (old new : List P) →
      length new ≡ length old → ((v : ℕ) → amount v ≡ sum_by (f v) job.claims) →
      AtEach (λ v. Gains total_of stands_for (time_of job) (amount v)) old new →
      AreKept total_of stands_for total f (before ++ after) old →
      AreKept total_of stands_for total f (before ++ job ∷ after) new
  gained_kept before after old new len is gains kept = record {
    totals = λ v r h. (let (p, at) = same_place new old v r len h in (gains v p r at h).total ∙ kept.totals v p at);
    spans = λ v r h. (let (p, at) = same_place new old v r len h in
        let had = subst (stands_for p) (grouped_append (f v) before after) (kept.spans v p at) in
        let has = (gains v p r at h).spans (grouped (f v) before) (grouped (f v) after) had in
        subst (stands_for r) (ap (λ n. grouped (f v) before ++ (some_span (time_of job) n ++ grouped (f v) after))
        (is v) ∙ sym (grouped_middle (f v) before job after)) has);
  }

  pub lost_kept : (before after : List Job) (old new : List P) →
      length new ≡ length old → ((v : ℕ) → amount v ≡ sum_by (f v) job.claims) →
      AtEach (λ v. Loses total_of stands_for (time_of job) (amount v)) old new →
      AreKept total_of stands_for total f (before ++ job ∷ after) old →
      AreKept total_of stands_for total f (before ++ after) new
  lost_kept before after old new len is loses kept = record {
    totals = λ v r h. (let (p, at) = same_place new old v r len h in (loses v p r at h).total ∙ kept.totals v p at);
    spans = λ v r h. (let (p, at) = same_place new old v r len h in
        let had = subst (stands_for p) (grouped_middle (f v) before job after ∙ ap (λ n. grouped (f v) before
        ++ (some_span (time_of job) n ++ grouped (f v) after)) (sym (is v))) (kept.spans v p at) in
        let has = (loses v p r at h).spans (grouped (f v) before) (grouped (f v) after) had in
        subst (stands_for r) (sym (grouped_append (f v) before after)) has);
  }

  -- each planner has the job's span
  pub spans_there : (before after : List Job) (old : List P) →
      ((v : ℕ) → amount v ≡ sum_by (f v) job.claims) → AreKept total_of stands_for total f (before ++ job ∷ after) old →
      (v : ℕ) (p : P) → slice_get old v ≡ Some p →
      (xs : List Span) × (ys : List Span) × stands_for p (xs ++ (some_span (time_of job) (amount v) ++ ys))
  spans_there before after old is kept v p at = (
    grouped (f v) before,
    grouped (f v) after,
    subst (stands_for p) (grouped_middle (f v) before job after ∙ ap (λ n. grouped (f v) before
        ++ (some_span (time_of job) n ++ grouped (f v) after)) (sym (is v))) (kept.spans v p at),
  )
