-- What the spans of jobs take, and how they change with the jobs.
use Rattle.std.proofs.Common.{◌≡◌, ℕ, zero, suc, ◌+◌, ◌-◌, ◌<◌, ◌≤◌, Bool, false}
use Rattle.std.proofs.Common.{cond, List, [], ◌∷◌, ◌++◌, length, ◌↔◌, inl, inr, refl, sym, ◌∙◌, ap, subst, arith}
use Rattle.std.proofs.Common.{append_assoc, length-append, IsTrue}
use Rattle.std.specs.List.{sum_by}
use Rattle.std.proofs.lemmas.List.Sums.{sum_by-cons, sum_by-append}
use Rattle.std.proofs.lemmas.Bool.{cases_Bool}
use Rattle.flux_defs.specs.declared.claims.Claim.{Claim}
use Rattle.flux_defs.specs.declared.claims.Job.{Job}
use Rattle.flux_defs.specs.declared.claims.Window.{Window}
use Rattle.flux_defs.specs.Jobs.{some_live_claim, SomeMoment, IsPoint}
use Rattle.flux_defs.specs.Free.{IsLeastIn}
use Rattle.planner_points.specs.declared.spans.Span.{Span}
use Rattle.planner_points.specs.Spans.{span_of, is_in, used_at, IsEnd}
use Rattle.book_laws.specs.Amounts.{live_sum}
use Rattle.book_laws.specs.Grouped.{time_of, some_span, grouped, times_of, count_claims}
use Rattle.book_laws.proofs.Sums.{cond_none, live_cons, live_where, live_unless, live_none}

used_append : (xs ys : List Span) (m : ℕ) → used_at (xs ++ ys) m ≡ used_at xs m + used_at ys m
used_append xs ys m = sum_by-append (λ span. cond (is_in span.window m) span.quantity 0) xs ys

used_some : (window : Window) (n m : ℕ) → used_at (some_span window n) m ≡ cond (is_in window m) n 0
used_some window zero m = sym (cond_none (is_in window m))
used_some window (suc n) m = omega arith

-- the spans of jobs take what their live claims amount to
pub used_grouped : (f : Claim → ℕ) (jobs : List Job) (m : ℕ) → used_at (grouped f jobs) m ≡ live_sum f jobs m
used_grouped f [] m = refl
used_grouped f (job ∷ jobs) m =
    used_append (some_span (time_of job) (sum_by f job.claims)) (grouped f jobs) m
    ∙ (let a = used_some (time_of job) (sum_by f job.claims) m in
    let b = used_grouped f jobs m in
    let c = live_cons f job jobs m in
    omega arith)

pub grouped_append : (f : Claim → ℕ) (xs ys : List Job) → grouped f (xs ++ ys) ≡ grouped f xs ++ grouped f ys
grouped_append f [] ys = refl
grouped_append f (job ∷ xs) ys =
    ap (λ (spans : List Span). some_span (time_of job) (sum_by f job.claims) ++ spans) (grouped_append f xs ys)
    ∙ sym (append_assoc (some_span (time_of job) (sum_by f job.claims)) (grouped f xs) (grouped f ys))

-- a job between others has its span between theirs
pub grouped_middle : (f : Claim → ℕ) (before : List Job) (job : Job) (after : List Job) →
    grouped f (before ++ job ∷ after)
    ≡ grouped f before ++ (some_span (time_of job) (sum_by f job.claims) ++ grouped f after)
grouped_middle f before job after = grouped_append f before (job ∷ after)

pub times_append : (xs ys : List Job) → times_of (xs ++ ys) ≡ times_of xs ++ times_of ys
times_append [] ys = refl
times_append (job ∷ xs) ys = ap (λ (spans : List Span). span_of (time_of job) 0 ∷ spans) (times_append xs ys)

-- how many they are
some_few : (window : Window) (f : Claim → ℕ) (cs : List Claim) → length (some_span window (sum_by f cs)) ≤ length cs
some_few window f [] = omega arith
some_few window f (c ∷ cs) = few (sum_by f (c ∷ cs))
  where
    few : (n : ℕ) → length (some_span window n) ≤ suc (length cs)
    few zero = omega arith
    few (suc n) = omega arith

pub grouped_few : (f : Claim → ℕ) (jobs : List Job) → length (grouped f jobs) ≤ count_claims jobs
grouped_few f [] = omega arith
grouped_few f (job ∷ jobs) =
    let a = some_few (time_of job) f job.claims in
    let b = grouped_few f jobs in
    let c = sum_by-cons (λ (j : Job). length j.claims) job jobs in
    let d = length-append (some_span (time_of job) (sum_by f job.claims)) (grouped f jobs) in
    omega arith

pub times_many : (jobs : List Job) → length (times_of jobs) ≡ length jobs
times_many [] = refl
times_many (job ∷ jobs) = let r = times_many jobs in omega arith

-- they take nothing
pub times_nothing : (jobs : List Job) (m : ℕ) → used_at (times_of jobs) m ≡ 0
times_nothing [] m = refl
times_nothing (job ∷ jobs) m =
    let a = sum_by-cons
    (λ (span : Span). cond (is_in span.window m) span.quantity 0) (span_of (time_of job) 0) (times_of jobs) in
    let b = cond_none (is_in (time_of job) m) in
    let c = times_nothing jobs m in
    omega arith

-- their ends are the points of the jobs
pub ends_points : (jobs : List Job) (t : ℕ) → IsEnd (times_of jobs) t → IsPoint jobs t
ends_points [] t h = h
ends_points (job ∷ jobs) t (inl h) = inl h
ends_points (job ∷ jobs) t (inr h) = inr (ends_points jobs t h)

pub points_ends : (jobs : List Job) (t : ℕ) → IsPoint jobs t → IsEnd (times_of jobs) t
points_ends [] t h = h
points_ends (job ∷ jobs) t (inl h) = inl h
points_ends (job ∷ jobs) t (inr h) = inr (points_ends jobs t h)

-- the least of numbers that agree
pub least_same : (w : Window) (a b : ℕ → ℕ) (n : ℕ) →
    ((m : ℕ) → w.from ≤ m → m < w.to → a m ≡ b m) → IsLeastIn w a n → IsLeastIn w b n
least_same w a b n same least = record {
  each = λ m lo hi. (let e = same m lo hi in let le = least.each m lo hi in omega arith);
  reached = (let (m, lo, hi, e) = least.reached in (m, lo, hi, sym (same m lo hi) ∙ e));
}

-- 1 for claims that pass a test sums to something exactly where a live claim passes it
pub counted_some : (test : Claim → Bool) (jobs : List Job) (m : ℕ) →
    IsTrue (some_live_claim jobs m test) → 1 ≤ live_sum (λ c. cond (test c) 1 0) jobs m
counted_some test jobs m some =
    live_where test (λ c. cond (test c) 1 0) 1 (λ c h. subst (λ b. 1 ≤ cond b 1 0) (sym h) (omega arith)) jobs m some

pub counted_none : (test : Claim → Bool) (jobs : List Job) (m : ℕ) →
    some_live_claim jobs m test ≡ false → live_sum (λ c. cond (test c) 1 0) jobs m ≡ 0
counted_none test jobs m none =
    live_unless test (λ c. cond (test c) 1 0) (λ c. 0) (λ c h. ap (λ b. cond b 1 0) h) jobs m none ∙ live_none jobs m

-- less than all is left at some moment exactly where such a claim is live at some moment
pub least_tells : (test : Claim → Bool) (jobs : List Job) (w : Window) (total n : ℕ) →
    0 < total → IsLeastIn w (λ m. total - live_sum (λ c. cond (test c) 1 0) jobs m) n →
    (n < total ↔ SomeMoment w (λ m. IsTrue (some_live_claim jobs m test)))
least_tells test jobs w total n some least = (
  λ lt. (let (m, lo, hi, e) = least.reached in
      elim (cases_Bool (some_live_claim jobs m test)) [
        | inl there ↦ (m, lo, hi, there)
        | inr none ↦ absurd (let z = counted_none test jobs m none in omega arith)
      ]),
  λ (m, lo, hi, there). (let one = counted_some test jobs m there in let le = least.each m lo hi in omega arith),
)
