-- Jobs that stay live: where each job that is live at m is live at n, what is available at n is available at m.
use Rattle.std.proofs.Common.{ℕ, ◌-◌, ◌≤◌, nat_le, if◌then◌else◌, Bool, true, false, not, ◌&&◌, ◌||◌, List, [], ◌∷◌}
use Rattle.std.proofs.Common.{inl, inr, sym, refl, arith, IsTrue, true≢false}
use Rattle.std.specs.List.{AllByRecursion, list_any, sum_by}
use Rattle.std.proofs.lemmas.Bool.{and_parts, and_from, or_cases, or_left, or_right}
use Rattle.std.proofs.lemmas.Bool.Decides.{nat_tests}
use Rattle.std.proofs.lemmas.List.Sums.{sum_by-cons}
use Rattle.flux_defs.specs.declared.claims.Claim.{Claim}
use Rattle.flux_defs.specs.declared.claims.Claim.TheVariants.{Take, Hold, Pass}
use Rattle.flux_defs.specs.declared.claims.Job.{Job}
use Rattle.flux_defs.specs.Graph.{is_pool, size_of}
use Rattle.flux_defs.specs.Jobs.{is_live, some_live_claim, take_of, holds_over, is_on_or_below}
use Rattle.flux_defs.specs.Closed.{Scene, is_withheld, has_withheld, is_closed, is_touched}
use Rattle.flux_defs.specs.Free.{taken_at, free_at}
use Rattle.flux_defs.specs.Available.{is_available_at}
use Rattle.list_laws.proofs.Tests.{not_along}

-- each job that is live at m is live at n
abbrev pub LivesOn : List Job → ℕ → ℕ → Type 0
LivesOn jobs m n = AllByRecursion (λ job. IsTrue (is_live m job) → IsTrue (is_live n job)) jobs

abbrev takes_live : ℕ → ℕ → Job → ℕ
takes_live m v job = if is_live m job then sum_by (take_of v) job.claims else 0

if_mono : (a b : Bool) (n : ℕ) → (IsTrue a → IsTrue b) → (if a then n else 0) ≤ (if b then n else 0)
if_mono false b n f = omega arith
if_mono true true n f = omega arith
if_mono true false n f = absurd (true≢false (sym (f refl)))

-- so at n no less is taken
pub taken_on : (jobs : List Job) (m n v : ℕ) → LivesOn jobs m n → taken_at jobs m v ≤ taken_at jobs n v
taken_on [] m n v lives = omega arith
taken_on (job ∷ jobs) m n v lives =
    omega (
      arith,
      sum_by-cons (takes_live m v) job jobs,
      sum_by-cons (takes_live n v) job jobs,
      if_mono (is_live m job) (is_live n job) (sum_by (take_of v) job.claims) lives.0,
      taken_on jobs m n v lives.1,
    )

-- and a claim of a job that is live at m is one of a job that is live at n
claim_on : (jobs : List Job) (m n : ℕ) (test : Claim → Bool) →
    LivesOn jobs m n → IsTrue (some_live_claim jobs m test) → IsTrue (some_live_claim jobs n test)
claim_on [] m n test lives h = h
claim_on (job ∷ jobs) m n test lives h =
    elim (or_cases (is_live m job && list_any test job.claims) (some_live_claim jobs m test) h) [
      | inl here ↦ (let b = and_parts (is_live m job) (list_any test job.claims) here in
          or_left _ _ (and_from _ _ (lives.0 b.0) b.1))
      | inr later ↦ or_right (is_live n job && list_any test job.claims) _ (claim_on jobs m n test lives.1 later)
    ]

or_mono : (a b c : Bool) → (IsTrue a → IsTrue b) → IsTrue (a || c) → IsTrue (b || c)
or_mono a b c f h = elim (or_cases a c h) [ inl x ↦ or_left _ _ (f x) | inr y ↦ or_right b _ y ]

free_mono : (a b pool : Bool) (size x y : ℕ) → (IsTrue a → IsTrue b) → x ≤ y →
    (if b then 0 else (if pool then (size - y) else 1)) ≤ (if a then 0 else (if pool then (size - x) else 1))
free_mono a true pool size x y f le = omega arith
free_mono true false pool size x y f le = absurd (true≢false (sym (f refl)))
free_mono false false true size x y f le = omega arith
free_mono false false false size x y f le = omega arith

le_mono : (q x y : ℕ) → x ≤ y → IsTrue (nat_le q x) → IsTrue (nat_le q y)
le_mono q x y le h = grind (arith, nat_tests)

module _ (s : Scene) (m n : ℕ) (lives : LivesOn s.present.jobs m n) where
  closed_on : (v : ℕ) → IsTrue (is_closed s m v) → IsTrue (is_closed s n v)
  closed_on v = or_mono (some_live_claim s.present.jobs m (holds_over s.vertices v)) (some_live_claim s.present.jobs n
      (holds_over s.vertices v)) (is_withheld s v) (claim_on s.present.jobs m n (holds_over s.vertices v) lives)

  touched_on : (v : ℕ) → IsTrue (is_touched s m v) → IsTrue (is_touched s n v)
  touched_on v = or_mono (some_live_claim s.present.jobs m (is_on_or_below s.vertices v))
      (some_live_claim s.present.jobs n
      (is_on_or_below s.vertices v)) (has_withheld s v)
      (claim_on s.present.jobs m n (is_on_or_below s.vertices v) lives)

  free_on : (v : ℕ) → free_at s n v ≤ free_at s m v
  free_on v = free_mono (is_closed s m v) (is_closed s n v) (is_pool s.vertices v)
      (size_of s.vertices v) (taken_at s.present.jobs m v) (taken_at s.present.jobs n v) (closed_on v)
      (taken_on s.present.jobs m n v lives)

  pub available_on : (c : Claim) → IsTrue (is_available_at s n c) → IsTrue (is_available_at s m c)
  available_on (Take v q) h = le_mono q (free_at s n v) (free_at s m v) (free_on v) h
  available_on (Hold v) h =
      let b = and_parts (not (is_closed s n v)) (not (is_touched s n v)) h in
      and_from _ _ (not_along (is_closed s m v) (is_closed s n v) (closed_on v) b.0)
      (not_along (is_touched s m v) (is_touched s n v) (touched_on v) b.1)
  available_on (Pass v) h = not_along (is_closed s m v) (is_closed s n v) (closed_on v) h
