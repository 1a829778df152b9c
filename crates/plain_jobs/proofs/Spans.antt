-- Moments of a window, the jobs that are live at them, and how much these take.
use Rattle.std.proofs.Common.{◌≡◌, ℕ, suc, ◌+◌, ◌<◌, ◌≤◌, min, nat_le, nat_lt, Bool, false, ◌&&◌, ◌||◌}
use Rattle.std.proofs.Common.{List, [], ◌∷◌, ◌⊎◌, ◌↔◌, inl, inr, refl, sym, ◌∙◌, ap, subst, arith, IsTrue, true≢false}
use Rattle.std.proofs.Common.{slice_get, Some, length, get_or}
use Rattle.std.proofs.lemmas.Option.{slice_get-get_or, slice_get_within}
use Rattle.std.specs.List.{AllByRecursion, list_any}
use Rattle.std.proofs.lemmas.Bool.{cases_lt, and_parts, and_from, or_cases, or_left, or_right}
use Rattle.std.proofs.lemmas.Bool.Decides.{nat_tests, eqb_tells}
use Rattle.std.proofs.Math.Bool.{or-false}
use Rattle.flux_defs.specs.declared.vertices.Vertex.{Vertex}
use Rattle.flux_defs.specs.declared.claims.Claim.{Claim}
use Rattle.flux_defs.specs.declared.claims.Job.{Job}
use Rattle.flux_defs.specs.declared.claims.Window.{Window}
use Rattle.flux_defs.specs.Jobs.{is_live, some_live_claim, SomeMoment, EachMoment, holds_over, is_on_or_below}
use Rattle.flux_defs.specs.Closed.{IsClosedOver, IsTouchedOver}
use Rattle.flux_defs.specs.Free.{taken_at}
use Rattle.flux_defs.specs.Present.{up_with}
use Rattle.match_laws.proofs.Live.{LivesOn, taken_on}
use Rattle.plain_jobs.specs.Spans.{overlaps, some_overlap, IsMostTaken, Raises}

-- where a span and a window overlap they have a moment
common : (w : Window) (job : Job) →
    w.from < w.to → IsTrue (overlaps w job) → (m : ℕ) × (w.from ≤ m) × (m < w.to) × IsTrue (is_live m job)
common w job opens h = elim (cases_lt w.from job.start) [
  | inl lt ↦ (job.start, omega arith, grind (arith, nat_tests), grind (arith, nat_tests))
  | inr ge ↦ (w.from, omega arith, opens, grind (arith, nat_tests))
]

overlap_at : (w : Window) (job : Job) (m : ℕ) → w.from ≤ m → m < w.to → IsTrue (is_live m job) → IsTrue (overlaps w job)
overlap_at w job m lo hi h = grind (arith, nat_tests)

module _ (w : Window) (opens : w.from < w.to) (test : Claim → Bool) where
  moment_of : (jobs : List Job) →
      IsTrue (some_overlap jobs w test) → SomeMoment w (λ m. IsTrue (some_live_claim jobs m test))
  moment_of [] h = absurd (true≢false (sym h))
  moment_of (job ∷ jobs) h =
      elim (or_cases (overlaps w job && list_any test job.claims) (some_overlap jobs w test) h) [
        | inl here ↦
            (let b = and_parts (overlaps w job) (list_any test job.claims) here in
            let c = common w job opens b.0 in
            (c.0, c.1, c.2, or_left _ _ (and_from _ _ c.3 b.1)))
        | inr later ↦ (let r = moment_of jobs later in
            (r.0, r.1, r.2, or_right (is_live r.0 job && list_any test job.claims) _ r.3))
      ]

  overlap_of : (jobs : List Job) (m : ℕ) →
      w.from ≤ m → m < w.to → IsTrue (some_live_claim jobs m test) → IsTrue (some_overlap jobs w test)
  overlap_of [] m lo hi h = h
  overlap_of (job ∷ jobs) m lo hi h =
      elim (or_cases (is_live m job && list_any test job.claims) (some_live_claim jobs m test) h) [
        | inl here ↦ (let b = and_parts (is_live m job) (list_any test job.claims) here in
            or_left _ _ (and_from _ _ (overlap_at w job m lo hi b.0) b.1))
        | inr later ↦ or_right (overlaps w job && list_any test job.claims) _ (overlap_of jobs m lo hi later)
      ]

  pub some_overlap_tells : (jobs : List Job) →
      (IsTrue (some_overlap jobs w test) ↔ SomeMoment w (λ m. IsTrue (some_live_claim jobs m test || false)))
  some_overlap_tells jobs = (
    λ h. let r = moment_of jobs h in (r.0, r.1, r.2, or_left _ false r.3),
    λ s. overlap_of jobs s.0 s.1 s.2 (sym (or-false (some_live_claim jobs s.0 test)) ∙ s.3),
  )

-- a moment from which on no job starts up to m: from, or the start of a job
pub record Latest (jobs : List Job) (from m : ℕ) : Type 0 where
  pub at : ℕ
  pub low : from ≤ at
  pub high : at ≤ m
  pub from_or_start : (at ≡ from) ⊎ ((i : ℕ) × (job : Job) × (slice_get jobs i ≡ Some job) × (at ≡ job.start))
  pub covers : AllByRecursion (λ job. job.start ≤ m → job.start ≤ at) jobs

keep : (jobs : List Job) (m a b : ℕ) → a ≤ b → AllByRecursion (λ job. job.start ≤ m → job.start ≤ a) jobs →
    AllByRecursion (λ job. job.start ≤ m → job.start ≤ b) jobs
keep [] m a b le h = tt
keep (job ∷ jobs) m a b le h = ((λ s. (let x : job.start ≤ a = h.0 s in omega arith)), keep jobs m a b le h.1)

step : (job : Job) (jobs : List Job) (from m : ℕ) (l : Latest jobs from m) →
    (l.at ≡ from) ⊎ ((i : ℕ) × (j : Job) × (slice_get (job ∷ jobs) i ≡ Some j) × (l.at ≡ j.start))
step job jobs from m l = elim l.from_or_start [ inl e ↦ inl e | inr s ↦ inr (suc s.0, s.1, s.2, s.3) ]

pub latest : (jobs : List Job) (from m : ℕ) → from ≤ m → Latest jobs from m
latest [] from m le = record { at = from; low = omega arith; high = le; from_or_start = inl refl; covers = tt }
latest (job ∷ jobs) from m le =
    let l = latest jobs from m le in
    elim (cases_lt l.at job.start) [
      | inl later ↦ elim (cases_lt m job.start) [
        | inl after ↦ record {
          at = l.at;
          low = l.low;
          high = l.high;
          from_or_start = step job jobs from m l;
          covers = ((λ s. absurd (omega arith)), l.covers);
        }
        | inr within ↦ record {
          at = job.start;
          low = (let a : from ≤ l.at = l.low in omega arith);
          high = within;
          from_or_start = inr (0, job, refl, refl);
          covers = ((λ s. omega arith), keep jobs m l.at job.start (omega arith) l.covers);
        }
      ]
      | inr earlier ↦ record {
        at = l.at;
        low = l.low;
        high = l.high;
        from_or_start = step job jobs from m l;
        covers = ((λ s. earlier), l.covers);
      }
    ]

still_live : (job : Job) (m p : ℕ) →
    p ≤ m → (job.start ≤ m → job.start ≤ p) → IsTrue (is_live m job) → IsTrue (is_live p job)
still_live job m p le f h =
    let b = and_parts (nat_le job.start m) (nat_lt m job.end) h in
    let s : job.start ≤ m = grind (arith, nat_tests) in
    let t : job.start ≤ p = f s in
    grind (arith, nat_tests)

-- what is live at m is live at the latest start before it
pub lives_at_latest : (jobs : List Job) (m p : ℕ) →
    p ≤ m → AllByRecursion (λ job. job.start ≤ m → job.start ≤ p) jobs → LivesOn jobs m p
lives_at_latest [] m p le h = tt
lives_at_latest (job ∷ jobs) m p le h = (still_live job m p le h.0, lives_at_latest jobs m p le h.1)

-- what is taken at the window's begin and at each start in it bounds what is taken at any moment
pub most_taken : (jobs : List Job) (w : Window) (v cap n : ℕ) → min (taken_at jobs w.from v) cap ≤ n →
    ((i : ℕ) (job : Job) →
    slice_get jobs i ≡ Some job → w.from ≤ job.start → job.start < w.to → min (taken_at jobs job.start v) cap ≤ n) →
    EachMoment w (λ m. min (taken_at jobs m v) cap ≤ n)
most_taken jobs w v cap n begin starts m lo hi =
    let l = latest jobs w.from m lo in
    let le : taken_at jobs m v ≤ taken_at jobs l.at v =
    taken_on jobs m l.at v (lives_at_latest jobs m l.at l.high l.covers) in
    let low : w.from ≤ l.at = l.low in
    let high : l.at ≤ m = l.high in
    elim l.from_or_start [
      | inl e ↦ (let k : min (taken_at jobs l.at v) cap ≤ n = subst
          (λ (x : ℕ). min (taken_at jobs x v) cap ≤ n) (sym e) begin in omega arith)
      | inr s ↦ (let e : l.at ≡ s.1.start = s.3 in
          let k : min (taken_at jobs l.at v) cap ≤ n = subst (λ (x : ℕ). min (taken_at jobs x v) cap ≤ n)
          (sym e) (starts s.0 s.1 s.2 (omega arith) (omega arith)) in omega arith)
    ]

-- the answers over a list of jobs
pub closed_tells : (vertices : List Vertex) (jobs : List Job) (w : Window) (v : ℕ) →
    w.from < w.to → (b : Bool) → b ≡ some_overlap jobs w (holds_over vertices v) →
    (IsTrue b ↔ IsClosedOver vertices (up_with jobs) w v)
closed_tells vertices jobs w v opens b e = let t = some_overlap_tells w opens (holds_over vertices v) jobs in
    (λ h. t.0 (sym e ∙ h), λ s. e ∙ t.1 s)

pub touched_tells : (vertices : List Vertex) (jobs : List Job) (w : Window) (v : ℕ) →
    w.from < w.to → (b : Bool) → b ≡ some_overlap jobs w (is_on_or_below vertices v) →
    (IsTrue b ↔ IsTouchedOver vertices (up_with jobs) w v)
touched_tells vertices jobs w v opens b e = let t = some_overlap_tells w opens (is_on_or_below vertices v) jobs in
    (λ h. t.0 (sym e ∙ h), λ s. e ∙ t.1 s)

-- a walk over the jobs for the most that is taken
pub record Most (jobs : List Job) (w : Window) (v cap index n : ℕ) : Type 0 where
  pub begin : min (taken_at jobs w.from v) cap ≤ n
  pub starts : (i : ℕ) (job : Job) → i < index →
      slice_get jobs i ≡ Some job → w.from ≤ job.start → job.start < w.to → min (taken_at jobs job.start v) cap ≤ n
  pub reached : SomeMoment w (λ m. min (taken_at jobs m v) cap ≡ n)

pub most_step : (jobs : List Job) (w : Window) (v cap index n r : ℕ) (job : Job) →
    index < length jobs → job ≡ get_or jobs index job → Most jobs w v cap index n → Raises jobs w v cap n job r →
    Most jobs w v cap (index + 1) r
most_step jobs w v cap index n r job lt is m s =
    let up : n ≤ r = s.least in
    record {
      begin = (let b = m.begin in omega arith);
      starts = λ i j hi at lo to. elim (cases_lt i index) [
        | inl before ↦ (let k = m.starts i j before at lo to in omega arith)
        | inr here ↦ (let e : i ≡ index = omega arith in
            let same : Some job ≡ Some j =
            ap Some is ∙ (sym (slice_get-get_or jobs index job lt) ∙ (ap (slice_get jobs) (sym e) ∙ at)) in
            let eq : job ≡ j = cc in
            subst (λ (x : Job). min (taken_at jobs x.start v) cap ≤ r) eq (s.covers
            (subst (λ (x : Job). w.from ≤ x.start) (sym eq) lo) (subst (λ (x : Job). x.start < w.to) (sym eq) to)))
      ];
      reached = elim (eqb_tells r n) [
        | inl y ↦ (let t = m.reached in (t.0, t.1, t.2, t.3 ∙ sym y.1))
        | inr d ↦ (let t = s.from d.1 in (job.start, t.0, t.1, sym t.2))
      ];
    }

pub most_ends : (jobs : List Job) (w : Window) (v cap index n : ℕ) →
    length jobs ≤ index → Most jobs w v cap index n → IsMostTaken jobs w v cap n
most_ends jobs w v cap index n over m = record {
  each = most_taken jobs w v cap n m.begin
      (λ i job at. m.starts i job (let lt : i < length jobs = slice_get_within jobs i job at in omega arith) at);
  reached = m.reached;
}
