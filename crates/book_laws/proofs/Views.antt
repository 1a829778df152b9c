-- What the least of a vertex's planners over a window says of the vertex.
use Rattle.std.proofs.Common.{◌≡◌, ℕ, ◌-◌, ◌<◌, ◌≤◌, true, false, cond, List, [], ◌∷◌, ◌++◌}
use Rattle.std.proofs.Common.{◌↔◌, inl, inr, sym, ◌∙◌, ap}
use Rattle.std.proofs.Common.{arith, IsTrue}
use Rattle.std.specs.List.{sum_by}
use Rattle.std.proofs.lemmas.Bool.Decides.{nat_tests}
use Rattle.std.proofs.Math.Bool.{or-false}
use Rattle.std.proofs.lemmas.Bool.{cases_Bool}
use Rattle.flux_defs.specs.declared.vertices.Vertex.{Vertex}
use Rattle.flux_defs.specs.declared.claims.Claim.{Claim}
use Rattle.flux_defs.specs.declared.claims.Job.{Job}
use Rattle.flux_defs.specs.declared.claims.Window.{Window}
use Rattle.flux_defs.specs.Graph.{ResourceGraph, is_pool, size_of}
use Rattle.flux_defs.specs.ValidGraph.{StandsInPreorder}
use Rattle.flux_defs.specs.Jobs.{is_live, some_live_claim, SomeMoment, is_on_or_below, take_of}
use Rattle.flux_defs.specs.Closed.{no_bars, is_closed, is_touched}
use Rattle.flux_defs.specs.Free.{free_at, taken_at, total_at, IsLeastIn, IsFreeOver, IsTotalOver}
use Rattle.flux_defs.specs.Present.{up_with}
use Rattle.planner_points.specs.Spans.{used_at, HasRoom, IsLeastFree}
use Rattle.book_laws.specs.Amounts.{live_sum, is_hold, hold_of, claim_within, capacity, part_within}
use Rattle.book_laws.specs.Grouped.{time_of, grouped}
use Rattle.book_laws.specs.TotalLaws.{AreFair}
use Rattle.book_laws.proofs.Sums.{job_sum, live_push}
use Rattle.book_laws.proofs.Totals.{total_open, total_closed}
use Rattle.book_laws.proofs.GroupedLaws.{used_grouped, least_same, least_tells}

-- nothing is closed at any moment of the window
abbrev pub NeverClosed : List Vertex → List Job → Window → ℕ → Type 0
NeverClosed vertices jobs w v = SomeMoment w (λ m. IsTrue (is_closed (no_bars vertices (up_with jobs)) m v)) → ⊥

open_at : (vertices : List Vertex) (jobs : List Job) (w : Window) (v m : ℕ) →
    NeverClosed vertices jobs w v → w.from ≤ m → m < w.to → is_closed (no_bars vertices (up_with jobs)) m v ≡ false
open_at vertices jobs w v m never lo hi = elim (cases_Bool (is_closed (no_bars vertices (up_with jobs)) m v)) [
  | inl yes_ ↦ absurd (never (m, lo, hi, yes_))
  | inr none ↦ none
]

-- of what the spans of jobs leave
left_is : (f : Claim → ℕ) (jobs : List Job) (total m : ℕ) →
    total - used_at (grouped f jobs) m ≡ total - live_sum f jobs m
left_is f jobs total m = ap (λ n. total - n) (used_grouped f jobs m)

pub least_left : (f : Claim → ℕ) (jobs : List Job) (w : Window) (total n : ℕ) →
    IsLeastFree total (grouped f jobs) w n → IsLeastIn w (λ m. total - live_sum f jobs m) n
least_left f jobs w total n least = least_same w (λ m. total - used_at (grouped f jobs) m)
    (λ m. total - live_sum f jobs m) n (λ m lo hi. left_is f jobs total m) least

-- a vertex is held where its planner of holds has less than all
pub held_tells : (jobs : List Job) (w : Window) (v total n : ℕ) →
    0 < total → IsLeastFree total (grouped (hold_of v) jobs) w n →
    (n < total ↔ SomeMoment w (λ m. IsTrue (some_live_claim jobs m (is_hold v))))
held_tells jobs w v total n some least =
    least_tells (is_hold v) jobs w total n some (least_left (hold_of v) jobs w total n least)

-- and touched where its planner of claims has
pub touched_tells : (vertices : List Vertex) (jobs : List Job) (w : Window) (v total n : ℕ) →
    0 < total → IsLeastFree total (grouped (claim_within vertices v) jobs) w n →
    (n < total ↔ SomeMoment w (λ m. IsTrue (is_touched (no_bars vertices (up_with jobs)) m v)))
touched_tells vertices jobs w v total n some least =
    let t = least_tells
    (is_on_or_below vertices v) jobs w total n some (least_left (claim_within vertices v) jobs w total n least) in (
      λ lt. (let (m, lo, hi, h) = t.0 lt in
          (m, lo, hi, or-false (some_live_claim jobs m (is_on_or_below vertices v)) ∙ h)),
      λ (m, lo, hi, h). t.1 (m, lo, hi, sym (or-false (some_live_claim jobs m (is_on_or_below vertices v))) ∙ h),
    )

module _ (vertices : List Vertex) (jobs : List Job) (w : Window) (v : ℕ) where
  -- what is free of a vertex
  pub free_closed : SomeMoment w (λ m. IsTrue (is_closed (no_bars vertices (up_with jobs)) m v)) →
      IsFreeOver vertices (up_with jobs) w v 0
  free_closed (m, lo, hi, h) = record {
    each = λ k from to. omega arith;
    reached = (m, lo, hi, ap (λ b. cond b 0 (cond (is_pool vertices v) (size_of vertices v - taken_at jobs m v) 1)) h);
  }

  open_free : NeverClosed vertices jobs w v → (m : ℕ) → w.from ≤ m → m < w.to →
      free_at (no_bars vertices (up_with jobs)) m v ≡ cond (is_pool vertices v)
      (size_of vertices v - taken_at jobs m v) 1
  open_free never m lo hi = ap (λ b. cond b 0 (cond (is_pool vertices v) (size_of vertices v - taken_at jobs m v) 1))
      (open_at vertices jobs w v m never lo hi)

  pub free_pool : (n : ℕ) → NeverClosed vertices jobs w v → is_pool vertices v ≡ true →
      IsLeastFree (size_of vertices v) (grouped (take_of v) jobs) w n → IsFreeOver vertices (up_with jobs) w v n
  free_pool n never pool least =
      least_same w (λ m. size_of vertices v - live_sum (take_of v) jobs m)
      (λ m. free_at (no_bars vertices (up_with jobs)) m v) n
      (λ m lo hi. sym (open_free never m lo hi ∙ ap (λ b. cond b (size_of vertices v - taken_at jobs m v) 1) pool))
      (least_left (take_of v) jobs w (size_of vertices v) n least)

  pub free_plain : NeverClosed vertices jobs w v →
      is_pool vertices v ≡ false → w.from < w.to → IsFreeOver vertices (up_with jobs) w v 1
  free_plain never plain opens = record {
    each = λ m lo hi. (let e = one m lo hi in omega arith);
    reached = (w.from, omega arith, opens, one w.from (omega arith) opens);
  }
    where
      one : (m : ℕ) → w.from ≤ m → m < w.to → free_at (no_bars vertices (up_with jobs)) m v ≡ 1
      one m lo hi = open_free never m lo hi ∙ ap (λ b. cond b (size_of vertices v - taken_at jobs m v) 1) plain

-- the total of a kind
module _ (g : ResourceGraph) (o : StandsInPreorder g) (jobs : List Job) (w : Window) (kind v : ℕ) where
  pub none_in_total : SomeMoment w (λ m. IsTrue (is_closed (no_bars g.vertices (up_with jobs)) m v)) →
      IsTotalOver g.vertices (up_with jobs) w kind v 0
  none_in_total (m, lo, hi, h) = record {
    each = λ k from to. omega arith;
    reached = (m, lo, hi, total_closed g o kind v jobs m h);
  }

  pub left_in_total : (n : ℕ) → AreFair g.vertices jobs → NeverClosed g.vertices jobs w v →
      IsLeastFree (capacity g.vertices kind v) (grouped (part_within g.vertices kind v) jobs) w n →
      IsTotalOver g.vertices (up_with jobs) w kind v n
  left_in_total n fair never least =
      least_same w (λ m. capacity g.vertices kind v - live_sum (part_within g.vertices kind v) jobs m)
      (λ m. total_at g.vertices (up_with jobs) kind m v) n
      (λ m lo hi. (let e = total_open g o kind v jobs m fair.within fair.pools
      (open_at g.vertices jobs w v m never lo hi) in omega arith))
      (least_left (part_within g.vertices kind v) jobs w (capacity g.vertices kind v) n least)

-- there is room for a job's span where all that the jobs amount to fits beside it
pub room_for : (f : Claim → ℕ) (jobs : List Job) (job : Job) (total : ℕ) → ((m : ℕ) →
    live_sum f (jobs ++ job ∷ []) m ≤ total) → HasRoom total (grouped f jobs) (time_of job) (sum_by f job.claims)
room_for f jobs job total fits m lo hi =
    let le = fits m in
    let used = used_grouped f jobs m in
    let live : job_sum f m job ≡ sum_by f job.claims = ap (λ b. cond b (sum_by f job.claims) 0) (lives (lo) hi) in
    omega (arith, live_push f jobs job m)
  where
    lives : job.start ≤ m → m < job.end → is_live m job ≡ true
    lives lo hi = grind (arith, nat_tests)
