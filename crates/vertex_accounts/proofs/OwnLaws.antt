-- Holds that count above the vertex alone that they hold: that the vertex is held says it there.
use Rattle.std.proofs.Common.{◌≡◌, ◌+◌, ℕ, ◌-◌, ◌<◌, ◌≤◌, nat_lt, Bool, true, false, ◌||◌, ◌&&◌, cond, List, length}
use Rattle.std.proofs.Common.{◌⊎◌, ◌↔◌, inl, inr, refl, sym, ◌∙◌, ap, subst, arith, IsTrue, true≢false}
use Rattle.std.proofs.lemmas.Bool.{and_parts, or_cases, or_left, cases_Bool}
use Rattle.std.proofs.lemmas.Bool.Decides.{eqb_tells}
use Rattle.flux_defs.specs.declared.vertices.Vertex.{Vertex}
use Rattle.flux_defs.specs.declared.claims.Claim.{Claim}
use Rattle.flux_defs.specs.declared.claims.Claim.TheVariants.{Take, Hold, Pass}
use Rattle.flux_defs.specs.declared.claims.Job.{Job}
use Rattle.flux_defs.specs.declared.claims.Window.{Window}
use Rattle.flux_defs.specs.Graph.{is_at_or_below}
use Rattle.flux_defs.specs.Jobs.{some_live_claim, SomeMoment, is_on_or_below, holds_over}
use Rattle.flux_defs.specs.Closed.{no_bars, is_closed, IsTouchedOver}
use Rattle.flux_defs.specs.Present.{up_with}
use Rattle.graph_laws.proofs.Containment.{ParentsFirst, below_self}
use Rattle.planner_points.specs.Spans.{free_at, IsLeastFree}
use Rattle.book_laws.specs.Amounts.{live_sum, is_hold, hold_of, claim_within, part_of, part_within}
use Rattle.book_laws.specs.Grouped.{grouped}
use Rattle.book_laws.proofs.GroupedLaws.{used_grouped}
use Rattle.flux_laws.proofs.Live.{live_along, live_either}
use Rattle.book_laws.proofs.Sums.{live_add, live_most, live_none, live_unless}
use Rattle.book_laws.proofs.Views.{NeverClosed}
use Rattle.book_laws.proofs.Within.{closed_is}
use Rattle.vertex_planners.specs.Counting.{counts_at}
use Rattle.vertex_accounts.specs.Quantities.{claim_count, part_count}

-- what doesn't hold v counts as it stands
counted : (b own there : Bool) → own ≡ false → cond (b && own) false there ≡ there
counted true own there e = ap (λ o. cond o false there) e
counted false own there e = refl

pub counted_there : (own there : Bool) → IsTrue (cond own false there) → IsTrue there
counted_there true there h = absurd (true≢false (sym h))
counted_there false there h = h

less : (own there : Bool) (n : ℕ) → cond (cond own false there) n 0 ≤ cond there n 0
less true there n = omega arith
less false there n = omega arith

pub part_less : (vertices : List Vertex) (kind v : ℕ) (c : Claim) →
    part_count vertices kind v c ≤ part_within vertices kind v c
part_less vertices kind v c = less _ (is_on_or_below vertices v c) (part_of vertices kind c)

module _ (vertices : List Vertex) (first : ParentsFirst vertices) (v : ℕ) (inside : v < length vertices) where
  hold_there : (c : Claim) → IsTrue (is_hold v c) →
      IsTrue (is_on_or_below vertices v c) × IsTrue (holds_over vertices v c)
  hold_there (Take u q) h = absurd (true≢false (sym h))
  hold_there (Hold u) h = elim (eqb_tells u v) [
    | inl same ↦ (
      subst (λ (x : ℕ). IsTrue (is_at_or_below vertices x v)) (sym same.1) (below_self vertices first v inside),
      subst (λ (x : ℕ). IsTrue (is_at_or_below vertices v x)) (sym same.1) (below_self vertices first v inside),
    )
    | inr differ ↦ absurd (true≢false (sym h ∙ differ.0))
  ]
  hold_there (Pass u) h = absurd (true≢false (sym h))

  -- touched: a claim counts here, or holds the vertex itself
  pub touched_either : (jobs : List Job) (w : Window) →
      ((SomeMoment w (λ m. IsTrue (some_live_claim jobs m (counts_at vertices v)))
      ⊎ SomeMoment w (λ m. IsTrue (some_live_claim jobs m (is_hold v))))
      ↔ IsTouchedOver vertices (up_with jobs) w v)
  touched_either jobs w = (
    λ either. elim either [
      | inl (m, lo, hi, h) ↦ (
        m,
        lo,
        hi,
        there m (counts_at vertices v)
            (λ c t. counted_there _ (is_on_or_below vertices v c) t) h,
      )
      | inr (m, lo, hi, h) ↦ (m, lo, hi, there m (is_hold v) (λ c t. (hold_there c t).0) h)
    ],
    λ (m, lo, hi, h). elim (or_cases _ false h) [
      | inl on ↦ elim (live_either (is_on_or_below vertices v) (counts_at vertices v) (is_hold v) one_of jobs m on) [
        | inl a ↦ inl (m, lo, hi, a)
        | inr b ↦ inr (m, lo, hi, b)
      ]
      | inr none ↦ absurd (true≢false (sym none))
    ],
  )
    where
      there : (m : ℕ) (test : Claim → Bool) → ((c : Claim) → IsTrue (test c) → IsTrue (is_on_or_below vertices v c)) →
          IsTrue (some_live_claim jobs m test) → IsTrue (some_live_claim jobs m (is_on_or_below vertices v) || false)
      there m test along h = or_left _ false (live_along test (is_on_or_below vertices v) along jobs m h)

      one_of : (c : Claim) → IsTrue (is_on_or_below vertices v c) →
          IsTrue (counts_at vertices v c) ⊎ IsTrue (is_hold v c)
      one_of c on = elim (cases_Bool (is_hold v c)) [
        | inl own ↦ inr own
        | inr other ↦ inl (counted (nat_lt 0 v) (is_hold v c) (is_on_or_below vertices v c) other ∙ on)
      ]

  -- where the vertex isn't closed no claim holds it
  same_part : (kind : ℕ) (c : Claim) → holds_over vertices v c ≡ false →
      part_count vertices kind v c ≡ part_within vertices kind v c
  same_part kind c open_ = elim (cases_Bool (is_hold v c)) [
    | inl own ↦ absurd (true≢false (sym (hold_there c own).1 ∙ open_))
    | inr other ↦ ap (λ b. cond b (part_of vertices kind c) 0)
        (counted (nat_lt 0 v) (is_hold v c) (is_on_or_below vertices v c) other)
  ]

  -- so there what counts is what the claims have
  pub counts_all : (jobs : List Job) (w : Window) (kind total n : ℕ) → NeverClosed vertices jobs w v →
      IsLeastFree total (grouped (part_count vertices kind v) jobs) w n →
      IsLeastFree total (grouped (part_within vertices kind v) jobs) w n
  counts_all jobs w kind total n never least = record {
    each = λ m lo hi. (let e = same m lo hi in let le = least.each m lo hi in omega (arith, e, le));
    reached = (let (m, lo, hi, e) = least.reached in (m, lo, hi, sym (same m lo hi) ∙ e));
  }
    where
      same : (m : ℕ) → w.from ≤ m → m < w.to → free_at total (grouped (part_count vertices kind v) jobs) m
          ≡ free_at total (grouped (part_within vertices kind v) jobs) m
      same m lo hi = elim (cases_Bool (is_closed (no_bars vertices (up_with jobs)) m v)) [
        | inl closed ↦ absurd (never (m, lo, hi, closed))
        | inr open_ ↦ ap (λ k. total - k) (used_grouped (part_count vertices kind v) jobs m
            ∙ live_unless (holds_over vertices v) (part_count vertices kind v) (part_within vertices kind v)
            (same_part kind) jobs m (sym (closed_is vertices jobs m v) ∙ open_)
            ∙ sym (used_grouped (part_within vertices kind v) jobs m))
      ]

  -- the claims on the vertex and below it are those that count, and those that hold it
  pub within_is : (jobs : List Job) (m : ℕ) → live_sum (claim_within vertices v) jobs m
      ≡ live_sum (claim_count vertices v) jobs m + cond (nat_lt 0 v) (live_sum (hold_of v) jobs m) 0
  within_is jobs m =
      let both = live_add (claim_count vertices v) own jobs m in
      let most =
      live_most (claim_within vertices v) (λ c. claim_count vertices v c + own c) jobs m (λ c. (parts c).0) in
      let least =
      live_most (λ c. claim_count vertices v c + own c) (claim_within vertices v) jobs m (λ c. (parts c).1) in
      let held = own_sum (nat_lt 0 v) in
      omega (arith, both, most, least, held)
    where
      own : Claim → ℕ
      own c = cond (nat_lt 0 v && is_hold v c) 1 0

      parts : (c : Claim) → (claim_within vertices v c ≤ claim_count vertices v c + own c)
          × (claim_count vertices v c + own c ≤ claim_within vertices v c)
      parts c = by_test (nat_lt 0 v && is_hold v c) (is_on_or_below vertices v c)
          (λ h. (hold_there c (and_parts (nat_lt 0 v) (is_hold v c) h).1).0)
        where
          by_test : (held there : Bool) → (IsTrue held → IsTrue there) →
              (cond there 1 0 ≤ cond (cond held false there) 1 0 + cond held 1 0)
              × (cond (cond held false there) 1 0 + cond held 1 0 ≤ cond there 1 0)
          by_test true true h = (omega arith, omega arith)
          by_test true false h = absurd (true≢false (sym (h refl)))
          by_test false there h = (omega arith, omega arith)

      own_sum : (b : Bool) → live_sum (λ c. cond (b && is_hold v c) 1 0) jobs m ≡ cond b (live_sum (hold_of v) jobs m) 0
      own_sum true = refl
      own_sum false = live_none jobs m
