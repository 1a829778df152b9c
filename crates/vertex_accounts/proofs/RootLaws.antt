-- What jobs leave of a type at the root, moment by moment, and from when on it is so much.
use Rattle.std.proofs.Common.{◌≡◌, ℕ, zero, suc, ◌≤◌, List, [], ◌∷◌, ◌++◌, Option, Some, None, ◌⊎◌, inl, inr, sym, ◌∙◌}
use Rattle.std.proofs.Common.{subst, arith, IsTrue, true≢false}
use Rattle.std.specs.Prelude.{sum_by}
use Rattle.std.proofs.lemmas.Bool.{cases_lt, cases_Bool}
use Rattle.flux_defs.specs.declared.vertices.Vertex.{Vertex}
use Rattle.flux_defs.specs.declared.claims.Claim.{Claim}
use Rattle.flux_defs.specs.declared.claims.Claim.TheVariants.{Take, Hold, Pass}
use Rattle.flux_defs.specs.declared.claims.Job.{Job}
use Rattle.flux_defs.specs.declared.claims.Window.{Window}
use Rattle.flux_defs.specs.Graph.{ResourceGraph, is_at_or_below}
use Rattle.flux_defs.specs.ValidGraph.{StandsInPreorder}
use Rattle.flux_defs.specs.Jobs.{holds_over, IsPoint, IsNextPoint}
use Rattle.flux_defs.specs.Closed.{no_bars, is_closed}
use Rattle.flux_defs.specs.Free.{total_at}
use Rattle.flux_defs.specs.Present.{up_with}
use Rattle.graph_laws.proofs.Containment.{below_le}
use Rattle.graph_laws.proofs.Preorder.{parents_first}
use Rattle.planner_points.specs.declared.spans.Span.{Span}
use Rattle.planner_points.specs.Spans.{free_at, IsEnd}
use Rattle.prune_filters.specs.Amples.{IsNextAmpleOrNone}
use Rattle.book_laws.specs.Amounts.{capacity, part_within}
use Rattle.book_laws.specs.Grouped.{time_of, some_span, grouped}
use Rattle.book_laws.specs.TotalLaws.{AreFair}
use Rattle.book_laws.proofs.GroupedLaws.{used_grouped}
use Rattle.book_laws.proofs.Sums.{live_where}
use Rattle.book_laws.proofs.Totals.{total_open, total_closed}
use Rattle.book_laws.proofs.Within.{closed_is}
use Rattle.vertex_accounts.specs.declared.quantities.Quantity.{Quantity}
use Rattle.vertex_accounts.specs.declared.quantities.Quantity.TheVariants.{Holds, Claims, Takes, Units}
use Rattle.vertex_accounts.specs.Quantities.{amount_in, total_in, IsUnitsOf}
use Rattle.vertex_accounts.proofs.AskingLaws.{FirstOrNone}

-- of the units of a type
pub units_first : (vertices : List Vertex)
    (jobs : List Job) (kind from quantity : ℕ) (found : Option ℕ) (q : Quantity) → IsUnitsOf kind q →
    FirstOrNone (total_in vertices q 0) (grouped (amount_in vertices q 0) jobs) from quantity found →
    FirstOrNone (capacity vertices kind 0) (grouped (part_within vertices kind 0) jobs) from quantity found
units_first vertices jobs kind from quantity found Holds is first = absurd is
units_first vertices jobs kind from quantity found Claims is first = absurd is
units_first vertices jobs kind from quantity found Takes is first = absurd is
units_first vertices jobs kind from quantity found (Units capacities) is first =
    subst (λ (k : ℕ). FirstOrNone (capacity vertices k 0) (grouped (part_within vertices k 0) jobs) from quantity found)
    is first

-- a start or end of the jobs' spans is one of the jobs
ends_here : (w : Window) (n : ℕ) (spans : List Span) (t : ℕ) →
    IsEnd (some_span w n ++ spans) t → ((t ≡ w.from) ⊎ (t ≡ w.to)) ⊎ IsEnd spans t
ends_here w zero spans t end = inr end
ends_here w (suc n) spans t end = end

grouped_ends : (f : Claim → ℕ) (jobs : List Job) (t : ℕ) → IsEnd (grouped f jobs) t → IsPoint jobs t
grouped_ends f [] t end = end
grouped_ends f (job ∷ jobs) t end = elim (ends_here (time_of job) (sum_by f job.claims) (grouped f jobs) t end) [
  | inl here ↦ inl here
  | inr later ↦ inr (grouped_ends f jobs t later)
]

module _ (g : ResourceGraph)
    (o : StandsInPreorder g) (jobs : List Job) (fair : AreFair g.vertices jobs) (kind : ℕ) where
  -- a claim that holds the root, or a vertex above it, holds the root
  root_held : (c : Claim) →
      IsTrue (holds_over g.vertices 0 c) → capacity g.vertices kind 0 ≤ part_within g.vertices kind 0 c
  root_held (Take u q) h = absurd (true≢false (sym h))
  root_held (Hold u) h =
      let le = below_le g.vertices (parents_first g o) 0 u h in
      let root : u ≡ 0 = omega arith in
      rw root (let own = subst (λ (x : ℕ). IsTrue (is_at_or_below g.vertices 0 x)) root h in rw own (omega arith))
  root_held (Pass u) h = absurd (true≢false (sym h))

  -- so what jobs leave of the root's capacity is its total, whether it is held or not
  pub root_total : (m : ℕ) → total_at g.vertices (up_with jobs) kind m 0
      ≡ free_at (capacity g.vertices kind 0) (grouped (part_within g.vertices kind 0) jobs) m
  root_total m =
      let used = used_grouped (part_within g.vertices kind 0) jobs m in
      elim (cases_Bool (is_closed (no_bars g.vertices (up_with jobs)) m 0)) [
        | inl held ↦ (
            let none = total_closed g o kind 0 jobs m held in
            let all = live_where
            (holds_over g.vertices 0) (part_within g.vertices kind 0) (capacity g.vertices kind 0) root_held jobs m
            (sym (closed_is g.vertices jobs m 0) ∙ held) in
            omega (arith, none, all, used))
        | inr open_ ↦ (
            let all = total_open g o kind 0 jobs m fair.within fair.pools open_ in
            omega (arith, all, used))
      ]

  pub next_ample_is : (after next amount : ℕ) → IsNextPoint jobs after next → (found : Option ℕ) →
      FirstOrNone (capacity g.vertices kind 0) (grouped (part_within g.vertices kind 0) jobs) next amount found →
      IsNextAmpleOrNone g.vertices (up_with jobs) kind amount after found
  next_ample_is after next amount is None first = λ u lo point ample.
      let e = root_total u in
      let less = first u (is.least u lo point) in
      omega (arith, e, less, ample)
  next_ample_is after next amount is (Some t) first = record {
    later = let a = is.later in let b = first.later in omega arith;
    point = elim first.at [
      | inl same ↦ subst (IsPoint jobs) (sym same) is.point
      | inr end ↦ grouped_ends (part_within g.vertices kind 0) jobs t end
    ];
    ample = let e = root_total t in let f = first.free in omega (arith, e, f);
    least = λ u lo point ample. elim (cases_lt u t) [
      | inl lt ↦ absurd (
          let e = root_total u in
          let less = first.least u (is.least u lo point) lt in
          omega (arith, e, less, ample))
      | inr ge ↦ ge
    ];
  }
