-- What stays so from a moment on through another one.
use Rattle.std.proofs.Common.{◌≡◌, ℕ, ◌<◌, ◌≤◌, List, length, Option, Some, None, inl, inr, refl, subst, arith, IsTrue}
use Rattle.std.proofs.Common.{◌↔◌, sym, ◌∙◌, true≢false, Bool, true, false, not, MatchBool}
use Rattle.std.proofs.lemmas.Bool.{cases_lt}
use Rattle.flux_defs.specs.declared.vertices.Vertex.{Vertex}
use Rattle.flux_defs.specs.declared.claims.Job.{Job}
use Rattle.flux_defs.specs.declared.claims.Window.{Window}
use Rattle.flux_defs.specs.Graph.{ResourceGraph}
use Rattle.flux_defs.specs.ValidGraph.{StandsInPreorder}
use Rattle.flux_defs.specs.Jobs.{some_live_claim, SomeMoment}
use Rattle.flux_defs.specs.Closed.{no_bars, is_closed, is_touched}
use Rattle.flux_defs.specs.Free.{IsTooLittleAt}
use Rattle.flux_defs.specs.Present.{up_with}
use Rattle.graph_laws.proofs.Containment.{ParentsFirst}
use Rattle.planner_points.specs.Spans.{free_at, HasRoom}
use Rattle.book_laws.specs.Amounts.{capacity}
use Rattle.book_laws.specs.Grouped.{grouped}
use Rattle.book_laws.specs.TotalLaws.{AreFair}
use Rattle.vertex_planners.specs.Counting.{counts_at}
use Rattle.vertex_accounts.specs.declared.quantities.Quantity.TheVariants.{Holds, Claims}
use Rattle.vertex_accounts.specs.Quantities.{amount_in, total_in, part_count, most_claims}
use Rattle.vertex_accounts.specs.Moments.{IsThroughOrNone}
use Rattle.vertex_accounts.specs.Books.{IsNarrower, CountsNoNarrower, CountNoNarrower}
use Rattle.vertex_accounts.proofs.AskingLaws.{held_is, counted_is}
use Rattle.vertex_accounts.proofs.OwnLaws.{touched_either}
use Rattle.vertex_accounts.proofs.WidthLaws.{each_claim, none_live}
use Rattle.vertex_accounts.proofs.LittleLaws.{second, there, here, least_there, held_at, here_along, closed_moment_is}
use Rattle.vertex_accounts.proofs.LittleLaws.{enough_left, closed_little}

-- from a moment of the window, and each one after it
pub through_is : (w : Window) (P : ℕ → Type 0) (t m : ℕ) → w.from ≤ t → t < w.to → t ≤ m → P t →
    ((u : ℕ) → t < u → u ≤ m → P u) → IsThroughOrNone w P (Some m)
through_is w P t m from to le at after = (
  t,
  from,
  to,
  le,
  λ u lo hi. elim (cases_lt t u) [
    | inl later ↦ after u later hi
    | inr same ↦ (let e : t ≡ u = omega (arith, lo, same) in subst P e at)
  ],
)

-- at a vertex that is narrower than those at which claims count all claims are left
pub narrow_room : (vertices : List Vertex) (jobs : List Job) (v least : ℕ) (w : Window) →
    CountNoNarrower vertices least jobs → IsNarrower vertices least v →
    HasRoom (total_in vertices Claims v) (grouped (amount_in vertices Claims v) jobs) w most_claims
narrow_room vertices jobs v least w free narrow = λ m lo hi.
    let spans = grouped (amount_in vertices Claims v) jobs in
    let total = total_in vertices Claims v in
    elim (cases_lt (free_at total spans m) most_claims) [
      | inl lt ↦ (
          let counted = counted_is vertices jobs (second m) v (free_at total spans m) (least_there total spans m) in
          let some = here (λ k. IsTrue (some_live_claim jobs k (counts_at vertices v))) m (counted.0 lt) in
          absurd (true≢false (sym some ∙ none_live (counts_at vertices v) m jobs
          (each_claim (CountsNoNarrower vertices least) (λ c. counts_at vertices v c ≡ false)
          (λ c none. none v narrow) jobs free))))
      | inr all ↦ all
    ]

module _ (vertices : List Vertex) (jobs : List Job) (v : ℕ) where
  -- less than all holds are left where the vertex is held
  less_held : (m : ℕ) →
      free_at (total_in vertices Holds v) (grouped (amount_in vertices Holds v) jobs) m < most_claims → held_at jobs v m
  less_held m lt =
      let spans = grouped (amount_in vertices Holds v) jobs in
      let total = total_in vertices Holds v in
      here (held_at jobs v) m
      ((held_is vertices jobs (second m) v (free_at total spans m) (least_there total spans m)).0 lt)

  -- there it is closed
  pub less_closed : v < length vertices → (m : ℕ) →
      free_at (total_in vertices Holds v) (grouped (amount_in vertices Holds v) jobs) m < most_claims →
      IsTrue (is_closed (no_bars vertices (up_with jobs)) m v)
  less_closed inside m lt =
      let along = here_along jobs (second m) vertices (length vertices) v (Some v) (λ e. omega (arith, e, inside)) refl
      m (omega arith, omega arith, less_held m lt) in
      (closed_moment_is vertices jobs (second m) v (Some m) along).2

  module _ (first : ParentsFirst vertices) (inside : v < length vertices) where
    -- and touched
    pub less_touched : (m : ℕ) →
        free_at (total_in vertices Holds v) (grouped (amount_in vertices Holds v) jobs) m < most_claims →
        IsTrue (is_touched (no_bars vertices (up_with jobs)) m v)
    less_touched m lt =
        here (λ k. IsTrue (is_touched (no_bars vertices (up_with jobs)) k v)) m
        ((touched_either vertices first v inside jobs (second m)).0 (inr (there (held_at jobs v) m (less_held m lt))))

    -- it is touched too where less than all claims are left
    pub claimed_touched : (m : ℕ) →
        free_at (total_in vertices Claims v) (grouped (amount_in vertices Claims v) jobs) m < most_claims →
        IsTrue (is_touched (no_bars vertices (up_with jobs)) m v)
    claimed_touched m lt =
        let spans = grouped (amount_in vertices Claims v) jobs in
        let total = total_in vertices Claims v in
        let counted = counted_is vertices jobs (second m) v (free_at total spans m) (least_there total spans m) in
        here (λ k. IsTrue (is_touched (no_bars vertices (up_with jobs)) k v)) m
        ((touched_either vertices first v inside jobs (second m)).0 (inl (counted.0 lt)))

    -- and nowhere else
    pub never_touched : (w : Window) →
        HasRoom (total_in vertices Holds v) (grouped (amount_in vertices Holds v) jobs) w most_claims →
        HasRoom (total_in vertices Claims v) (grouped (amount_in vertices Claims v) jobs) w most_claims →
        SomeMoment w (λ m. IsTrue (is_touched (no_bars vertices (up_with jobs)) m v)) → ⊥
    never_touched w unheld unclaimed (m, lo, hi, touched) =
        elim ((touched_either vertices first v inside jobs (second m)).1
        (there (λ k. IsTrue (is_touched (no_bars vertices (up_with jobs)) k v)) m touched)) [
          | inl counts ↦ (
              let spans = grouped (amount_in vertices Claims v) jobs in
              let total = total_in vertices Claims v in
              let counted = counted_is vertices jobs (second m) v (free_at total spans m) (least_there total spans m) in
              let lt = counted.1 counts in
              let le = unclaimed m lo hi in
              absurd (omega (arith, lt, le))
              )
          | inr holds ↦ (
              let spans = grouped (amount_in vertices Holds v) jobs in
              let total = total_in vertices Holds v in
              let held = held_is vertices jobs (second m) v (free_at total spans m) (least_there total spans m) in
              let lt = held.1 holds in
              let le = unheld m lo hi in
              absurd (omega (arith, lt, le))
              )
        ]

    -- so where no job holds it, it is touched exactly where less than all claims are left at some moment
    pub touched_by : (w : Window) →
        HasRoom (total_in vertices Holds v) (grouped (amount_in vertices Holds v) jobs) w most_claims →
        (room : Bool) → MatchBool room
        (HasRoom (total_in vertices Claims v) (grouped (amount_in vertices Claims v) jobs) w most_claims)
        (SomeMoment w
        (λ m. free_at (total_in vertices Claims v) (grouped (amount_in vertices Claims v) jobs) m < most_claims)) →
        (IsTrue (not room) ↔ SomeMoment w (λ m. IsTrue (is_touched (no_bars vertices (up_with jobs)) m v)))
    touched_by w unheld true unclaimed = (λ no. absurd (cc), λ t. absurd (never_touched w unheld unclaimed t))
    touched_by w unheld false (m, lo, hi, less) = (λ yes. (m, lo, hi, claimed_touched m less), λ t. refl)

-- where there is room for the amount, the total is too little while the vertex is closed, and else never
pub closed_or_through : (g : ResourceGraph) (o : StandsInPreorder g) (jobs : List Job) → AreFair g.vertices jobs →
    (kind v : ℕ) → v < length g.vertices → (w : Window) (amount : ℕ) → 0 < amount →
    HasRoom (capacity g.vertices kind v) (grouped (part_count g.vertices kind v) jobs) w amount →
    (found : Option ℕ) → IsThroughOrNone w (λ m. IsTrue (is_closed (no_bars g.vertices (up_with jobs)) m v)) found →
    IsThroughOrNone w (IsTooLittleAt g.vertices (up_with jobs) v kind amount) found
closed_or_through g o jobs fair kind v inside w amount some room None never =
    enough_left g o jobs fair kind v inside w amount never room
closed_or_through g o jobs fair kind v inside w amount some room (Some m) is =
    (is.0, is.1, is.2, is.3, λ u lo hi. closed_little g o jobs fair kind v u amount some (is.4 u lo hi))
