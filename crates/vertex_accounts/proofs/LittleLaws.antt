-- Moments at which a vertex is held or closed, and at which its total of a type is too little.
use Rattle.std.proofs.Common.{◌≡◌, ℕ, zero, suc, ◌+◌, ◌-◌, ◌<◌, ◌≤◌, ◌↔◌, Bool, false, is_some, List, length, Option}
use Rattle.std.proofs.Common.{Some, None, MatchOption, inl, inr, refl, sym, ◌∙◌, subst, arith, IsTrue, true≢false}
use Rattle.std.proofs.lemmas.Bool.{cases_Bool}
use Rattle.flux_defs.specs.declared.vertices.Vertex.{Vertex}
use Rattle.flux_defs.specs.declared.claims.Claim.{Claim}
use Rattle.flux_defs.specs.declared.claims.Job.{Job}
use Rattle.flux_defs.specs.declared.claims.Window.{Window}
use Rattle.flux_defs.specs.Graph.{ResourceGraph, chain, parent_of}
use Rattle.flux_defs.specs.ValidGraph.{StandsInPreorder}
use Rattle.flux_defs.specs.Jobs.{some_live_claim, SomeMoment}
use Rattle.flux_defs.specs.Closed.{no_bars, is_closed, IsClosedOver}
use Rattle.flux_defs.specs.Free.{total_at, IsTotalOver, IsTooLittle, IsTooLittleAt}
use Rattle.flux_defs.specs.Present.{up_with}
use Rattle.graph_laws.proofs.Preorder.{parents_first}
use Rattle.graph_laws.proofs.Containment.{ParentsFirst, below_parent}
use Rattle.planner_points.specs.declared.spans.Span.{Span}
use Rattle.planner_points.specs.Spans.{free_at, HasRoom, IsLeastFree}
use Rattle.book_laws.specs.Amounts.{is_hold, holds_along, capacity, part_within}
use Rattle.book_laws.specs.Grouped.{grouped}
use Rattle.book_laws.specs.TotalLaws.{AreFair}
use Rattle.book_laws.proofs.Closing.{held_closed}
use Rattle.book_laws.proofs.GroupedLaws.{used_grouped}
use Rattle.book_laws.proofs.Sums.{live_most}
use Rattle.book_laws.proofs.Totals.{total_open, total_closed}
use Rattle.book_laws.proofs.Views.{NeverClosed, left_in_total}
use Rattle.vertex_accounts.specs.declared.quantities.Quantity.TheVariants.{Holds}
use Rattle.vertex_accounts.specs.Quantities.{amount_in, total_in, part_count, most_claims}
use Rattle.vertex_accounts.specs.Moments.{IsMomentOrNone}
use Rattle.vertex_accounts.specs.Books.{IsWider, HoldsNoWider, HoldNoWider}
use Rattle.vertex_accounts.proofs.AskingLaws.{BelowOrNone, held_is, held_here, held_above}
use Rattle.vertex_accounts.proofs.OwnLaws.{counts_all, part_less}
use Rattle.vertex_accounts.proofs.WidthLaws.{each_claim, neither, none_live, wider_up}

-- the window of one moment
abbrev pub second : ℕ → Window
second m = record { from = m; to = m + 1 }

pub there : (P : ℕ → Type 0) (m : ℕ) → P m → SomeMoment (second m) P
there P m p = (m, omega arith, omega arith, p)

pub here : (P : ℕ → Type 0) (m : ℕ) → SomeMoment (second m) P → P m
here P m (k, lo, hi, p) = let e : k ≡ m = omega (arith, lo, hi) in subst P e p

pub least_there : (total : ℕ) (spans : List Span) (m : ℕ) → IsLeastFree total spans (second m) (free_at total spans m)
least_there total spans m = record {
  each = λ k lo hi.
      let e : m ≡ k = omega (arith, lo, hi) in
      subst (λ (j : ℕ). free_at total spans m ≤ free_at total spans j) e (omega arith);
  reached = (m, omega arith, omega arith, refl);
}

abbrev pub held_at : List Job → ℕ → ℕ → Type 0
held_at jobs v m = IsTrue (some_live_claim jobs m (is_hold v))

-- where the planner of holds has less than all last, the vertex is held
pub held_moment : (vertices : List Vertex) (jobs : List Job) (w : Window) (v : ℕ) (found : Option ℕ) →
    BelowOrNone (total_in vertices Holds v) (grouped (amount_in vertices Holds v) jobs) w most_claims found →
    IsMomentOrNone w (held_at jobs v) found
held_moment vertices jobs w v None room = λ (m, lo, hi, h).
    let spans = grouped (amount_in vertices Holds v) jobs in
    let total = total_in vertices Holds v in
    let held = held_is vertices jobs (second m) v (free_at total spans m) (least_there total spans m) in
    let lt = held.1 (there (held_at jobs v) m h) in
    let le = room m lo hi in
    omega (arith, lt, le)
held_moment vertices jobs w v (Some t) below =
    let spans = grouped (amount_in vertices Holds v) jobs in
    let total = total_in vertices Holds v in
    let held = held_is vertices jobs (second t) v (free_at total spans t) (least_there total spans t) in
    (below.later, below.sooner, here (held_at jobs v) t (held.0 below.less))

abbrev pub along_at : List Job → List Vertex → ℕ → Option ℕ → ℕ → Type 0
along_at jobs vertices most from m = IsTrue (some_live_claim jobs m (holds_along (chain vertices most from)))

module _ (jobs : List Job) (w : Window) (vertices : List Vertex) (most v : ℕ) (from : Option ℕ)
    (some : most ≡ 0 → ⊥) (is : from ≡ Some v) where
  -- held itself is held along the chain
  pub here_along : (m : ℕ) → (w.from ≤ m) × (m < w.to) × held_at jobs v m →
      (w.from ≤ m) × (m < w.to) × along_at jobs vertices most from m
  here_along m (lo, hi, h) = (
    lo,
    hi,
    here (along_at jobs vertices most from) m
        (held_here jobs (second m) vertices most v from some is (there (held_at jobs v) m h)),
  )

  -- where it never is itself, what is above tells
  pub above_along : (above found : Option ℕ) → above ≡ parent_of vertices v → (SomeMoment w (held_at jobs v) → ⊥) →
      IsMomentOrNone w (along_at jobs vertices (most - 1) above) found →
      IsMomentOrNone w (along_at jobs vertices most from) found
  above_along above None up never none = λ h.
      none ((held_above jobs w vertices most v from above some is up never).1 h)
  above_along above (Some m) up never (lo, hi, h) = (
    lo,
    hi,
    here (along_at jobs vertices most from) m
        ((held_above jobs (second m) vertices most v from above some is up
        (λ s. never (m, lo, hi, here (held_at jobs v) m s))).0
        (there (along_at jobs vertices (most - 1) above) m h)),
  )

module _ (vertices : List Vertex) (first : ParentsFirst vertices) (wide : ℕ) where
  -- a claim that holds no wide vertex holds none from one on upward
  holds_none : (c : Claim) → HoldsNoWider vertices wide c → (most : ℕ) (from : Option ℕ) →
      ((v : ℕ) → from ≡ Some v → IsWider vertices wide v) → holds_along (chain vertices most from) c ≡ false
  holds_none c free zero from wider = refl
  holds_none c free (suc most) None wider = refl
  holds_none c free (suc most) (Some v) wider =
      let (k, le, within, below) = wider v refl in
      neither (is_hold v c) (holds_along (chain vertices most (parent_of vertices v)) c) (free v (wider v refl))
      (holds_none c free most (parent_of vertices v) (λ p e. wider_up vertices first wide p v
      (below_parent vertices first v p (omega (arith, within)) e) (wider v refl)))

  -- where no job holds a wide vertex neither such a one is held nor one above it
  pub wide_none : (jobs : List Job) (w : Window) (v most : ℕ) → HoldNoWider vertices wide jobs →
      IsWider vertices wide v → IsMomentOrNone w (along_at jobs vertices most (Some v)) None
  wide_none jobs w v most free wider = λ (m, lo, hi, h).
      let along = holds_along (chain vertices most (Some v)) in
      true≢false (sym h ∙ none_live along m jobs
      (each_claim (HoldsNoWider vertices wide) (λ c. along c ≡ false) (λ c none. holds_none c none most (Some v)
      (λ x e. (let is : v ≡ x = cc in subst (IsWider vertices wide) is wider))) jobs free))

-- closed is held along the chain
pub closed_moment_is : (vertices : List Vertex) (jobs : List Job) (w : Window) (v : ℕ) (found : Option ℕ) →
    IsMomentOrNone w (along_at jobs vertices (length vertices) (Some v)) found →
    IsMomentOrNone w (λ m. IsTrue (is_closed (no_bars vertices (up_with jobs)) m v)) found
closed_moment_is vertices jobs w v None none = λ h. none ((held_closed vertices jobs w v).1 h)
closed_moment_is vertices jobs w v (Some m) (lo, hi, h) = (
  lo,
  hi,
  here (λ k. IsTrue (is_closed (no_bars vertices (up_with jobs)) k v)) m ((held_closed vertices jobs (second m) v).0
      (there (along_at jobs vertices (length vertices) (Some v)) m h)),
)

-- none is told under a premise too
pub none_if : (A : Type 0) (w : Window) (P : ℕ → Type 0) (found : Option ℕ) → IsMomentOrNone w P found →
    MatchOption found (A → SomeMoment w P → ⊥) (λ m. (w.from ≤ m) × (m < w.to) × P m)
none_if A w P None none = λ a. none
none_if A w P (Some m) there_ = there_

module _ (g : ResourceGraph) (o : StandsInPreorder g) (jobs : List Job) (fair : AreFair g.vertices jobs)
    (kind v : ℕ) where
  -- what jobs leave of a vertex's capacity at a moment
  abbrev left : ℕ → ℕ
  left m = free_at (capacity g.vertices kind v) (grouped (part_count g.vertices kind v) jobs) m

  -- where that is less than an amount its total is too little, whether it is closed or not
  pub less_left : (m amount : ℕ) → left m < amount → IsTooLittleAt g.vertices (up_with jobs) v kind amount m
  less_left m amount lt =
      let used = used_grouped (part_count g.vertices kind v) jobs m in
      let most =
      live_most (part_count g.vertices kind v) (part_within g.vertices kind v) jobs m (part_less g.vertices kind v) in
      elim (cases_Bool (is_closed (no_bars g.vertices (up_with jobs)) m v)) [
        | inl closed ↦ (let none = total_closed g o kind v jobs m closed in omega (arith, none, lt))
        | inr open_ ↦ (
            let all = total_open g o kind v jobs m fair.within fair.pools open_ in
            omega (arith, all, used, most, lt))
      ]

  -- a closed vertex has too little of some amount
  pub closed_little : (m amount : ℕ) → 0 < amount → IsTrue (is_closed (no_bars g.vertices (up_with jobs)) m v) →
      IsTooLittleAt g.vertices (up_with jobs) v kind amount m
  closed_little m amount some closed = let none = total_closed g o kind v jobs m closed in omega (arith, none, some)

  -- where jobs leave nothing at some moment its least total is 0
  pub nothing_left : (w : Window) →
      IsLeastFree (capacity g.vertices kind v) (grouped (part_count g.vertices kind v) jobs) w 0 →
      IsTotalOver g.vertices (up_with jobs) w kind v 0
  nothing_left w least =
      let (m, lo, hi, e) = least.reached in
      let few : total_at g.vertices (up_with jobs) kind m v < 1 = less_left m 1 (omega (arith, e)) in
      record { each = λ k a b. omega arith; reached = (m, lo, hi, omega (arith, few)) }

  -- where it is never closed and jobs leave enough, its total is enough
  pub enough_left : v < length g.vertices → (w : Window) (amount : ℕ) → NeverClosed g.vertices jobs w v →
      HasRoom (capacity g.vertices kind v) (grouped (part_count g.vertices kind v) jobs) w amount →
      IsTooLittle g.vertices (up_with jobs) w v kind amount → ⊥
  enough_left inside w amount never room (m, lo, hi, lt) =
      let vertices = g.vertices in
      let open' : NeverClosed vertices jobs (second m) v =
      λ s. never (m, lo, hi, here (λ k. IsTrue (is_closed (no_bars vertices (up_with jobs)) k v)) m s) in
      let total = left_in_total g o jobs (second m) kind v (left m) fair open'
      (counts_all vertices (parents_first g o) v inside jobs (second m) kind (capacity vertices kind v) (left m) open'
      (least_there (capacity vertices kind v) (grouped (part_count vertices kind v) jobs) m)) in
      let same = here (λ k. total_at vertices (up_with jobs) kind k v ≡ left m) m total.reached in
      let le = room m lo hi in
      omega (arith, lt, same, le)

  -- where jobs leave enough it is too little exactly where the vertex is closed
  pub closed_or_enough : v < length g.vertices → (w : Window) (amount : ℕ) → 0 < amount →
      HasRoom (capacity g.vertices kind v) (grouped (part_count g.vertices kind v) jobs) w amount →
      (found : Option ℕ) → IsMomentOrNone w (λ m. IsTrue (is_closed (no_bars g.vertices (up_with jobs)) m v)) found →
      IsMomentOrNone w (IsTooLittleAt g.vertices (up_with jobs) v kind amount) found
  closed_or_enough inside w amount some room None never = enough_left inside w amount never room
  closed_or_enough inside w amount some room (Some m) (lo, hi, closed) = (lo, hi, closed_little m amount some closed)

-- a vertex is closed over the window exactly where a moment was found at which it is
pub closed_told : (vertices : List Vertex) (jobs : List Job) (w : Window) (v : ℕ) (found : Option ℕ) (closed : Bool) →
    closed ≡ is_some found → IsMomentOrNone w (λ m. IsTrue (is_closed (no_bars vertices (up_with jobs)) m v)) found →
    (IsTrue closed ↔ IsClosedOver vertices (up_with jobs) w v)
closed_told vertices jobs w v None closed is never = (λ t. absurd (true≢false (sym t ∙ is)), λ s. absurd (never s))
closed_told vertices jobs w v (Some m) closed is (lo, hi, p) = (λ t. (m, lo, hi, p), λ s. is)

pub never_closed : (vertices : List Vertex) (jobs : List Job) (w : Window) (v : ℕ) (found : Option ℕ) (closed : Bool) →
    closed ≡ is_some found → closed ≡ false →
    IsMomentOrNone w (λ m. IsTrue (is_closed (no_bars vertices (up_with jobs)) m v)) found →
    NeverClosed vertices jobs w v
never_closed vertices jobs w v found closed is open' told =
    λ s. true≢false (sym ((closed_told vertices jobs w v found closed is told).1 s) ∙ open')
