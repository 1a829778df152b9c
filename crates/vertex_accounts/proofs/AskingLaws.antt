-- What the accounts' least values say, and how many steps they take.
use Rattle.std.proofs.Common.{◌≡◌, ℕ, ◌+◌, ◌-◌, ◌*◌, ◌<◌, ◌≤◌, List, ◌∷◌, length, Option, Some, None}
use Rattle.std.proofs.Common.{IfSome, MatchOption, slice_get, ◌↔◌, inl, inr, refl, sym, ◌∙◌, ap, subst, arith, IsTrue}
use Rattle.std.proofs.lemmas.Option.{slice_get_within}
use Rattle.std.proofs.Math.Nat.{mul-le-mul_right}
use Rattle.flux_defs.specs.declared.vertices.Vertex.{Vertex}
use Rattle.flux_defs.specs.declared.claims.Job.{Job}
use Rattle.flux_defs.specs.declared.claims.Window.{Window}
use Rattle.flux_defs.specs.Digits.{dig}
use Rattle.flux_defs.specs.Graph.{parent_of, chain}
use Rattle.flux_defs.specs.Jobs.{some_live_claim, SomeMoment, IsPoint, IsNextPoint}
use Rattle.list_laws.proofs.Lists.{get_some}
use Rattle.resource_graph.proofs.ChainLaws.{chain-None}
use Rattle.planner_points.specs.declared.spans.Span.{Span}
use Rattle.planner_points.specs.Spans.{free_at, HasRoom, IsLeastFree, IsLastBelow, IsFirstFree, IsEnd, IsNextEnd}
use Rattle.book_laws.specs.Amounts.{is_hold, holds_along, capacity}
use Rattle.book_laws.specs.Grouped.{grouped, times_of}
use Rattle.book_laws.proofs.GroupedLaws.{ends_points, least_tells, points_ends}
use Rattle.book_laws.proofs.Views.{held_tells, least_left}
use Rattle.book_laws.proofs.Closing.{held_cons, held_nil}
use Rattle.vertex_planners.proofs.ClaimSums.{chain_opens}
use Rattle.vertex_accounts.specs.declared.quantities.Quantity.{Quantity}
use Rattle.vertex_accounts.specs.declared.quantities.Quantity.TheVariants.{Holds, Claims, Takes, Units}
use Rattle.vertex_planners.specs.Counting.{counts_at}
use Rattle.vertex_planners.specs.Lists.{AreWide, at_place}
use Rattle.vertex_planners.proofs.PlaceLaws.{in_place}
use Rattle.vertex_accounts.specs.declared.counted.Counted.{Counted}
use Rattle.vertex_accounts.specs.Books.{ArePlanned, AreAllKept}
use Rattle.vertex_accounts.specs.Quantities.{amount_in, total_in, claim_count, part_count, most_claims, IsUnitsOf}
use Rattle.vertex_accounts.specs.Costs.{look_most, rest_most}

-- held: less than all holds are left
pub held_is : (vertices : List Vertex) (jobs : List Job) (w : Window) (v n : ℕ) →
    IsLeastFree (total_in vertices Holds v) (grouped (amount_in vertices Holds v) jobs) w n →
    (n < most_claims ↔ SomeMoment w (λ m. IsTrue (some_live_claim jobs m (is_hold v))))
held_is vertices jobs w v n least = held_tells jobs w v most_claims n (omega arith) least

-- some claim counts: less than all claims are left
pub counted_is : (vertices : List Vertex) (jobs : List Job) (w : Window) (v n : ℕ) →
    IsLeastFree (total_in vertices Claims v) (grouped (amount_in vertices Claims v) jobs) w n →
    (n < most_claims ↔ SomeMoment w (λ m. IsTrue (some_live_claim jobs m (counts_at vertices v))))
counted_is vertices jobs w v n least =
    least_tells (counts_at vertices v) jobs w most_claims n
    (omega arith) (least_left (claim_count vertices v) jobs w most_claims n least)

-- along the chain
abbrev pub HeldAlong : List Job → Window → List Vertex → ℕ → Option ℕ → Type 0
HeldAlong jobs w vertices most from =
    SomeMoment w (λ m. IsTrue (some_live_claim jobs m (holds_along (chain vertices most from))))

pub held_here : (jobs : List Job) (w : Window) (vertices : List Vertex) (most v : ℕ) (from : Option ℕ) →
    (most ≡ 0 → ⊥) → from ≡ Some v →
    SomeMoment w (λ m. IsTrue (some_live_claim jobs m (is_hold v))) → HeldAlong jobs w vertices most from
held_here jobs w vertices most v from some is h =
    subst (HeldAlong jobs w vertices most) (sym is)
    (subst (λ (vs : List ℕ). SomeMoment w (λ m. IsTrue (some_live_claim jobs m (holds_along vs))))
    (sym (chain_opens vertices most v some))
    ((held_cons jobs w v (chain vertices (most - 1) (parent_of vertices v))).0 (inl h)))

pub held_above : (jobs : List Job) (w : Window) (vertices : List Vertex) (most v : ℕ) (from above : Option ℕ) →
    (most ≡ 0 → ⊥) → from ≡ Some v → above ≡ parent_of vertices v →
    (SomeMoment w (λ m. IsTrue (some_live_claim jobs m (is_hold v))) → ⊥) →
    (HeldAlong jobs w vertices (most - 1) above ↔ HeldAlong jobs w vertices most from)
held_above jobs w vertices most v from above some is up never =
    let cons = held_cons jobs w v (chain vertices (most - 1) (parent_of vertices v)) in
    let opens = chain_opens vertices most v some in (
      λ h. subst (HeldAlong jobs w vertices most) (sym is)
          (subst (λ (vs : List ℕ). SomeMoment w (λ m. IsTrue (some_live_claim jobs m (holds_along vs)))) (sym opens)
          (cons.0 (inr (subst (HeldAlong jobs w vertices (most - 1)) up h)))),
      λ h. elim (cons.1 (subst (λ (vs : List ℕ). SomeMoment w (λ m. IsTrue (some_live_claim jobs m (holds_along vs))))
          opens (subst (HeldAlong jobs w vertices most) is h))) [
            | inl here ↦ absurd (never here)
            | inr later ↦ subst (HeldAlong jobs w vertices (most - 1)) (sym up) later
          ],
    )

pub held_none : (jobs : List Job) (w : Window) (vertices : List Vertex) (most : ℕ) (from : Option ℕ) →
    from ≡ None → HeldAlong jobs w vertices most from → ⊥
held_none jobs w vertices most from e h =
    held_nil jobs w (subst (λ (vs : List ℕ). SomeMoment w (λ m. IsTrue (some_live_claim jobs m (holds_along vs))))
    (ap (chain vertices most) e ∙ chain-None vertices most) h)

pub held_zero : (jobs : List Job) (w : Window) (vertices : List Vertex) (most : ℕ) (from : Option ℕ) →
    most ≡ 0 → HeldAlong jobs w vertices most from → ⊥
held_zero jobs w vertices most from e h = held_nil jobs w (subst (λ (vs : List ℕ).
    SomeMoment w (λ m. IsTrue (some_live_claim jobs m (holds_along vs)))) (ap (λ (k : ℕ). chain vertices k from) e) h)

-- the steps along the chain
pub chain_longer : (vertices : List Vertex) (most v : ℕ) (from above : Option ℕ) (c : ℕ) →
    (most ≡ 0 → ⊥) → from ≡ Some v → above ≡ parent_of vertices v →
    length (chain vertices most from) * c ≡ c + length (chain vertices (most - 1) above) * c
chain_longer vertices most v from above c some is up =
    ap (λ (vs : List ℕ). length vs * c) (ap (chain vertices most) is ∙ chain_opens vertices most v some)
    ∙ more (chain vertices (most - 1) (parent_of vertices v))
    ∙ ap (λ (o : Option ℕ). c + length (chain vertices (most - 1) o) * c) (sym up)
  where
    more : (vs : List ℕ) → length (v ∷ vs) * c ≡ c + length vs * c
    more vs = omega arith

-- the next point of the times of the jobs is that of the jobs
pub next_is : (jobs : List Job) (after : ℕ) (found : Option ℕ) →
    MatchOption found ((t : ℕ) → after < t → IsEnd (times_of jobs) t → ⊥) (IsNextEnd (times_of jobs) after) →
    MatchOption found ((p : ℕ) → after < p → IsPoint jobs p → ⊥) (IsNextPoint jobs after)
next_is jobs after None h = λ p lt point. h p lt (points_ends jobs p point)
next_is jobs after (Some t) h = record {
  later = h.later;
  point = ends_points jobs t h.end;
  least = λ q lt point. h.least q lt (points_ends jobs q point);
}

pub next_later : (spans : List Span) (after : ℕ) (found : Option ℕ) →
    MatchOption found ((t : ℕ) → after < t → IsEnd spans t → ⊥) (IsNextEnd spans after) → IfSome found (λ p. after < p)
next_later spans after None h = tt
next_later spans after (Some t) h = h.later

-- the first second at which so much is left
abbrev pub FirstOrNone : ℕ → List Span → ℕ → ℕ → Option ℕ → Type 0
FirstOrNone total spans from quantity found =
    MatchOption found ((t : ℕ) → from ≤ t → free_at total spans t < quantity) (IsFirstFree total spans from quantity)

-- the last second of a window at which less is left
abbrev pub BelowOrNone : ℕ → List Span → Window → ℕ → Option ℕ → Type 0
BelowOrNone total spans w quantity found =
    MatchOption found (HasRoom total spans w quantity) (IsLastBelow total spans w quantity)

-- the steps of a look at one planner of a vertex, whose item was looked up first
pub look_work : (items vertices looks old mid new : ℕ) →
    items ≡ vertices → mid ≤ old + (2 * dig (items + 1) + 1) → new ≤ mid + looks → new ≤ old + look_most vertices looks
look_work items vertices looks old mid new len up look = let same = ap (λ (k : ℕ). 2 * dig (k + 1)) len in
    omega (arith, up, look, same)

pub one_work : (old new look rest all : ℕ) → new ≤ old + look → all ≡ look + rest → new ≤ old + all
one_work old new look rest all a e = omega (arith, a, e)

pub two_work : (old mid new look rest all : ℕ) →
    mid ≤ old + look → new ≤ mid + rest → all ≡ look + rest → new ≤ old + all
two_work old mid new look rest all a b e = omega (arith, a, b, e)

-- the steps along the chain above a vertex
pub closed_work : (vertices : List Vertex) (v n old mid new : ℕ) →
    v < length vertices → length (chain vertices (length vertices) (Some v)) ≤ 16 → mid ≤ old + n →
    new ≤ mid + length (chain vertices (length vertices - 1) (parent_of vertices v)) * look_most (length vertices) n →
    new ≤ old + rest_most (length vertices) n
closed_work vertices v n old mid new lt few first work =
    let opens =
    ap (λ (vs : List ℕ). length vs) (chain_opens vertices (length vertices) v (λ e. omega (arith, e, lt))) in
    let above : length (chain vertices (length vertices - 1) (parent_of vertices v)) ≤ 15 = omega (arith, few, opens) in
    let most = mul-le-mul_right (look_most (length vertices) n) above in
    omega (arith, first, work, most)

pub none_of : (o : Option ℕ) → ((x : ℕ) → o ≡ Some x → ⊥) → o ≡ None
none_of None h = refl
none_of (Some x) h = absurd (h x refl)

-- what is so of the units of a type
pub units_as : (P : ℕ → List Span → Type 0) (vertices : List Vertex) (jobs : List Job) (kind v : ℕ) (q : Quantity) →
    IsUnitsOf kind q → P (total_in vertices q v) (grouped (amount_in vertices q v) jobs) →
    P (capacity vertices kind v) (grouped (part_count vertices kind v) jobs)
units_as P vertices jobs kind v Holds is p = absurd is
units_as P vertices jobs kind v Claims is p = absurd is
units_as P vertices jobs kind v Takes is p = absurd is
units_as P vertices jobs kind v (Units capacities) is p =
    subst (λ (k : ℕ). P (capacity vertices k v) (grouped (part_count vertices k v) jobs)) is p

-- the planner at a place of a vertex's item is that of the vertex among those of the place
pub planner_there : {P : Type 0} (places place : ℕ) (items : List (List P)) →
    AreWide places items → place < places → (v : ℕ) (item : List P) → slice_get items v ≡ Some item →
    (p : P) × (slice_get item place ≡ Some p) × (slice_get (at_place place items) v ≡ Some p)
planner_there places place items wide lt v item there =
    let (p, at) = get_some item place (let w = wide v item there in omega (arith, w, lt)) in
    (p, at, in_place places place lt items wide v item p there at)

module _ {P : Type 0} (vertices : List Vertex)
    (counted : Counted) (items : List (List P)) (is : ArePlanned vertices counted items) (v : ℕ) (item : List P)
    (there : slice_get items v ≡ Some item)
    (place : ℕ) (q : Quantity) (of : slice_get counted.quantities place ≡ Some q) where
  -- a vertex's item has each place
  pub place_in : place < length item
  place_in = let w = is.places v item there in
      let lt = slice_get_within counted.quantities place q of in omega (arith, w, lt)

  -- what the planner at a place of a vertex's item says of all lists that it stands for is so of what jobs amount to
  pub told_here : (Says : ℕ → List Span → Type 0) (total_of : P → ℕ) (stands_for : P → List Span → Type 0)
      (jobs : List Job) → AreAllKept total_of stands_for vertices jobs counted items →
      ((p : P) → slice_get item place ≡ Some p →
      (spans : List Span) → stands_for p spans → Says (total_of p) spans) →
      Says (total_in vertices q v) (grouped (amount_in vertices q v) jobs)
  told_here Says total_of stands_for jobs kept says =
      let (p, at, among) = planner_there
      (length counted.quantities) place items is.places (slice_get_within counted.quantities place q of) v item there in
      subst (λ (t : ℕ). Says t (grouped (amount_in vertices q v) jobs)) ((kept place q of).totals v p among)
      (says p at (grouped (amount_in vertices q v) jobs) ((kept place q of).spans v p among))
