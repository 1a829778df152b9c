-- Two lists of jobs whose claims amount to the same make the same claims available.
use Rattle.std.proofs.Common.{◌≡◌, ℕ, zero, suc, ◌-◌, ◌<◌, nat_le, Bool, false, not, ◌&&◌, ◌||◌, cond}
use Rattle.std.proofs.Common.{List, [], ◌∷◌, length, Option, Some, None, inl, inr, refl, sym, ◌∙◌, ap}
use Rattle.std.proofs.Common.{arith, IsTrue}
use Rattle.std.specs.List.{AllByRecursion}
use Rattle.std.proofs.lemmas.Bool.{or_cases, or_left, or_right, cases_Bool}
use Rattle.std.proofs.Math.Bool.{or-false}
use Rattle.flux_defs.specs.declared.vertices.Vertex.{Vertex}
use Rattle.flux_defs.specs.declared.claims.Claim.{Claim}
use Rattle.flux_defs.specs.declared.claims.Claim.TheVariants.{Take, Hold, Pass}
use Rattle.flux_defs.specs.declared.claims.Job.{Job}
use Rattle.flux_defs.specs.declared.claims.Window.{Window}
use Rattle.flux_defs.specs.Graph.{parent_of, chain, is_pool, size_of}
use Rattle.flux_defs.specs.Jobs.{vertex_of, some_live_claim, holds_over, is_on_or_below, take_of}
use Rattle.flux_defs.specs.Closed.{no_bars, is_closed, is_touched}
use Rattle.flux_defs.specs.Free.{free_at, taken_at}
use Rattle.flux_defs.specs.Available.{is_available_at, IsAvailable}
use Rattle.flux_defs.specs.Present.{up_with}
use Rattle.list_laws.proofs.Tests.{same_tests}
use Rattle.graph_laws.proofs.Containment.{ParentsFirst}
use Rattle.book_laws.specs.Amounts.{live_sum, is_hold, hold_of, holds_along, claim_within}
use Rattle.flux_laws.proofs.Live.{live_along, live_either}
use Rattle.book_laws.proofs.Within.{closed_is}
use Rattle.book_laws.proofs.GroupedLaws.{counted_some, counted_none}
use Rattle.book_laws.proofs.Closing.{hold_over, nothing_along}

-- at each vertex of the graph the claims of the two lists amount to the same, moment by moment
pub record AmountAlike (vertices : List Vertex) (a b : List Job) : Type 0 where
  pub holds : (v m : ℕ) → v < length vertices → live_sum (hold_of v) a m ≡ live_sum (hold_of v) b m
  pub claims : (v m : ℕ) →
      v < length vertices → live_sum (claim_within vertices v) a m ≡ live_sum (claim_within vertices v) b m
  pub takes : (v m : ℕ) → v < length vertices → live_sum (take_of v) a m ≡ live_sum (take_of v) b m

pub alike_swap : (vertices : List Vertex) (a b : List Job) → AmountAlike vertices a b → AmountAlike vertices b a
alike_swap vertices a b h = record {
  holds = λ v m lt. sym (h.holds v m lt);
  claims = λ v m lt. sym (h.claims v m lt);
  takes = λ v m lt. sym (h.takes v m lt);
}

some_too : (test : Claim → Bool) (a b : List Job) (m : ℕ) →
    live_sum (λ c. cond (test c) 1 0) a m ≡ live_sum (λ c. cond (test c) 1 0) b m →
    IsTrue (some_live_claim a m test) → IsTrue (some_live_claim b m test)
some_too test a b m same some = elim (cases_Bool (some_live_claim b m test)) [
  | inl there ↦ there
  | inr none ↦ (let one = counted_some test a m some in let zero_ = counted_none test b m none in absurd (omega arith))
]

module _ (vertices : List Vertex) (first : ParentsFirst vertices) where
  -- a vertex's chain stays in the graph
  pub chain_within : (most v : ℕ) →
      v < length vertices → AllByRecursion (λ u. u < length vertices) (chain vertices most (Some v))
  chain_within zero v lt = tt
  chain_within (suc most) v lt = (lt, up (parent_of vertices v) refl (chain_within most))
    where
      up : (p : Option ℕ) → parent_of vertices v ≡ p →
          ((u : ℕ) → u < length vertices → AllByRecursion (λ x. x < length vertices) (chain vertices most (Some u))) →
          AllByRecursion (λ u. u < length vertices) (chain vertices most p)
      up None e rest = ends most
        where
          ends : (k : ℕ) → AllByRecursion (λ u. u < length vertices) (chain vertices k None)
          ends zero = tt
          ends (suc k) = tt
      up (Some p) e rest = rest p (let below = first v p e in omega arith)

  module _ (a b : List Job) (alike : AmountAlike vertices a b) where
    along : (vs : List ℕ) (m : ℕ) → AllByRecursion (λ u. u < length vertices) vs →
        IsTrue (some_live_claim a m (holds_along vs)) → IsTrue (some_live_claim b m (holds_along vs))
    along [] m inside h = absurd (nothing_along a m h)
    along (v ∷ vs) m inside h = elim (live_either (holds_along (v ∷ vs))
        (is_hold v) (holds_along vs) (λ c both. or_cases (is_hold v c) (holds_along vs c) both) a m h) [
          | inl here ↦ live_along (is_hold v) (holds_along (v ∷ vs))
              (λ c t. ap (λ x. x || holds_along vs c) t) b m
              (some_too (is_hold v) a b m (alike.holds v m inside.0) here)
          | inr later ↦ live_along (holds_along vs)
              (holds_along (v ∷ vs))
              (λ c t. or_right (is_hold v c) (holds_along vs c) t) b m (along vs m inside.1 later)
        ]

    pub closed_too : (v m : ℕ) →
        v < length vertices → IsTrue (is_closed (no_bars vertices (up_with a)) m v) →
        IsTrue (is_closed (no_bars vertices (up_with b)) m v)
    closed_too v m lt h =
        let vs = chain vertices (length vertices) (Some v) in
        let held = live_along (holds_over vertices v)
        (holds_along vs) (λ c t. hold_over vertices v c ∙ t) a m (sym (closed_is vertices a m v) ∙ h) in
        closed_is vertices b m v ∙ live_along (holds_along vs) (holds_over vertices v)
        (λ c t. sym (hold_over vertices v c) ∙ t) b m (along vs m (chain_within (length vertices) v lt) held)

    pub touched_too : (v m : ℕ) → v < length vertices →
        IsTrue (is_touched (no_bars vertices (up_with a)) m v) → IsTrue (is_touched (no_bars vertices (up_with b)) m v)
    touched_too v m lt h =
        or_left _ false (some_too (is_on_or_below vertices v) a b m (alike.claims v m lt) (sym (or-false _) ∙ h))

  module _ (a b : List Job) (alike : AmountAlike vertices a b) where
    closed_same : (v m : ℕ) →
        v < length vertices → is_closed (no_bars vertices (up_with a)) m v ≡ is_closed (no_bars vertices (up_with b)) m
        v
    closed_same v m lt =
        same_tests _ _ (closed_too a b alike v m lt) (closed_too b a (alike_swap vertices a b alike) v m lt)

    touched_same : (v m : ℕ) →
        v < length vertices → is_touched (no_bars vertices (up_with a)) m v ≡ is_touched (no_bars vertices (up_with b))
        m v
    touched_same v m lt =
        same_tests _ _ (touched_too a b alike v m lt) (touched_too b a (alike_swap vertices a b alike) v m lt)

    free_same : (v m : ℕ) → v < length vertices → free_at (no_bars vertices (up_with a)) m v ≡ free_at
        (no_bars vertices (up_with b)) m v
    free_same v m lt =
        ap (λ (x : Bool). cond x 0 (cond (is_pool vertices v) (size_of vertices v - taken_at a m v) 1))
        (closed_same v m lt)
        ∙ ap (λ (n : ℕ). cond (is_closed (no_bars vertices (up_with b)) m v) 0
        (cond (is_pool vertices v) (size_of vertices v - n) 1)) (alike.takes v m lt)

    available_at : (m : ℕ) (c : Claim) → vertex_of c < length vertices →
        is_available_at (no_bars vertices (up_with a)) m c ≡ is_available_at (no_bars vertices (up_with b)) m c
    available_at m (Take v q) lt = ap (nat_le q) (free_same v m lt)
    available_at m (Hold v) lt =
        ap (λ x. not x && not (is_touched (no_bars vertices (up_with a)) m v)) (closed_same v m lt)
        ∙ ap (λ x. not (is_closed (no_bars vertices (up_with b)) m v) && not x) (touched_same v m lt)
    available_at m (Pass v) lt = ap not (closed_same v m lt)

    pub available_alike : (w : Window) (cs : List Claim) → AllByRecursion (λ c. vertex_of c < length vertices) cs →
        AllByRecursion (IsAvailable (no_bars vertices (up_with a)) w) cs →
        AllByRecursion (IsAvailable (no_bars vertices (up_with b)) w) cs
    available_alike w [] inside h = tt
    available_alike w (c ∷ cs) inside h =
        ((λ m lo hi. sym (available_at m c inside.0) ∙ h.0 m lo hi), available_alike w cs inside.1 h.1)
