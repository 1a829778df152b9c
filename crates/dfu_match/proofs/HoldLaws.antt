-- Where a vertex may be held: where the one above it isn't closed and it isn't touched.
use Rattle.std.proofs.Common.{◌≡◌, ℕ, zero, suc, ◌<◌, ◌↔◌, ◌⊎◌, inl, inr, Bool, true, false, not, ◌||◌, List}
use Rattle.std.proofs.Common.{length, Option, Some, None, refl, sym, ◌∙◌, subst, arith, IsTrue, true≢false}
use Rattle.std.specs.List.{list_any}
use Rattle.std.specs.Option.{IsSomeAnd}
use Rattle.std.proofs.lemmas.Bool.{and_parts, or_cases, or_left, or_right}
use Rattle.flux_defs.specs.declared.vertices.Vertex.{Vertex}
use Rattle.flux_defs.specs.declared.claims.Claim.{Claim}
use Rattle.flux_defs.specs.declared.claims.Claim.TheVariants.{Take, Hold, Pass}
use Rattle.flux_defs.specs.declared.claims.Window.{Window}
use Rattle.flux_defs.specs.Graph.{parent_of, is_at_or_below}
use Rattle.flux_defs.specs.Jobs.{some_live_claim, holds_over, is_on_or_below}
use Rattle.flux_defs.specs.Closed.{Scene, is_withheld, has_withheld, is_closed, is_touched, IsClosedIn, IsTouchedIn}
use Rattle.flux_defs.specs.Closed.{IsClosedOver, IsTouchedOver}
use Rattle.flux_defs.specs.Available.{IsAvailable}
use Rattle.flux_defs.specs.Present.{Present}
use Rattle.list_laws.proofs.Lists.{any_either}
use Rattle.list_laws.proofs.Tests.{or_along}
use Rattle.flux_laws.proofs.Live.{live_either}
use Rattle.graph_laws.proofs.Containment.{ParentsFirst, up, up-None, steps_of, at_or_below, below_self, below_parent}
use Rattle.graph_laws.proofs.Containment.{below_trans, not_to}
use Rattle.graph_laws.proofs.Preorder.{has_parent}
use Rattle.match_laws.proofs.ViewLaws.{available_hold, admits_none, admits_pass, closed_unbarred, touched_unbarred}
use Rattle.dfu_match.specs.Searches.{meets, claim_on}

-- what stands closes and touches what is closed and touched where an ask bars some too
module _ (vertices : List Vertex) (present : Present) (barred : List ℕ) (w : Window) (v : ℕ) where
  pub closed_too : IsClosedOver vertices present w v → IsClosedIn (meets vertices present barred) w v
  closed_too (m, lo, hi, h) =
      let held = some_live_claim present.jobs m (holds_over vertices v) in
      let down = list_any (is_at_or_below vertices v) present.down in
      (m, lo, hi, or_along held down held _ (λ x. x) (or_right (list_any (is_at_or_below vertices v) barred) down) h)

  pub touched_too : IsTouchedOver vertices present w v → IsTouchedIn (meets vertices present barred) w v
  touched_too (m, lo, hi, h) =
      let on = some_live_claim present.jobs m (is_on_or_below vertices v) in
      let down = list_any (λ u. is_at_or_below vertices u v) present.down in
      (m, lo, hi, or_along on down on _ (λ x. x) (or_right (list_any (λ u. is_at_or_below vertices u v) barred) down) h)

-- a closed vertex is neither held nor passed, and a touched one not held
module _ (scene : Scene) (w : Window) (v : ℕ) where
  pub closed_admits_none : (hold : Bool) → IsClosedIn scene w v → IsAvailable scene w (claim_on hold v) → ⊥
  closed_admits_none true (m, lo, hi, h) each =
      not_to (is_closed scene m v) (and_parts _ _ (each m lo hi)).0 h
  closed_admits_none false (m, lo, hi, h) each = not_to (is_closed scene m v) (each m lo hi) h

  pub touched_holds_none : (hold : Bool) → hold ≡ true → IsTouchedIn scene w v →
      IsAvailable scene w (claim_on hold v) → ⊥
  touched_holds_none true holds (m, lo, hi, h) each =
      not_to (is_touched scene m v) (and_parts _ _ (each m lo hi)).1 h
  touched_holds_none false holds h each = true≢false (sym holds)

  pub admitted_open : (hold : Bool) → IsAvailable scene w (claim_on hold v) → IsClosedIn scene w v → ⊥
  admitted_open hold each closed = closed_admits_none hold closed each

  pub touched_held : (hold touched : Bool) → hold ≡ true → touched ≡ true → (IsTrue touched ↔ IsTouchedIn scene w v) →
      (IsTrue false ↔ IsAvailable scene w (claim_on hold v))
  touched_held hold touched holds is k =
      (λ t. absurd (true≢false (sym t)), λ each. absurd (touched_holds_none hold holds (k.0 is) each))

-- what nothing that stands closes or touches isn't closed or touched where the ask bars nothing there
module _ (vertices : List Vertex) (present : Present) (barred : List ℕ) (w : Window) (v : ℕ) (opens : w.from < w.to)
  where
    not_so : {A B : Type 0} → ((IsTrue false ↔ A) → (IsTrue false ↔ B)) → (A → ⊥) → B → ⊥
    not_so same none b = true≢false (sym ((same (λ t. absurd (true≢false (sym t)), λ a. absurd (none a))).1 b))

    pub not_closed : (bars : Bool) → bars ≡ false → bars ≡ list_any (is_at_or_below vertices v) barred →
        (IsClosedOver vertices present w v → ⊥) → IsClosedIn (meets vertices present barred) w v → ⊥
    not_closed bars none is = not_so (closed_unbarred vertices present barred w v opens false bars none is)

    pub not_touched : (bars : Bool) → bars ≡ false → bars ≡ list_any (λ u. is_at_or_below vertices u v) barred →
        (IsTouchedOver vertices present w v → ⊥) → IsTouchedIn (meets vertices present barred) w v → ⊥
    not_touched bars none is = not_so (touched_unbarred vertices present barred w v opens false bars none is)

-- the vertex above is one of the graph
pub above_inside : (vertices : List Vertex) →
    ParentsFirst vertices → (v p : ℕ) → parent_of vertices v ≡ Some p → p < length vertices
above_inside vertices first v p e = let below = first v p e in
    let within = has_parent vertices v p e in omega (arith, below, within)

-- a vertex is passed where it isn't closed
pub passes : (scene : Scene) (w : Window) (v : ℕ) (hold closed : Bool) → hold ≡ false →
    (IsTrue closed ↔ IsClosedIn scene w v) → (IsTrue (not closed) ↔ IsAvailable scene w (claim_on hold v))
passes scene w v hold true e h = admits_none scene w v hold true refl h
passes scene w v hold false e h = admits_pass scene w v hold false e refl h

same_one : {A : Type 0} → A ⊎ A → A
same_one (inl a) = a
same_one (inr a) = a

module _ (vertices : List Vertex)
    (first : ParentsFirst vertices) (v : ℕ) (inside : v < length vertices) (present : Present) (barred : List ℕ) where
  -- what v is at or below is v itself, or the vertex above v is at or below it
  own_or_above : (u : ℕ) → IsTrue (is_at_or_below vertices v u) →
      (u ≡ v) ⊎ ((p : ℕ) × (parent_of vertices v ≡ Some p) × IsTrue (is_at_or_below vertices p u))
  own_or_above u h = let s = steps_of vertices first v u h in go s.0 s.1
    where
      go : (n : ℕ) → up vertices n (Some v) ≡ Some u →
          (u ≡ v) ⊎ ((p : ℕ) × (parent_of vertices v ≡ Some p) × IsTrue (is_at_or_below vertices p u))
      go zero e = inl (let same : v ≡ u = cc in sym same)
      go (suc n) e = by_parent (parent_of vertices v) refl e
        where
          by_parent : (o : Option ℕ) → parent_of vertices v ≡ o → up vertices n o ≡ Some u →
              (u ≡ v) ⊎ ((p : ℕ) × (parent_of vertices v ≡ Some p) × IsTrue (is_at_or_below vertices p u))
          by_parent None q f = absurd (let none : None ≡ Some u = sym (up-None vertices n) ∙ f in cc)
          by_parent (Some p) q f =
              inr (p, q, at_or_below vertices first p u n (let lt = first v p q in omega (arith, lt, inside)) f)

  -- what holds the vertex above holds v
  module _ (p : ℕ) (at : parent_of vertices v ≡ Some p) where
    holds_down : (c : Claim) → IsTrue (holds_over vertices p c) → IsTrue (holds_over vertices v c)
    holds_down (Take u q) h = h
    holds_down (Hold u) h = below_trans vertices first v p u inside (below_parent vertices first v p inside at) h
    holds_down (Pass u) h = h

    -- so does what is out of service there
    withheld_down : (us : List ℕ) → IsTrue (list_any (is_at_or_below vertices p) us) →
        IsTrue (list_any (is_at_or_below vertices v) us)
    withheld_down us h =
        same_one (any_either (is_at_or_below vertices p) (is_at_or_below vertices v) (is_at_or_below vertices v)
        (λ u t. inl (below_trans vertices first v p u inside (below_parent vertices first v p inside at) t)) us h)

    pub closed_down : (w : Window) →
        IsClosedIn (meets vertices present barred) w p → IsClosedIn (meets vertices present barred) w v
    closed_down w (m, lo, hi, h) =
        let scene = meets vertices present barred in (
          m,
          lo,
          hi,
          or_along (some_live_claim present.jobs m (holds_over vertices p)) (is_withheld scene p)
              (some_live_claim present.jobs m (holds_over vertices v)) (is_withheld scene v)
              (λ held. same_one (live_either (holds_over vertices p) (holds_over vertices v) (holds_over vertices v)
              (λ c t. inl (holds_down c t)) present.jobs m held))
              (or_along (list_any (is_at_or_below vertices p) barred)
              (list_any (is_at_or_below vertices p) present.down)
              (list_any (is_at_or_below vertices v) barred) (list_any (is_at_or_below vertices v) present.down)
              (withheld_down barred) (withheld_down present.down)) h,
        )

    -- what closes v closes the vertex above, or touches v
    own_bar : (u : ℕ) → IsTrue (is_at_or_below vertices v u) →
        IsTrue (is_at_or_below vertices p u) ⊎ IsTrue (is_at_or_below vertices u v)
    own_bar u h = elim (own_or_above u h) [
      | inl same ↦
          inr (subst (λ (x : ℕ). IsTrue (is_at_or_below vertices x v)) (sym same) (below_self vertices first v inside))
      | inr (q, e, below) ↦ inl (let both : Some q ≡ Some p = sym e ∙ at in
          let same : q ≡ p = cc in subst (λ (x : ℕ). IsTrue (is_at_or_below vertices x u)) same below)
    ]

    own_hold : (c : Claim) →
        IsTrue (holds_over vertices v c) → IsTrue (holds_over vertices p c) ⊎ IsTrue (is_on_or_below vertices v c)
    own_hold (Take u q) h = absurd (true≢false (sym h))
    own_hold (Hold u) h = own_bar u h
    own_hold (Pass u) h = absurd (true≢false (sym h))

    withheld_up : (us : List ℕ) → IsTrue (list_any (is_at_or_below vertices v) us) →
        IsTrue (list_any (is_at_or_below vertices p) us) ⊎ IsTrue (list_any (λ u. is_at_or_below vertices u v) us)
    withheld_up us h = any_either (is_at_or_below vertices v) (is_at_or_below vertices p)
        (λ u. is_at_or_below vertices u v) own_bar us h

    abbrev barred_above : Bool
    barred_above = list_any (is_at_or_below vertices p) barred

    abbrev barred_below : Bool
    barred_below = list_any (λ u. is_at_or_below vertices u v) barred

    pub closed_up : (w : Window) → IsClosedIn (meets vertices present barred) w v →
        IsClosedIn (meets vertices present barred) w p ⊎ IsTouchedIn (meets vertices present barred) w v
    closed_up w (m, lo, hi, h) =
        let scene = meets vertices present barred in
        let over = some_live_claim present.jobs m (holds_over vertices p) in
        let on = some_live_claim present.jobs m (is_on_or_below vertices v) in
        elim (or_cases (some_live_claim present.jobs m (holds_over vertices v)) (is_withheld scene v) h) [
          | inl held ↦ elim (live_either
              (holds_over vertices v) (holds_over vertices p) (is_on_or_below vertices v) own_hold present.jobs m
              held) [
                | inl a ↦ inl (m, lo, hi, or_left over (is_withheld scene p) a)
                | inr b ↦ inr (m, lo, hi, or_left on (has_withheld scene v) b)
              ]
          | inr withheld ↦ elim (or_cases (list_any (is_at_or_below vertices v) barred)
              (list_any (is_at_or_below vertices v) present.down) withheld) [
                | inl bars ↦ elim (withheld_up barred bars) [
                  | inl a ↦ inl (m, lo, hi, or_right over (is_withheld scene p) (or_left barred_above _ a))
                  | inr b ↦ inr (m, lo, hi, or_right on (has_withheld scene v) (or_left barred_below _ b))
                ]
                | inr down ↦ elim (withheld_up present.down down) [
                  | inl a ↦ inl (m, lo, hi, or_right over (is_withheld scene p) (or_right barred_above _ a))
                  | inr b ↦ inr (m, lo, hi, or_right on (has_withheld scene v) (or_right barred_below _ b))
                ]
              ]
        ]

  -- where no vertex is above, what closes v touches it
  module _ (none : parent_of vertices v ≡ None) where
    root_bar : (u : ℕ) → IsTrue (is_at_or_below vertices v u) → IsTrue (is_at_or_below vertices u v)
    root_bar u h = elim (own_or_above u h) [
      | inl same ↦
          subst (λ (x : ℕ). IsTrue (is_at_or_below vertices x v)) (sym same) (below_self vertices first v inside)
      | inr (q, e, below) ↦ absurd (let both : None ≡ Some q = sym none ∙ e in cc)
    ]

    root_hold : (c : Claim) → IsTrue (holds_over vertices v c) → IsTrue (is_on_or_below vertices v c)
    root_hold (Take u q) h = absurd (true≢false (sym h))
    root_hold (Hold u) h = root_bar u h
    root_hold (Pass u) h = absurd (true≢false (sym h))

    withheld_root : (us : List ℕ) → IsTrue (list_any (is_at_or_below vertices v) us) →
        IsTrue (list_any (λ u. is_at_or_below vertices u v) us)
    withheld_root us h =
        same_one (any_either (is_at_or_below vertices v) (λ u. is_at_or_below vertices u v)
        (λ u. is_at_or_below vertices u v) (λ u t. inl (root_bar u t)) us h)

    pub closed_root : (w : Window) →
        IsClosedIn (meets vertices present barred) w v → IsTouchedIn (meets vertices present barred) w v
    closed_root w (m, lo, hi, h) =
        let scene = meets vertices present barred in (
          m,
          lo,
          hi,
          or_along (some_live_claim present.jobs m (holds_over vertices v)) (is_withheld scene v)
              (some_live_claim present.jobs m (is_on_or_below vertices v)) (has_withheld scene v)
              (λ held. same_one (live_either (holds_over vertices v)
              (is_on_or_below vertices v) (is_on_or_below vertices v) (λ c t. inl (root_hold c t)) present.jobs m held))
              (or_along (list_any (is_at_or_below vertices v) barred)
              (list_any (is_at_or_below vertices v) present.down)
              (list_any (λ u. is_at_or_below vertices u v) barred)
              (list_any (λ u. is_at_or_below vertices u v) present.down)
              (withheld_root barred) (withheld_root present.down)) h,
        )

  -- where the vertex above isn't closed, what closes v touches it
  pub closed_touches : (w : Window) →
      (IsSomeAnd (parent_of vertices v) (IsClosedIn (meets vertices present barred) w) → ⊥) →
      IsClosedIn (meets vertices present barred) w v → IsTouchedIn (meets vertices present barred) w v
  closed_touches w never closed = by_parent (parent_of vertices v) refl never
    where
      by_parent : (o : Option ℕ) →
          parent_of vertices v ≡ o → (IsSomeAnd o (IsClosedIn (meets vertices present barred) w) → ⊥) →
          IsTouchedIn (meets vertices present barred) w v
      by_parent None e never = closed_root e w closed
      by_parent (Some p) e never = elim (closed_up p e w closed) [
        | inl up_closed ↦ absurd (never up_closed)
        | inr touch ↦ touch
      ]

  module _ (w : Window) (hold : Bool) (holds : hold ≡ true) (above : Bool)
      (tells : IsTrue above ↔ IsSomeAnd (parent_of vertices v) (IsClosedIn (meets vertices present barred) w)) where
    -- a vertex below a closed one is not held
    none_held : above ≡ true → (IsTrue false ↔ IsAvailable (meets vertices present barred) w (claim_on hold v))
    none_held is =
        let closed = by_parent (parent_of vertices v) refl (tells.0 is) in
        admits_none (meets vertices present barred) w v hold true refl (λ t. closed, λ c. refl)
      where
        by_parent : (o : Option ℕ) → parent_of vertices v ≡ o →
            IsSomeAnd o (IsClosedIn (meets vertices present barred) w) → IsClosedIn (meets vertices present barred) w v
        by_parent None e h = absurd h
        by_parent (Some p) e h = closed_down p e w h

    -- below one that isn't closed, whether the vertex is touched decides
    held_untouched : above ≡ false →
        (touched : Bool) → (IsTrue touched ↔ IsTouchedIn (meets vertices present barred) w v) →
        (IsTrue (not touched) ↔ IsAvailable (meets vertices present barred) w (claim_on hold v))
    held_untouched open_ touched k =
        subst (λ (b : Bool). IsTrue (not touched) ↔ IsAvailable (meets vertices present barred) w (claim_on b v))
        (sym holds) (by_test touched k)
      where
        closed_touched : IsClosedIn (meets vertices present barred) w v → IsTouchedIn (meets vertices present barred) w
            v
        closed_touched = closed_touches w (λ h. true≢false (sym (tells.1 h) ∙ open_))

        by_test : (t : Bool) → (IsTrue t ↔ IsTouchedIn (meets vertices present barred) w v) →
            (IsTrue (not t) ↔ IsAvailable (meets vertices present barred) w (Hold v))
        by_test true l = (
          λ t. absurd (true≢false (sym t)),
          λ each. absurd (let s = l.0 refl in
              not_to (is_touched (meets vertices present barred) s.0 v) (and_parts _ _ (each s.0 s.1 s.2)).1 s.3),
        )
        by_test false l = available_hold (meets vertices present barred) w v false false
            (λ t. absurd (true≢false (sym t)), λ c. absurd (true≢false (sym (l.1 (closed_touched c))))) l

    -- whether the vertex above is closed decides on one that isn't touched
    pub untouched_held : (touched : Bool) → touched ≡ false →
        (IsTrue touched ↔ IsTouchedIn (meets vertices present barred) w v) →
        (IsTrue (not above) ↔ IsAvailable (meets vertices present barred) w (claim_on hold v))
    untouched_held touched is k = by_above above refl
      where
        by_above : (b : Bool) → above ≡ b →
            (IsTrue (not b) ↔ IsAvailable (meets vertices present barred) w (claim_on hold v))
        by_above true e = none_held e
        by_above false e = subst (λ (t : Bool). IsTrue (not t) ↔
            IsAvailable (meets vertices present barred) w (claim_on hold v)) is (held_untouched e touched k)
