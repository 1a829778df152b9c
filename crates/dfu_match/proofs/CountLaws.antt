-- What counting keeps: how much a vertex serves, and how many copies each need leaves.
use Rattle.std.proofs.Common.{◌≡◌, ℕ, zero, suc, ◌+◌, ◌*◌, ◌^◌, ◌<◌, ◌≤◌, ◌↔◌, inl, inr, Bool, true, false, List, []}
use Rattle.std.proofs.Common.{◌∷◌, length, drop, drop-cons, add-one, get_or, min, refl, sym, ◌∙◌, ap, subst, arith}
use Rattle.std.proofs.Common.{Some, slice_get}
use Rattle.std.proofs.Math.Nat.{mul-le-mul_right}
use Rattle.std.proofs.lemmas.Bool.{cases_lt}
use Rattle.std.specs.List.{AllByRecursion}
use Rattle.flux_defs.specs.declared.vertices.Vertex.{Vertex}
use Rattle.flux_defs.specs.declared.claims.Claim.{Claim}
use Rattle.flux_defs.specs.declared.claims.Claim.TheVariants.{Take, Hold, Pass}
use Rattle.flux_defs.specs.declared.claims.Window.{Window}
use Rattle.flux_defs.specs.declared.requests.Need.{Need, Vert, Vert', Pool, Spread, Spread'}
use Rattle.flux_defs.specs.Graph.{Scope, Beneath, IsIn, HasKind, IsNode}
use Rattle.flux_defs.specs.Needs.{amount_of, HasNoSpread, IsValidNeed, AreValidNeeds}
use Rattle.flux_defs.specs.Lowest.{CanServe}
use Rattle.flux_defs.specs.Present.{bare, Present}
use Rattle.flux_laws.proofs.FitLaws.{TakesLess}
use Rattle.flux_laws.proofs.Rows.{valid_to_list, no_spread_to_list}
use Rattle.match_laws.specs.Offers.{IsGreatest, SomeGroup, SomeFits, VertexClaims}
use Rattle.match_laws.proofs.NeedLists.{AllFill, group_at, group_less, group_zero, alone_fits, serves_vertex}
use Rattle.match_laws.proofs.NeedLists.{vertex_serves, serves_copies, copies_serve}
use Rattle.dfu_match.specs.Searches.{claim_on, open_to, MayAsk, MayScale, MayScaleNeed}
use Rattle.dfu_match.specs.Walks.{ServesOneEach}

-- the list from an item on
pub item_split : (items : List Need) (i : ℕ) (need : Need) → i < length items → need ≡ get_or items i need →
    drop i items ≡ need ∷ drop (i + 1) items
item_split items i need lt is = drop-cons items i need lt
    ∙ (ap (λ n. n ∷ drop (suc i) items) (sym is) ∙ ap (λ k. need ∷ drop k items) (sym (add-one i)))

-- a list of one need is its first one alone
pub alone : (needs : List Need) (need : Need) → length needs ≡ 1 → Some need ≡ slice_get needs 0 → needs ≡ need ∷ []
alone [] need one first = absurd (omega (arith, one))
alone (n ∷ []) need one first = let same : need ≡ n = cc in cc
alone (n ∷ m ∷ more) need one first = absurd (omega (arith, one))

-- the members of a valid list
pub valid_at : (vertices : List Vertex) (needs : List Need) (i : ℕ) (need : Need) (rest : List Need) →
    drop i needs ≡ need ∷ rest → AreValidNeeds vertices needs → IsValidNeed vertices need
valid_at vertices [] zero need rest e v = absurd (cc)
valid_at vertices [] (suc i) need rest e v = absurd (cc)
valid_at vertices (n ∷ ns) zero need rest e v = let same : n ≡ need = cc in subst (IsValidNeed vertices) same v.0
valid_at vertices (n ∷ ns) (suc i) need rest e v = valid_at vertices ns i need rest e v.2

pub each_at : (P : Need → Type 0) (needs : List Need) (i : ℕ) (need : Need) (rest : List Need) →
    drop i needs ≡ need ∷ rest → AllByRecursion P needs → P need
each_at P [] zero need rest e v = absurd (cc)
each_at P [] (suc i) need rest e v = absurd (cc)
each_at P (n ∷ ns) zero need rest e v = let same : n ≡ need = cc in subst P same v.0
each_at P (n ∷ ns) (suc i) need rest e v = each_at P ns i need rest e v.1

-- the needs inside a valid need
pub valid_inside : (vertices : List Vertex) (kind count : ℕ) (hold : Bool) (needs : List Need) →
    IsValidNeed vertices (Vert kind count hold needs) → AreValidNeeds vertices needs
valid_inside vertices kind count hold needs v = valid_to_list vertices needs v.2

pub valid_copy : (vertices : List Vertex) (count : ℕ) (needs : List Need) →
    IsValidNeed vertices (Spread count needs) → AreValidNeeds vertices needs
valid_copy vertices count needs v = valid_to_list vertices needs v.3

pub plain_copy : (vertices : List Vertex) (count : ℕ) (needs : List Need) →
    IsValidNeed vertices (Spread count needs) → AllByRecursion HasNoSpread needs
plain_copy vertices count needs v = no_spread_to_list needs v.2

-- scaled by so much at most, a need asks no more than fits the count of copies
pub may_ask_without : (most : ℕ) (need : Need) → HasNoSpread need → MayAsk most need
may_ask_without most (Vert' kind count hold m needs) h = tt
may_ask_without most (Pool kind quantity) h = tt
may_ask_without most (Spread' count m needs) h = elim h [ ]

pub may_ask_few : (most : ℕ) (need : Need) → most < 2 ^ 64 → MayAsk most need
may_ask_few most (Vert' kind count hold m needs) lt = tt
may_ask_few most (Pool kind quantity) lt = tt
may_ask_few most (Spread' count m needs) lt = lt

pub may_ask_less : (few most : ℕ) (need : Need) → few ≤ most → MayAsk most need → MayAsk few need
may_ask_less few most (Vert' kind count hold m needs) le h = tt
may_ask_less few most (Pool kind quantity) le h = tt
may_ask_less few most (Spread' count m needs) le h = let lt : most < 2 ^ 64 = h in omega arith

pub may_ask_scaled : (k : ℕ) (need : Need) → MayScaleNeed k need → amount_of need < 2 ^ 64 →
    MayAsk (k * amount_of need) need
may_ask_scaled k need (inl one) lt = let e : k * amount_of need ≡ amount_of need = rw one (omega arith) in
    may_ask_few (k * amount_of need) need (omega arith)
may_ask_scaled k need (inr none) lt = may_ask_without (k * amount_of need) need none

pub may_scale_at : (k : ℕ) (needs : List Need) (i : ℕ) (need : Need) (rest : List Need) → drop i needs ≡ need ∷ rest →
    MayScale k needs → MayScaleNeed k need
may_scale_at k needs i need rest e (inl one) = inl one
may_scale_at k needs i need rest e (inr none) = inr (each_at HasNoSpread needs i need rest e none)

pub may_ask_at : (most best : ℕ) (needs : List Need) (i : ℕ) (need : Need) (rest : List Need) → best ≤ most →
    drop i needs ≡ need ∷ rest → amount_of need < 2 ^ 64 → MayScale most needs → MayAsk (best * amount_of need) need
may_ask_at most best needs i need rest le e lt (inl one) =
    let few : best * amount_of need ≤ 1 * amount_of need = mul-le-mul_right (amount_of need) (omega arith) in
    may_ask_few (best * amount_of need) need (omega arith)
may_ask_at most best needs i need rest le e lt (inr none) = may_ask_without (best * amount_of need) need
    (each_at HasNoSpread needs i need rest e none)

module _ (vertices : List Vertex) (ok : Claim → Type 0) where
  -- a vertex that may not be claimed serves nothing
  pub vertex_closed : (scope : Scope) (kind count : ℕ) (hold : Bool) (needs : List Need) (v most : ℕ) →
      (ok (claim_on hold v) → ⊥) →
      IsGreatest (CanServe vertices ok scope (Vert kind count hold needs) v) most 0
  vertex_closed scope kind count hold needs v most never = record {
    within = omega arith;
    can_be = λ some. absurd (omega arith);
    full = λ lt c. let p = (vertex_serves vertices ok scope kind count hold needs v 1 c).1 in
        never (claimed hold p.0 p.1);
  }
    where
      claimed : (h : Bool) (claims : List Claim) → VertexClaims vertices ok h needs v claims → ok (claim_on h v)
      claimed true claims p = p.1
      claimed false claims p = p.2

  -- where nothing is asked, one copy fits
  pub nothing_asked : (scope : Scope) (needs : List Need) → needs ≡ [] →
      IsGreatest (SomeFits vertices ok scope needs) 1 1
  nothing_asked scope needs none = rw none record {
    within = omega arith;
    can_be = λ some. ([], refl);
    full = λ more. absurd (omega (arith, more));
  }

  -- one that may be serves 1 exactly where the inner needs fit below it
  pub vertex_open : (scope : Scope) (kind count : ℕ) (hold : Bool) (needs : List Need) (v most found : ℕ) → 1 ≤ most →
      IsIn vertices scope v → HasKind vertices kind v → ok (claim_on hold v) →
      IsGreatest (SomeFits vertices ok (Beneath v) needs) 1 found →
      IsGreatest (CanServe vertices ok scope (Vert kind count hold needs) v) most found
  vertex_open scope kind count hold needs v most found some within is may g = record {
    within = (let le : found ≤ 1 = g.within in omega arith);
    can_be = λ h. let one : found ≡ 1 = (let le : found ≤ 1 = g.within in omega arith) in
        subst (CanServe vertices ok scope (Vert kind count hold needs) v) (sym one)
        (served hold may (subst (SomeFits vertices ok (Beneath v) needs) one (g.can_be h)));
    full = λ lt c.
        let p = vertex_serves vertices ok scope kind count hold needs v (found + 1) c in
        let none : found ≡ 0 = (let e : found + 1 ≡ 1 = p.0 in omega arith) in
        let e : 1 ≡ found + 1 = omega arith in
        g.full (omega arith) (subst (SomeFits vertices ok (Beneath v) needs) e (inside hold p.1.0 p.1.1));
  }
    where
      served : (h : Bool) → ok (claim_on h v) → SomeFits vertices ok (Beneath v) needs 1 →
          CanServe vertices ok scope (Vert kind count h needs) v 1
      served true o f = serves_vertex vertices ok scope kind count true needs v within is (Hold v ∷ []) (refl, o, f)
      served false o f = serves_vertex vertices ok scope kind count false needs v within is (Pass v ∷ f.0)
          (f.0, refl, o, f.1)

      inside : (h : Bool) (claims : List Claim) → VertexClaims vertices ok h needs v claims →
          SomeFits vertices ok (Beneath v) needs 1
      inside true claims p = p.2
      inside false claims p = (p.0, p.3)

  -- a pool serves what is free of it
  pub pool_serves : (scope : Scope) (kind quantity v most free n : ℕ) → IsIn vertices scope v →
      HasKind vertices kind v → ((q : ℕ) → ((q ≤ free) ↔ ok (Take v q))) → n ≡ min free most →
      IsGreatest (CanServe vertices ok scope (Pool kind quantity) v) most n
  pool_serves scope kind quantity v most free n within is told e = record {
    within = omega arith;
    can_be = λ some. (Take v n ∷ [], (within, is, refl, (told n).0 (omega arith)));
    full = λ lt c. let le : n + 1 ≤ free = (told (n + 1)).1 c.1.3 in omega arith;
  }

  -- a node that may not be passed serves no copy
  pub node_closed : (scope : Scope) (count : ℕ) (needs : List Need) (v most : ℕ) → (ok (Pass v) → ⊥) →
      IsGreatest (CanServe vertices ok scope (Spread count needs) v) most 0
  node_closed scope count needs v most never = record {
    within = omega arith;
    can_be = λ some. absurd (omega arith);
    full = λ lt c. never (copies_serve vertices ok scope count needs v 1 c).0;
  }

  -- one that may be serves as many as fit below it
  pub node_open : (scope : Scope) (count : ℕ) (needs : List Need) (v most found : ℕ) → IsIn vertices scope v →
      IsNode vertices v → ok (Pass v) →
      IsGreatest (SomeFits vertices ok (Beneath v) needs) most found →
      IsGreatest (CanServe vertices ok scope (Spread count needs) v) most found
  node_open scope count needs v most found within is may g = record {
    within = g.within;
    can_be = λ some. serves_copies vertices ok scope count needs v found within is may (g.can_be some);
    full = λ lt c. g.full lt (copies_serve vertices ok scope count needs v (found + 1) c).1;
  }

  module _ (less : TakesLess ok) (scope : Scope) where
    -- one more need is filled for as many copies
    pub enough_next : (items : List Need) (i : ℕ) (need : Need) (rest : List Need) (best reached new : ℕ) →
        drop i items ≡ need ∷ rest →
        IsGreatest (SomeGroup vertices ok scope need) (best * amount_of need) reached →
        new * amount_of need ≤ reached → new ≤ best →
        ((k : ℕ) → k ≤ best → AllFill vertices ok scope k (drop i items) → AllFill vertices ok scope k items) →
        (k : ℕ) → k ≤ new → AllFill vertices ok scope k rest → AllFill vertices ok scope k items
    enough_next items i need rest best reached new split g low few before k le each =
        let fits : k * amount_of need ≤ new * amount_of need = mul-le-mul_right (amount_of need) le in
        let group : SomeGroup vertices ok scope need (k * amount_of need) = elim (cases_lt 0 reached) [
          | inl some ↦ group_less vertices ok less scope need reached (k * amount_of need) (omega arith) (g.can_be some)
          | inr none ↦ group_zero vertices ok scope need (k * amount_of need) (omega arith)
        ] in
        before k (omega arith) (subst (λ (ns : List Need). AllFill vertices ok scope k ns) (sym split) (group, each))

    -- and the list for no more
    pub full_next : (items : List Need) (i : ℕ) (need : Need) (rest : List Need) (most best reached new : ℕ) →
        drop i items ≡ need ∷ rest →
        IsGreatest (SomeGroup vertices ok scope need) (best * amount_of need) reached →
        reached < (new + 1) * amount_of need → new ≤ best →
        (best < most → SomeFits vertices ok scope items (best + 1) → ⊥) → new < most →
        SomeFits vertices ok scope items (new + 1) → ⊥
    full_next items i need rest most best reached new split g high few before lt f =
        elim (cases_lt new best) [
          | inl fewer ↦
              let asked : (new + 1) * amount_of need ≤ best * amount_of need = mul-le-mul_right (amount_of need)
              (omega arith) in
              let group = group_at vertices ok (new + 1) scope items i need rest split f in
              g.full (omega arith) (group_less vertices ok less scope need ((new + 1) * amount_of need) (reached + 1)
              (omega arith) group)
          | inr same ↦ (let e : new ≡ best = omega arith in
              before (omega arith) (subst (λ n. SomeFits vertices ok scope items (n + 1)) e f))
        ]

  -- the needs are over
  pub copies_end : (scope : Scope) (items needs left : List Need) (most best : ℕ) → items ≡ needs → left ≡ [] →
      best ≤ most →
      ((k : ℕ) → k ≤ best → AllFill vertices ok scope k left → AllFill vertices ok scope k items) →
      (best < most → SomeFits vertices ok scope items (best + 1) → ⊥) →
      IsGreatest (SomeFits vertices ok scope needs) most best
  copies_end scope items needs left most best same over within enough full =
      subst (λ (ns : List Need). IsGreatest (SomeFits vertices ok scope ns) most best) same (record {
        within = within;
        can_be = λ some. alone_fits vertices ok best scope items
            (enough best (omega arith) (subst (λ (ns : List Need). AllFill vertices ok scope best ns) (sym over) tt));
        full = full;
      })

  -- of one need alone as many copies fit as what was reached is times its amount
  pub copies_alone : TakesLess ok → (scope : Scope) (need : Need) (most reached copies : ℕ) →
      IsGreatest (SomeGroup vertices ok scope need) (most * amount_of need) reached →
      copies * amount_of need ≤ reached → reached < (copies + 1) * amount_of need → copies ≤ most →
      IsGreatest (SomeFits vertices ok scope (need ∷ [])) most copies
  copies_alone less scope need most reached copies g low high few =
      copies_end scope (need ∷ []) (need ∷ []) [] most copies refl refl few
      (enough_next less scope (need ∷ []) 0 need [] most reached copies refl g low few (λ k le each. each))
      (full_next less scope (need ∷ []) 0 need [] most most reached copies refl g high few
      (λ lt. absurd (omega (arith, lt))))

  -- one need leaves no copy
  pub copies_none : (scope : Scope) (items needs : List Need) (most new : ℕ) → items ≡ needs → new ≡ 0 →
      (new < most → SomeFits vertices ok scope items (new + 1) → ⊥) →
      IsGreatest (SomeFits vertices ok scope needs) most 0
  copies_none scope items needs most new same none full =
      subst (λ (ns : List Need). IsGreatest (SomeFits vertices ok scope ns) most 0) same (record {
        within = omega arith;
        can_be = λ some. absurd (omega arith);
        full = λ lt f. let e : 1 ≡ new + 1 = omega arith in
            full (omega arith) (subst (SomeFits vertices ok scope items) e f);
      })

module _ (vertices : List Vertex) (present : Present) (barred : List ℕ) (w : Window) (none : present ≡ bare)
    (unbarred : barred ≡ []) where
  -- where no job and no bar is, each vertex may be claimed
  open_all : (hold : Bool) (v : ℕ) → open_to vertices present barred w (claim_on hold v)
  open_all true v = rw (none, unbarred) (λ m lo hi. refl)
  open_all false v = rw (none, unbarred) (λ m lo hi. refl)

  -- so each of a need within which nothing is asked serves 1
  pub one_each : (kind count : ℕ) (hold : Bool) (needs : List Need) → needs ≡ [] →
      ServesOneEach vertices (open_to vertices present barred w) (Vert kind count hold needs)
  one_each kind count hold needs nothing scope v most is within some =
      let ok : Claim → Type 0 = open_to vertices present barred w in
      vertex_open vertices ok scope kind count hold needs v most 1 some within is (open_all hold v)
      (nothing_asked vertices ok (Beneath v) needs nothing)
