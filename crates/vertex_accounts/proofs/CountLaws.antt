-- What is counted, place by place.
use Rattle.std.proofs.Common.{◌≡◌, ℕ, zero, suc, ◌+◌, ◌*◌, ◌<◌, ◌≤◌, List, [], ◌∷◌, ◌++◌, length, length-append, take}
use Rattle.std.proofs.Common.{Option, Some, None, is_some, IsSome, slice_get, slice_index_or, inl, inr, refl, sym, ◌∙◌}
use Rattle.std.proofs.Common.{ap, subst, arith}
use Rattle.std.specs.List.{sum_by}
use Rattle.std.proofs.lemmas.Bool.{cases_lt}
use Rattle.std.proofs.lemmas.List.Sums.{sum_by-cons, sum_by-append, sum_by_more}
use Rattle.std.proofs.lemmas.Option.{get_or_from_slice_get, slice_get_within}
use Rattle.std.proofs.Math.Nat.{add-mul}
use Rattle.flux_defs.specs.declared.vertices.Vertex.{Vertex}
use Rattle.flux_defs.specs.declared.claims.Claim.{Claim}
use Rattle.list_laws.proofs.Lists.{last_or, get_old, get_last}
use Rattle.planner_points.specs.declared.spans.Span.{Span}
use Rattle.vertex_planners.specs.declared.amounts.Amounts.{Amounts}
use Rattle.vertex_planners.specs.Numbers.{amount_at, count_of, HasKeysBelow}
use Rattle.vertex_planners.specs.Rows.{count_all, HaveKeysBelow}
use Rattle.vertex_planners.specs.Lists.{AreWide}
use Rattle.vertex_planners.proofs.PlaceLaws.{of_place}
use Rattle.vertex_accounts.specs.declared.quantities.Quantity.{Quantity}
use Rattle.vertex_accounts.specs.declared.quantities.Quantity.TheVariants.{Holds, Claims, Takes}
use Rattle.vertex_accounts.specs.declared.counted.Counted.{Counted}
use Rattle.vertex_accounts.specs.Quantities.{amount_in, total_in, KnowsCapacities, IsUnitsOf}
use Rattle.vertex_accounts.specs.Costs.{reach_of}
use Rattle.vertex_accounts.specs.Counts.{kept_one, kept_count, AreCounted, AreNew, IsPlaceAdded}
use Rattle.vertex_accounts.specs.Books.{AreAllKept}

-- a list that is another list has its items
moved : {X : Type 0} (xs ys : List X) (k : ℕ) (x : X) → ys ≡ xs → slice_get xs k ≡ Some x → slice_get ys k ≡ Some x
moved xs ys k x e at = ap (λ zs. slice_get zs k) e ∙ at

module _ (vertices : List Vertex) (old new : Counted) (is : AreCounted vertices old) where
  -- a type that has no place
  pub no_place : new.quantities ≡ old.quantities → new.places ≡ old.places ++ None ∷ [] → AreCounted vertices new
  no_place same pushed =
      let none : Option ℕ = None in
      let reach = is.reach in
      let sums = ap (sum_by reach_of) same in
      let counts = ap kept_count pushed ∙ sum_by-append kept_one old.places (none ∷ []) in
      let last = sum_by-cons kept_one none [] in
      record {
        holds = moved old.quantities new.quantities 0 Holds same is.holds;
        claims = moved old.quantities new.quantities 1 Claims same is.claims;
        takes = moved old.quantities new.quantities 2 Takes same is.takes;
        units = λ kind place at.
            elim (last_or old.places none (Some place) kind (moved new.places _ kind (Some place) (sym pushed) at)) [
              | inl earlier ↦ (let (q, of, units) = is.units kind place earlier in
                  (q, moved old.quantities new.quantities place q same of, units))
              | inr here ↦ absurd (let e : none ≡ Some place = here.1 in cc)
            ];
        capacities = λ k q at. is.capacities k q (moved new.quantities old.quantities k q (sym same) at);
        reach = omega (arith, reach, sums, counts, last);
      }

  -- a type whose units have a place of their own, behind the others
  pub own_place : (q : Quantity) → IsUnitsOf (length old.places) q → KnowsCapacities vertices q → reach_of q ≡ 16 →
      new.quantities ≡ old.quantities ++ q ∷ [] →
      new.places ≡ old.places ++ Some (length old.quantities) ∷ [] → AreCounted vertices new
  own_place q units knows far quantities places =
      let entry : Option ℕ = Some (length old.quantities) in
      let reach = is.reach in
      let sums = ap (sum_by reach_of) quantities ∙ sum_by-append reach_of old.quantities (q ∷ []) in
      let more = sum_by-cons reach_of q [] in
      let counts = ap kept_count places ∙ sum_by-append kept_one old.places (entry ∷ []) in
      let last = sum_by-cons kept_one entry [] in
      let earlier = λ (k : ℕ) (r : Quantity) (at : slice_get old.quantities k ≡ Some r).
      moved (old.quantities ++ q ∷ []) new.quantities k r quantities (get_old old.quantities q r k at) in
      record {
        holds = earlier 0 Holds is.holds;
        claims = earlier 1 Claims is.claims;
        takes = earlier 2 Takes is.takes;
        units = λ kind place at. elim (last_or old.places entry
            (Some place) kind (moved new.places _ kind (Some place) (sym places) at)) [
              | inl before ↦ (let (r, of, is_units) = is.units kind place before in (r, earlier place r of, is_units))
              | inr here ↦ (
                  let e : entry ≡ Some place = here.1 in
                  let behind : length old.quantities ≡ place = cc in (
                    q,
                    moved (old.quantities ++ q ∷ []) new.quantities place q quantities
                        (ap (slice_get (old.quantities ++ q ∷ [])) (sym behind) ∙ get_last old.quantities q),
                    subst (λ (j : ℕ). IsUnitsOf j q) (sym here.0) units,
                  ))
            ];
        capacities = λ k r at. elim (last_or old.quantities q r k (moved new.quantities _ k r (sym quantities) at)) [
          | inl before ↦ is.capacities k r before
          | inr here ↦ subst (KnowsCapacities vertices) here.1 knows
        ];
        reach = omega (arith, reach, sums, more, counts, last, far);
      }

-- the types so far: those that are named have places, and only these
pub record HavePlaces
    (names : List (List ℕ)) (Named : List ℕ → Type 0) (kind : ℕ) (places : List (Option ℕ)) : Type 0 where
  pub within : kind ≤ length names
  pub len : length places ≡ kind
  pub counted : (k : ℕ) (name : List ℕ) →
      k < kind → slice_get names k ≡ Some name → Named name → (place : ℕ) × (slice_get places k ≡ Some (Some place))
  pub only : (k place : ℕ) →
      slice_get places k ≡ Some (Some place) → (name : List ℕ) × (slice_get names k ≡ Some name) × Named name

pub past_list : {X : Type 0} (xs : List X) (i : ℕ) → slice_get xs i ≡ None → length xs ≤ i
past_list [] i e = omega arith
past_list (y ∷ ys) zero e = absurd (cc)
past_list (y ∷ ys) (suc i) e = let r = past_list ys i e in omega (arith, r)

some_of : (o : Option ℕ) → IsSome o → (n : ℕ) × (o ≡ Some n)
some_of None h = absurd (cc)
some_of (Some n) h = (n, refl)

pub one_type : (names : List (List ℕ)) (Named : List ℕ → Type 0) (kind : ℕ)
    (name : List ℕ) (old new : List (Option ℕ)) → HavePlaces names Named kind old → slice_get names kind ≡ Some name →
    IsPlaceAdded (Named name) old new → HavePlaces names Named (kind + 1) new
one_type names Named kind name old new so_far at (entry, pushed, tells) =
    let inside = slice_get_within names kind name at in
    let len = so_far.len in
    record {
      within = omega (arith, inside);
      len = ap length pushed ∙ length-append old (entry ∷ []) ∙ ap (λ n. n + 1) len;
      counted = λ k other lt there named. elim (cases_lt k kind) [
        | inl before ↦ (let (place, was) = so_far.counted k other before there named in
            (place, moved _ new k (Some place) pushed (get_old old entry (Some place) k was)))
        | inr past ↦ (
            let same : k ≡ kind = omega (arith, lt, past) in
            let both : Some other ≡ Some name = sym there ∙ (ap (slice_get names) same ∙ at) in
            let is : other ≡ name = cc in
            let (place, e) = some_of entry (tells.0 (subst Named is named)) in (
              place,
              moved _ new k (Some place) pushed
                  (ap (slice_get (old ++ entry ∷ [])) (same ∙ sym len) ∙ get_last old entry ∙ ap Some e),
            ))
      ];
      only = λ k place got. elim (last_or old entry (Some place) k (moved new _ k (Some place) (sym pushed) got)) [
        | inl before ↦ so_far.only k place before
        | inr here ↦ (name, ap (slice_get names) (here.0 ∙ len) ∙ at, tells.1 (ap is_some here.1))
      ];
    }

-- the numbers of the quantities so far
pub record NumbersSoFar (vertices : List Vertex)
    (quantities : List Quantity) (claims : List Claim) (i : ℕ) (places : List Amounts) : Type 0 where
  pub len : length places ≡ i
  pub sums : (k : ℕ) (q : Quantity) (amounts : Amounts) → slice_get quantities k ≡ Some q →
      slice_get places k ≡ Some amounts → (v : ℕ) → amount_at amounts v ≡ sum_by (amount_in vertices q v) claims
  pub keys : HaveKeysBelow (length vertices) places
  pub few : count_all places ≤ sum_by reach_of (take i quantities) * length claims

pub one_number : (vertices : List Vertex) (quantities : List Quantity)
    (claims : List Claim) (i : ℕ) (old new : List Amounts) (q : Quantity) (amounts : Amounts) →
    NumbersSoFar vertices quantities claims i old → slice_get quantities i ≡ Some q →
    new ≡ old ++ amounts ∷ [] → ((v : ℕ) → amount_at amounts v ≡ sum_by (amount_in vertices q v) claims) →
    HasKeysBelow (length vertices) amounts →
    count_of amounts ≤ reach_of q * length claims → NumbersSoFar vertices quantities claims (i + 1) new
one_number vertices quantities claims i old new q amounts so_far at pushed sums keys few =
    let before = so_far.few in
    let counts = ap count_all pushed ∙ sum_by-append count_of old (amounts ∷ []) in
    let last = sum_by-cons count_of amounts [] in
    let reach = sum_by_more reach_of quantities i q (slice_get_within quantities i q at) ∙ ap (λ (y : Quantity).
    sum_by reach_of (take i quantities) + reach_of y) (get_or_from_slice_get quantities i q q at) in
    let product = ap (λ (r : ℕ). r * length claims) reach in
    let parts = add-mul (sum_by reach_of (take i quantities)) (reach_of q) (length claims) in
    record {
      len = ap length pushed ∙ length-append old (amounts ∷ []) ∙ ap (λ n. n + 1) so_far.len;
      sums = λ k r some of there v. elim (last_or old amounts some k (moved new _ k some (sym pushed) there)) [
        | inl earlier ↦ so_far.sums k r some of earlier v
        | inr here ↦ (
            let both : Some q ≡ Some r = sym at ∙ (ap (slice_get quantities) (sym (here.0 ∙ so_far.len)) ∙ of) in
            let same : q ≡ r = cc in
            ap (λ a. amount_at a v) (sym here.1)
            ∙ sums v ∙ ap (λ (y : Quantity). sum_by (amount_in vertices y v) claims) same)
      ];
      keys = λ k some there. elim (last_or old amounts some k (moved new _ k some (sym pushed) there)) [
        | inl earlier ↦ so_far.keys k some earlier
        | inr here ↦ subst (HasKeysBelow (length vertices)) here.1 keys
      ];
      few = omega (arith, before, counts, last, product, parts, few);
    }

-- the planners of one vertex more
module _ {P : Type 0} (places v : ℕ)
    (old new : List (List P)) (item : List P) (len : length old ≡ v) (pushed : new ≡ old ++ item ∷ []) where
  pub one_wide : AreWide places old → length item ≡ places → AreWide places new
  one_wide wide as_many u x at = elim (last_or old item x u (moved new _ u x (sym pushed) at)) [
    | inl earlier ↦ wide u x earlier
    | inr here ↦ ap length (sym here.1) ∙ as_many
  ]

  pub one_new : (total_of : P → ℕ) (stands_for : P → List Span → Type 0) (vertices : List Vertex)
      (quantities : List Quantity) (totals : List ℕ) → AreNew total_of stands_for vertices quantities old →
      ((k : ℕ) (q : Quantity) → slice_get quantities k ≡ Some q → slice_index_or totals k 0 ≡ total_in vertices q v) →
      ((k : ℕ) (p : P) → slice_get item k ≡ Some p → total_of p ≡ slice_index_or totals k 0) →
      ((k : ℕ) (p : P) → slice_get item k ≡ Some p → stands_for p []) →
      AreNew total_of stands_for vertices quantities new
  one_new total_of stands_for vertices quantities totals is sums of_totals none u k x p q at has of =
      elim (last_or old item x u (moved new _ u x (sym pushed) at)) [
        | inl earlier ↦ is u k x p q earlier has of
        | inr here ↦ (
            let mine : slice_get item k ≡ Some p = ap (λ y. slice_get y k) here.1 ∙ has in (
              of_totals k p mine
                  ∙ sums k q of ∙ ap (λ (w : ℕ). total_in vertices q w) (sym (here.0 ∙ len)),
              none k p mine,
            ))
      ]

-- planners without spans are those of no jobs
pub new_kept : {P : Type 0} (total_of : P → ℕ)
    (stands_for : P → List Span → Type 0) (vertices : List Vertex) (counted : Counted) (items : List (List P)) →
    AreWide (length counted.quantities) items → AreNew total_of stands_for vertices counted.quantities items →
    AreAllKept total_of stands_for vertices [] counted items
new_kept total_of stands_for vertices counted items wide new k q of =
    let lt = slice_get_within counted.quantities k q of in
    record {
      totals = λ v p at. (let (item, there, has) = of_place (length counted.quantities) k lt items wide v p at in
          (new v k item p q there has of).0);
      spans = λ v p at. (let (item, there, has) = of_place (length counted.quantities) k lt items wide v p at in
          (new v k item p q there has of).1);
    }
