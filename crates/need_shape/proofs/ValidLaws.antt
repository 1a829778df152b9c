-- Where request vertices have no fault, the needs that they become are valid.
use Rattle.std.proofs.Common.{◌≡◌, ◌≢◌, ℕ, ◌*◌, ◌≤◌, Bool, true, false, ◌||◌, ◌==◌, List, [], ◌∷◌, ◌++◌, Option, Some}
use Rattle.std.proofs.Common.{None, unwrap_or, if◌then◌else◌, IsTrue, IsFalse, slice_get, true≢false, codes, refl, sym}
use Rattle.std.proofs.Common.{◌∙◌, subst}
use Rattle.std.specs.List.{AllByRecursion}
use Rattle.std.specs.Option.{IsSomeAnd, option_or}
use Rattle.std.proofs.lemmas.Bool.{eq-eqb, both_ways}
use Rattle.std.proofs.Math.Nat.{mul-pos}
use Rattle.flux_defs.specs.declared.vertices.Vertex.{Vertex}
use Rattle.flux_defs.specs.declared.requests.Need.{Need, Vert, Vert', Pool, Spread'}
use Rattle.flux_defs.specs.Graph.{HasKind, IsNode}
use Rattle.flux_defs.specs.Needs.{IsOfNeed, HasNeedKind, IsSpread, AreApartKinds, HasNoSpread, IsValidNeed}
use Rattle.flux_defs.specs.Needs.{AreValidNeeds, scaled, scaled_need}
use Rattle.flux_laws.proofs.Rows.{valid_to_row, no_spread_to_row, some_to_row}
use Rattle.list_laws.proofs.Lists.{all_append}
use Rattle.need_shape.specs.declared.raw.RawNeed.{RawNeed, RawNeed', Row_of-RawNeed, end_of-RawNeed, more_of-RawNeed}
use Rattle.need_shape.specs.declared.raw.ShapeFault.{ShapeFault}
use Rattle.need_shape.specs.declared.raw.ShapeFault.TheVariants.{SameSiblings, NestedSiblings}
use Rattle.need_shape.specs.declared.shaping.Within.{Within}
use Rattle.need_shape.specs.Requests.{is_slot, IsRequest, AreRequestsRow, IsSomeRow, AreRequests}
use Rattle.resource_graph.specs.Tables.{contains_kind}
use Rattle.need_shape.specs.Types.{Types, number_of}
use Rattle.need_shape.specs.Shapes.{in_slot, in_type, is_multiplied, slot_needs, type_need, needs_of, needs_row}
use Rattle.need_shape.specs.Shapes.{needs_in}
use Rattle.need_shape.specs.Faults.{kind_in, name_in, pair_fault, row_fault, pairs_fault, is_some_row, slot_fault}
use Rattle.need_shape.specs.Faults.{type_fault, pool_fault, is_pool_type, fault_of, members_fault, members_fault_in}
use Rattle.need_shape.specs.Faults.{list_fault}
use Rattle.resource_graph.proofs.NestLaws.{contains_is}
use Rattle.list_laws.proofs.Options.{neither}

some_fault : (f : ShapeFault) → Some f ≡ None → ⊥
some_fault f none = let some : Some f ≡ None = none in cc

module _ (vertices : List Vertex) (names : List (List ℕ)) where
  abbrev pub types : Types
  types = record { vertices = vertices; names = names }

  -- a need's vertices are of its type
  of_kind : ((v : ℕ) → IsNode vertices v → HasKind vertices (number_of types (codes "node")) v) →
      (a : Need) (v : ℕ) → IsOfNeed vertices a v → HasKind vertices (kind_in types a) v
  of_kind nodes (Vert' kind count hold m needs) v h = h
  of_kind nodes (Pool kind quantity) v h = h
  of_kind nodes (Spread' count m needs) v h = nodes v h

  same_kind : (v j k : ℕ) → HasKind vertices j v → HasKind vertices k v → j ≡ k
  same_kind v j k one other = by (slice_get vertices v) one other
    where
      by : (o : Option Vertex) → IsSomeAnd o (λ x. x.kind ≡ j) → IsSomeAnd o (λ x. x.kind ≡ k) → j ≡ k
      by None h g = absurd h
      by (Some x) h g = sym h ∙ g

  its_kind : ((v : ℕ) → IsNode vertices v → HasKind vertices (number_of types (codes "node")) v) →
      (a : Need) (k : ℕ) → HasNeedKind vertices a k → kind_in types a ≡ k
  its_kind nodes (Vert' kind count hold m needs) k h = h
  its_kind nodes (Pool kind quantity) k h = h
  its_kind nodes (Spread' count m needs) k (v, node, of) =
      same_kind v (number_of types (codes "node")) k (nodes v node) of

  both_spreads : (a b : Need) → IsSpread a → IsSpread b → kind_in types a ≡ kind_in types b
  both_spreads (Spread' count m needs) (Spread' other n more) h g = refl
  both_spreads (Vert' kind count hold m needs) b h g = absurd h
  both_spreads (Pool kind quantity) b h g = absurd h
  both_spreads (Spread' count m needs) (Vert' kind other hold n more) h g = absurd g
  both_spreads (Spread' count m needs) (Pool kind quantity) h g = absurd g

  -- what is known of a pair with no fault
  clear : (a b : Need) (same upper lower : Bool) →
      (if same then Some (SameSiblings (name_in types a))
      else if upper then Some (NestedSiblings (name_in types a) (name_in types b))
      else if lower then Some (NestedSiblings (name_in types b) (name_in types a)) else None) ≡ None →
      (same ≡ false) × (upper ≡ false) × (lower ≡ false)
  clear a b true upper lower none = absurd (some_fault _ none)
  clear a b false true lower none = absurd (some_fault _ none)
  clear a b false false true none = absurd (some_fault _ none)
  clear a b false false false none = (refl, refl, refl)

  module _ (nodes : (v : ℕ) → IsNode vertices v → HasKind vertices (number_of types (codes "node")) v) where
    apart : (a b : Need) → pair_fault types a b ≡ None → AreApartKinds vertices a b
    apart a b none =
        let c = clear a b (kind_in types a == kind_in types b) (contains_kind vertices
        (kind_in types a) (kind_in types b)) (contains_kind vertices (kind_in types b) (kind_in types a)) none in
        record {
          spreads = λ h g. both_ways (kind_in types a == kind_in types b) c.0 (eq-eqb _ _ (both_spreads a b h g));
          kinds = λ k h g. both_ways (kind_in types a == kind_in types b) c.0
              (eq-eqb _ _ (its_kind nodes a k h ∙ sym (its_kind nodes b k g)));
          nests = λ (v, u, h, g, below). both_ways (contains_kind vertices (kind_in types a) (kind_in types b)) c.1
              ((contains_is vertices (kind_in types a) (kind_in types b)).1
              (v, u, of_kind nodes a v h, of_kind nodes b u g, below));
          nested = λ (u, v, g, h, below). both_ways (contains_kind vertices (kind_in types b) (kind_in types a)) c.2
              ((contains_is vertices (kind_in types b) (kind_in types a)).1
              (u, v, of_kind nodes b u g, of_kind nodes a v h, below));
        }

    row_apart : (a : Need) (rest : List Need) →
        row_fault types a rest ≡ None → AllByRecursion (AreApartKinds vertices a) rest
    row_apart a [] none = tt
    row_apart a (b ∷ rest) none =
        (apart a b (neither _ _ none).0, row_apart a rest (neither (pair_fault types a b) _ none).1)

    -- needs that are each valid, with no fault in a pair
    pub pairs_valid : (needs : List Need) →
        AllByRecursion (IsValidNeed vertices) needs → pairs_fault types needs ≡ None → AreValidNeeds vertices needs
    pairs_valid [] each none = tt
    pairs_valid (a ∷ rest) each none = (
      each.0,
      row_apart a rest (neither _ _ none).0,
      pairs_valid rest each.1 (neither (row_fault types a rest) _ none).1,
    )

    amount_past : (k a : ℕ) → 1 ≤ k → 1 ≤ a → 1 ≤ k * a
    amount_past k a h g = mul-pos h g

    valid_times : (k : ℕ) (need : Need) → 1 ≤ k → IsValidNeed vertices need → IsValidNeed vertices (scaled_need k need)
    valid_times k (Vert' kind count hold m needs) some h = (amount_past k count some h.0, h.1, h.2)
    valid_times k (Pool kind quantity) some h = (amount_past k quantity some h.0, h.1)
    valid_times k (Spread' count m needs) some h = (amount_past k count some h.0, h.1, h.2, h.3)

    all_times : (k : ℕ) (needs : List Need) →
        1 ≤ k → AllByRecursion (IsValidNeed vertices) needs → AllByRecursion (IsValidNeed vertices) (scaled k needs)
    all_times k [] some h = tt
    all_times k (need ∷ rest) some h = (valid_times k need some h.0, all_times k rest some h.1)

    -- a slot: multiplied out, or spread
    slot_valid : (multiplied : Bool) (count : ℕ) (members : Option ShapeFault) (needs : List Need) → 1 ≤ count →
        slot_fault types multiplied count members needs ≡ None →
        (members ≡ None → AllByRecursion (IsValidNeed vertices) needs) →
        AllByRecursion HasNoSpread needs →
        (needs ≢ []) → AllByRecursion (IsValidNeed vertices) (slot_needs multiplied count needs)
    slot_valid true count members needs least none each bare some =
        all_times count needs least (each (neither _ _ none).0)
    slot_valid false count members [] least none each bare some = absurd (some refl)
    slot_valid false count members (need ∷ rest) least none each bare some =
        let valid = pairs_valid (need ∷ rest) (each (neither _ _ none).0) (neither members _ none).1 in (
          (
            least,
            some_to_row need rest,
            no_spread_to_row (need ∷ rest) bare,
            valid_to_row vertices (need ∷ rest) valid,
          ),
          tt,
        )

    -- a type: a pool, or vertices
    type_valid : (within : Within) (kind : List ℕ) (count : ℕ)
        (exclusive : Option Bool) (some : Bool) (members : Option ShapeFault) (needs : List Need) → 1 ≤ count →
        type_fault types kind exclusive some members needs ≡ None →
        (members ≡ None → AllByRecursion (IsValidNeed vertices) needs) →
        IsValidNeed vertices (type_need types within kind count exclusive needs)
    type_valid within kind count exclusive some members needs least none each =
        let list : option_or members (pairs_fault types needs) ≡ None =
        (neither (if is_pool_type types kind then pool_fault kind exclusive some else None) _ none).1 in
        let valid = pairs_valid needs (each (neither members _ list).0) (neither members _ list).1 in
        by (is_pool_type types kind) refl valid
      where
        by : (b : Bool) → is_pool_type types kind ≡ b → AreValidNeeds vertices needs →
            IsValidNeed vertices (if b then Pool (number_of types kind) count
            else Vert (number_of types kind) count (unwrap_or exclusive within.slot) needs)
        by true pool valid = (least, pool)
        by false pool valid = (least, pool, valid_to_row vertices needs valid)

    -- within a slot there is no spread, and each request vertex becomes one need
    abbrev IsBare : List Need → Type 0
    IsBare needs = AllByRecursion HasNoSpread needs × (needs ≢ [])

    type_bare : (within : Within) (kind : List ℕ) (count : ℕ) (exclusive : Option Bool) (needs : List Need) →
        AllByRecursion HasNoSpread needs →
        HasNoSpread (type_need types within kind count exclusive needs)
    type_bare within kind count exclusive needs bare = by (is_pool_type types kind)
      where
        by : (b : Bool) → HasNoSpread (if b then Pool (number_of types kind) count
            else Vert (number_of types kind) count (unwrap_or exclusive within.slot) needs)
        by true = tt
        by false = no_spread_to_row needs bare

    never_empty : {X : Type 0} (x : X) (xs : List X) → x ∷ xs ≡ [] → ⊥
    never_empty x xs same = cc

    append_some : {X : Type 0} (xs ys : List X) → (xs ≢ []) → xs ++ ys ≢ []
    append_some [] ys some same = some refl
    append_some (x ∷ xs) ys some same = never_empty x (xs ++ ys) same

    no_slot : (is inside : Bool) (A : Type 0) → inside ≡ true → (IsTrue is → IsFalse inside × A) → is ≡ false
    no_slot true inside A within asks = absurd (true≢false (sym within ∙ (asks refl).0))
    no_slot false inside A within asks = refl

    mutual
      bare_of : (within : Within) (raw : RawNeed) →
          within.slot ≡ true → IsRequest within.slot raw → IsBare (needs_of types within raw)
      bare_of within (RawNeed' kind count exclusive m row) slot request =
          let none : is_slot kind ≡ false = no_slot (is_slot kind) within.slot _ slot request.2 in
          let inner : AreRequestsRow within.slot row =
          subst (λ (b : Bool). AreRequestsRow (b || within.slot) row) none request.3 in
          subst (λ (b : Bool).
          IsBare (if b then slot_needs (is_multiplied types within row) count (needs_row types (in_slot within) row)
          else type_need types within kind count exclusive
          (needs_row types (in_type types within kind) row) ∷ [])) (sym none) (
            (
              type_bare within kind count exclusive (needs_row types (in_type types within kind) row)
                  (bare_row (in_type types within kind) row slot inner),
              tt,
            ),
            never_empty _ [],
          )

      bare_row : {m : _} (within : Within) (row : Row_of-RawNeed m) →
          within.slot ≡ true → AreRequestsRow within.slot row → AllByRecursion HasNoSpread (needs_row types within row)
      bare_row within end_of-RawNeed slot requests = tt
      bare_row within (more_of-RawNeed raw rest) slot requests =
          all_append HasNoSpread (needs_of types within raw) (needs_row types within rest)
          (bare_of within raw slot requests.0).0 (bare_row within rest slot requests.1)

    row_some : {m : _} (within : Within) (row : Row_of-RawNeed m) →
        IsSomeRow row → within.slot ≡ true → AreRequestsRow within.slot row → needs_row types within row ≢ []
    row_some within end_of-RawNeed some slot requests = absurd some
    row_some within (more_of-RawNeed raw rest) some slot requests =
        append_some (needs_of types within raw) (needs_row types within rest) (bare_of within raw slot requests.0).1

    one : {X : Type 0} (P : X → Type 0) (x : X) → P x → AllByRecursion P (x ∷ [])
    one P x h = (h, tt)

    of_slot : {m : _} (within : Within) (kind : List ℕ)
        (count : ℕ) (exclusive : Option Bool) (row : Row_of-RawNeed m) (slot : Bool) → is_slot kind ≡ slot → 1 ≤ count →
        (IsTrue (is_slot kind) → IsFalse within.slot × IsSomeRow row) →
        AreRequestsRow (is_slot kind || within.slot) row →
        (if slot then slot_fault types (is_multiplied types within row) count
        (members_fault types (in_slot within) row) (needs_row types (in_slot within) row)
        else type_fault types kind exclusive (is_some_row row) (members_fault types (in_type types within kind) row)
        (needs_row types (in_type types within kind) row)) ≡ None →
        (AreRequestsRow true row → members_fault types (in_slot within) row ≡ None →
        AllByRecursion (IsValidNeed vertices) (needs_row types (in_slot within) row)) →
        (AreRequestsRow within.slot row → members_fault types (in_type types within kind) row ≡ None →
        AllByRecursion (IsValidNeed vertices) (needs_row types (in_type types within kind) row)) →
        AllByRecursion (IsValidNeed vertices)
        (if slot then slot_needs (is_multiplied types within row) count (needs_row types (in_slot within) row)
        else type_need types within kind count exclusive (needs_row types (in_type types within kind) row) ∷ [])
    of_slot within kind count exclusive row true slot least asks requests none in_slots in_types =
        let inner : AreRequestsRow true row =
        subst (λ (b : Bool). AreRequestsRow (b || within.slot) row) slot requests in
        slot_valid (is_multiplied types within row) count (members_fault types (in_slot within) row)
        (needs_row types (in_slot within) row) least none (in_slots inner)
        (bare_row (in_slot within) row refl inner) (row_some (in_slot within) row (asks slot).1 refl inner)
    of_slot within kind count exclusive row false slot least asks requests none in_slots in_types =
        let inner : AreRequestsRow within.slot row =
        subst (λ (b : Bool). AreRequestsRow (b || within.slot) row) slot requests in
        one (IsValidNeed vertices)
        (type_need types within kind count exclusive (needs_row types (in_type types within kind) row))
        (type_valid within kind count exclusive (is_some_row row) (members_fault types (in_type types within kind) row)
        (needs_row types (in_type types within kind) row) least none (in_types inner))

    mutual
      valid_of : (within : Within) (raw : RawNeed) → IsRequest within.slot raw →
          fault_of types within raw ≡ None → AllByRecursion (IsValidNeed vertices) (needs_of types within raw)
      valid_of within (RawNeed' kind count exclusive m row) request none =
          of_slot within kind count exclusive row (is_slot kind) refl request.0 request.2 request.3 none
          (λ requests fault. valid_row (in_slot within) row requests fault)
          (λ requests fault. valid_row (in_type types within kind) row requests fault)

      valid_row : {m : _} (within : Within) (row : Row_of-RawNeed m) → AreRequestsRow within.slot row →
          members_fault types within row ≡ None → AllByRecursion (IsValidNeed vertices) (needs_row types within row)
      valid_row within end_of-RawNeed requests none = tt
      valid_row within (more_of-RawNeed raw rest) requests none =
          all_append (IsValidNeed vertices) (needs_of types within raw)
          (needs_row types within rest) (valid_of within raw requests.0 (neither _ _ none).0)
          (valid_row within rest requests.1 (neither (fault_of types within raw) _ none).1)

    valid_members : (within : Within) (request : List RawNeed) → AreRequests within.slot request → members_fault_in
        types within request ≡ None → AllByRecursion (IsValidNeed vertices) (needs_in types within request)
    valid_members within [] requests none = tt
    valid_members within (raw ∷ rest) requests none =
        all_append (IsValidNeed vertices) (needs_of types within raw)
        (needs_in types within rest) (valid_of within raw requests.0 (neither _ _ none).0)
        (valid_members within rest requests.1 (neither (fault_of types within raw) _ none).1)

    -- what a list of request vertices with no fault becomes is valid
    pub valid_list : (within : Within) (request : List RawNeed) → AreRequests within.slot request →
        list_fault types within request ≡ None → AreValidNeeds vertices (needs_in types within request)
    valid_list within request requests none =
        pairs_valid (needs_in types within request) (valid_members within request requests (neither _ _ none).0)
        (neither (members_fault_in types within request) _ none).1
