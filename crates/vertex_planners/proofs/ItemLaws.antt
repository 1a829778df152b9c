-- The planners of one vertex in its group, changed place by place.
use Rattle.std.proofs.Common.{◌≡◌, ◌≢◌, ℕ, zero, suc, ◌+◌, ◌*◌, ◌<◌, ◌≤◌, List, [], length, take, Some, slice_get}
use Rattle.std.proofs.Common.{slice_set, slice_index_or, inl, inr}
use Rattle.std.proofs.Common.{refl, sym, ◌∙◌, ap, subst, arith}
use Rattle.std.proofs.Math.Nat.{add-mul, mul-le-mul_right}
use Rattle.std.proofs.lemmas.List.Sums.{sum_by_more, sum_by-take-le}
use Rattle.std.proofs.lemmas.Option.{get_or_from_slice_get, slice_get_within, same_Some}
use Rattle.std.proofs.lemmas.Bool.{cases_lt}
use Rattle.list_laws.proofs.Lists.{get_some, get_set, get_beside, set_length}
use Rattle.planner_points.specs.declared.spans.Span.{Span}
use Rattle.vertex_planners.specs.Groups.{sixteenths, AreFresh}
use Rattle.vertex_planners.specs.Kept.{AtRow, AtSlot}
use Rattle.vertex_planners.specs.Rows.{some_one, count_some}
use Rattle.vertex_planners.proofs.GroupLaws.{lists_same, sixteenths_get, sixteenths_len, place_in, places_are}

-- the planners before a place are changed by their numbers, and those from it on are as before
pub record ChangedTo {P : Type 0} (Q : ℕ → P → P → Type 0) (row : List ℕ) (old now : List P) (i : ℕ) : Type 0 where
  pub len : length now ≡ length old
  pub done : (k n : ℕ) (p r : P) → k < i →
      slice_get row k ≡ Some n → slice_get old k ≡ Some p → slice_get now k ≡ Some r → Q n p r
  pub same : (k : ℕ) → i ≤ k → slice_get now k ≡ slice_get old k

module _ {P : Type 0} (Q : ℕ → P → P → Type 0) (row : List ℕ) (old : List P) where
  pub none_changed : ChangedTo Q row old old 0
  none_changed = record { len = refl; done = λ k n p r lt a b c. absurd (omega (arith, lt)); same = λ k le. refl }

  module _ (now : List P) (i : ℕ) (so_far : ChangedTo Q row old now i) where
    -- at the place stands what stood there before
    pub still_there : i < length row → length row ≡ length old →
        (p : P) × (slice_get now i ≡ Some p) × (slice_get old i ≡ Some p)
    still_there lt places =
        let len = so_far.len in
        let (p, is) = get_some now i (omega (arith, lt, places, len)) in
        (p, is, sym (so_far.same i (omega arith)) ∙ is)

    pub one_more : (next : List P) (n : ℕ) → slice_get row i ≡ Some n → length next ≡ length now →
        ((p r : P) → slice_get now i ≡ Some p → slice_get next i ≡ Some r → Q n p r) →
        ((k : ℕ) → k ≢ i → slice_get next k ≡ slice_get now k) → ChangedTo Q row old next (i + 1)
    one_more next n number len here others = record {
      len = len ∙ so_far.len;
      done = λ k m p r lt a b c. elim (cases_lt k i) [
        | inl earlier ↦ so_far.done k m p r earlier a b (sym (others k (λ e. omega (arith, e, earlier))) ∙ c)
        | inr late ↦ (let place : i ≡ k = omega (arith, lt, late) in
            let numbers : Some n ≡ Some m = sym number ∙ (ap (slice_get row) place ∙ a) in
            let same_number : n ≡ m = cc in
            subst (λ (z : ℕ). Q z p r) same_number
            (here p r (so_far.same i (omega arith) ∙ (ap (slice_get old) place ∙ b)) (ap (slice_get next) place ∙ c)))
      ];
      same = λ k le. others k (λ e. omega (arith, e, le)) ∙ so_far.same k (omega (arith, le));
    }

    pub all_changed : length row ≤ i → AtRow Q row old now
    all_changed all = record {
      len = so_far.len;
      each = λ k n p r a b c.
          let lt = slice_get_within row k n a in so_far.done k n p r (omega (arith, lt, all)) a b c;
    }

-- the planners of one vertex of a group before a place are changed by their numbers, and all others are as before
pub record ChangedIn {P : Type 0}
    (Q : ℕ → P → P → Type 0) (row : List ℕ) (slot : ℕ) (old now : List P) (i : ℕ) : Type 0 where
  pub here : ChangedTo Q row (sixteenths old slot) (sixteenths now slot) i
  pub others : (other : ℕ) → other < 16 → other ≢ slot → sixteenths now other ≡ sixteenths old other

-- a list of which one item is another
module _ {X : Type 0} (old new : List X) (v : ℕ) (y : X) (is : new ≡ slice_set old v y) where
  -- what stands there is that one
  pub changed_here : (z : X) → v < length old → slice_get new v ≡ Some z → y ≡ z
  changed_here z lt at = same_Some y z (sym (ap (λ l. slice_get l v) is ∙ get_set old v y lt) ∙ at)

  pub changed_beside : (u : ℕ) → u ≢ v → slice_get new u ≡ slice_get old u
  changed_beside u apart = ap (λ l. slice_get l u) is ∙ get_beside old v u y apart

-- another planner at one index of a group leaves those of the other vertices, and the vertex's own at other places
module _ {P : Type 0} (slot i index : ℕ) (now next : List P) (is : index ≡ slot + 16 * i)
    (others : (k : ℕ) → k ≢ index → slice_get next k ≡ slice_get now k) where
  pub other_places : (k : ℕ) → k ≢ i → slice_get (sixteenths next slot) k ≡ slice_get (sixteenths now slot) k
  other_places k apart =
      sixteenths_get next slot k ∙ others (slot + 16 * k) (λ e. apart (omega (arith, e, is)))
      ∙ sym (sixteenths_get now slot k)

  pub other_slots : slot < 16 → (other : ℕ) → other < 16 → other ≢ slot → sixteenths next other ≡ sixteenths now other
  other_slots lt other less apart =
      lists_same (sixteenths next other) (sixteenths now other) (λ k. sixteenths_get next other k
      ∙ others (other + 16 * k) (λ e. apart (omega (arith, e, is, lt, less))) ∙ sym (sixteenths_get now other k))

-- the planner at an index of a group is that of the vertex at the place
pub at_index : {P : Type 0} (ps : List P) (slot i index : ℕ) →
    index ≡ slot + 16 * i → slice_get ps index ≡ slice_get (sixteenths ps slot) i
at_index ps slot i index is = ap (slice_get ps) is ∙ sym (sixteenths_get ps slot i)

module _ {P : Type 0} (Q : ℕ → P → P → Type 0) (row : List ℕ) (slot : ℕ) (old : List P) where
  pub none_in : ChangedIn Q row slot old old 0
  none_in = record { here = none_changed Q row (sixteenths old slot); others = λ other lt apart. refl }

  module _ (now : List P) (i : ℕ) (so_far : ChangedIn Q row slot old now i) where
    -- at the place stands what stood there before
    pub still_in : i < length row → length row ≡ length (sixteenths old slot) →
        (p : P) × (slice_get (sixteenths now slot) i ≡ Some p) × (slice_get (sixteenths old slot) i ≡ Some p)
    still_in = still_there Q row (sixteenths old slot) (sixteenths now slot) i so_far.here

    pub one_in : (next : List P) (n index : ℕ) → slot < 16 → index ≡ slot + 16 * i →
        slice_get row i ≡ Some n → length next ≡ length now →
        ((p r : P) → slice_get now index ≡ Some p → slice_get next index ≡ Some r → Q n p r) →
        ((k : ℕ) → k ≢ index → slice_get next k ≡ slice_get now k) → ChangedIn Q row slot old next (i + 1)
    one_in next n index lt is number len here others = record {
      here = one_more Q row (sixteenths old slot) (sixteenths now slot) i so_far.here (sixteenths next slot) n number
          (sixteenths_len next now slot len)
          (λ p r a b. here p r (at_index now slot i index is ∙ a) (at_index next slot i index is ∙ b))
          (other_places slot i index now next is others);
      others = λ other less apart.
          other_slots slot i index now next is others lt other less apart ∙ so_far.others other less apart;
    }

    pub all_in : length row ≤ i → AtSlot Q row slot old now
    all_in all = record {
      here = all_changed Q row (sixteenths old slot) (sixteenths now slot) i so_far.here all;
      others = so_far.others;
    }

-- before a place the planners of one vertex of a group are without spans, of these totals, and all others are as before
pub record FreshIn {P : Type 0} (total_of : P → ℕ) (stands_for : P → List Span → Type 0)
    (totals : List ℕ) (slot : ℕ) (old now : List P) (i : ℕ) : Type 0 where
  pub len : length now ≡ length old
  pub total : (k : ℕ) (p : P) →
      k < i → slice_get (sixteenths now slot) k ≡ Some p → total_of p ≡ slice_index_or totals k 0
  pub spans : (k : ℕ) (p : P) → k < i → slice_get (sixteenths now slot) k ≡ Some p → stands_for p []
  pub others : (other : ℕ) → other < 16 → other ≢ slot → sixteenths now other ≡ sixteenths old other

module _ {P : Type 0} (total_of : P → ℕ) (stands_for : P → List Span → Type 0) (totals : List ℕ)
    (slot : ℕ) (old : List P) (slot_in : slot < 16) where
  pub none_fresh : FreshIn total_of stands_for totals slot old old 0
  none_fresh = record {
    len = refl;
    total = λ k p lt at. absurd (omega (arith, lt));
    spans = λ k p lt at. absurd (omega (arith, lt));
    others = λ other lt apart. refl;
  }

  module _ (now : List P) (i : ℕ) (so_far : FreshIn total_of stands_for totals slot old now i) where
    -- the place is one of the group
    pub place_there : i < length totals → length old ≡ 16 * length totals → i < length (sixteenths now slot)
    place_there lt all = let len = so_far.len in place_in now slot i (omega (arith, lt, all, len, slot_in))

    pub one_fresh : (next : List P) (p : P) (index : ℕ) → index ≡ slot + 16 * i → index < length now →
        next ≡ slice_set now index p → total_of p ≡ slice_index_or totals i 0 → stands_for p [] →
        FreshIn total_of stands_for totals slot old next (i + 1)
    one_fresh next p index is within set total spans = record {
      len = ap length set ∙ set_length now index p ∙ so_far.len;
      total = λ k q lt at. elim (cases_lt k i) [
        | inl earlier ↦ so_far.total k q earlier (sym (beside k (λ e. omega (arith, e, earlier))) ∙ at)
        | inr late ↦ (let place : k ≡ i = omega (arith, lt, late) in
            subst (λ (r : P). total_of r ≡ slice_index_or totals k 0) (that k q place at)
            (total ∙ ap (λ (j : ℕ). slice_index_or totals j 0) (sym place)))
      ];
      spans = λ k q lt at. elim (cases_lt k i) [
        | inl earlier ↦ so_far.spans k q earlier (sym (beside k (λ e. omega (arith, e, earlier))) ∙ at)
        | inr late ↦ (let place : k ≡ i = omega (arith, lt, late) in
            subst (λ (r : P). stands_for r []) (that k q place at) spans)
      ];
      others = λ other less apart.
          other_slots slot i index now next is elsewhere slot_in other less apart ∙ so_far.others other less apart;
    }
      where
        elsewhere : (k : ℕ) → k ≢ index → slice_get next k ≡ slice_get now k
        elsewhere = changed_beside now next index p set

        beside : (k : ℕ) → k ≢ i → slice_get (sixteenths next slot) k ≡ slice_get (sixteenths now slot) k
        beside = other_places slot i index now next is elsewhere

        that : (k : ℕ) (q : P) → k ≡ i → slice_get (sixteenths next slot) k ≡ Some q → p ≡ q
        that k q place at =
            changed_here now next index p set q within
            (at_index next slot i index is ∙ ap (slice_get (sixteenths next slot)) (sym place) ∙ at)

    pub all_fresh : length totals ≤ i → length old ≡ 16 * length totals →
        AreFresh total_of stands_for totals (sixteenths now slot)
    all_fresh all whole = record {
      len = len_is;
      total = λ k p at. so_far.total k p (within k p at) at;
      spans = λ k p at. so_far.spans k p (within k p at) at;
    }
      where
        len_is : length (sixteenths now slot) ≡ length totals
        len_is = places_are now slot (length totals) slot_in (so_far.len ∙ whole)

        within : (k : ℕ) (p : P) → slice_get (sixteenths now slot) k ≡ Some p → k < i
        within k p at =
            let lt = slice_get_within (sixteenths now slot) k p at in
            let len = len_is in
            omega (arith, lt, all, len)

-- the steps so far are within those of all planners
pub steps_within : (row : List ℕ) (i most start after : ℕ) →
    after ≤ start + count_some (take i row) * most → after ≤ start + count_some row * most
steps_within row i most start after so_far =
    let le = mul-le-mul_right most (sum_by-take-le some_one row i) in omega (arith, so_far, le)

-- the steps so far: those of the planners whose numbers aren't 0
module _ (row : List ℕ) (i n most start before after cost : ℕ) (number : slice_get row i ≡ Some n) (few : cost ≤ most)
    (none : n ≡ 0 → after ≤ before)
    (one : after ≤ before + cost) (so_far : before ≤ start + count_some (take i row) * most) where
  step_of : (m : ℕ) → (m ≡ 0 → after ≤ before) → after ≤ before + some_one m * most
  step_of zero h = let same = h refl in omega (arith, same)
  step_of (suc m) h = let e : some_one (suc m) * most ≡ most = omega arith in omega (arith, one, few, e)

  pub steps_more : after ≤ start + count_some (take (i + 1) row) * most
  steps_more =
      let step = step_of n none in
      let more = ap (λ (k : ℕ). k * most) (sum_by_more some_one row i n (slice_get_within row i n number)
      ∙ ap (λ (y : ℕ). count_some (take i row) + some_one y) (get_or_from_slice_get row i n n number)) in
      let parts = add-mul (count_some (take i row)) (some_one n) most in
      omega (arith, step, more, parts, so_far)

  pub steps_all : after ≤ start + count_some row * most
  steps_all = steps_within row (i + 1) most start after steps_more
