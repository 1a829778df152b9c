-- The planners of one vertex in its group, and the items of all vertices in the groups.
use Rattle.std.proofs.Common.{◌≡◌, ◌≢◌, ℕ, zero, suc, ◌+◌, ◌-◌, ◌*◌, ◌/◌, ◌%◌, ◌<◌, ◌≤◌, List, [], ◌∷◌, ◌++◌, length}
use Rattle.std.proofs.Common.{Some, None, slice_get, slice_set, unwrap_or, length-append, ◌⊎◌, inl, inr}
use Rattle.std.proofs.Common.{refl, sym, ◌∙◌, ap, subst, arith}
use Rattle.std.proofs.lemmas.Bool.Decides.{eqb_tells}
use Rattle.std.proofs.lemmas.Bool.{cases_lt}
use Rattle.std.proofs.lemmas.Option.{slice_get_within, same_Some}
use Rattle.flux_defs.specs.Digits.{dig}
use Rattle.flux_defs.proofs.DigitLaws.{dig_mono}
use Rattle.list_laws.proofs.Lists.{get_some, get_set, get_beside, set_length, get_old, get_last}
use Rattle.vertex_planners.specs.Groups.{sixteenths, item_at, items_from}
use Rattle.vertex_planners.specs.Kept.{AtRow, AtSlot}

-- lists that have the same items at the same places are the same
pub lists_same : {X : Type 0} (xs ys : List X) → ((k : ℕ) → slice_get xs k ≡ slice_get ys k) → xs ≡ ys
lists_same [] [] same = refl
lists_same [] (y ∷ ys) same = absurd (let e = same 0 in cc)
lists_same (x ∷ xs) [] same = absurd (let e = same 0 in cc)
lists_same (x ∷ xs) (y ∷ ys) same =
    ap (λ z. z ∷ xs) (same_Some x y (same 0)) ∙ ap (λ zs. y ∷ zs) (lists_same xs ys (λ k. same (suc k)))

module _ {P : Type 0} where
  -- where the planner of a place stands
  pub sixteenths_get : (ps : List P) (slot k : ℕ) → slice_get (sixteenths ps slot) k ≡ slice_get ps (slot + 16 * k)
  sixteenths_get [] slot k = refl
  sixteenths_get (p ∷ ps) zero zero = let e : 0 ≡ 0 + 16 * 0 = omega arith in ap (slice_get (p ∷ ps)) e
  sixteenths_get (p ∷ ps) zero (suc k) =
      let e : suc (15 + 16 * k) ≡ 0 + 16 * suc k = omega arith in
      sixteenths_get ps 15 k ∙ ap (slice_get (p ∷ ps)) e
  sixteenths_get (p ∷ ps) (suc slot) k =
      let e : suc (slot + 16 * k) ≡ suc slot + 16 * k = omega arith in
      sixteenths_get ps slot k ∙ ap (slice_get (p ∷ ps)) e

  -- lists of one length have as many each
  pub sixteenths_len : (ps rs : List P) (slot : ℕ) →
      length ps ≡ length rs → length (sixteenths ps slot) ≡ length (sixteenths rs slot)
  sixteenths_len [] [] slot len = refl
  sixteenths_len [] (r ∷ rs) slot len = absurd (omega (arith, len))
  sixteenths_len (p ∷ ps) [] slot len = absurd (omega (arith, len))
  sixteenths_len (p ∷ ps) (r ∷ rs) zero len =
      let rest = sixteenths_len ps rs 15 (omega (arith, len)) in omega (arith, rest)
  sixteenths_len (p ∷ ps) (r ∷ rs) (suc slot) len = sixteenths_len ps rs slot (omega (arith, len))

  -- a place of the vertex is one of the group
  pub index_in : (ps : List P) (slot k : ℕ) → k < length (sixteenths ps slot) → slot + 16 * k < length ps
  index_in ps slot k lt =
      let (p, at) = get_some (sixteenths ps slot) k lt in
      slice_get_within ps (slot + 16 * k) p (sym (sixteenths_get ps slot k) ∙ at)

  pub place_in : (ps : List P) (slot k : ℕ) → slot + 16 * k < length ps → k < length (sixteenths ps slot)
  place_in ps slot k lt =
      let (p, at) = get_some ps (slot + 16 * k) lt in
      slice_get_within (sixteenths ps slot) k p (sixteenths_get ps slot k ∙ at)

  -- where each vertex has so many places
  pub places_are : (ps : List P) (slot places : ℕ) →
      slot < 16 → length ps ≡ 16 * places → length (sixteenths ps slot) ≡ places
  places_are ps slot places lt len = elim (cases_lt (length (sixteenths ps slot)) places) [
    | inl less ↦ absurd (let within = place_in ps slot (length (sixteenths ps slot)) (omega (arith, less, lt, len)) in
        omega (arith, within))
    | inr rest ↦ (elim (cases_lt places (length (sixteenths ps slot))) [
      | inl more ↦ absurd (let within = index_in ps slot places more in omega (arith, within, len))
      | inr most ↦ omega (arith, rest, most)
    ])
  ]

  module _ (groups : List (List P)) where
    pub items_len : (v n : ℕ) → length (items_from groups v n) ≡ n
    items_len v zero = refl
    items_len v (suc n) = let rest = items_len (v + 1) n in omega (arith, rest)

    pub items_get : (v n i : ℕ) → i < n → slice_get (items_from groups v n) i ≡ Some (item_at groups (v + i))
    items_get v zero i lt = absurd (omega (arith, lt))
    items_get v (suc n) zero lt = let e : v ≡ v + 0 = omega arith in ap (λ (u : ℕ). Some (item_at groups u)) e
    items_get v (suc n) (suc i) lt =
        let e : v + 1 + i ≡ v + suc i = omega arith in
        items_get (v + 1) n i (omega (arith, lt)) ∙ ap (λ (u : ℕ). Some (item_at groups u)) e

    pub items_past : (v n i : ℕ) → n ≤ i → slice_get (items_from groups v n) i ≡ None
    items_past v zero i le = refl
    items_past v (suc n) zero le = absurd (omega (arith, le))
    items_past v (suc n) (suc i) le = items_past (v + 1) n i (omega (arith, le))

    items_last : (v n : ℕ) → items_from groups v (suc n) ≡ items_from groups v n ++ item_at groups (v + n) ∷ []
    items_last v zero = let e : v ≡ v + 0 = omega arith in ap (λ (u : ℕ). item_at groups u ∷ []) e
    items_last v (suc n) =
        let e : v + 1 + n ≡ v + suc n = omega arith in
        ap (λ l. item_at groups v ∷ l) (items_last (v + 1) n)
        ∙ ap (λ (u : ℕ). (item_at groups v ∷ items_from groups (v + 1) n) ++ item_at groups u ∷ []) e

    -- the item of a vertex, among those of so many
    pub item_got : (n v : ℕ) → v < n → slice_get (items_from groups 0 n) v ≡ Some (item_at groups v)
    item_got n v lt = let e : 0 + v ≡ v = omega arith in
        items_get 0 n v lt ∙ ap (λ (u : ℕ). Some (item_at groups u)) e

    pub item_is : (n v : ℕ) (x : List P) → slice_get (items_from groups 0 n) v ≡ Some x → x ≡ item_at groups v
    item_is n v x at =
        let lt = slice_get_within (items_from groups 0 n) v x at in
        let len = items_len 0 n in
        same_Some x (item_at groups v) (sym at ∙ item_got n v (omega (arith, lt, len)))

    -- it is part of its group
    pub item_in : (v : ℕ) (group : List P) →
        slice_get groups (v / 16) ≡ Some group → item_at groups v ≡ sixteenths group (v % 16)
    item_in v group at = ap (λ o. sixteenths (unwrap_or o []) (v % 16)) at

  items_same : (groups others : List (List P)) (v n : ℕ) →
      ((i : ℕ) → i < n → item_at groups (v + i) ≡ item_at others (v + i)) →
      items_from groups v n ≡ items_from others v n
  items_same groups others v zero same = refl
  items_same groups others v (suc n) same =
      let e : v ≡ v + 0 = omega arith in
      let here = ap (item_at groups) e ∙ same 0 (omega arith) ∙ sym (ap (item_at others) e) in
      let rest = items_same groups others (v + 1) n (λ i lt. (let f : v + 1 + i ≡ v + suc i = omega arith in
      ap (item_at groups) f ∙ same (suc i) (omega (arith, lt)) ∙ sym (ap (item_at others) f))) in
      ap (λ x. x ∷ items_from groups (v + 1) n) here ∙ ap (λ l. item_at others v ∷ l) rest

  -- one vertex more, where the items of those before stay
  pub one_item_more : (old new : List (List P)) (n more : ℕ) (item : List P) → more ≡ n + 1 →
      ((u : ℕ) → u < n → item_at new u ≡ item_at old u) → item_at new n ≡ item →
      items_from new 0 more ≡ items_from old 0 n ++ item ∷ []
  one_item_more old new n more item is same last =
      let e : more ≡ suc n = omega (arith, is) in
      let f : 0 + n ≡ n = omega arith in
      ap (items_from new 0) e ∙ items_last new 0 n
      ∙ ap (λ x. items_from new 0 n ++ x ∷ []) (ap (item_at new) f ∙ last)
      ∙ ap (λ l. l ++ item ∷ []) (items_same new old 0 n (λ i lt. (let g : 0 + i ≡ i = omega arith in
      ap (item_at new) g ∙ same i lt ∙ sym (ap (item_at old) g))))

  -- one group more, of which the first vertex is counted
  pub one_group_more : (old new : List (List P)) (n more : ℕ) (group : List P) → more ≡ n + 1 →
      n ≡ 16 * length old → new ≡ old ++ group ∷ [] →
      items_from new 0 more ≡ items_from old 0 n ++ sixteenths group 0 ∷ []
  one_group_more old new n more group is full next =
      one_item_more old new n more (sixteenths group 0) is same last
    where
      same : (u : ℕ) → u < n → item_at new u ≡ item_at old u
      same u lt =
          let (x, at) = get_some old (u / 16) (omega (arith, lt, full)) in
          ap (λ gs. item_at gs u) next
          ∙ item_in (old ++ group ∷ []) u x (get_old old group x (u / 16) at) ∙ sym (item_in old u x at)

      last : item_at new n ≡ sixteenths group 0
      last =
          let e : n / 16 ≡ length old = omega (arith, full) in
          let f : n % 16 ≡ 0 = omega (arith, full) in
          ap (λ gs. item_at gs n) next
          ∙ item_in (old ++ group ∷ []) n group (ap (slice_get (old ++ group ∷ [])) e ∙ get_last old group)
          ∙ ap (sixteenths group) f

  -- the group of one vertex is changed, and in it the planners of no other vertex
  module _ (old new : List (List P)) (v : ℕ) (x y : List P) (was : slice_get old (v / 16) ≡ Some x)
      (is : new ≡ slice_set old (v / 16) y) where
    now_there : slice_get new (v / 16) ≡ Some y
    now_there = ap (λ l. slice_get l (v / 16)) is ∙ get_set old (v / 16) y (slice_get_within old (v / 16) x was)

    -- its planners
    pub item_changed : item_at new v ≡ sixteenths y (v % 16)
    item_changed = item_in new v y now_there

    module _ (others : (other : ℕ) → other < 16 → other ≢ v % 16 → sixteenths y other ≡ sixteenths x other) where
      pub item_beside : (u : ℕ) → u ≢ v → item_at new u ≡ item_at old u
      item_beside u apart = elim (eqb_tells (u / 16) (v / 16)) [
        | inl same ↦ (
            let place : u / 16 ≡ v / 16 = same.1 in
            item_in new u y (ap (slice_get new) place ∙ now_there)
            ∙ others (u % 16) (omega arith) (λ e. apart (omega (arith, e, place)))
            ∙ sym (item_in old u x (ap (slice_get old) place ∙ was)))
        | inr differ ↦ ap (λ o. sixteenths (unwrap_or o []) (u % 16))
            (ap (λ l. slice_get l (u / 16)) is ∙ get_beside old (v / 16) (u / 16) y differ.1)
      ]

      pub items_beside : (n u : ℕ) → u ≢ v → slice_get (items_from new 0 n) u ≡ slice_get (items_from old 0 n) u
      items_beside n u apart = elim (cases_lt u n) [
        | inl within ↦ item_got new n u within ∙ ap (λ z. Some z) (item_beside u apart) ∙ sym (item_got old n u within)
        | inr past ↦ items_past new 0 n u past ∙ sym (items_past old 0 n u past)
      ]

  -- all groups, of which the last one has room for so many vertices more
  module _ (groups : List (List P)) (spare : ℕ) where
    count_is : length (items_from groups 0 (16 * length groups - spare)) ≡ 16 * length groups - spare
    count_is = items_len groups 0 (16 * length groups - spare)

    -- there are no fewer vertices than groups
    pub few_groups : spare < 16 →
        dig (length groups + 1) ≤ dig (length (items_from groups 0 (16 * length groups - spare)) + 1)
    few_groups few =
        let count = count_is in
        dig_mono (length groups + 1) (length (items_from groups 0 (16 * length groups - spare)) + 1)
        (omega (arith, few, count))

    -- each vertex has a group
    pub group_there : (v : ℕ) → v < length (items_from groups 0 (16 * length groups - spare)) → v / 16 < length groups
    group_there v lt = let count = count_is in omega (arith, lt, count)

    pub item_there : (v : ℕ) (group : List P) → v < length (items_from groups 0 (16 * length groups - spare)) →
        slice_get groups (v / 16) ≡ Some group →
        slice_get (items_from groups 0 (16 * length groups - spare)) v ≡ Some (sixteenths group (v % 16))
    item_there v group lt at =
        let count = count_is in
        item_got groups (16 * length groups - spare) v (omega (arith, lt, count))
        ∙ ap (λ x. Some x) (item_in groups v group at)

    -- no group begins but with a vertex
    pub more_group : (new : List (List P)) (group : List P) →
        (spare ≡ 0) ⊎ (length groups ≡ 0) → new ≡ groups ++ group ∷ [] →
        items_from new 0 (16 * length new - 15)
        ≡ items_from groups 0 (16 * length groups - spare) ++ sixteenths group 0 ∷ []
    more_group new group full next =
        let n : 16 * length groups - spare ≡ 16 * length groups = elim full [
          | inl none ↦ omega (arith, none)
          | inr none ↦ omega (arith, none)
        ] in
        let len = ap length next ∙ length-append groups (group ∷ []) in
        one_group_more groups new (16 * length groups - spare)
        (16 * length new - 15) group (omega (arith, n, len)) n next

    -- the vertex behind the others has a place in the last group that has room
    pub more_beside : (i : ℕ) (new : List (List P)) (x y : List P) →
        spare < 16 → spare ≢ 0 → length groups ≢ 0 → i ≡ length groups - 1 → slice_get groups i ≡ Some x →
        new ≡ slice_set groups i y →
        ((other : ℕ) → other < 16 → other ≢ 16 - spare → sixteenths y other ≡ sixteenths x other) →
        items_from new 0 (16 * length new - (spare - 1))
        ≡ items_from groups 0 (16 * length groups - spare) ++ sixteenths y (16 - spare) ∷ []
    more_beside i new x y few some there last was next others =
        let v = 16 * length groups - spare in
        let group : i ≡ v / 16 = omega (arith, few, some, there, last) in
        let slot : v % 16 ≡ 16 - spare = omega (arith, few, some, there) in
        let at = ap (slice_get groups) (sym group) ∙ was in
        let is = next ∙ ap (λ (k : ℕ). slice_set groups k y) group in
        let len = ap length next ∙ set_length groups i y in
        one_item_more groups new v (16 * length new - (spare - 1)) (sixteenths y (16 - spare))
        (omega (arith, len, few, some, there))
        (λ u lt. item_beside groups new v x y at is (λ other less apart. others other less
        (λ e. apart (e ∙ sym slot))) u (λ e. omega (arith, e, lt)))
        (item_changed groups new v x y at is ∙ ap (sixteenths y) slot)

    -- one group is changed
    module _ (new : List (List P)) (i : ℕ) (y : List P) (is : new ≡ slice_set groups i y) where
      same_count : 16 * length new - spare ≡ 16 * length groups - spare
      same_count = let len = ap length is ∙ set_length groups i y in omega (arith, len)

      pub same_length : length (items_from new 0 (16 * length new - spare))
          ≡ length (items_from groups 0 (16 * length groups - spare))
      same_length = items_len new 0 (16 * length new - spare) ∙ same_count ∙ sym count_is

    -- that of a vertex
    module _ (new : List (List P)) (v : ℕ) (y : List P) (is : new ≡ slice_set groups (v / 16) y) where
      pub row_changed : (Q : ℕ → P → P → Type 0) (row : List ℕ) (x before after : List P) →
          slice_get groups (v / 16) ≡ Some x → AtSlot Q row (v % 16) x y →
          slice_get (items_from groups 0 (16 * length groups - spare)) v ≡ Some before →
          slice_get (items_from new 0 (16 * length new - spare)) v ≡ Some after → AtRow Q row before after
      row_changed Q row x before after was done a b =
          let first = item_is groups (16 * length groups - spare) v before a ∙ item_in groups v x was in
          let last = item_is new (16 * length new - spare) v after b ∙ item_changed groups new v x y was is in
          subst (AtRow Q row before) (sym last)
          (subst (λ z. AtRow Q row z (sixteenths y (v % 16))) (sym first) done.here)

      pub others_same : (Q : ℕ → P → P → Type 0) (row : List ℕ) (x : List P) →
          slice_get groups (v / 16) ≡ Some x → AtSlot Q row (v % 16) x y → (u : ℕ) → u ≢ v →
          slice_get (items_from new 0 (16 * length new - spare)) u
          ≡ slice_get (items_from groups 0 (16 * length groups - spare)) u
      others_same Q row x was done u apart =
          ap (λ (n : ℕ). slice_get (items_from new 0 n) u) (same_count new (v / 16) y is)
          ∙ items_beside groups new v x y was is done.others (16 * length groups - spare) u apart
