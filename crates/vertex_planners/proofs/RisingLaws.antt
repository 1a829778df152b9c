-- Lists of the numbers of rising vertices: where a vertex stands, and what a change of one number does.
use Rattle.std.proofs.Common.{◌≡◌, ◌≢◌, ℕ, zero, suc, ◌+◌, ◌-◌, ◌<◌, ◌≤◌, ◌==◌, Bool, true, false, cond, List, [], ◌∷◌}
use Rattle.std.proofs.Common.{◌++◌, length, length-append, get_or, take, drop, slice_get, slice_set, None, Some}
use Rattle.std.proofs.Common.{unwrap_or, IsSome, inl, inr, refl, sym, ◌∙◌, ap, subst, arith, add-one, drop-cons}
use Rattle.std.specs.List.{AllWithin, insert}
use Rattle.std.specs.List.Sorted.{IsNonDecreasingBy, IsPartitionPoint}
use Rattle.std.proofs.lemmas.Bool.Decides.{eqb_tells}
use Rattle.std.proofs.lemmas.List.{take-append-drop, take-set, drop-set, get_or_default}
use Rattle.std.proofs.lemmas.Option.{slice_get_within, slice_get-get_or, get_or_from_slice_get}
use Rattle.vertex_planners.specs.declared.numbers.Number.{Number}
use Rattle.vertex_planners.specs.RisingNumbers.{Rises, kept_in, StandsAt, IsGapFor}
use borrow.Author.Tests.{ltb-true, ltb-false}
use lib.Dec.{ltb}

equal_true : (a b : ℕ) → a ≡ b → (a == b) ≡ true
equal_true a b e = elim (eqb_tells a b) [
  | inl same ↦ same.0
  | inr differ ↦ absurd (differ.1 e)
]

equal_false : (a b : ℕ) → a ≢ b → (a == b) ≡ false
equal_false a b ne = elim (eqb_tells a b) [
  | inl same ↦ absurd (ne same.1)
  | inr differ ↦ differ.0
]

-- the first number is that of another vertex
skips : (n : Number) (rest : List Number) (v : ℕ) → n.vertex ≢ v → kept_in (n ∷ rest) v ≡ kept_in rest v
unfolding kept_in
skips n rest v ne = ap (λ b. cond b (Some n.amount) (kept_in rest v)) (equal_false n.vertex v ne)

-- the first number is that of the vertex
tells : (n : Number) (rest : List Number) (v : ℕ) → n.vertex ≡ v → kept_in (n ∷ rest) v ≡ Some n.amount
unfolding kept_in
tells n rest v e = ap (λ b. cond b (Some n.amount) (kept_in rest v)) (equal_true n.vertex v e)

lower : (low v : ℕ) (numbers : List Number) → low ≤ v → Rises v numbers → Rises low numbers
lower low v [] le up = tt
lower low v (n ∷ rest) le up = (let first = up.0 in omega (arith, le, first), up.1)

none_before : (low v : ℕ) (numbers : List Number) → v < low → Rises low numbers → kept_in numbers v ≡ None
unfolding kept_in
none_before low v [] lt up = refl
none_before low v (n ∷ rest) lt up =
    let first = up.0 in
    skips n rest v (λ e. omega (arith, e, lt, first))
    ∙ none_before (n.vertex + 1) v rest (omega (arith, lt, first)) up.1

-- one number among others, those of the list before it and those of the list after it
module _ (n : Number) (after : List Number) where
  part_others : (before : List Number) (u : ℕ) → n.vertex ≢ u →
      kept_in (before ++ n ∷ after) u ≡ kept_in (before ++ after) u
  unfolding kept_in
  part_others [] u ne = skips n after u ne
  part_others (m ∷ before) u ne = ap (λ o. cond (m.vertex == u) (Some m.amount) o) (part_others before u ne)

  low_below : (low : ℕ) (before : List Number) → Rises low (before ++ n ∷ after) → low ≤ n.vertex
  low_below low [] up = up.0
  low_below low (m ∷ before) up =
      let rest = low_below (m.vertex + 1) before up.1 in let first = up.0 in omega (arith, first, rest)

  part_here : (low : ℕ) (before : List Number) → Rises low (before ++ n ∷ after) →
      kept_in (before ++ n ∷ after) n.vertex ≡ Some n.amount
  part_here low [] up = tells n after n.vertex refl
  part_here low (m ∷ before) up =
      let past = low_below (m.vertex + 1) before up.1 in
      skips m (before ++ n ∷ after) n.vertex (λ e. omega (arith, e, past)) ∙ part_here (m.vertex + 1) before up.1

  part_gone : (low : ℕ) (before : List Number) → Rises low (before ++ n ∷ after) →
      kept_in (before ++ after) n.vertex ≡ None
  part_gone low [] up = none_before (n.vertex + 1) n.vertex after (omega arith) up.1
  part_gone low (m ∷ before) up =
      let past = low_below (m.vertex + 1) before up.1 in
      skips m (before ++ after) n.vertex (λ e. omega (arith, e, past)) ∙ part_gone (m.vertex + 1) before up.1

  part_rises : (low : ℕ) (before : List Number) → Rises low (before ++ n ∷ after) → Rises low (before ++ after)
  part_rises low [] up = lower low (n.vertex + 1) after (let first = up.0 in omega (arith, first)) up.1
  part_rises low (m ∷ before) up = (up.0, part_rises (m.vertex + 1) before up.1)

  part_changes : (m : Number) → m.vertex ≡ n.vertex → (low : ℕ) (before : List Number) →
      Rises low (before ++ n ∷ after) → Rises low (before ++ m ∷ after)
  part_changes m e low [] up =
      (let first = up.0 in omega (arith, e, first), subst (λ (v : ℕ). Rises (v + 1) after) (sym e) up.1)
  part_changes m e low (o ∷ before) up = (up.0, part_changes m e (o.vertex + 1) before up.1)

-- a list is another one and one number more
pub record IsOneMore (more numbers : List Number) (n : Number) : Type 0 where
  pub before : List Number
  pub after : List Number
  pub whole : more ≡ before ++ n ∷ after
  pub rest : numbers ≡ before ++ after

module _ (more numbers : List Number) (n : Number) (one : IsOneMore more numbers n) where
  pub kept_others : (u : ℕ) → n.vertex ≢ u → kept_in more u ≡ kept_in numbers u
  kept_others u ne =
      ap (λ l. kept_in l u) one.whole
      ∙ (part_others n one.after one.before u ne ∙ ap (λ l. kept_in l u) (sym one.rest))

  pub one_longer : length more ≡ length numbers + 1
  one_longer =
      let whole = ap (λ (l : List Number). length l) one.whole ∙ length-append one.before (n ∷ one.after) in
      let rest = ap (λ (l : List Number). length l) one.rest ∙ length-append one.before one.after in
      omega (arith, whole, rest)

  module _ (up : Rises 0 more) where
    parts_rise : Rises 0 (one.before ++ n ∷ one.after)
    parts_rise = subst (Rises 0) one.whole up

    pub kept_here : kept_in more n.vertex ≡ Some n.amount
    kept_here = ap (λ l. kept_in l n.vertex) one.whole ∙ part_here n one.after 0 one.before parts_rise

    pub kept_no_more : kept_in numbers n.vertex ≡ None
    kept_no_more = ap (λ l. kept_in l n.vertex) one.rest ∙ part_gone n one.after 0 one.before parts_rise

    pub still_rises : Rises 0 numbers
    still_rises = subst (Rises 0) (sym one.rest) (part_rises n one.after 0 one.before parts_rise)

    -- a number more is added to 0
    pub sum_more : (v : ℕ) →
        unwrap_or (kept_in more v) 0 ≡ unwrap_or (kept_in numbers v) 0 + cond (n.vertex == v) n.amount 0
    sum_more v = elim (eqb_tells n.vertex v) [
      | inl same ↦
          (let now = ap (λ o. unwrap_or o 0) (ap (kept_in more) (sym same.1) ∙ kept_here) in
          let was = ap (λ o. unwrap_or o 0) (ap (kept_in numbers) (sym same.1) ∙ kept_no_more) in
          let added = ap (λ b. cond b n.amount 0) same.0 in omega (arith, now, was, added))
      | inr differ ↦
          (let now = ap (λ o. unwrap_or o 0) (kept_others v differ.1) in
          let added = ap (λ b. cond b n.amount 0) differ.0 in omega (arith, now, added))
    ]

  pub keys_more : (most : ℕ) → n.vertex < most → ((v : ℕ) → IsSome (kept_in numbers v) → v < most) →
      (v : ℕ) → IsSome (kept_in more v) → v < most
  keys_more most lt keys v some = elim (eqb_tells n.vertex v) [
    | inl same ↦ (let e = same.1 in omega (arith, e, lt))
    | inr differ ↦ keys v (subst IsSome (kept_others v differ.1) some)
  ]

-- one number in place of another one of the same vertex
module _ (old new numbers : List Number) (n m : Number) (before : IsOneMore old numbers n)
    (after : IsOneMore new numbers m) (same : m.vertex ≡ n.vertex) where
  pub sum_changes : Rises 0 old → Rises 0 new → (more : ℕ) → m.amount ≡ n.amount + more → (v : ℕ) →
      unwrap_or (kept_in new v) 0 ≡ unwrap_or (kept_in old v) 0 + cond (m.vertex == v) more 0
  sum_changes up_old up_new more is v = elim (eqb_tells m.vertex v) [
    | inl here ↦
        (let now = ap (λ o. unwrap_or o 0)
        (ap (kept_in new) (sym here.1) ∙ kept_here new numbers m after up_new) in
        let was = ap (λ o. unwrap_or o 0)
        (ap (kept_in old) (sym here.1 ∙ same) ∙ kept_here old numbers n before up_old) in
        let added = ap (λ b. cond b more 0) here.0 in omega (arith, now, was, added, is))
    | inr differ ↦
        (let now = ap (λ o. unwrap_or o 0) (kept_others new numbers m after v differ.1) in
        let was = ap (λ o. unwrap_or o 0)
        (kept_others old numbers n before v (λ e. differ.1 (same ∙ e))) in
        let added = ap (λ b. cond b more 0) differ.0 in omega (arith, now, was, added))
  ]

  pub keys_change : (most : ℕ) → m.vertex < most → ((v : ℕ) → IsSome (kept_in old v) → v < most) →
      (v : ℕ) → IsSome (kept_in new v) → v < most
  keys_change most lt keys = keys_more new numbers m after most lt
      (λ v some. elim (eqb_tells n.vertex v) [
        | inl here ↦ (let e = here.1 in omega (arith, e, lt, same))
        | inr differ ↦ keys v (subst IsSome (sym (kept_others old numbers n before v differ.1)) some)
      ])

-- the number at a place, and the others
module _ (numbers : List Number) (k : ℕ) (within : k < length numbers) where
  abbrev pub others : List Number
  others = take k numbers ++ drop (k + 1) numbers

  pub one_at : (d : Number) → IsOneMore numbers others (get_or numbers k d)
  one_at d = record {
    before = take k numbers;
    after = drop (k + 1) numbers;
    whole = sym (take-append-drop k numbers) ∙ (rw (add-one, drop-cons numbers k d));
    rest = refl;
  }

  pub one_set : (m : Number) → IsOneMore (slice_set numbers k m) others m
  one_set m = record {
    before = take k numbers;
    after = drop (k + 1) numbers;
    whole = sym (take-append-drop k (slice_set numbers k m))
        ∙ (ap (λ l. l ++ drop k (slice_set numbers k m)) (take-set numbers k m)
        ∙ ap (λ l. take k numbers ++ l) (drop-set numbers k m within));
    rest = refl;
  }

  pub rises_set : (m d : Number) → m.vertex ≡ (get_or numbers k d).vertex → Rises 0 numbers →
      Rises 0 (slice_set numbers k m)
  unfolding one_at one_set
  rises_set m d e up =
      subst (Rises 0) (sym (one_set m).whole)
      (part_changes (get_or numbers k d) (drop (k + 1) numbers) m e 0 (take k numbers)
      (subst (Rises 0) (one_at d).whole up))

-- a number at a gap
pub one_inserted : (numbers : List Number) (k : ℕ) (n : Number) → IsOneMore (insert numbers k n) numbers n
one_inserted numbers k n = record {
  before = take k numbers;
  after = drop k numbers;
  whole = refl;
  rest = sym (take-append-drop k numbers);
}

rises_past : (low v : ℕ) (numbers : List Number) → Rises low numbers →
    ((d : Number) → 0 < length numbers → v < (get_or numbers 0 d).vertex) → Rises (v + 1) numbers
rises_past low v [] up past = tt
rises_past low v (m ∷ rest) up past = (let first = past m (omega arith) in omega (arith, first), up.1)

rises_in : (low : ℕ) (numbers : List Number) (k : ℕ) (n : Number) → low ≤ n.vertex → Rises low numbers →
    k ≤ length numbers → AllWithin (λ m. m.vertex < n.vertex) numbers 0 k →
    AllWithin (λ m. n.vertex < m.vertex) numbers k (length numbers) → Rises low (insert numbers k n)
rises_in low numbers zero n le up within less more =
    (le, rises_past low n.vertex numbers up (λ d some. more 0 d (omega arith) some))
rises_in low [] (suc k) n le up within less more = absurd (omega (arith, within))
rises_in low (m ∷ rest) (suc k) n le up within less more = (
  up.0,
  rises_in (m.vertex + 1) rest k n (let first = less 0 m (omega arith) (omega arith) in omega (arith, first)) up.1
      (omega (arith, within)) (λ j d ge lt. less (suc j) d (omega arith) (omega (arith, lt)))
      (λ j d ge lt. more (suc j) d (omega (arith, ge)) (omega (arith, lt))),
)

module _ (numbers : List Number) (v k : ℕ) (up : Rises 0 numbers) (gap : IsGapFor numbers v k) where
  pub rises_inserted : (n : Number) → n.vertex ≡ v → Rises 0 (insert numbers k n)
  rises_inserted n e = rises_in 0 numbers k n (omega arith) up gap.within
      (λ j d ge lt. subst (λ (u : ℕ). (get_or numbers j d).vertex < u) (sym e) (gap.parts.0 j d ge lt))
      (λ j d ge lt. subst (λ (u : ℕ). u < (get_or numbers j d).vertex) (sym e) (gap.parts.1 j d ge lt))

  pub none_at_gap : kept_in numbers v ≡ None
  none_at_gap =
      let n : Number = record { vertex = v; amount = 0 } in
      kept_no_more (insert numbers k n) numbers n (one_inserted numbers k n) (rises_inserted n refl)

-- no later vertex is less
low_at : (low : ℕ) (numbers : List Number) (j : ℕ) (d : Number) → Rises low numbers → j < length numbers →
    low ≤ (get_or numbers j d).vertex
low_at low [] j d up lt = absurd (omega (arith, lt))
low_at low (n ∷ rest) zero d up lt = up.0
low_at low (n ∷ rest) (suc j) d up lt =
    let past = low_at (n.vertex + 1) rest j d up.1 (omega (arith, lt)) in
    let first = up.0 in omega (arith, first, past)

climbs : (low : ℕ) (numbers : List Number) → Rises low numbers → (i j : ℕ) (d : Number) → i ≤ j → j < length numbers →
    (get_or numbers i d).vertex ≤ (get_or numbers j d).vertex
climbs low [] up i j d le lt = absurd (omega (arith, lt))
climbs low (n ∷ rest) up zero zero d le lt = omega arith
climbs low (n ∷ rest) up zero (suc j) d le lt =
    let past = low_at (n.vertex + 1) rest j d up.1 (omega (arith, lt)) in omega (arith, past)
climbs low (n ∷ rest) up (suc i) zero d le lt = absurd (omega (arith, le))
climbs low (n ∷ rest) up (suc i) (suc j) d le lt =
    climbs (n.vertex + 1) rest up.1 i j d (omega (arith, le)) (omega (arith, lt))

pub IsNonDecreasingBy-rises : (numbers : List Number) → Rises 0 numbers → IsNonDecreasingBy (λ n. n.vertex) numbers
IsNonDecreasingBy-rises numbers up i j d le lt = climbs 0 numbers up i j d le lt

-- a vertex past the last one
pub gap_past_last : (numbers : List Number) (last : Number) (v : ℕ) → Rises 0 numbers →
    slice_get numbers (length numbers - 1) ≡ Some last → last.vertex < v → IsGapFor numbers v (length numbers)
gap_past_last numbers last v up at less = record {
  within = omega arith;
  parts = (
    λ k d ge lt. (let most = climbs 0 numbers up k (length numbers - 1) d (omega (arith, lt)) (omega (arith, lt)) in
        let is = ap (λ (n : Number). n.vertex) (get_or_from_slice_get numbers (length numbers - 1) last d at) in
        omega (arith, most, is, less)),
    λ k d ge lt. absurd (omega (arith, ge, lt)),
  );
}

-- the end of a binary search, where the vertex doesn't stand
pub gap_at_point : (numbers : List Number) (v k : ℕ) → Rises 0 numbers → k ≤ length numbers →
    IsPartitionPoint (λ n. ltb n.vertex v ≡ true) (λ n. ltb n.vertex v ≡ false) numbers k →
    (k < length numbers → (get_or numbers k (record { vertex = 0; amount = 0 })).vertex ≢ v) → IsGapFor numbers v k
gap_at_point numbers v k up within point other = record {
  within = within;
  parts = (
    λ i d ge lt. (let e : ltb (get_or numbers i d).vertex v ≡ true = point.0 i d ge lt in
        omega (arith, ltb-true _ _ e)),
    λ i d ge lt. (let inside : k < length numbers = omega (arith, ge, lt) in
        let none : Number = record { vertex = 0; amount = 0 } in
        let e : ltb (get_or numbers k d).vertex v ≡ false = point.1 k d (omega arith) inside in
        let differs =
        subst (λ (n : Number). n.vertex ≢ v) (get_or_default numbers k none d inside) (other inside) in
        let most = climbs 0 numbers up k i d ge lt in
        let least = ltb-false _ _ e in omega (arith, least, differs, most)),
  );
}

-- the number at a place is kept
pub kept_at_place : (numbers : List Number) (k : ℕ) (n : Number) → Rises 0 numbers → slice_get numbers k ≡ Some n →
    kept_in numbers n.vertex ≡ Some n.amount
kept_at_place numbers k n up at =
    let within = slice_get_within numbers k n at in
    let is = get_or_from_slice_get numbers k n n at in
    kept_here numbers (others numbers k within) n
    (subst (IsOneMore numbers (others numbers k within)) is (one_at numbers k within n)) up

-- a list without a last number
pub none_in_empty : (numbers : List Number) (v : ℕ) → slice_get numbers (length numbers - 1) ≡ None →
    kept_in numbers v ≡ None
unfolding kept_in
none_in_empty [] v e = refl
none_in_empty (n ∷ rest) v e =
    let some : None ≡ Some (get_or (n ∷ rest) (length (n ∷ rest) - 1) n) =
    sym e ∙ slice_get-get_or (n ∷ rest) (length (n ∷ rest) - 1) n (omega arith) in absurd (cc)

-- the vertex's number at the place where it stands
module _ (numbers : List Number) (v k : ℕ) (up : Rises 0 numbers) (here : StandsAt numbers v k) where
  pub rises_changed : (n : Number) → n.vertex ≡ v → Rises 0 (slice_set numbers k n)
  rises_changed n e = rises_set numbers k here.within n n (e ∙ sym (here.is n)) up

  pub sum_changed : (n d : Number) (more : ℕ) → n.vertex ≡ v → n.amount ≡ (get_or numbers k d).amount + more → (u : ℕ) →
      unwrap_or (kept_in (slice_set numbers k n) u) 0 ≡ unwrap_or (kept_in numbers u) 0 + cond (n.vertex == u) more 0
  sum_changed n d more e is u = sum_changes numbers (slice_set numbers k n) (others numbers k here.within)
      (get_or numbers k d) n (one_at numbers k here.within d) (one_set numbers k here.within n) (e ∙ sym (here.is d))
      up (rises_changed n e) more is u

  pub keys_changed : (n : Number) → n.vertex ≡ v → (most : ℕ) → n.vertex < most →
      ((u : ℕ) → IsSome (kept_in numbers u) → u < most) →
      (u : ℕ) → IsSome (kept_in (slice_set numbers k n) u) → u < most
  keys_changed n e most lt keys u some = keys_change numbers (slice_set numbers k n) (others numbers k here.within)
      (get_or numbers k n) n (one_at numbers k here.within n) (one_set numbers k here.within n) (e ∙ sym (here.is n))
      most lt keys u some

  pub one_removed : (rest : List Number) (n : Number) → n ≡ get_or numbers k n →
      rest ≡ take k numbers ++ drop (k + 1) numbers → IsOneMore numbers rest n
  one_removed rest n is e = subst (λ (l : List Number). IsOneMore numbers l n) (sym e)
      (subst (IsOneMore numbers (others numbers k here.within)) (sym is) (one_at numbers k here.within n))

-- a number is put in at its gap, or nothing is changed
pub rises_either : (numbers new : List Number) (n : Number) (k : ℕ) (put : Bool) → Rises 0 numbers →
    IsGapFor numbers n.vertex k → new ≡ cond put (insert numbers k n) numbers → Rises 0 new
rises_either numbers new n k true up gap e =
    subst (Rises 0) (sym e) (rises_inserted numbers n.vertex k up gap n refl)
rises_either numbers new n k false up gap e = subst (Rises 0) (sym e) up

-- a slice shows the list
module _ (seen numbers : List Number) (v k : ℕ) (same : seen ≡ numbers) where
  pub stands_in : StandsAt seen v k → StandsAt numbers v k
  stands_in here = subst (λ (l : List Number). StandsAt l v k) same here

  pub gap_in : IsGapFor seen v k → IsGapFor numbers v k
  gap_in gap = subst (λ (l : List Number). IsGapFor l v k) same gap
