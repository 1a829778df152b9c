-- Where needs stand among all needs, and what the table tells of them.
use Rattle.std.proofs.Common.{◌≡◌, ◌≢◌, ◌^◌, ℕ, zero, suc, ◌+◌, ◌<◌, ◌≤◌, ◌⊎◌, inl, inr, Bool, List, [], ◌∷◌, ◌++◌}
use Rattle.std.proofs.Common.{length, length-append, take, drop, Some, slice_get, append_assoc, refl, sym, ◌∙◌, ap}
use Rattle.std.proofs.Common.{subst, arith, true, false, not, ◌↔◌, IsTrue, true≢false}
use Rattle.std.proofs.Math.Seq.{drop-append_seam}
use Rattle.std.proofs.lemmas.List.{drop-drop}
use Rattle.flux_defs.specs.declared.requests.Need.{Need, Vert, Vert', Pool, Spread, Spread'}
use Rattle.list_laws.proofs.Lists.{get_first}
use Rattle.prune_filters.specs.Demands.{capped}
use Rattle.dfu_match.specs.declared.wanting.Wanted.{Wanted}
use Rattle.dfu_match.specs.Tables.{all_of, row_all, needs_all, StandsAt, StandAt}
use Rattle.dfu_match.specs.Pairs.{AsksWithin, IsPlaceOf, IsPlaceOfAll}
use Rattle.dfu_match.proofs.DemandLaws.{all_Vert, all_Spread}

drop_plus : {X : Type 0} (n k : ℕ) (xs : List X) → drop (n + k) xs ≡ drop k (drop n xs)
drop_plus n k xs = sym (drop-drop k n xs)

left_within : {X : Type 0} (i : ℕ) (xs front more : List X) → drop i xs ≡ front ++ more → 1 ≤ length front →
    i + length front ≤ length xs
left_within zero xs front more e some = let l = ap length e in let a = length-append front more in omega (arith, l, a)
left_within (suc i) [] front more e some = absurd (let l = ap length e in let a = length-append front more in
    omega (arith, l, a))
left_within (suc i) (x ∷ xs) front more e some = let r = left_within i xs front more e some in omega (arith, r)

-- a need comes first
all_first : (need : Need) → (rest : List Need) × (all_of need ≡ need ∷ rest)
all_first (Vert' kind count hold m needs) = (row_all needs, refl)
all_first (Pool kind quantity) = ([], refl)
all_first (Spread' count m needs) = (row_all needs, refl)

pub all_some : (need : Need) → 1 ≤ length (all_of need)
all_some need = let r = all_first need in let e = ap length r.1 in omega (arith, e)

-- where needs stand among all needs
module _ (all : List Need) where
  -- the need at its place
  pub place_there : (place : ℕ) (need : Need) → IsPlaceOf all place need → slice_get all place ≡ Some need
  place_there place need is =
      let first = all_first need in
      get_first all (first.0 ++ is.0) place need (is.1 ∙ ap (λ x. x ++ is.0) first.1)

  -- the first of a list, and the others
  pub place_first : (place : ℕ) (needs rest : List Need) (need : Need) → needs ≡ need ∷ rest →
      IsPlaceOfAll all place needs → IsPlaceOf all place need
  place_first place needs rest need split is = (
    needs_all rest ++ is.0,
    is.1 ∙ (ap (λ ns. needs_all ns ++ is.0) split ∙ append_assoc (all_of need) (needs_all rest) is.0),
  )

  pub place_next : (place next : ℕ) (needs rest : List Need) (need : Need) → needs ≡ need ∷ rest →
      next ≡ place + length (all_of need) → IsPlaceOfAll all place needs → IsPlaceOfAll all next rest
  place_next place next needs rest need split e is = (
    is.0,
    ap (λ i. drop i all) e ∙ (drop_plus place (length (all_of need)) all
        ∙ (ap (drop (length (all_of need))) (is.1
        ∙ (ap (λ ns. needs_all ns ++ is.0) split ∙ append_assoc (all_of need) (needs_all rest) is.0))
        ∙ drop-append_seam (all_of need) (needs_all rest ++ is.0))),
  )

  place_inside : (place next : ℕ) (need : Need) (needs : List Need) → all_of need ≡ need ∷ needs_all needs →
      next ≡ place + 1 → IsPlaceOf all place need → IsPlaceOfAll all next needs
  place_inside place next need needs e f is =
      (is.0, ap (λ i. drop i all) f ∙ (drop_plus place 1 all ∙ ap (drop 1) (is.1 ∙ ap (λ x. x ++ is.0) e)))

  -- and those within
  pub place_Vert : (place kind count : ℕ) (hold : Bool) (needs : List Need) →
      IsPlaceOf all place (Vert kind count hold needs) → IsPlaceOfAll all (place + 1) needs
  place_Vert place kind count hold needs =
      place_inside place (place + 1) (Vert kind count hold needs) needs (all_Vert kind count hold needs) refl

  pub place_Spread : (place count : ℕ) (needs : List Need) →
      IsPlaceOf all place (Spread count needs) → IsPlaceOfAll all (place + 1) needs
  place_Spread place count needs =
      place_inside place (place + 1) (Spread count needs) needs (all_Spread count needs) refl

  -- the list from an item on
  pub place_from : (i place : ℕ) (needs : List Need) → IsPlaceOfAll all place needs →
      IsPlaceOfAll all (place + length (needs_all (take i needs))) (drop i needs)
  place_from zero place needs is =
      let e : place ≡ place + 0 = omega arith in subst (λ n. IsPlaceOfAll all n needs) e is
  place_from (suc i) place [] is =
      let e : place ≡ place + 0 = omega arith in subst (λ n. IsPlaceOfAll all n []) e is
  place_from (suc i) place (n ∷ ns) is =
      let next = place_next place (place + length (all_of n)) (n ∷ ns) ns n refl refl is in
      let few = length-append (all_of n) (needs_all (take i ns)) in
      let e : place + length (all_of n) + length (needs_all (take i ns))
      ≡ place + length (all_of n ++ needs_all (take i ns)) = omega (arith, few) in
      subst (λ k. IsPlaceOfAll all k (drop i ns)) e (place_from i (place + length (all_of n)) ns next)

  -- a need and those within it are some of all
  pub place_few : (place : ℕ) (need : Need) → IsPlaceOf all place need → length (all_of need) ≤ length all
  place_few place need is =
      let within = left_within place all (all_of need) is.0 is.1 (all_some need) in omega (arith, within)

-- the first of a list's needs are some of all
pub taken_few : (i : ℕ) (needs : List Need) → length (needs_all (take i needs)) ≤ length (needs_all needs)
taken_few zero needs = omega arith
taken_few (suc i) [] = omega arith
taken_few (suc i) (n ∷ ns) =
    let r = taken_few i ns in
    let a = length-append (all_of n) (needs_all (take i ns)) in
    let b = length-append (all_of n) (needs_all ns) in
    omega (arith, r, a, b)

module _ (all : List Need) (table : List Wanted) where
  -- the entry at its index tells of a need
  pub need_there : (index : ℕ) (need : Need) (wanted : Wanted) → StandsAt all table index need →
      slice_get table index ≡ Some wanted → slice_get all index ≡ Some need
  need_there index need wanted (inl none) e = absurd (let clash : slice_get [] index ≡ Some wanted =
      ap (λ (t : List Wanted). slice_get t index) (sym none) ∙ e in cc)
  need_there index need wanted (inr is) e = place_there all index need is

  -- the first of a list, and the others
  pub stand_first : (index : ℕ) (needs rest : List Need) (need : Need) → needs ≡ need ∷ rest →
      StandAt all table index needs → StandsAt all table index need
  stand_first index needs rest need split (inl none) = inl none
  stand_first index needs rest need split (inr is) = inr (place_first all index needs rest need split is)

  pub stand_next : (index next : ℕ) (needs rest : List Need) (need : Need) → needs ≡ need ∷ rest →
      next ≡ index + length (all_of need) ⊎ (table ≡ []) →
      StandAt all table index needs → StandAt all table next rest
  stand_next index next needs rest need split (inr none) s = inl none
  stand_next index next needs rest need split (inl e) (inl none) = inl none
  stand_next index next needs rest need split (inl e) (inr is) =
      inr (place_next all index next needs rest need split e is)

  inside : (index next : ℕ) (need : Need) (needs : List Need) → all_of need ≡ need ∷ needs_all needs →
      (next ≡ index + 1) ⊎ (table ≡ []) → StandsAt all table index need → StandAt all table next needs
  inside index next need needs e (inr none) s = inl none
  inside index next need needs e (inl f) (inl none) = inl none
  inside index next need needs e (inl f) (inr is) = inr (place_inside all index next need needs e f is)

  -- and those within
  pub inside_Vert : (index next kind count : ℕ) (hold : Bool) (needs : List Need) → (next ≡ index + 1) ⊎ (table ≡ []) →
      StandsAt all table index (Vert kind count hold needs) → StandAt all table next needs
  inside_Vert index next kind count hold needs =
      inside index next (Vert kind count hold needs) needs (all_Vert kind count hold needs)

  pub inside_Spread : (index next count : ℕ) (needs : List Need) → (next ≡ index + 1) ⊎ (table ≡ []) →
      StandsAt all table index (Spread count needs) → StandAt all table next needs
  inside_Spread index next count needs = inside index next (Spread count needs) needs (all_Spread count needs)

  -- a need and those within it stand in the list
  pub stands_within : (index : ℕ) (need : Need) → StandsAt all table index need →
      (table ≡ []) ⊎ (index + length (all_of need) ≤ length all)
  stands_within index need (inl none) = inl none
  stands_within index need (inr is) = inr (left_within index all (all_of need) is.0 is.1 (all_some need))

  -- an index past the table stands where there is none
  pub none_past : (index : ℕ) (need : Need) → length table ≤ index → (table ≢ [] → length table ≡ length all) →
      StandsAt all table index need → table ≡ []
  none_past index need past whole s = by_table table refl (stands_within index need s)
    where
      by_table : (t : List Wanted) → table ≡ t → (table ≡ []) ⊎ (index + length (all_of need) ≤ length all) → table ≡ []
      by_table [] e r = e
      by_table (x ∷ xs) e (inl none) = none
      by_table (x ∷ xs) e (inr within) =
          let some : table ≢ [] = λ none. (let clash : x ∷ xs ≡ [] = sym e ∙ none in absurd (cc)) in
          let same = whole some in
          let one = all_some need in
          absurd (omega (arith, within, same, one, past))

  -- the entry's count leads to what stands after the need
  pub after_fits : (index within : ℕ) (need : Need) → index < length table → length table < 2 ^ 64 →
      (table ≢ [] → length table ≡ length all) →
      StandsAt all table index need → within ≡ capped (length (all_of need)) →
      (index + within ≡ index + length (all_of need)) × (index + within < 2 ^ 64)
  after_fits index within need lt fits whole s e = elim (stands_within index need s) [
    | inl none ↦ absurd (let zero = ap length none in omega (arith, zero, lt))
    | inr le ↦ (
        let some : table ≢ [] = λ none. (let zero = ap length none in omega (arith, zero, lt)) in
        let same = whole some in
        (omega (arith, le, same, fits, e), omega (arith, le, same, fits, e)))
  ]

-- some needs are some with those within them, and none are none
some_needs : (needs : List Need) → 1 ≤ length needs → 1 ≤ length (needs_all needs)
some_needs [] some = absurd (omega arith)
some_needs (need ∷ rest) some =
    let one = all_some need in
    let both = length-append (all_of need) (needs_all rest) in
    omega (arith, one, both)

no_needs : (needs : List Need) → length needs ≡ 0 → length (needs_all needs) ≡ 0
no_needs [] none = refl
no_needs (need ∷ rest) none = absurd (omega arith)

-- something is asked within a vertex of a need that has inner ones, and else nothing
pub asks_Vert : (kind count : ℕ) (hold : Bool) (needs : List Need) → 1 ≤ length needs →
    AsksWithin (Vert kind count hold needs)
asks_Vert kind count hold needs some =
    let e = ap length (all_Vert kind count hold needs) in
    let more = some_needs needs some in
    omega (arith, e, more)

pub asks_Spread : (count : ℕ) (needs : List Need) → 1 ≤ length needs → AsksWithin (Spread count needs)
asks_Spread count needs some =
    let e = ap length (all_Spread count needs) in
    let more = some_needs needs some in
    omega (arith, e, more)

-- that is told by whether it has inner needs
pub asks_told : (need : Need) (needs : List Need) (empty : Bool) → (IsTrue empty ↔ (needs ≡ [])) →
    length (all_of need) ≡ length (needs_all needs) + 1 → (IsTrue (not empty) ↔ AsksWithin need)
asks_told need needs true told e = (
  λ t. absurd (true≢false (sym t)),
  λ asks. absurd (let none = told.0 refl in
      let zero = no_needs needs (ap length none) in
      omega (arith, e, zero, asks)),
)
asks_told need [] false told e = absurd (true≢false (sym (told.1 refl)))
asks_told need (inner ∷ rest) false told e =
    (λ t. (let more = some_needs (inner ∷ rest) (omega arith) in omega (arith, e, more)), λ asks. refl)

pub asks_told_Vert : (kind count : ℕ) (hold : Bool) (needs : List Need) (empty : Bool) →
    (IsTrue empty ↔ (needs ≡ [])) → (IsTrue (not empty) ↔ AsksWithin (Vert kind count hold needs))
asks_told_Vert kind count hold needs empty told = asks_told (Vert kind count hold needs) needs empty told
    (let e = ap length (all_Vert kind count hold needs) in omega (arith, e))

pub asks_told_Spread : (count : ℕ) (needs : List Need) (empty : Bool) → (IsTrue empty ↔ (needs ≡ [])) →
    (IsTrue (not empty) ↔ AsksWithin (Spread count needs))
asks_told_Spread count needs empty told = asks_told (Spread count needs) needs empty told
    (let e = ap length (all_Spread count needs) in omega (arith, e))
