-- The numbers of one vertex, taken off place by place.
use Rattle.std.proofs.Common.{◌≡◌, ℕ, zero, suc, ◌+◌, ◌<◌, ◌≤◌, cond, is_some, List, [], ◌∷◌, ◌++◌, length}
use Rattle.std.proofs.Common.{length-append, unwrap_or, Option, Some, None, IsSome, true≢false, slice_get, inl, inr}
use Rattle.std.proofs.Common.{◌⊎◌, IfSome, IfNone, refl, sym, ◌∙◌, ap, subst, arith}
use Rattle.std.specs.Prelude.{slice_set}
use Rattle.std.proofs.lemmas.Bool.Decides.{eqb_tells}
use Rattle.std.proofs.lemmas.List.Sums.{sum_by-cons, sum_by-append, sum_by-set}
use Rattle.std.proofs.lemmas.Option.{get_or_from_slice_get, slice_get_within}
use Rattle.list_laws.proofs.Lists.{get_old, get_last, get_set, get_beside, set_length}
use Rattle.vertex_planners.specs.declared.amounts.Amounts.{Amounts}
use Rattle.vertex_planners.specs.Numbers.{kept_at, count_of, IsTaken}
use Rattle.vertex_planners.specs.Rows.{count_all, some_one, count_some, IsRow, IsLeft, HasNoneLeft}

-- the places before this one have no numbers
abbrev pub HasNoneBefore : ℕ → List Amounts → Type 0
HasNoneBefore i places = (k : ℕ) (amounts : Amounts) →
    k < i → slice_get places k ≡ Some amounts → (v : ℕ) → kept_at amounts v ≡ None

-- the numbers of the first i places are taken off
pub record TakenSoFar (old now : List Amounts) (v i : ℕ) (row : List ℕ) : Type 0 where
  pub len : length now ≡ length old
  pub places : length row ≡ i
  pub done : (k : ℕ) (amounts : Amounts) → k < i → slice_get old k ≡ Some amounts →
      (rest : Amounts) × (n : ℕ) × (slice_get now k ≡ Some rest) × (slice_get row k ≡ Some n) × IsTaken amounts rest v n
  pub later : (k : ℕ) → i ≤ k → slice_get now k ≡ slice_get old k
  pub fewer : count_all now + count_some row ≤ count_all old
  pub less : (k : ℕ) (amounts : Amounts) →
      k < i → slice_get old k ≡ Some amounts → IsSome (kept_at amounts v) → count_all now < count_all old

pub none_taken : (old : List Amounts) (v : ℕ) → TakenSoFar old old v 0 []
none_taken old v = record {
  len = refl;
  places = refl;
  done = λ k amounts lt at. absurd (omega (arith, lt));
  later = λ k le. refl;
  fewer = omega arith;
  less = λ k amounts lt at some. absurd (omega (arith, lt));
}

-- a number that isn't 0 was kept
kept_one : (o : Option ℕ) (n : ℕ) → unwrap_or o 0 ≡ n → some_one n ≤ cond (is_some o) 1 0
kept_one None n e = let same = ap some_one (sym e) in omega (arith, same)
kept_one (Some zero) n e = let same = ap some_one (sym e) in omega (arith, same)
kept_one (Some (suc m)) n e = let same = ap some_one (sym e) in omega (arith, same)

counts_one : (o : Option ℕ) → IsSome o → 1 ≤ cond (is_some o) 1 0
counts_one None h = absurd (true≢false (sym h))
counts_one (Some n) h = omega arith

module _ (old now next : List Amounts) (v i : ℕ) (row more : List ℕ) (amounts rest : Amounts) (n : ℕ) where
  pub one_taken : TakenSoFar old now v i row →
      slice_get now i ≡ Some amounts → next ≡ slice_set now i rest → IsTaken amounts rest v n → more ≡ row ++ n ∷ [] →
      TakenSoFar old next v (i + 1) more
  one_taken so_far at stored taken pushed =
      let lt = slice_get_within now i amounts at in
      let before = so_far.fewer in
      let one = taken.fewer in
      let some = kept_one (kept_at amounts v) n taken.was in
      let kept = ap (λ xs. count_all xs) stored in
      let sums = sum_by-set count_of now i rest amounts lt in
      let here = ap count_of (get_or_from_slice_get now i amounts amounts at) in
      let numbers = ap count_some pushed ∙ sum_by-append some_one row (n ∷ []) in
      let last = sum_by-cons some_one n [] in
      let same_old : slice_get old i ≡ Some amounts = sym (so_far.later i (omega arith)) ∙ at in
      record {
        len = ap length stored ∙ set_length now i rest ∙ so_far.len;
        places = ap length pushed
            ∙ (let l = length-append row (n ∷ []) in let p = so_far.places in omega (arith, l, p));
        done = λ k a lk was. elim (eqb_tells k i) [
          | inl same ↦ (
            rest,
            n,
            ap (slice_get next) same.1 ∙ ap (λ xs. slice_get xs i) stored ∙ get_set now i rest lt,
            ap (slice_get more) (same.1 ∙ sym so_far.places)
                ∙ ap (λ xs. slice_get xs (length row)) pushed ∙ get_last row n,
            (let is : amounts
                ≡ a = (let both : Some amounts ≡ Some a = sym same_old ∙ sym (ap (slice_get old) same.1) ∙ was in cc) in
                subst (λ (x : Amounts). IsTaken x rest v n) is taken),
          )
          | inr differ ↦
              (let (r, m, there, number, is) = so_far.done k a (let ne = differ.1 in omega (arith, lk, ne)) was in (
                r,
                m,
                ap (λ xs. slice_get xs k) stored ∙ get_beside now i k rest differ.1 ∙ there,
                ap (λ xs. slice_get xs k) pushed ∙ get_old row n m k number,
                is,
              ))
        ];
        later = λ k le.
            ap (λ xs. slice_get xs k) stored
            ∙ get_beside now i k rest (λ e. omega (arith, e, le)) ∙ so_far.later k (omega (arith, le));
        fewer = omega (arith, before, one, some, kept, sums, here, numbers, last);
        less = λ k a lk was some_kept. elim (eqb_tells k i) [
          | inl same ↦ (let is : amounts
              ≡ a = (let both : Some amounts ≡ Some a = sym same_old ∙ sym (ap (slice_get old) same.1) ∙ was in cc) in
              let counted =
              counts_one (kept_at amounts v) (subst (λ (x : Amounts). IsSome (kept_at x v)) (sym is) some_kept) in
              omega (arith, before, one, counted, kept, sums, here))
          | inr differ ↦ (let earlier = so_far.less k a (let ne = differ.1 in omega (arith, lk, ne)) was some_kept in
              omega (arith, earlier, one, kept, sums, here))
        ];
      }

-- all places
pub all_taken : (old now : List Amounts) (v i : ℕ) (row : List ℕ) →
    TakenSoFar old now v i row → i ≡ length old → IsRow old now v row
all_taken old now v i row so_far all = record {
  len = so_far.len;
  places = so_far.places ∙ all;
  each = λ k amounts at.
      so_far.done k amounts (let lt = slice_get_within old k amounts at in omega (arith, lt, all)) at;
  fewer = so_far.fewer;
  less = λ (k, amounts, at, some).
      so_far.less k amounts (let lt = slice_get_within old k amounts at in omega (arith, lt, all)) at some;
}

-- the last vertex so far, and that of the next place
module _ (places : List Amounts) (i : ℕ) (amounts : Amounts) (at : slice_get places i ≡ Some amounts)
    (last here : Option ℕ) where
  pub left_later : (next : Option ℕ) → IfSome last (IsLeft places) → IfSome here (λ v. IsSome (kept_at amounts v)) →
      IfSome next (λ v. (last ≡ Some v) ⊎ (here ≡ Some v)) → IfSome next (IsLeft places)
  left_later None so_far some one = tt
  left_later (Some v) so_far some one = elim one [
    | inl e ↦ subst (λ (o : Option ℕ). IfSome o (IsLeft places)) e so_far
    | inr e ↦ (i, amounts, at, subst (λ (o : Option ℕ). IfSome o (λ u. IsSome (kept_at amounts u))) e some)
  ]

  pub none_later : (next : Option ℕ) → IfNone last (HasNoneBefore i places) →
      IfNone here ((v : ℕ) → kept_at amounts v ≡ None) →
      IfNone next ((last ≡ None) × (here ≡ None)) → IfNone next (HasNoneBefore (i + 1) places)
  none_later (Some v) so_far none both = tt
  none_later None so_far none both = λ k a lt there v. elim (eqb_tells k i) [
    | inl same ↦ (
        let one : Some amounts ≡ Some a = sym at ∙ (ap (slice_get places) (sym same.1) ∙ there) in
        let is : amounts ≡ a = cc in
        let gone = subst (λ (o : Option ℕ). IfNone o ((u : ℕ) → kept_at amounts u ≡ None)) both.1 none in
        subst (λ (x : Amounts). kept_at x v ≡ None) is (gone v))
    | inr differ ↦
        (let before = subst (λ (o : Option ℕ). IfNone o (HasNoneBefore i places)) both.0 so_far in
        before k a (let ne = differ.1 in omega (arith, lt, ne)) there v)
  ]

pub none_of_all : (places : List Amounts) (i : ℕ) (last : Option ℕ) → length places ≤ i →
    IfNone last (HasNoneBefore i places) → IfNone last (HasNoneLeft places)
none_of_all places i (Some v) all none = tt
none_of_all places i None all none = λ v k amounts at.
    none k amounts (let lt = slice_get_within places k amounts at in omega (arith, lt, all)) at v
