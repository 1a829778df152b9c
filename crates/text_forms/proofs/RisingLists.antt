-- Rising lists.
use Rattle.std.proofs.Common.{◌≡◌, ℕ, ◌<◌, ◌≤◌, List, length, get_or, true, false, inl, inr, arith, ltb, ap}
use Rattle.std.proofs.lemmas.Bool.{cases_lt}
use Rattle.std.specs.List.Sorted.{IsNonDecreasingBy, IsPartitionPoint}
use Rattle.std.specs.List.Sorted.{IsStrictlyIncreasing}
use Rattle.std.proofs.lemmas.Map.Keys.{sorted_from_strictly_increasing, below_from_sorted}
use Rattle.text_forms.specs.Rising.{IsIndexOf}
use borrow.Author.Tests.{ltb-true, ltb-false}

-- each number of a rising list is less than each later one
pub less_later : (list : List ℕ) → IsStrictlyIncreasing list → (i j d : ℕ) → i < j → j < length list →
    get_or list i d < get_or list j d
less_later list up i j d before lt = below_from_sorted list i j d (sorted_from_strictly_increasing list up) before lt

-- and none is less than an earlier one, read by any default
not_less_by : (list : List ℕ) → IsStrictlyIncreasing list → (i j d : ℕ) → i ≤ j → j < length list →
    get_or list i d ≤ get_or list j d
not_less_by list up i j d le lt =
    elim (cases_lt i j) [
      | inl before ↦ (let less : get_or list i d < get_or list j d = less_later list up i j d before lt in omega arith)
      | inr not_before ↦ (let same : i ≡ j = omega arith in
          let e : get_or list i d ≡ get_or list j d = ap (λ k. get_or list k d) same in omega arith)
    ]

pub not_less : (list : List ℕ) → IsStrictlyIncreasing list → (i j : ℕ) → i ≤ j → j < length list →
    get_or list i 0 ≤ get_or list j 0
not_less list up i j le lt = not_less_by list up i j 0 le lt

pub IsNonDecreasingBy-rising : (list : List ℕ) → IsStrictlyIncreasing list → IsNonDecreasingBy (λ v. v) list
IsNonDecreasingBy-rising list up i j d le lt = not_less_by list up i j d le lt

pub IsIndexOf-point : (list : List ℕ) (from index : ℕ) → index ≤ length list →
    IsPartitionPoint (λ y. ltb y from ≡ true) (λ y. ltb y from ≡ false) list index → IsIndexOf list from index
IsIndexOf-point list from index le point = record {
  within = le;
  before = λ i lt. let e : ltb (get_or list i 0) from ≡ true = point.0 i 0 (omega arith) lt in
      omega (arith, ltb-true _ _ e);
  after = λ i ge lt. let e : ltb (get_or list i 0) from ≡ false = point.1 i 0 ge lt in
      omega (arith, ltb-false _ _ e);
}
