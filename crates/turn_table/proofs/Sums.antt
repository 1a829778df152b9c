-- Sums over a list, of which one or two elements are known.
use Rattle.std.proofs.Common.{◌≡◌, ◌≢◌, ℕ, zero, suc, ◌+◌, ◌≤◌, List, [], ◌∷◌, set, sym, refl, ap, arith}
use Rattle.std.specs.List.{sum_by}
use Rattle.std.proofs.lemmas.List.Sums.{sum_by-cons}
use mathlib.Core.Option.{some, some-injective, some-ne-none}
use lib.ListN.{get_elem?}

module _ {A : Type 0} (f : A → ℕ) where
  pub sum_set : (l : List A) (i : ℕ) (v w : A) → get_elem? l i ≡ some v
      → sum_by f (set l i w) + f v ≡ sum_by f l + f w
  sum_set [] i v w e = absurd (some-ne-none v (sym e))
  sum_set (x ∷ xs) zero v w e =
      let same : f x ≡ f v = ap f (some-injective x v e) in
      let old = sum_by-cons f x xs in
      let new = sum_by-cons f w xs in omega arith
  sum_set (x ∷ xs) (suc i) v w e =
      let rest = sum_set xs i v w e in
      let old = sum_by-cons f x xs in
      let new = sum_by-cons f x (set xs i w) in omega arith

  one_within : (l : List A) (i : ℕ) (v : A) → get_elem? l i ≡ some v → f v ≤ sum_by f l
  one_within [] i v e = absurd (some-ne-none v (sym e))
  one_within (x ∷ xs) zero v e =
      let same : f x ≡ f v = ap f (some-injective x v e) in
      let all = sum_by-cons f x xs in omega arith
  one_within (x ∷ xs) (suc i) v e =
      let rest = one_within xs i v e in
      let all = sum_by-cons f x xs in omega arith

  pub two_within : (l : List A) (i j : ℕ) (v w : A) → j ≢ i → get_elem? l i ≡ some v → get_elem? l j ≡ some w
      → f v + f w ≤ sum_by f l
  two_within [] i j v w n e d = absurd (some-ne-none v (sym e))
  two_within (x ∷ xs) zero zero v w n e d = absurd (n refl)
  two_within (x ∷ xs) zero (suc j) v w n e d =
      let same : f x ≡ f v = ap f (some-injective x v e) in
      let rest = one_within xs j w d in
      let all = sum_by-cons f x xs in omega arith
  two_within (x ∷ xs) (suc i) zero v w n e d =
      let same : f x ≡ f w = ap f (some-injective x w d) in
      let rest = one_within xs i v e in
      let all = sum_by-cons f x xs in omega arith
  two_within (x ∷ xs) (suc i) (suc j) v w n e d =
      let rest = two_within xs i j v w (λ p. n (ap suc p)) e d in
      let all = sum_by-cons f x xs in omega arith

  sum_none : (l : List A) → ((j : ℕ) (v : A) → get_elem? l j ≡ some v → f v ≡ 0) → sum_by f l ≡ 0
  sum_none [] none = refl
  sum_none (x ∷ xs) none =
      let first = none 0 x refl in
      let rest = sum_none xs (λ j v e. none (suc j) v e) in
      let all = sum_by-cons f x xs in omega arith

  -- where f of all others is 0
  pub sum_alone : (l : List A) (i : ℕ) (v : A) → get_elem? l i ≡ some v
      → ((j : ℕ) (w : A) → j ≢ i → get_elem? l j ≡ some w → f w ≡ 0) → sum_by f l ≡ f v
  sum_alone [] i v e none = absurd (some-ne-none v (sym e))
  sum_alone (x ∷ xs) zero v e none =
      let same : f x ≡ f v = ap f (some-injective x v e) in
      let rest = sum_none xs (λ j w d. none (suc j) w (λ p. omega arith) d) in
      let all = sum_by-cons f x xs in omega arith
  sum_alone (x ∷ xs) (suc i) v e none =
      let first = none 0 x (λ p. omega arith) refl in
      let rest = sum_alone xs i v e (λ j w n d. none (suc j) w (λ p. n (omega arith)) d) in
      let all = sum_by-cons f x xs in omega arith
