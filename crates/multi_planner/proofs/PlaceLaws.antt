-- Lists that grow by one place with the relation at it.
use Rattle.std.proofs.Common.{◌≡◌, ℕ, zero, suc, ◌+◌, ◌≤◌, List, [], ◌∷◌, ◌++◌, length, sym, ◌∙◌, ap, subst}
use Rattle.std.proofs.Common.{arith, Some, slice_get, take, inl, inr}
use Rattle.std.specs.Prelude.{sum_by}
use Rattle.std.proofs.lemmas.List.Sums.{sum_by-cons, sum_by-take-le}
use Rattle.std.proofs.lemmas.Option.{slice_get_within}
use Rattle.multi_planner.specs.Places.{AtEach, AtEachThree}
use Rattle.list_laws.proofs.Lists.{get_some, last_or}

pub each_none : {X Y : Type 0} (R : X → Y → Type 0) (xs : List X) → AtEach R xs []
each_none R xs place x y e f = absurd (cc)

pub three_none : {X Y Z : Type 0} (R : X → Y → Z → Type 0) (xs : List X) (ys : List Y) → AtEachThree R xs ys []
three_none R xs ys place x y z e f h = absurd (cc)

module _ {X Y : Type 0} (R : X → Y → Type 0) (xs : List X) (ys more : List Y) where
  pub each_more : (x : X) (y : Y) → AtEach R xs ys → slice_get xs (length ys) ≡ Some x → R x y → more ≡ ys ++ y ∷ [] →
      AtEach R xs more
  each_more x y all e r m place u v f g =
      elim (last_or ys y v place (ap (λ l. slice_get l place) (sym m) ∙ g)) [
        | inl there ↦ all place u v f there
        | inr last ↦ (let n = last.0 in
            let here = ap (slice_get xs) n in
            let same : x ≡ u = cc in subst (λ w. R w v) same (subst (R x) last.1 r))
      ]

module _ {X Y Z : Type 0} (R : X → Y → Z → Type 0) (xs : List X) (ys : List Y) (zs more : List Z) where
  pub three_more : (x : X) (y : Y) (z : Z) → AtEachThree R xs ys zs → slice_get xs (length zs) ≡ Some x →
      slice_get ys (length zs) ≡ Some y → R x y z → more ≡ zs ++ z ∷ [] → AtEachThree R xs ys more
  three_more x y z all e f r m place u v w g h i =
      elim (last_or zs z w place (ap (λ l. slice_get l place) (sym m) ∙ i)) [
        | inl there ↦ all place u v w g h there
        | inr last ↦ (let n = last.0 in
            let here = ap (slice_get xs) n in
            let too = ap (slice_get ys) n in
            let first : x ≡ u = cc in
            let second : y ≡ v = cc in
            subst (λ a. R a v w) first (subst (λ b. R x b w) second (subst (R x y) last.1 r)))
      ]

sum_suc : {X : Type 0} (f : X → ℕ) (xs : List X) (place : ℕ) (x : X) → slice_get xs place ≡ Some x →
    sum_by f (take (suc place) xs) ≡ sum_by f (take place xs) + f x
sum_suc f [] place x e = absurd (cc)
sum_suc f (y ∷ xs) zero x e = let same : y ≡ x = cc in let g = ap f same in omega (arith, sum_by-cons f y [])
sum_suc f (y ∷ xs) (suc place) x e =
    omega (arith, sum_by-cons f y (take (suc place) xs), sum_by-cons f y (take place xs), sum_suc f xs place x e)

-- the sum of the first items and one more
sum_more : {X : Type 0} (f : X → ℕ) (xs : List X) (place : ℕ) (x : X) → slice_get xs place ≡ Some x →
    sum_by f (take (place + 1) xs) ≡ sum_by f (take place xs) + f x
sum_more f xs place x e =
    let n : place + 1 ≡ suc place = omega arith in ap (λ n. sum_by f (take n xs)) n ∙ sum_suc f xs place x e

-- what is done at one item after another takes no more than the sum
module _ {X : Type 0}
    (f : X → ℕ) (xs : List X) (start before after place : ℕ) (x : X) (at : slice_get xs place ≡ Some x)
    (so_far : before ≤ start + sum_by f (take place xs)) (one : after ≤ before + f x) where
  pub work_next : after ≤ start + sum_by f (take (place + 1) xs)
  work_next = omega (arith, sum_more f xs place x at, so_far, one)

  pub work_stopped : after ≤ start + sum_by f xs
  work_stopped = let next = work_next in omega (arith, sum_by-take-le f xs (place + 1), next)

-- what leads from the old items at each place to the new ones
pub through : {T P A : Type 0} (R : P → Type 0) (S : P → A → Type 0) (totals : List T) (olds news : List P)
    (amounts : List A) → length olds ≡ length totals → length news ≡ length olds →
    AtEach (λ total old. R old) totals olds →
    AtEachThree (λ old amount new. R old → S new amount) olds amounts news → AtEach S news amounts
through R S totals olds news amounts a b each three place new amount e f =
    let inside = slice_get_within news place new e in
    let old = get_some olds place (omega arith) in
    let total = get_some totals place (omega arith) in
    three place old.0 amount new old.1 f e (each place total.0 old.0 total.1 old.1)
