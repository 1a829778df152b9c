-- Sums of what stands at a time, or up to it.
use Rattle.std.proofs.Common.{◌≡◌, ℕ, zero, suc, ◌+◌, ◌<◌, nat_le, List, [], ◌∷◌, ◌++◌, refl, sym, ◌∙◌, arith, cond}
use Rattle.std.proofs.Common.{inl, inr}
use Rattle.std.proofs.lemmas.Bool.{cases_lt}
use Rattle.flux_defs.proofs.DigitLaws.{if_le, if_gt}
use Rattle.planner_min_tree.specs.Marks.{summed, when_at, at}
use Rattle.planner_min_tree.specs.Chunks.{Each}

-- the numbers of what stands at a time or before it
abbrev pub when_until : ℕ → ℕ → ℕ → ℕ
when_until m time n = cond (nat_le time m) n 0

abbrev pub until : {X : Type 0} → (X → ℕ) → (X → ℕ) → ℕ → List X → ℕ
until time f m xs = summed (λ x. when_until m (time x) (f x)) xs

pub total_append : {X : Type 0} (f : X → ℕ) (xs ys : List X) → summed f (xs ++ ys) ≡ summed f xs + summed f ys
total_append f [] ys = omega arith
total_append f (x ∷ xs) ys = omega (arith, total_append f xs ys)

pub now_at : (t n : ℕ) → when_at t t n ≡ n
now_at t n = if_le {a = t} {b = t} _ _ (omega arith) ∙ if_le {a = t} {b = t} _ _ (omega arith)

pub not_yet_at : (t u n : ℕ) → t < u → when_at t u n ≡ 0
not_yet_at t u n h = if_gt {a = u} {b = t} _ _ h

pub past_at : (t u n : ℕ) → u < t → when_at t u n ≡ 0
past_at t u n h = if_le {a = u} {b = t} _ _ (omega arith) ∙ if_gt {a = t} {b = u} _ _ h

one_suc : (m u n : ℕ) → when_until (suc m) u n ≡ when_until m u n + when_at (suc m) u n
one_suc m u n =
    elim (cases_lt m u) [
      | inl later ↦ elim (cases_lt (suc m) u) [
        | inl far ↦ (let a : when_until (suc m) u n ≡ 0 = if_gt {a = u} {b = suc m} _ _ far in
            let b : when_until m u n ≡ 0 = if_gt {a = u} {b = m} _ _ later in
            let c = not_yet_at (suc m) u n far in omega arith)
        | inr near ↦ (let a : when_until (suc m) u n ≡ n = if_le {a = u} {b = suc m} _ _ near in
            let b : when_until m u n ≡ 0 = if_gt {a = u} {b = m} _ _ later in
            let same : u ≡ suc m = omega arith in
            let c : when_at (suc m) u n ≡ n = rw same (now_at (suc m) n) in omega arith)
      ]
      | inr le ↦ (let a : when_until (suc m) u n ≡ n = if_le {a = u} {b = suc m} _ _ (omega arith) in
          let b : when_until m u n ≡ n = if_le {a = u} {b = m} _ _ le in
          let c = past_at (suc m) u n (omega arith) in omega arith)
    ]

one_zero : (u n : ℕ) → when_until 0 u n ≡ when_at 0 u n
one_zero zero n = refl
one_zero (suc u) n = if_gt {a = suc u} {b = 0} _ _ (omega arith) ∙ sym (if_gt {a = suc u} {b = 0} _ _ (omega arith))

pub until_zero : {X : Type 0} (time f : X → ℕ) (xs : List X) → until time f 0 xs ≡ at time f 0 xs
until_zero time f [] = refl
until_zero time f (x ∷ xs) = omega (arith, one_zero (time x) (f x), until_zero time f xs)

pub until_suc : {X : Type 0} (time f : X → ℕ) (m : ℕ) (xs : List X) →
    until time f (suc m) xs ≡ until time f m xs + at time f (suc m) xs
until_suc time f m [] = omega arith
until_suc time f m (x ∷ xs) = omega (arith, one_suc m (time x) (f x), until_suc time f m xs)

-- two lists with the same sums at each time have the same sums up to each
pub until_same : {X Y : Type 0} (time f : X → ℕ) (time' f' : Y → ℕ) (xs : List X) (ys : List Y) →
    ((t : ℕ) → at time f t xs ≡ at time' f' t ys) → (m : ℕ) → until time f m xs ≡ until time' f' m ys
until_same time f time' f' xs ys h zero = until_zero time f xs ∙ h 0 ∙ sym (until_zero time' f' ys)
until_same time f time' f' xs ys h (suc m) =
    omega (arith, until_suc time f m xs, until_suc time' f' m ys, h (suc m), until_same time f time' f' xs ys h m)

-- nothing stands up to m, where all is later
pub until_none : {X : Type 0} (time f : X → ℕ) (m : ℕ) (xs : List X) → Each (λ x. m < time x) xs → until time f m xs ≡ 0
until_none time f m [] h = refl
until_none time f m (x ∷ xs) h =
    let a : when_until m (time x) (f x) ≡ 0 = if_gt {a = time x} {b = m} _ _ h.0 in
    omega (arith, until_none time f m xs h.1)

pub at_none : {X : Type 0} (time f : X → ℕ) (t : ℕ) (xs : List X) → Each (λ x. t < time x) xs → at time f t xs ≡ 0
at_none time f t [] h = refl
at_none time f t (x ∷ xs) h = omega (arith, not_yet_at t (time x) (f x) h.0, at_none time f t xs h.1)

pub each_of : {X : Type 0} {P Q : X → Type 0} → ((x : X) → P x → Q x) → (xs : List X) → Each P xs → Each Q xs
each_of f [] h = tt
each_of f (x ∷ xs) h = (f x h.0, each_of f xs h.1)

pub each_append : {X : Type 0} (P : X → Type 0) (xs ys : List X) → Each P xs → Each P ys → Each P (xs ++ ys)
each_append P [] ys a b = b
each_append P (x ∷ xs) ys a b = (a.0, each_append P xs ys a.1 b)

pub each_front : {X : Type 0} (P : X → Type 0) (xs ys : List X) → Each P (xs ++ ys) → Each P xs
each_front P [] ys h = tt
each_front P (x ∷ xs) ys h = (h.0, each_front P xs ys h.1)

pub each_back : {X : Type 0} (P : X → Type 0) (xs ys : List X) → Each P (xs ++ ys) → Each P ys
each_back P [] ys h = h
each_back P (x ∷ xs) ys h = each_back P xs ys h.1
