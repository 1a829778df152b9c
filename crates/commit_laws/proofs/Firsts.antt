-- The first of some numbers from a place on.
use Rattle.std.proofs.Common.{◌≡◌, ℕ, zero, suc, ◌<◌, ◌≤◌, List, [], ◌∷◌, ◌⊎◌, inl, inr, refl, subst, arith, Some}
use Rattle.std.proofs.Common.{slice_get, take}
use Rattle.std.specs.List.{AllByRecursion}
use Rattle.std.proofs.lemmas.Bool.{cases_lt}
use Rattle.flux_defs.specs.Overtaken.{IsFirstFrom, NoneFrom}

module _ (P : ℕ → Type 0) (place : ℕ) where
  -- none before a number, and not that one: none before the next
  pub none_yet : (n : ℕ) → ((i : ℕ) → place ≤ i → i < n → P i → ⊥) → (place ≤ n → P n → ⊥) → (i : ℕ) → place ≤ i →
      i < suc n → P i → ⊥
  none_yet n before here i lo lt p = elim (cases_lt i n) [
    | inl earlier ↦ before i lo earlier p
    | inr last ↦ (let same : i ≡ n = omega arith in here (omega arith) (subst P same p))
  ]

  none_before : ((at : ℕ) → IsFirstFrom P place at → ⊥) → (n i : ℕ) → place ≤ i → i < n → P i → ⊥
  none_before never zero i lo lt p = absurd (omega arith)
  none_before never (suc n) i lo lt p =
      none_yet n (none_before never n)
      (λ from here. never n (record { after = from; there = here; before = none_before never n })) i lo lt p

  -- where there is no first, there is none
  pub none_from : ((at : ℕ) → IsFirstFrom P place at → ⊥) → NoneFrom P place
  none_from never i lo p = none_before never (suc i) i lo (omega arith) p

  -- among the numbers before a bound there is a first, or none
  pub first_or_none : ((i : ℕ) → P i ⊎ (P i → ⊥)) → (n : ℕ) →
      ((at : ℕ) × IsFirstFrom P place at) ⊎ ((i : ℕ) → place ≤ i → i < n → P i → ⊥)
  first_or_none decide zero = inr (λ i lo lt p. absurd (omega arith))
  first_or_none decide (suc n) = elim (first_or_none decide n) [
    | inl found ↦ inl found
    | inr before ↦ elim (cases_lt n place) [
      | inl short ↦ inr (none_yet n before (λ lo p. absurd (omega arith)))
      | inr from ↦ elim (decide n) [
        | inl here ↦ inl (n, record { after = from; there = here; before = before })
        | inr differ ↦ inr (none_yet n before (λ lo p. differ p))
      ]
    ]
  ]

  -- there is one first at most
  pub first_once : (a b : ℕ) → IsFirstFrom P place a → IsFirstFrom P place b → a ≡ b
  first_once a b f g = elim (cases_lt a b) [
    | inl less ↦ absurd (g.before a f.after less f.there)
    | inr more ↦ elim (cases_lt b a) [ inl less ↦ absurd (f.before b g.after less g.there) | inr same ↦ omega arith ]
  ]

-- what can't fail at a first element of a list, with the elements before it, holds of each
pub all_unless_first : {X : Type 0} (P : X → Type 0) → ((x : X) → ((P x → ⊥) → ⊥) → P x) → (xs : List X) →
    ((i : ℕ) (x : X) → slice_get xs i ≡ Some x → (P x → ⊥) → AllByRecursion P (take i xs) → ⊥) → AllByRecursion P xs
all_unless_first P stable [] never = tt
all_unless_first P stable (x ∷ xs) never =
    let here = stable x (λ n. never 0 x refl n tt) in
    (here, all_unless_first P stable xs (λ i y e n before. never (suc i) y e n (here, before)))
