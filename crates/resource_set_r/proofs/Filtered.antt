-- What a filter keeps and a search finds in numbers in order.
use Rattle.std.proofs.Common.{◌≡◌, ℕ, zero, suc, ◌+◌, ◌-◌, ◌<◌, ◌≤◌, Bool, true, false, List, [], ◌∷◌, length, get_or}
use Rattle.std.proofs.Common.{take, drop, Some, None, inl, inr, refl, sym, ◌∙◌, ap, arith, cond}
use Rattle.std.specs.List.{filter, find}
use Rattle.std.proofs.lemmas.Bool.{cases_lt, cases_eq, false_from_ne_true}
use Rattle.idset_text.specs.Idsets.{ids_from}

pub ids_step : (from to : ℕ) → from < to → ids_from (to - from) from ≡ from ∷ ids_from (to - (from + 1)) (from + 1)
ids_step from to lt = let e : to - from ≡ suc (to - (from + 1)) = omega arith in ap (λ n. ids_from n from) e

module _ (p : ℕ → Bool) where
  pub filter_none : (count start : ℕ) →
      ((w : ℕ) → start ≤ w → w < start + count → p w ≡ false) → filter p (ids_from count start) ≡ []
  filter_none zero start h = refl
  filter_none (suc count) start h = rw
      (h start (omega arith) (omega arith)) (filter_none count (start + 1) (λ w lo hi. h w (omega arith) (omega arith)))

  -- exactly the numbers from a on and before b pass
  pub filter_range : (count start a b : ℕ) →
      start ≤ a → a ≤ b → b ≤ start + count → ((w : ℕ) → a ≤ w → w < b → p w ≡ true) →
      ((w : ℕ) → start ≤ w → w < a → p w ≡ false) →
      ((w : ℕ) → b ≤ w → w < start + count → p w ≡ false) → filter p (ids_from count start) ≡ ids_from (b - a) a
  filter_range zero start a b lo mid hi inside before after = let e : b - a ≡ 0 = omega arith in rw e refl
  filter_range (suc count) start a b lo mid hi inside before after =
      elim (cases_lt start a) [
        | inl less ↦ rw (before start (omega arith) less)
            (filter_range count (start + 1) a b (omega arith) mid
            (omega arith) inside (λ w l h. before w (omega arith) h) (λ w l h. after w l (omega arith)))
        | inr not_less ↦ (let e : start ≡ a = omega arith in
            elim (cases_lt a b) [
              | inl some ↦ (
                  let yes' : p start ≡ true = inside start (omega arith) (omega arith) in
                  let rest : filter p (ids_from count (start + 1)) ≡ ids_from (b - (start + 1)) (start + 1) =
                  filter_range count (start + 1) (start + 1) b (omega arith) (omega arith) (omega arith) (λ w l h.
                  inside w (omega arith) h) (λ w l h. absurd (omega arith)) (λ w l h. after w l (omega arith)) in
                  let step : ids_from (b - start) start ≡ start ∷ ids_from (b - (start + 1)) (start + 1) =
                  ids_step start b (omega arith) in
                  let whole : filter p (ids_from (suc count) start) ≡ ids_from (b - start) start =
                  rw yes' (ap (λ ns. start ∷ ns) rest ∙ sym step) in
                  whole ∙ ap (λ n. ids_from (b - n) n) e)
              | inr none ↦ (
                  let empty : b - a ≡ 0 = omega arith in
                  rw empty (filter_none (suc count) start (λ w l h. after w (omega arith) h)))
            ])
      ]

  -- the one number that passes
  pub find_only : (count start n : ℕ) → start ≤ n → n < start + count → p n ≡ true →
      ((m : ℕ) → start ≤ m → m < start + count → p m ≡ true → m ≡ n) → find p (ids_from count start) ≡ Some n
  find_only zero start n lo hi passes only = absurd (omega arith)
  find_only (suc count) start n lo hi passes only =
      elim (cases_eq start n) [
        | inl same ↦ (let first : p start ≡ true = ap p same ∙ passes in rw first (ap Some same))
        | inr differ ↦ (
            let first : p start ≡ false =
            false_from_ne_true (p start) (λ h. differ (only start (omega arith) (omega arith) h)) in
            let more : start + 1 ≤ n = elim (cases_lt start n) [
              | inl less ↦ omega arith
              | inr le ↦ absurd (differ (omega arith))
            ] in
            rw first (find_only count
            (start + 1) n more (omega arith) passes (λ m l h q. only m (omega arith) (omega arith) q)))
      ]

  pub find_none : (count start : ℕ) →
      ((m : ℕ) → start ≤ m → m < start + count → p m ≡ false) → find p (ids_from count start) ≡ None
  find_none zero start none = refl
  find_none (suc count) start none = rw (none start (omega arith) (omega arith))
      (find_none count (start + 1) (λ m l h. none m (omega arith) (omega arith)))

  -- what is found passes
  pub find_some : (count start n : ℕ) →
      find p (ids_from count start) ≡ Some n → (p n ≡ true) × (start ≤ n) × (n < start + count)
  find_some zero start n e = absurd (cc)
  find_some (suc count) start n e = by (p start) refl e (λ f. find_some count (start + 1) n f)
    where
      by : (b : Bool) → p start ≡ b → cond b (Some start) (find p (ids_from count (start + 1))) ≡ Some n →
          (find p (ids_from count (start + 1)) ≡ Some n → (p n ≡ true) × (start + 1 ≤ n) × (n < start + 1 + count)) →
          (p n ≡ true) × (start ≤ n) × (n < start + suc count)
      by true h f rest = let same : start ≡ n = cc in (ap p (sym same) ∙ h, omega arith, omega arith)
      by false h f rest = let r = rest f in (r.0, omega (arith, r.1), omega (arith, r.2))

  pub filter_fails : (xs : List ℕ) → ((i : ℕ) → i < length xs → p (get_or xs i 0) ≡ false) → filter p xs ≡ []
  filter_fails [] h = refl
  filter_fails (x ∷ xs) h = rw (h 0 (omega arith)) (filter_fails xs (λ i lt. h (suc i) (omega arith)))

  -- exactly the items from place a on and before place b pass
  pub filter_slice : (xs : List ℕ) (a b : ℕ) →
      a ≤ b → b ≤ length xs → ((i : ℕ) → a ≤ i → i < b → p (get_or xs i 0) ≡ true) →
      ((i : ℕ) → i < a → p (get_or xs i 0) ≡ false) →
      ((i : ℕ) → b ≤ i → i < length xs → p (get_or xs i 0) ≡ false) → take (b - a) (drop a xs) ≡ filter p xs
  filter_slice [] zero b le within inside before after = let e : b - 0 ≡ 0 = omega arith in rw e refl
  filter_slice [] (suc a) b le within inside before after = absurd (omega arith)
  filter_slice (x ∷ xs) zero zero le within inside before after =
      sym (filter_fails (x ∷ xs) (λ i lt. after i (omega arith) lt))
  filter_slice (x ∷ xs) zero (suc b) le within inside before after =
      let rest : take (b - 0) (drop 0 xs) ≡ filter p xs =
      filter_slice xs zero b (omega arith) (omega arith) (λ i l h. inside (suc i) (omega arith) (omega arith))
      (λ i h. absurd (omega arith)) (λ i l h. after (suc i) (omega arith) (omega arith)) in
      let e : suc b - 0 ≡ suc (b - 0) = omega arith in
      rw (inside 0 (omega arith) (omega arith), e) (ap (λ ys. x ∷ ys) rest)
  filter_slice (x ∷ xs) (suc a) zero le within inside before after = absurd (omega arith)
  filter_slice (x ∷ xs) (suc a) (suc b) le within inside before after =
      let e : suc b - suc a ≡ b - a = omega arith in
      let rest : take (b - a) (drop a xs) ≡ filter p xs =
      filter_slice xs a b (omega arith) (omega arith) (λ i l h. inside (suc i) (omega arith) (omega arith))
      (λ i h. before (suc i) (omega arith)) (λ i l h. after (suc i) (omega arith) (omega arith)) in
      rw (before 0 (omega arith), e) rest
