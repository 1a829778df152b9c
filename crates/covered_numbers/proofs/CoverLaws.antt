-- Stretches in order, and stretches that were made longer.
use Rattle.std.proofs.Common.{◌≡◌, ℕ, zero, suc, ◌+◌, ◌≤◌, ◌<◌, ◌⊎◌, inl, inr, Bool, true, false, ◌&&◌, ◌||◌, List, []}
use Rattle.std.proofs.Common.{◌∷◌, length, max, refl, sym, ap, subst, arith, slice_index_or, Contains, nat_le}
use Rattle.std.specs.Prelude.{⊤}
use Rattle.std.specs.List.Sorted.{IsNonDecreasingBy, IsPermutation, IsPartitionPoint, IsPartitionedBy}
use Rattle.std.proofs.lemmas.Bool.{and_parts, or_cases, or_right, leb-true, le-leb, leb-false}
use Rattle.std.proofs.lemmas.List.{get_or_default}
use Rattle.std.proofs.lemmas.List.Sorted.{Contains-permutation, IsPermutation-sym}
use Rattle.std.specs.Cmp.{both_ways}
use Rattle.covered_numbers.specs.declared.stretches.Stretch.{Stretch}
use Rattle.covered_numbers.specs.Covers.{has_number, is_covered, raised}

-- some stretch has the number
abbrev pub IsCovered : List Stretch → ℕ → Type 0
IsCovered stretches number = (s : Stretch) × Contains stretches s × (s.first ≤ number) × (number ≤ s.last)

-- ---- lists along which a number doesn't fall

abbrev pub Rises : {X : Type 0} → (X → ℕ) → ℕ → List X → Type 0
Rises n low [] = ⊤
Rises n low (x ∷ xs) = (low ≤ n x) × Rises n (n x) xs

rises_at : {X : Type 0} (n : X → ℕ) (low : ℕ) (xs : List X) → Rises n low xs → (j : ℕ) (d : X) → j < length xs
    → low ≤ n (slice_index_or xs j d)
rises_at n low [] r j d within = absurd (omega arith)
rises_at n low (x ∷ xs) r zero d within = r.0
rises_at n low (x ∷ xs) r (suc j) d within = let least = rises_at n (n x) xs r.1 j d (omega arith) in
    let first = r.0 in omega arith

pub in_order : {X : Type 0} (n : X → ℕ) (low : ℕ) (xs : List X) → Rises n low xs → IsNonDecreasingBy n xs
in_order n low [] r i j d le within = absurd (omega arith)
in_order n low (x ∷ xs) r zero zero d le within = omega arith
in_order n low (x ∷ xs) r zero (suc j) d le within = rises_at n (n x) xs r.1 j d (omega arith)
in_order n low (x ∷ xs) r (suc i) zero d le within = absurd (omega arith)
in_order n low (x ∷ xs) r (suc i) (suc j) d le within = in_order n (n x) xs r.1 i j d (omega arith) (omega arith)

pub rises : {X : Type 0} (n : X → ℕ) (xs : List X) → IsNonDecreasingBy n xs → Rises n 0 xs
rises n [] up = tt
rises {X} n (x ∷ xs) up = (omega arith, from x xs up)
  where
    from : (x : X) (xs : List X) → IsNonDecreasingBy n (x ∷ xs) → Rises n (n x) xs
    from x [] up = tt
    from x (y ∷ ys) up = (
      up 0 1 x (omega arith) (omega arith),
      from y ys
          (λ i j d le within. up (suc i) (suc j) d (omega arith) (omega arith)),
    )

nat_le_or : (a b : ℕ) → (a ≤ b) ⊎ (b < a)
nat_le_or zero b = inl (omega arith)
nat_le_or (suc a) zero = inr (omega arith)
nat_le_or (suc a) (suc b) = elim (nat_le_or a b) [ inl le ↦ inl (omega arith) | inr gt ↦ inr (omega arith) ]

-- ---- stretches made longer

pub longer_begin : (least low : ℕ) (ss : List Stretch) → Rises (λ s. s.first) low ss
    → Rises (λ s. s.first) low (raised least ss)
longer_begin least low [] r = tt
longer_begin least low (s ∷ ss) r = (r.0, longer_begin (max s.last least) s.first ss r.1)

pub longer_end : (least : ℕ) (ss : List Stretch) → Rises (λ s. s.last) least (raised least ss)
longer_end least [] = tt
longer_end least (s ∷ ss) = (omega arith, longer_end (max s.last least) ss)

-- ---- which numbers they have

here : (s : Stretch) (ss : List Stretch) (number : ℕ) → s.first ≤ number → number ≤ s.last → IsCovered (s ∷ ss) number
here s ss number low high = (s, (0, omega arith, refl), low, high)

behind : (s : Stretch) (ss : List Stretch) (number : ℕ) → IsCovered ss number → IsCovered (s ∷ ss) number
behind s ss number (t, (k, within, at), low, high) = (t, (suc k, omega arith, at), low, high)

-- the first one has it, or one behind it
split : (s : Stretch) (ss : List Stretch) (number : ℕ) → IsCovered (s ∷ ss) number
    → ((s.first ≤ number) × (number ≤ s.last)) ⊎ IsCovered ss number
split s ss number (t, (zero, within, at), low, high) =
    inl (subst (λ (x : Stretch). (x.first ≤ number) × (number ≤ x.last)) (sym at) (low, high))
split s ss number (t, (suc k, within, at), low, high) = inr (t, (k, omega arith, at), low, high)

pub longer_have : (least : ℕ) (ss : List Stretch) (number : ℕ) → IsCovered ss number
    → IsCovered (raised least ss) number
longer_have least [] number (t, (k, within, at), low, high) = absurd (omega arith)
longer_have least (s ∷ ss) number c = elim (split s ss number c) [
  | inl own ↦ (let high = own.1 in here (record { first = s.first; last = max s.last least })
      (raised (max s.last least) ss) number own.0 (omega arith))
  | inr more ↦ behind (record { first = s.first; last = max s.last least }) (raised (max s.last least) ss) number
      (longer_have (max s.last least) ss number more)
]

-- some stretch begins at the number or before
abbrev Begun : List Stretch → ℕ → Type 0
Begun ss number = (t : Stretch) × Contains ss t × (t.first ≤ number)

first_begun : (s : Stretch) (ss : List Stretch) (number : ℕ) → Rises (λ t. t.first) s.first ss → Begun ss number
    → s.first ≤ number
first_begun s ss number r (t, (k, within, at), low) =
    let least = rises_at (λ (x : Stretch). x.first) s.first ss r k t within in
    let same : (slice_index_or ss k t).first ≡ t.first = ap (λ (x : Stretch). x.first) at in omega arith

longer_only : (least low : ℕ) (ss : List Stretch) (number : ℕ) → Rises (λ t. t.first) low ss
    → IsCovered (raised least ss) number
    → ((number ≤ least) × Begun ss number) ⊎ IsCovered ss number
longer_only least low [] number r (t, (k, within, at), first, last) = absurd (omega arith)
longer_only least low (s ∷ ss) number r c = elim (split (record { first = s.first; last = max s.last least })
    (raised (max s.last least) ss) number c) [
      | inl own ↦ by_last (nat_le_or number s.last) own.0 own.1
      | inr more ↦ elim (longer_only (max s.last least) s.first ss number r.1 more) [
        | inl past ↦ by_last (nat_le_or number s.last) (first_begun s ss number r.1 past.1) past.0
        | inr some ↦ inr (behind s ss number some)
      ]
    ]
  where
    by_last : (number ≤ s.last) ⊎ (s.last < number) → s.first ≤ number → number ≤ max s.last least
        → ((number ≤ least) × Begun (s ∷ ss) number) ⊎ IsCovered (s ∷ ss) number
    by_last (inl within) low high = inr (here s ss number low within)
    by_last (inr past) low high = inl (omega arith, (s, (0, omega arith, refl), low))

pub longer_same : (ss : List Stretch) (number : ℕ) → Rises (λ t. t.first) 0 ss → IsCovered (raised 0 ss) number
    → IsCovered ss number
longer_same ss number r c = elim (longer_only 0 0 ss number r c) [
  | inl none ↦ (let t = none.1.0 in let zero_is = none.0 in (t, none.1.1, none.1.2, omega arith))
  | inr some ↦ some
]

-- ---- the order of the stretches doesn't matter

pub permuted : (xs ys : List Stretch) (number : ℕ) → IsPermutation xs ys → IsCovered xs number → IsCovered ys number
permuted xs ys number moves (s, at, low, high) = (s, Contains-permutation xs ys s moves at, low, high)

-- ---- one look

-- where a stretch begins at the number or before, those before it do
pub parted : (ss : List Stretch) (number : ℕ) → IsNonDecreasingBy (λ s. s.first) ss
    → IsPartitionedBy (λ s. nat_le s.first number) ss
parted ss number up i j d le within e =
    let low = up i j d le within in
    let first = leb-true (slice_index_or ss j d).first number e in
    le-leb (slice_index_or ss i d).first number (omega arith)

-- the first k stretches are those that begin at the number or before
abbrev pub BeginBy : List Stretch → ℕ → ℕ → Type 0
BeginBy ss number k = IsPartitionPoint (λ s. nat_le s.first number ≡ true) (λ s. nat_le s.first number ≡ false) ss k

pub none_begun : (ss : List Stretch) (number : ℕ) → BeginBy ss number 0 → IsCovered ss number → ⊥
none_begun ss number point (s, (k, within, at), low, high) =
    let past = leb-false (slice_index_or ss k s).first number (point.1 k s (omega arith) within) in
    let same : (slice_index_or ss k s).first ≡ s.first = ap (λ (x : Stretch). x.first) at in omega arith

-- of these the last one reaches farthest
pub last_begun : (ss : List Stretch) (number k : ℕ) (d : Stretch) → IsNonDecreasingBy (λ s. s.last) ss → k < length ss
    → BeginBy ss number (k + 1) → IsCovered ss number → number ≤ (slice_index_or ss k d).last
last_begun ss number k d up within point (s, (i, inside, at), low, high) = by (nat_le_or i k)
  where
    by : (i ≤ k) ⊎ (k < i) → number ≤ (slice_index_or ss k d).last
    by (inl before) =
        let same : (slice_index_or ss i s).last ≡ s.last = ap (λ (x : Stretch). x.last) at in
        let reach = up i k s before within in
        let default : (slice_index_or ss k s).last ≡ (slice_index_or ss k d).last = ap (λ (x : Stretch). x.last)
        (get_or_default ss k s d within) in
        omega arith
    by (inr behind) =
        let past = leb-false (slice_index_or ss i s).first number (point.1 i s (omega arith) inside) in
        let same : (slice_index_or ss i s).first ≡ s.first = ap (λ (x : Stretch). x.first) at in absurd (omega arith)

pub last_has : (ss : List Stretch) (number k : ℕ) (d : Stretch) → k < length ss → BeginBy ss number (k + 1)
    → number ≤ (slice_index_or ss k d).last → IsCovered ss number
last_has ss number k d within point high =
    let low = leb-true (slice_index_or ss k d).first number (point.0 k d (omega arith) (omega arith)) in
    (slice_index_or ss k d, (k, within, get_or_default ss k (slice_index_or ss k d) d within), low, high)

-- ---- said as a test

test_tells : (ss : List Stretch) (number : ℕ) → is_covered ss number ≡ true → IsCovered ss number
test_tells [] number e = absurd cc
test_tells (s ∷ ss) number e = elim (or_cases (has_number number s) (is_covered ss number) e) [
  | inl own ↦ (let both = and_parts (nat_le s.first number) (nat_le number s.last) own in
      here s ss number (leb-true s.first number both.0) (leb-true number s.last both.1))
  | inr more ↦ behind s ss number (test_tells ss number more)
]

test_passes : (ss : List Stretch) (number : ℕ) → IsCovered ss number → is_covered ss number ≡ true
test_passes [] number (t, (k, within, at), low, high) = absurd (omega arith)
test_passes (s ∷ ss) number c = elim (split s ss number c) [
  | inl own ↦ by_own (nat_le s.first number) (nat_le number s.last) (le-leb s.first number own.0)
      (le-leb number s.last own.1)
  | inr more ↦ or_right (has_number number s) (is_covered ss number) (test_passes ss number more)
]
  where
    by_own : (a b : Bool) → a ≡ true → b ≡ true → (a && b) || is_covered ss number ≡ true
    by_own true true ea eb = refl
    by_own true false ea eb = absurd cc
    by_own false b ea eb = absurd cc

-- so one look tells
pub no_look : (ss : List Stretch) (number : ℕ) → BeginBy ss number 0 → false ≡ is_covered ss number
no_look ss number point = both_ways false (is_covered ss number) (λ e. absurd cc)
    (λ e. absurd (none_begun ss number point (test_tells ss number e)))

pub one_look : (ss : List Stretch) (number k : ℕ) (d : Stretch) → IsNonDecreasingBy (λ s. s.last) ss → k < length ss
    → BeginBy ss number (k + 1) → nat_le number (slice_index_or ss k d).last ≡ is_covered ss number
one_look ss number k d up within point = both_ways (nat_le number (slice_index_or ss k d).last) (is_covered ss number)
    (λ e. test_passes ss number (last_has ss number k d within point (leb-true number (slice_index_or ss k d).last e)))
    (λ e. le-leb number (slice_index_or ss k d).last (last_begun ss number k d up within point
    (test_tells ss number e)))

-- ---- the whole

pub same_numbers : (xs ys : List Stretch) (number : ℕ) → IsPermutation xs ys → IsNonDecreasingBy (λ s. s.first) ys
    → is_covered (raised 0 ys) number ≡ is_covered xs number
same_numbers xs ys number moves up = both_ways (is_covered (raised 0 ys) number) (is_covered xs number)
    (λ e. test_passes xs number (permuted ys xs number (IsPermutation-sym xs ys moves)
    (longer_same ys number (rises (λ (s : Stretch). s.first) ys up) (test_tells (raised 0 ys) number e))))
    (λ e. test_passes (raised 0 ys) number (longer_have 0 ys number
    (permuted xs ys number moves (test_tells xs number e))))
