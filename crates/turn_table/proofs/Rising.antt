-- Rising lists of positions.
use Rattle.std.proofs.Common.{◌≡◌, ◌≢◌, ℕ, zero, suc, ◌+◌, ◌-◌, ◌≤◌, ◌<◌, nat_lt, Bool, true, false, List, [], ◌∷◌}
use Rattle.std.proofs.Common.{◌++◌, refl, subst, arith, if◌then◌else◌}
use Rattle.std.specs.List.{AllByRecursion, range_with_len}
use Rattle.std.specs.List.Sorted.{IsStrictlySortedBy}
use Rattle.std.specs.Ordering.{nat_cmp}
use Rattle.std.specs.declared.cmp.Ordering.TheVariants.{Less}
use Rattle.std.proofs.lemmas.Bool.Decides.{nat_tests}
use Rattle.std.proofs.lemmas.List.Elements.{All-from_recursion, recursion_from_All}
use Rattle.std.proofs.lemmas.Map.Keys.{IsStrictlyIncreasing-from_sorted, sorted_from_strictly_increasing}
use mathlib.Core.Logic.{dite}
use native.Mathlib.Decide.{ℕ_discrete}
use Rattle.turn_table.specs.Positions.{times, RisesBelow, put_in, merged}
use Rattle.turn_table.proofs.Positions.{times_hit, times_miss, times_merged, times_within}
use Rattle.list_laws.proofs.Tests.{below_is_less, less_is_below}

-- the numbers rise, none is below a, and all are below b
abbrev RisesIn : ℕ → List ℕ → ℕ → Type 0
RisesIn a [] b = a ≤ b
RisesIn a (x ∷ xs) b = (a ≤ x) × RisesIn (x + 1) xs b

-- ---- the same by recursion and in std's words

all_after : (x a b : ℕ) (xs : List ℕ) → x < a → RisesIn a xs b → AllByRecursion (λ y. nat_cmp x y ≡ Less) xs
all_after x a b [] l r = tt
all_after x a b (y ∷ ys) l r =
    let low = r.0 in (below_is_less x y (omega arith), all_after x (y + 1) b ys (omega arith) r.1)

sorted : (a b : ℕ) (xs : List ℕ) → RisesIn a xs b → IsStrictlySortedBy nat_cmp xs
unfolding IsStrictlySortedBy
sorted a b [] r = tt
sorted a b (x ∷ xs) r = (all_after x (x + 1) b xs (omega arith) r.1, sorted (x + 1) b xs r.1)

rises_wide : (a b : ℕ) (xs : List ℕ) → RisesIn a xs b → a ≤ b
rises_wide a b [] r = r
rises_wide a b (x ∷ xs) r = let h = rises_wide (x + 1) b xs r.1 in let low = r.0 in omega arith

all_below : (a b : ℕ) (xs : List ℕ) → RisesIn a xs b → AllByRecursion (λ y. y < b) xs
all_below a b [] r = tt
all_below a b (x ∷ xs) r = let h = rises_wide (x + 1) b xs r.1 in (omega arith, all_below (x + 1) b xs r.1)

rises_from_sorted : (a b : ℕ) (xs : List ℕ) → a ≤ b → AllByRecursion (λ y. a ≤ y) xs → IsStrictlySortedBy nat_cmp xs
    → AllByRecursion (λ y. y < b) xs → RisesIn a xs b
unfolding IsStrictlySortedBy
rises_from_sorted a b [] l low s high = l
rises_from_sorted a b (x ∷ xs) l low s high =
    (low.0, rises_from_sorted (x + 1) b xs (let h = high.0 in omega arith) (after xs s.0) s.1 high.1)
  where
    after : (ys : List ℕ) → AllByRecursion (λ y. nat_cmp x y ≡ Less) ys → AllByRecursion (λ y. x + 1 ≤ y) ys
    after [] all = tt
    after (y ∷ ys) all = let h = less_is_below x y all.0 in (omega arith, after ys all.1)

none_low : (xs : List ℕ) → AllByRecursion (λ y. 0 ≤ y) xs
none_low [] = tt
none_low (x ∷ xs) = (omega arith, none_low xs)

from_words : (n : ℕ) (xs : List ℕ) → RisesBelow n xs → RisesIn 0 xs n
from_words n xs r = rises_from_sorted 0 n xs (omega arith) (none_low xs)
    (sorted_from_strictly_increasing xs r.rising) (recursion_from_All (λ p. p < n) xs r.below)

in_words : (n : ℕ) (xs : List ℕ) → RisesIn 0 xs n → RisesBelow n xs
in_words n xs r = record {
  rising = IsStrictlyIncreasing-from_sorted xs (sorted 0 n xs r);
  below = All-from_recursion (λ p. p < n) xs (all_below 0 n xs r);
}

-- ---- lists that rise

rises_more : (a b c : ℕ) (xs : List ℕ) → RisesIn a xs b → b ≤ c → RisesIn a xs c
rises_more a b c [] r l = omega arith
rises_more a b c (x ∷ xs) r l = (r.0, rises_more (x + 1) b c xs r.1 l)

rises_from : (a b c : ℕ) (xs : List ℕ) → RisesIn b xs c → a ≤ b → RisesIn a xs c
rises_from a b c [] r l = omega arith
rises_from a b c (x ∷ xs) r l = (let low = r.0 in omega arith, r.1)

rises_append : (a b c : ℕ) (xs ys : List ℕ) → RisesIn a xs b → RisesIn b ys c → RisesIn a (xs ++ ys) c
rises_append a b c [] ys r s = rises_from a b c ys s r
rises_append a b c (x ∷ xs) ys r s = (r.0, rises_append (x + 1) b c xs ys r.1 s)

range_rises : (a n b : ℕ) → a + n ≡ b → RisesIn a (range_with_len a n) b
range_rises a zero b e = omega arith
range_rises a (suc n) b e = (omega arith, range_rises (a + 1) n b (omega arith))

pub none_rises : (n : ℕ) → RisesBelow n []
none_rises n = in_words n [] (omega arith)

pub all_rises : (n : ℕ) → RisesBelow n (range_with_len 0 n)
all_rises n = in_words n (range_with_len 0 n) (range_rises 0 n n (omega arith))

pub still_rises : (m n : ℕ) (xs : List ℕ) → RisesBelow m xs → m ≤ n → RisesBelow n xs
still_rises m n xs r l = in_words n xs (rises_more 0 m n xs (from_words m xs r) l)

-- the positions from m on come behind
pub longer_rises : (m n : ℕ) (xs : List ℕ) → RisesBelow m xs → m ≤ n → RisesBelow n (xs ++ range_with_len m (n - m))
longer_rises m n xs r l = in_words n (xs ++ range_with_len m (n - m))
    (rises_append 0 m n xs (range_with_len m (n - m)) (from_words m xs r) (range_rises m (n - m) n (omega arith)))

-- ---- how often a position stands in a rising list

times_low : (p a b : ℕ) (xs : List ℕ) → RisesIn a xs b → p < a → times p xs ≡ 0
times_low p a b [] r l = refl
times_low p a b (x ∷ xs) r l =
    let low = r.0 in
    let miss = times_miss p x xs (λ e. omega arith) in
    let rest = times_low p (x + 1) b xs r.1 (omega arith) in omega arith

is_range_from : (a n b : ℕ) (xs : List ℕ) → a + n ≡ b → RisesIn a xs b → ((p : ℕ) → a ≤ p → p < b → times p xs ≡ 1)
    → xs ≡ range_with_len a n
is_range_from a zero b [] e r once = refl
is_range_from a zero b (x ∷ xs) e r once =
    let wide = rises_wide (x + 1) b xs r.1 in let low = r.0 in absurd (omega arith)
is_range_from a (suc n) b [] e r once =
    let here : times a [] ≡ 1 = once a (omega arith) (omega arith) in absurd (omega arith)
is_range_from a (suc n) b (x ∷ xs) e r once =
    let low = r.0 in
    let first : x ≡ a = dite (ℕ_discrete x a) (λ s. s) (λ other.
    let here = once a (omega arith) (omega arith) in
    let miss = times_miss a x xs other in
    let rest = times_low a (x + 1) b xs r.1 (omega arith) in absurd (omega arith)) in
    let later : RisesIn (a + 1) xs b = subst (λ (z : ℕ). RisesIn (z + 1) xs b) first r.1 in
    let rest : xs ≡ range_with_len (a + 1) n = is_range_from (a + 1) n b xs (omega arith) later (λ p l h.
    let here = once p (omega arith) h in
    let miss = times_miss p x xs (λ s. omega arith) in omega arith) in
    cc

-- a rising list that has each position below n is the list of these
pub is_range : (n : ℕ) (xs : List ℕ) → RisesBelow n xs → ((p : ℕ) → times p xs ≡ times p (range_with_len 0 n))
    → xs ≡ range_with_len 0 n
is_range n xs r same = is_range_from 0 n n xs (omega arith) (from_words n xs r)
    (λ p l h. let one = times_within p 0 n (omega arith) (omega arith) in let equal = same p in omega arith)

-- ---- two rising lists in one

put_at : (a b x y : ℕ) (ys : List ℕ) → RisesIn a (y ∷ ys) b → a ≤ x → x < b → times x (y ∷ ys) ≡ 0
    → (y < x → RisesIn (y + 1) (put_in x ys) b) → (t : Bool) → nat_lt x y ≡ t
    → RisesIn a (if t then x ∷ y ∷ ys else y ∷ put_in x ys) b
put_at a b x y ys r l h none rest true is =
    let less : x < y = grind (arith, nat_tests) in (l, (omega arith, r.1))
put_at a b x y ys r l h none rest false is =
    let more : y ≤ x = grind (arith, nat_tests) in
    let other : y ≢ x = λ e. let hit = times_hit x y ys e in absurd (omega arith) in (r.0, rest (omega arith))

put_rises : (a b x : ℕ) (ys : List ℕ) → RisesIn a ys b → a ≤ x → x < b → times x ys ≡ 0 → RisesIn a (put_in x ys) b
put_rises a b x [] r l h none = (l, omega arith)
put_rises a b x (y ∷ ys) r l h none = put_at a b x y ys r l h none
    (λ less.
    let miss = times_miss x y ys (λ e. omega arith) in
    put_rises (y + 1) b x ys r.1 (omega arith) h (omega arith))
    (nat_lt x y) refl

merged_from : (a b : ℕ) (xs ys : List ℕ) → RisesIn a xs b → RisesIn 0 ys b
    → ((p : ℕ) → times p xs + times p ys ≤ 1) → RisesIn 0 (merged xs ys) b
merged_from a b [] ys r s once = s
merged_from a b (x ∷ xs) ys r s once =
    let wide = rises_wide (x + 1) b xs r.1 in
    let hit = times_hit x x xs refl in
    let here = once x in
    let both = times_merged x xs ys in
    let rest = merged_from (x + 1) b xs ys r.1 s (λ p. fewer p (once p)) in
    put_rises 0 b x (merged xs ys) rest (omega arith) (omega arith) (omega arith)
  where
    fewer : (p : ℕ) → times p (x ∷ xs) + times p ys ≤ 1 → times p xs + times p ys ≤ 1
    fewer p l = dite (ℕ_discrete x p)
        (λ e. let hit = times_hit p x xs e in omega arith) (λ n. let miss = times_miss p x xs n in omega arith)

-- two rising lists that share no position
pub merged_rises : (n : ℕ) (xs ys : List ℕ) → RisesBelow n xs → RisesBelow n ys
    → ((p : ℕ) → times p xs + times p ys ≤ 1) → RisesBelow n (merged xs ys)
merged_rises n xs ys r s once =
    in_words n (merged xs ys) (merged_from 0 n xs ys (from_words n xs r) (from_words n ys s) once)
