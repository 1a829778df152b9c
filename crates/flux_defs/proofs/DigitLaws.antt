-- A number is below the power of two of its digits, and greater numbers have no fewer digits.
use Rattle.std.proofs.Common.{◌≡◌, ℕ, zero, suc, ◌/◌, ◌^◌, ◌<◌, ◌≤◌, nat_le, refl, cond, inl, inr, arith}
use Rattle.std.proofs.Math.Nat.{pow-suc}
use Rattle.std.proofs.lemmas.Bool.{cases_lt}
use Rattle.std.proofs.lemmas.Bool.Decides.{leb_tells}
use Rattle.flux_defs.specs.Digits.{digits_within, dig}

-- a test of two numbers, and what it chooses
pub if_le : {A : Type 0} {a b : ℕ} (x y : A) → a ≤ b → cond (nat_le a b) x y ≡ x
if_le {a} {b} x y h = elim (leb_tells a b) [ inl t ↦ rw t.0 refl | inr f ↦ absurd (omega (arith, f.1)) ]

pub if_gt : {A : Type 0} {a b : ℕ} (x y : A) → b < a → cond (nat_le a b) x y ≡ y
if_gt {a} {b} x y h = elim (leb_tells a b) [ inl t ↦ absurd (omega (arith, t.1)) | inr f ↦ rw f.0 refl ]

-- a number of more than one digit has one more than its half
large : (most n : ℕ) → 1 < n → digits_within (suc most) n ≡ suc (digits_within most (n / 2))
large most n h = if_gt {a = n} {b = 1} _ _ h

small : (most n : ℕ) → n ≤ 1 → digits_within (suc most) n ≡ 1
small most n h = if_le {a = n} {b = 1} _ _ h

below : (most n : ℕ) → n ≤ most → n < 2 ^ digits_within most n
below zero n h = omega arith
below (suc most) n h =
    elim (cases_lt 1 n) [
      | inl many ↦ rw (large most n many)
          (omega (arith, below most (n / 2) (omega arith), pow-suc 2 (digits_within most (n / 2))))
      | inr few ↦ rw (small most n few) (omega arith)
    ]

some : (most n : ℕ) → 1 ≤ digits_within most n
some zero n = omega arith
some (suc most) n =
    elim (cases_lt 1 n) [ inl many ↦ omega (arith, large most n many) | inr few ↦ omega (arith, small most n few) ]

mono : (most most' n m : ℕ) → m ≤ most' → n ≤ m → digits_within most n ≤ digits_within most' m
mono zero most' n m b h = some most' m
mono (suc most) zero n m b h = omega (arith, small most n (omega arith))
mono (suc most) (suc most') n m b h =
    elim (cases_lt 1 n) [
      | inl many ↦ omega (
        arith,
        large most n many,
        large most' m (omega arith),
        mono most most' (n / 2) (m / 2) (omega arith) (omega arith),
      )
      | inr few ↦ omega (arith, small most n few, some (suc most') m)
    ]

pub below_dig : (n : ℕ) → n < 2 ^ dig n
unfolding dig
below_dig n = below n n (omega arith)

pub some_dig : (n : ℕ) → 1 ≤ dig n
unfolding dig
some_dig n = some n n

pub dig_mono : (n m : ℕ) → n ≤ m → dig n ≤ dig m
unfolding dig
dig_mono n m h = mono n m n m (omega arith) h
