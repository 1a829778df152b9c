-- Digits and the number that they write.
use Rattle.std.proofs.Common.{◌≡◌, ℕ, ◌+◌, ◌*◌, ◌-◌, ◌<◌, ◌≤◌, ◌^◌, Bool, true, false, cond, List, [], ◌∷◌, length}
use Rattle.std.proofs.Common.{take, get_or, Some, None, refl, sym, ap, ◌∙◌, inl, inr, arith, rules}
use Rattle.std.specs.Char.{is_ascii_digit, digit_value}
use Rattle.std.specs.Fmt.{decimal}
use Rattle.std.proofs.lemmas.Bool.{and_right, and_from, and_parts, lt-ltb, le-ltb, leb-true, ltb-true, ne_eqb}
use Rattle.std.proofs.lemmas.Bool.{eqb-false, cases_lt}
use Rattle.std.proofs.lemmas.Option.{cond_some}
use Rattle.std.proofs.lemmas.List.Folds.{list_all_more}
use Rattle.std.proofs.lemmas.List.Sums.{AllPass-from_list_all}
use Rattle.std.proofs.lemmas.Str.Parse.{IsNumeralModel, numerals_by_value, digits_value-take-le}
use Rattle.std.proofs.lemmas.Fmt.{digits_decimal, digits_value-decimal, decimal-digits_value, decimal_digit}
use Rattle.std.proofs.lemmas.Fmt.{decimal_nonempty, first_decimal}
use Rattle.std.proofs.lemmas.Int.Digits.{digits_value_more}
use Rattle.std.proofs.lemmas.Str.{digit_value_digit}
use Rattle.idset_text.specs.Numbers.{value_of, are_digits, has_leading_zero, number_of}

none_of : {A : Type 0} (b : Bool) (x : A) → b ≡ false → cond b (Some x) None ≡ None
none_of b x e = ap (λ (t : Bool). cond t (Some x) None) e

-- a front of 2 ^ 32 or more does too
pub number_too_large : (bytes : List ℕ) (i : ℕ) → 4294967296 ≤ value_of (take i bytes) → number_of bytes ≡ None
number_too_large bytes i large =
    none_of _ (value_of bytes) (and_right _ _
    (le-ltb (value_of bytes) 4294967296 (omega (arith, digits_value-take-le 10 bytes i (omega arith)))))

-- what all digits write
pub number_of_digits : (bytes : List ℕ) →
    0 < length bytes → are_digits bytes ≡ true → value_of bytes < 4294967296 → number_of bytes ≡ Some (value_of bytes)
number_of_digits bytes some digits small =
    ap (λ (t : Bool). cond t (Some (value_of bytes)) None)
    (and_from _ _ (and_from _ _ (lt-ltb _ _ some) digits) (lt-ltb _ _ small))

-- one more digit
pub value_more : (bytes : List ℕ) (i byte : ℕ) → i < length bytes → get_or bytes i 0 ≡ byte →
    48 ≤ byte → byte ≤ 57 → value_of (take (i + 1) bytes) ≡ value_of (take i bytes) * 10 + (byte - 48)
value_more bytes i byte lt is low high =
    let read : value_of (take (i + 1) bytes) ≡ value_of (take i bytes) * 10 + digit_value byte =
    digits_value_more 10 bytes i lt ∙ ap (λ (b : ℕ). value_of (take i bytes) * 10 + digit_value b) is in
    omega (arith, read, digit_value_digit byte (low, high))

-- a digit lies from '0' to '9'
pub digit_bounds : (byte : ℕ) → is_ascii_digit byte ≡ true → (48 ≤ byte) × (byte ≤ 57)
digit_bounds byte e = let parts = and_parts _ _ e in (leb-true _ _ parts.0, leb-true _ _ parts.1)

-- one more digit, after digits
pub digits_more : (bytes : List ℕ) (i : ℕ) → i < length bytes →
    is_ascii_digit (get_or bytes i 0) ≡ true → are_digits (take i bytes) ≡ true → are_digits (take (i + 1) bytes) ≡ true
digits_more bytes i lt here before = list_all_more is_ascii_digit bytes i 0 lt ∙ and_from _ _ before here

-- ---- what `decimal` writes

-- the words of this crate for digits and their value
pub own_digits : IsNumeralModel (λ ds. are_digits ds ≡ true) value_of
own_digits = numerals_by_value (λ ds. are_digits ds ≡ true) (search rules)

no_leading_zero : (bytes : List ℕ) → 48 < get_or bytes 0 0 → has_leading_zero bytes ≡ false
no_leading_zero [] above = refl
no_leading_zero (byte ∷ []) above = refl
no_leading_zero (byte ∷ next ∷ bytes) above = ne_eqb byte 48 (λ e. omega arith)

-- a number is written without a leading zero
pub has_leading_zero-decimal : (n : ℕ) → n < 2 ^ 64 → has_leading_zero (decimal n) ≡ false
has_leading_zero-decimal n lt =
    elim (cases_lt 0 n) [
      | inl above ↦ no_leading_zero (decimal n) (first_decimal n above lt)
      | inr zero-or-less ↦ ap has_leading_zero (decimal_digit n (omega arith))
    ]

pub are_digits-decimal : (n : ℕ) → n < 2 ^ 64 → are_digits (decimal n) ≡ true
are_digits-decimal n lt = digits_decimal own_digits n lt

pub number_of-decimal : (n : ℕ) → n < 4294967296 → number_of (decimal n) ≡ Some n
number_of-decimal n lt =
    let value : value_of (decimal n) ≡ n = digits_value-decimal own_digits n (omega arith) in
    number_of_digits (decimal n) (decimal_nonempty n (omega arith)) (are_digits-decimal n (omega arith)) (omega arith)
    ∙ ap (λ (v : ℕ). Some v) value

-- what a number was read from
pub record WritesNumber (bytes : List ℕ) (n : ℕ) : Type 0 where
  pub some : 0 < length bytes
  pub digits : are_digits bytes ≡ true
  pub value : value_of bytes ≡ n
  pub small : n < 4294967296

pub number_was_written : (bytes : List ℕ) (n : ℕ) → number_of bytes ≡ Some n → WritesNumber bytes n
number_was_written bytes n e =
    let test = cond_some _ _ _ e in
    let both = and_parts _ _ test.0 in
    let first = and_parts _ _ both.0 in
    let small : value_of bytes < 4294967296 = ltb-true _ _ both.1 in
    record {
      some = ltb-true _ _ first.0;
      digits = first.1;
      value = test.1;
      small = omega (arith, test.1);
    }

zero_is_lone : (bytes : List ℕ) →
    has_leading_zero bytes ≡ false → 0 < length bytes → get_or bytes 0 0 ≡ 48 → length bytes ≡ 1
zero_is_lone [] none some first = absurd (omega arith)
zero_is_lone (byte ∷ []) none some first = refl
zero_is_lone (byte ∷ next ∷ bytes) none some first = absurd (eqb-false byte 48 none first)

-- digits without a leading zero are what `decimal` writes
pub digits_are_decimal : (bytes : List ℕ) (n : ℕ) →
    has_leading_zero bytes ≡ false → WritesNumber bytes n → bytes ≡ decimal n
digits_are_decimal bytes n none written =
    sym (decimal-digits_value own_digits bytes written.digits written.some
    (zero_is_lone bytes none written.some) (omega (arith, written.value, written.small)))
    ∙ ap decimal written.value

-- each digit is one
pub digit_at_place : (bytes : List ℕ) (k : ℕ) →
    are_digits bytes ≡ true → k < length bytes → is_ascii_digit (get_or bytes k 0) ≡ true
digit_at_place bytes k digits lt = AllPass-from_list_all is_ascii_digit bytes digits k 0 lt
