-- Padded numbers, and the names that hosts stand for.
use Rattle.std.proofs.Common.{◌≡◌, ℕ, zero, suc, ◌+◌, ◌-◌, ◌<◌, ◌≤◌, Bool, true, false, not, ◌&&◌, ◌||◌, eqb, ltb, List}
use Rattle.std.proofs.Common.{[], ◌∷◌, ◌++◌, length, get_or, replicate, Option, Some, None, refl, sym, ap, subst, ◌∙◌}
use Rattle.std.proofs.Common.{inl, inr, arith}
use Rattle.std.specs.Prelude.{Contains, map}
use Rattle.std.specs.Fmt.{decimal}
use Rattle.std.specs.Char.{is_ascii_digit}
use Rattle.std.proofs.lemmas.Bool.{cases_lt, or_cases, and_parts, and_from, leb-true, le-leb, lt-ltb, ltb-true}
use Rattle.std.proofs.lemmas.Bool.{eqb-true, eq-eqb, not-true, or_right}
use Rattle.std.proofs.lemmas.List.{length-append, length-replicate}
use Rattle.std.proofs.lemmas.List.Elements.{Contains-append_left, Contains-append_right, Contains-append_cases}
use Rattle.std.proofs.lemmas.Fmt.{decimal_nonempty, digits_value-decimal}
use Rattle.idset_text.specs.declared.hostlists.Hosts.{Hosts}
use Rattle.idset_text.specs.declared.hostlists.Hosts.TheVariants.{Many}
use Rattle.idset_text.specs.Numbers.{value_of, are_digits, has_leading_zero, number_of}
use Rattle.idset_text.specs.Idsets.{ids_from}
use Rattle.idset_text.specs.Hostlists.{padded, has_width, is_one_of, IsOneOf, own_names, names_of}
use Rattle.idset_text.proofs.NumberLemmas.{own_digits, number_of_digits, are_digits-decimal, has_leading_zero-decimal}
use Rattle.idset_text.proofs.NumberLemmas.{WritesNumber, number_was_written, digits_are_decimal}
use Rattle.idset_text.proofs.IdsetLemmas.{there, first_or_later, ids_from-has, ids_from-bounds}

-- ---- padded numbers

pub number_from_written : (digits : List ℕ) (n : ℕ) → WritesNumber digits n → number_of digits ≡ Some n
number_from_written digits n written = number_of_digits digits written.some written.digits
    (omega (arith, written.value, written.small)) ∙ ap (λ (v : ℕ). Some v) written.value

pub decimal_is_written : (n : ℕ) → n < 4294967296 → WritesNumber (decimal n) n
decimal_is_written n small = record {
  some = decimal_nonempty n (omega arith);
  digits = are_digits-decimal n (omega arith);
  value = digits_value-decimal own_digits n (omega arith);
  small = small;
}

zeros_are_written : (count : ℕ) (digits : List ℕ) (n : ℕ) →
    WritesNumber digits n → WritesNumber (replicate count 48 ++ digits) n
zeros_are_written zero digits n written = written
zeros_are_written (suc count) digits n written =
    let rest = zeros_are_written count digits n written in
    record { some = omega arith; digits = rest.digits; value = rest.value; small = rest.small }

pub padded_is_written : (width n : ℕ) → n < 4294967296 → WritesNumber (padded width n) n
padded_is_written width n small =
    zeros_are_written (width - length (decimal n)) (decimal n) n (decimal_is_written n small)

pub number_of-padded : (width n : ℕ) → n < 4294967296 → number_of (padded width n) ≡ Some n
number_of-padded width n small = number_from_written (padded width n) n (padded_is_written width n small)

pub length-padded : (width n : ℕ) → length (padded width n) ≡ (width - length (decimal n)) + length (decimal n)
length-padded width n = length-append (replicate (width - length (decimal n)) 48) (decimal n)
    ∙ ap (λ (k : ℕ). k + length (decimal n)) (length-replicate (width - length (decimal n)) 48)

-- a width that the number fills pads nothing
pub padded-filled : (width n : ℕ) → width ≤ length (decimal n) → padded width n ≡ decimal n
padded-filled width n le =
    ap (λ (k : ℕ). replicate k 48 ++ decimal n) (let e : width - length (decimal n) ≡ 0 = omega arith in e)

-- digits without a leading zero are the number, padded to no more than they are
pub padded-plain : (width n : ℕ) (digits : List ℕ) →
    width ≤ length digits → has_leading_zero digits ≡ false → WritesNumber digits n → padded width n ≡ digits
padded-plain width n digits le lead written =
    let e : digits ≡ decimal n = digits_are_decimal digits n lead written in
    padded-filled width n (omega (arith, ap length e)) ∙ sym e

-- digits are their number, padded to how many they are
pub padded-written : (digits : List ℕ) (n : ℕ) → WritesNumber digits n → padded (length digits) n ≡ digits
padded-written [] n written = absurd (omega (arith, written.some))
padded-written (digit ∷ []) n written = padded-plain 1 n (digit ∷ []) (omega arith) refl written
padded-written (digit ∷ next ∷ digits) n written =
    by_zero (λ rest. padded-written (next ∷ digits) n rest) (eqb digit 48) refl
  where
    by_zero : (WritesNumber (next ∷ digits) n → padded (length (next ∷ digits)) n ≡ next ∷ digits) →
        (b : Bool) → eqb digit 48 ≡ b → padded (length (digit ∷ next ∷ digits)) n ≡ digit ∷ next ∷ digits
    by_zero rest_is true e =
        let zero-digit : digit ≡ 48 = eqb-true _ _ e in
        let value : value_of (next ∷ digits) ≡ n =
        ap (λ (d : ℕ). value_of (d ∷ next ∷ digits)) (sym zero-digit) ∙ written.value in
        let rest : padded (length (next ∷ digits)) n ≡ next ∷ digits =
        rest_is (record {
          some = omega arith;
          digits = (and_parts (is_ascii_digit digit)
              (are_digits (next ∷ digits)) written.digits).1;
          value = value;
          small = written.small;
        }) in
        let long : length (decimal n) ≤ length (next ∷ digits) =
        omega (arith, ap length rest, length-padded (length (next ∷ digits)) n) in
        let count : length (digit ∷ next ∷ digits) - length (decimal n)
        ≡ suc (length (next ∷ digits) - length (decimal n)) = omega arith in
        ap (λ (k : ℕ). replicate k 48 ++ decimal n) count
        ∙ ap (λ (ds : List ℕ). 48 ∷ ds) rest ∙ ap (λ (d : ℕ). d ∷ next ∷ digits) (sym zero-digit)
    by_zero rest_is false e =
        padded-plain (length (digit ∷ next ∷ digits)) n (digit ∷ next ∷ digits) (omega arith) e written

-- a padded number has its width
padded_has_width : (width n : ℕ) → n < 4294967296 → has_width width (padded width n) ≡ true
padded_has_width width n small =
    elim (cases_lt width (length (decimal n))) [
      | inl short ↦ ap (has_width width) (padded-filled width n (omega arith))
          ∙ or_right (eqb (length (decimal n)) width) _
          (and_from _ _ (lt-ltb _ _ short) (ap not (has_leading_zero-decimal n (omega arith))))
      | inr long ↦
          ap (λ (t : Bool). t || (ltb width (length (padded width n)) && not (has_leading_zero (padded width n))))
          (eq-eqb (length (padded width n)) width (omega (arith, length-padded width n)))
    ]

-- digits that have the width are the padded number
width_is_padded : (width n : ℕ) (digits : List ℕ) →
    WritesNumber digits n → has_width width digits ≡ true → digits ≡ padded width n
width_is_padded width n digits written e =
    elim (or_cases (eqb (length digits) width) (ltb width (length digits) && not (has_leading_zero digits)) e) [
      | inl same ↦ sym (padded-written digits n written) ∙ ap (λ (k : ℕ). padded k n) (eqb-true _ _ same)
      | inr plain ↦
          let both = and_parts _ _ plain in
          let longer : width < length digits = ltb-true _ _ both.0 in
          sym (padded-plain width n digits (omega arith) (not-true _ both.1) written)
    ]

-- ---- one of the numbers

pub one_when_passed : (lo hi width : ℕ) (digits : List ℕ) →
    is_one_of lo hi (has_width width digits) (number_of digits) ≡ true → IsOneOf lo hi width digits
one_when_passed lo hi width digits = by_number (number_of digits) refl
  where
    by_number : (o : Option ℕ) →
        number_of digits ≡ o → is_one_of lo hi (has_width width digits) o ≡ true → IsOneOf lo hi width digits
    by_number None read e = absurd cc
    by_number (Some n) read e =
        let both = and_parts _ _ e in
        let bounds = and_parts _ _ both.0 in (
          n,
          leb-true lo n bounds.0,
          leb-true n hi bounds.1,
          width_is_padded width n digits (number_was_written digits n read) both.1,
        )

pub passed_when_one : (lo hi width : ℕ) (digits : List ℕ) →
    hi < 4294967296 → IsOneOf lo hi width digits → is_one_of lo hi (has_width width digits) (number_of digits) ≡ true
passed_when_one lo hi width digits small (n, low, high, e) =
    let fits : n < 4294967296 = omega (arith, low, high) in
    ap (λ (ds : List ℕ). is_one_of lo hi (has_width width ds) (number_of ds)) e
    ∙ ap (is_one_of lo hi (has_width width (padded width n))) (number_of-padded width n fits)
    ∙ and_from _ _ (and_from _ _ (le-leb lo n low) (le-leb n hi high)) (padded_has_width width n fits)

-- ---- names

name_there : (x name : List ℕ) (names : List (List ℕ)) → Contains names name → Contains (x ∷ names) name
name_there x name names has = (suc has.0, omega (arith, has.1), has.2)

-- the names of numbers
has_name_of : (prefix name : List ℕ) (width n : ℕ) (numbers : List ℕ) → Contains numbers n →
    name ≡ prefix ++ padded width n → Contains (map (λ number. prefix ++ padded width number) numbers) name
has_name_of prefix name width n [] has e = absurd (omega (arith, has.1))
has_name_of prefix name width n (number ∷ numbers) has e =
    elim (first_or_later number n numbers has) [
      | inl same ↦ (0, omega arith, ap (λ (k : ℕ). prefix ++ padded width k) same ∙ sym e)
      | inr later ↦ name_there (prefix ++ padded width number) name
          (map (λ k. prefix ++ padded width k) numbers) (has_name_of prefix name width n numbers later e)
    ]

name_of_number : (prefix name : List ℕ) (width : ℕ) (numbers : List ℕ) →
    Contains (map (λ number. prefix ++ padded width number) numbers) name →
    (n : ℕ) × Contains numbers n × (name ≡ prefix ++ padded width n)
name_of_number prefix name width [] has = absurd (omega (arith, has.1))
name_of_number prefix name width (number ∷ numbers) (zero, lt, e) = (number, (0, omega arith, refl), sym e)
name_of_number prefix name width (number ∷ numbers) (suc k, lt, e) =
    let later = name_of_number prefix name width numbers (k, omega (arith, lt), e) in
    (later.0, there number later.0 numbers later.1, later.2)

-- the hosts of a prefix have just the names of the prefix with one of the numbers
pub many_has : (prefix digits name : List ℕ) (lo hi width : ℕ) →
    name ≡ prefix ++ digits → IsOneOf lo hi width digits → Contains (own_names (Many prefix lo hi width)) name
many_has prefix digits name lo hi width e (n, low, high, is) =
    has_name_of prefix name width n (ids_from (hi + 1 - lo) lo)
    (ids_from-has (hi + 1 - lo) lo n low (omega (arith, low, high))) (e ∙ ap (λ (ds : List ℕ). prefix ++ ds) is)

pub many_had : (prefix name : List ℕ) (lo hi width : ℕ) → Contains (own_names (Many prefix lo hi width)) name →
    (digits : List ℕ) × (name ≡ prefix ++ digits) × IsOneOf lo hi width digits
many_had prefix name lo hi width has =
    let found = name_of_number prefix name width (ids_from (hi + 1 - lo) lo) has in
    let bounds = ids_from-bounds (hi + 1 - lo) lo found.0 found.1 in
    (padded width found.0, found.2, (found.0, bounds.0, omega (arith, bounds.0, bounds.1), refl))

-- the names of one of the hosts are among those of all
pub has_at : (hosts : List Hosts) (i : ℕ) (host : Hosts) (name : List ℕ) →
    i < length hosts → host ≡ get_or hosts i host → Contains (own_names host) name → Contains (names_of hosts) name
has_at [] i host name lt e has = absurd (omega arith)
has_at (first ∷ hosts) zero host name lt e has = let P : Hosts → Type 0 = λ h. Contains (own_names h) name in
    Contains-append_left (own_names first) (names_of hosts) name (subst P e has)
has_at (first ∷ hosts) (suc i) host name lt e has =
    Contains-append_right (own_names first) (names_of hosts) name (has_at hosts i host name (omega arith) e has)

-- a name that one host has not is among those of the hosts behind it
pub has_behind : (host : Hosts) (hosts : List Hosts) (name : List ℕ) →
    (Contains (own_names host) name → ⊥) → Contains (names_of (host ∷ hosts)) name → Contains (names_of hosts) name
has_behind host hosts name none has = elim (Contains-append_cases (own_names host) (names_of hosts) name has) [
  | inl here ↦ absurd (none here)
  | inr later ↦ later
]
