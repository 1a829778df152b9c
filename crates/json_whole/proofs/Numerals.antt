-- Digits and number bytes.
use Rattle.std.proofs.Common.{◌≡◌, ◌<◌, ℕ, ◌+◌, ◌^◌, List, [], ◌∷◌, length, take, Bool, true, false, cond, ◌==◌, nat_le}
use Rattle.std.specs.Prelude.{nat_lt, not}
use Rattle.std.proofs.Common.{refl, sym, one-add, ◌∙◌, arith, rules, IsUtf8, IsCharBoundary, ne_eqb}
use Rattle.std.specs.Char.{is_ascii_digit}
use Rattle.std.specs.List.{All, list_all}
use Rattle.std.proofs.lemmas.List.Sums.{AllPass-from_list_all}
use Rattle.std.specs.Str.Parse.{digits_value}
use Rattle.std.proofs.lemmas.Bool.{lt-leb, lt-ltb}
use Rattle.std.proofs.lemmas.Str.{IsUtf8-from_ascii, IsUtf8-drop, IsCharBoundary-start, IsCharBoundary-after_ascii}
use Rattle.std.proofs.lemmas.Str.{IsCharBoundary-from_rest}
use Rattle.std.proofs.lemmas.Str.Ascii.{IsAscii-from_all}
use Rattle.std.proofs.lemmas.Str.Parse.{IsNumeralModel, numerals_by_value, digits_value_short}
use Rattle.json_whole.specs.Run.{first_run, digit_count, is_run_byte, run_len, is_number, is_whole, written}

-- `parse` reads what passes this test
pub digits_by_test : IsNumeralModel (λ ds. list_all is_ascii_digit ds ≡ true) (digits_value 10)
digits_by_test = numerals_by_value _ (search rules)

-- where it refuses digits, there are none or their number is too large
pub refused_digits : (ds : List ℕ) (most : ℕ) → most < 2 ^ 64 →
    ¬ ((0 < length ds) × (digits_value 10 ds < 2 ^ 64)) → (length ds == 0) ≡ nat_le (digits_value 10 ds) most
refused_digits [] most fits refused = search rules
refused_digits (c ∷ cs) most fits refused =
    let large : ¬ (digits_value 10 (c ∷ cs) < 2 ^ 64) = λ fit. refused (omega arith, fit) in
    let past : most < digits_value 10 (c ∷ cs) = omega (arith, large) in
    ne_eqb (length (c ∷ cs)) 0 (λ e. omega arith) ∙ sym (lt-leb _ _ past)

-- fewer than twenty digits write a number below 10 ^ 19
pub few_digits : (ds : List ℕ) → list_all is_ascii_digit ds ≡ true → length ds < 20 →
    nat_lt (digits_value 10 ds) (2 ^ 64) ≡ true
few_digits ds digits few =
    let below : digits_value 10 ds < 10 ^ 19 = digits_value_short digits_by_test ds 19 digits (omega (arith, few)) in
    lt-ltb _ _ (omega (arith, below))

stays_by : (n : Bool) (w : Bool) (r other : List ℕ) → w ≡ true → cond (not n) r (cond w r other) ≡ r
stays_by false w r other e = refl
stays_by true true r other e = refl
stays_by true false r other e = absurd (cc)

-- the plain form keeps a whole number
pub whole_stays : (r : List ℕ) → is_whole r ≡ true → written r ≡ r
unfolding written
whole_stays r whole = stays_by (is_number r) (is_whole r) r _ whole

ascii_byte : (x : ℕ) → is_run_byte x ≡ true → x < 128
ascii_byte x e = search rules

all_ascii : (run : List ℕ) → list_all is_run_byte run ≡ true → All (λ b. b < 128) run
all_ascii run e = λ k d h. ascii_byte _ (AllPass-from_list_all is_run_byte run e k d h)

-- a run is ASCII
pub run_is_utf8 : (run : List ℕ) → list_all is_run_byte run ≡ true → IsUtf8 run
run_is_utf8 run e = IsUtf8-from_ascii run (IsAscii-from_all run (all_ascii run e))

run_one : (b : Bool) (x : ℕ) (xs : List ℕ) → is_run_byte x ≡ b →
    list_all is_run_byte (first_run xs) ≡ true → list_all is_run_byte (take (cond b (1 + run_len xs) 0) (x ∷ xs)) ≡ true
run_one true x xs e rest = rw one-add (rw e rest)
run_one false x xs e rest = refl

-- the run at the front has only such bytes
pub first_run_bytes : (text : List ℕ) → list_all is_run_byte (first_run text) ≡ true
first_run_bytes [] = refl
first_run_bytes (x ∷ xs) = run_one (is_run_byte x) x xs refl (first_run_bytes xs)

boundary_by : (b : Bool) (x : ℕ) (xs : List ℕ) → is_ascii_digit x ≡ b → IsUtf8 (x ∷ xs)
    → (IsUtf8 xs → IsCharBoundary xs (digit_count xs))
    → IsCharBoundary (x ∷ xs) (cond b (1 + digit_count xs) 0)
boundary_by true x xs e utf8 rest =
    let low : x < 128 = grind arith in
    let cut = IsCharBoundary-after_ascii (x ∷ xs) 0 utf8 (omega arith) low in
    let behind : IsUtf8 xs = IsUtf8-drop (x ∷ xs) 1 utf8 cut in
    IsCharBoundary-from_rest (x ∷ xs) 1 (digit_count xs) (omega arith) (rest behind)
boundary_by false x xs e utf8 rest = IsCharBoundary-start (x ∷ xs) utf8

-- a text may be cut behind its first digits
pub digits_end : (text : List ℕ) → IsUtf8 text → IsCharBoundary text (digit_count text)
digits_end [] utf8 = IsCharBoundary-start [] utf8
digits_end (x ∷ xs) utf8 =
    let e : is_ascii_digit x ≡ is_ascii_digit x = refl in
    boundary_by (is_ascii_digit x) x xs e utf8 (digits_end xs)
