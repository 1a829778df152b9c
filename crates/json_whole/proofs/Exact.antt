-- What is written of a run is exact, or a list of its text.
use Rattle.std.proofs.Common.{◌≡◌, ℕ, ◌-◌, ◌^◌, List, [], ◌∷◌, length, take, drop, get_or, Bool, true, false, cond, not}
use Rattle.std.proofs.Common.{◌==◌, nat_lt, nat_le, Some, ◌⊎◌, inl, inr, refl, sym, ◌∙◌, arith, zero-add, append-nil}
use Rattle.std.proofs.Common.{take_all, suc, ◌<◌, ◌≤◌, ◌++◌, ap, subst, lt_of_not-le, ne_eqb, drop_of_length-le}
use Rattle.std.proofs.Math.Seq.{drop-cons}
use Rattle.std.specs.List.{prefix_len, list_all}
use Rattle.std.specs.Char.{is_ascii_digit}
use Rattle.std.specs.Str.Parse.{digits_value}
use Rattle.std.specs.Float.Numeral.{Parts, scan_numeral}
use Rattle.std.proofs.lemmas.Bool.{lt-ltb, and_parts, eqb-true}
use Rattle.std.proofs.lemmas.List.{get_or_past, take-append-drop}
use Rattle.std.proofs.lemmas.List.Elements.{All-take}
use Rattle.std.proofs.lemmas.List.Sums.{AllPass-from_list_all, list_all-from_AllPass}
use Rattle.json.specs.Word.{after_digits, after_number}
use Rattle.serde_json.specs.Data.{unsigned, negative}
use Rattle.serde_json.specs.Read.{number_from, number_of}
use Rattle.fast_float.specs.Text.{with_sign}
use Rattle.json_whole.specs.Run.{is_run_byte, digit_count, is_number, is_whole, has_zero_fraction, is_negative, listed}
use Rattle.json_whole.specs.Run.{written}
use Rattle.json_whole.proofs.Tokens.{IsExact}
use Rattle.json_whole.proofs.Words.{IsRun}

-- ---- digits as a numeral

digits_all : (ds : List ℕ) → list_all is_ascii_digit ds ≡ true → prefix_len is_ascii_digit ds ≡ length ds
digits_all [] h = refl
digits_all (d ∷ ds) h =
    let first = (and_parts (is_ascii_digit d) (list_all is_ascii_digit ds) h).0 in
    let rest = digits_all ds ((and_parts (is_ascii_digit d) (list_all is_ascii_digit ds) h).1) in
    rw (first, rest) (omega arith)

-- digits alone
abbrev parts_of : List ℕ → Parts
parts_of ds =
    record { whole = ds; point = false; fraction = []; exponent_negative = false; exponent = []; len = length ds }

scan_digits : (ds : List ℕ) → list_all is_ascii_digit ds ≡ true → scan_numeral ds ≡ parts_of ds
unfolding scan_numeral
scan_digits ds h =
    let past : get_or ds (length ds) 0 ≡ 0 = get_or_past ds (length ds) 0 (omega arith) in
    let whole : take (length ds - 0) ds ≡ ds = take_all (length ds - 0) ds (omega arith) in
    rw (zero-add (prefix_len is_ascii_digit ds), digits_all ds h, past, whole, past) refl

number_digits : (ds : List ℕ) → nat_lt 0 (length ds) ≡ true →
    nat_lt (digits_value 10 ds) (2 ^ 64) ≡ true → number_from false (parts_of ds) ≡ Some (unsigned (digits_value 10 ds))
number_digits ds some fits = rw (append-nil ds, some, fits) refl

number_minus : (ds : List ℕ) →
    nat_lt 0 (length ds) ≡ true → nat_lt 0 (digits_value 10 ds) ≡ true → nat_le (digits_value 10 ds) (2 ^ 63) ≡ true →
    number_from true (parts_of ds) ≡ Some (negative (with_sign true (digits_value 10 ds)))
number_minus ds some above fits = rw (append-nil ds, some, above, fits) refl

-- ---- what is written

pub no_digits : is_number [] ≡ false
unfolding after_number
no_digits = refl

digit_not_minus : (x : ℕ) → is_ascii_digit x ≡ true → (x == 45) ≡ false
digit_not_minus x e = grind arith

whole_exact : (s : List ℕ) → is_number s ≡ true → is_whole s ≡ true → IsExact s
unfolding number_of
whole_exact [] n w = let no : true ≡ false = sym n ∙ no_digits in absurd (cc)
whole_exact (x ∷ xs) n w =
    let digits = (and_parts (list_all is_ascii_digit (x ∷ xs)) _ w).0 in
    let fits = (and_parts (list_all is_ascii_digit (x ∷ xs)) _ w).1 in
    let first = (and_parts (is_ascii_digit x) (list_all is_ascii_digit xs) digits).0 in
    rw (
      digit_not_minus x first,
      scan_digits (x ∷ xs) digits,
      number_digits (x ∷ xs) (lt-ltb 0 (length (x ∷ xs)) (omega arith)) fits,
    ) refl

some_digit : (ds : List ℕ) → nat_lt 0 (digits_value 10 ds) ≡ true → nat_lt 0 (length ds) ≡ true
some_digit [] h = h
some_digit (d ∷ ds) h = lt-ltb 0 (length (d ∷ ds)) (omega arith)

negative_exact : (s : List ℕ) → is_negative s ≡ true → IsExact s
unfolding number_of
negative_exact s g =
    let ds = drop 1 s in
    let minus = (and_parts (get_or s 0 0 == 45) _ g).0 in
    let behind = (and_parts (get_or s 0 0 == 45) _ g).1 in
    let digits = (and_parts (list_all is_ascii_digit ds) _ behind).0 in
    let bounds = (and_parts (list_all is_ascii_digit ds) _ behind).1 in
    let above = (and_parts (nat_lt 0 (digits_value 10 ds)) _ bounds).0 in
    let fits = (and_parts (nat_lt 0 (digits_value 10 ds)) _ bounds).1 in
    rw (minus, scan_digits ds digits, number_minus ds (some_digit ds above) above fits) refl

-- a list of the run's text, or run bytes that are exact where they are a number
abbrev pub Written : List ℕ → List ℕ → Type 0
Written r t = (t ≡ listed r) ⊎ (IsRun t × (is_number t ≡ true → IsExact t))

run_take : (n : ℕ) (r : List ℕ) → IsRun r → IsRun (take n r)
run_take n r h = list_all-from_AllPass is_run_byte
    (take n r) (All-take (λ x. is_run_byte x ≡ true) n r (AllPass-from_list_all is_run_byte r h))

written_by : (n w z g : Bool) (r : List ℕ) →
    is_number r ≡ n → is_whole r ≡ w → has_zero_fraction r ≡ z → is_negative r ≡ g → IsRun r
    → Written r (cond (not n) r (cond w r (cond z (take (digit_count r) r) (cond g r (listed r)))))
written_by false w z g r en ew ez eg h = inr (h, λ number. let no : true ≡ false = sym number ∙ en in absurd (cc))
written_by true true z g r en ew ez eg h = inr (h, λ number. whole_exact r number ew)
written_by true false true g r en ew ez eg h = inr (
  run_take (digit_count r) r h,
  λ number. whole_exact _ number ((and_parts (is_whole (take (digit_count r) r)) _ ez).0),
)
written_by true false false true r en ew ez eg h = inr (h, λ number. negative_exact r eg)
written_by true false false false r en ew ez eg h = inl refl

pub written_is : (r : List ℕ) → IsRun r → Written r (written r)
unfolding written
written_is r h = written_by (is_number r) (is_whole r) (has_zero_fraction r) (is_negative r) r refl refl refl refl h

-- ---- what is written of a number

-- digits before a dot
after_all_digits : (x : ℕ) (ds : List ℕ) → list_all is_ascii_digit (x ∷ ds) ≡ true → after_digits (x ∷ ds) ≡ Some []
after_all_digits x ds h =
    let whole : length (x ∷ ds) ≤ length (x ∷ ds) = omega arith in
    rw (
      digits_all (x ∷ ds) h,
      ne_eqb (length (x ∷ ds)) 0 (λ none. omega arith),
      drop_of_length-le (x ∷ ds) whole,
    ) refl

digit_other : (x c : ℕ) → is_ascii_digit x ≡ true → is_ascii_digit c ≡ false → (x == c) ≡ false
digit_other x c p q = ne_eqb x c (λ same. let no : true ≡ false = sym p ∙ ap is_ascii_digit same ∙ q in cc)

dotted_by : (zero : Bool) (x : ℕ) (ds rest : List ℕ) → (x == 48) ≡ zero → is_ascii_digit x ≡ true →
    list_all is_ascii_digit ds ≡ true → is_number (x ∷ ds ++ 46 ∷ rest) ≡ true → is_number (x ∷ ds) ≡ true
unfolding after_number
dotted_by true x [] rest e digit digits n = rw (digit_other x 45 digit refl, e) refl
dotted_by true x (y ∷ ds) rest e digit digits n =
    let next = (and_parts (is_ascii_digit y) (list_all is_ascii_digit ds) digits).0 in
    let no : false ≡ true = rw (
      digit_other x 45 digit refl,
      e,
      digit_other y 46 next refl,
      digit_other y 101 next refl,
      digit_other y 69 next refl,
      ne_eqb (length (y ∷ ds ++ 46 ∷ rest)) 0 (λ none. omega arith),
    ) at n in
    absurd (cc)
dotted_by false x ds rest e digit digits n =
    let all : list_all is_ascii_digit (x ∷ ds) ≡ true = rw (digit, digits) refl in
    rw (digit_other x 45 digit refl, e, after_all_digits x ds all) refl

dotted : (ds rest : List ℕ) → list_all is_ascii_digit ds ≡ true → is_number (ds ++ 46 ∷ rest) ≡ true →
    is_number ds ≡ true
unfolding after_number
dotted [] rest h n = let no : false ≡ true = n in absurd (cc)
dotted (x ∷ ds) rest h n =
    let both = and_parts (is_ascii_digit x) (list_all is_ascii_digit ds) h in
    dotted_by (x == 48) x ds rest refl both.0 both.1 n

digits_number : (r : List ℕ) → has_zero_fraction r ≡ true → is_number r ≡ true →
    is_number (take (digit_count r) r) ≡ true
digits_number r z number =
    let n = digit_count r in
    let first = and_parts (is_whole (take n r)) _ z in
    let digits = (and_parts (list_all is_ascii_digit (take n r)) _ first.0).0 in
    let dot : get_or r n 0 ≡ 46 = eqb-true (get_or r n 0) 46 ((and_parts (get_or r n 0 == 46) _ first.1).0) in
    let within : n < length r = lt_of_not-le (λ h. omega (arith, get_or_past r n 0 h, dot)) in
    let split : take n r ++ 46 ∷ drop (suc n) r ≡ r =
    ap (λ x. take n r ++ x ∷ drop (suc n) r) (sym dot) ∙ ap (λ l. take n r ++ l) (sym (drop-cons r n 0 within))
    ∙ take-append-drop n r in
    dotted (take n r) (drop (suc n) r) digits (subst (λ l. is_number l ≡ true) (sym split) number)

-- of a number a list of its text is written, or a number
abbrev pub NumberOrList : List ℕ → Type 0
NumberOrList r = (written r ≡ listed r) ⊎ (IsRun (written r) × (is_number (written r) ≡ true))

number_by : (w z g : Bool) (r : List ℕ) → has_zero_fraction r ≡ z → IsRun r → is_number r ≡ true
    → let t = cond w r (cond z (take (digit_count r) r) (cond g r (listed r))) in
    (t ≡ listed r) ⊎ (IsRun t × (is_number t ≡ true))
number_by true z g r e run number = inr (run, number)
number_by false true g r e run number = inr (run_take (digit_count r) r run, digits_number r e number)
number_by false false true r e run number = inr (run, number)
number_by false false false r e run number = inl refl

written_number : (r : List ℕ) → is_number r ≡ true → written r
    ≡ cond (is_whole r) r (cond (has_zero_fraction r) (take (digit_count r) r) (cond (is_negative r) r (listed r)))
unfolding written
written_number r number = rw number refl

pub number_or_list : (r : List ℕ) → IsRun r → is_number r ≡ true → NumberOrList r
number_or_list r run number =
    rw (written_number r number)
    (number_by (is_whole r) (has_zero_fraction r) (is_negative r) r refl run number)
