-- The text of a value whose numbers are whole is its own plain form.
use Rattle.std.proofs.Common.{◌≡◌, refl, sym, ap, ◌∙◌, ℕ, zero, suc, ◌+◌, ◌-◌, ◌^◌, ◌<◌, ◌≤◌, ◌/◌, ◌%◌, pos, negsuc}
use Rattle.std.proofs.Common.{List, [], ◌∷◌, ◌++◌, length, take, drop, Bool, true, false, cond, ◌||◌, ◌⊎◌, inl, inr}
use Rattle.std.proofs.Common.{◌==◌, nat_lt, nat_le, decimal, append_assoc, append-nil, arith, one-add}
use Rattle.std.proofs.lemmas.Bool.{ne_eqb, lt-ltb, le-leb, and_from, cond_both, ltb-true, ltb-false, and_parts}
use Rattle.std.proofs.Math.Seq.{take-append_seam, drop-append_seam}
use Rattle.std.proofs.lemmas.Fmt.{digits_decimal, digits_value-decimal, decimal_nonempty}
use Rattle.std.specs.Char.{is_ascii_digit, digit_char}
use Rattle.std.specs.Fmt.{signed_decimal}
use Rattle.std.specs.List.{list_all}
use Rattle.std.specs.Option.{option_map_or}
use Rattle.std.specs.Str.Parse.{digits_value}
use Rattle.json.specs.Print.{quoted, escape, escape_byte, escape_letter, IsNumber}
use Rattle.json.specs.Word.{head}
use Rattle.json.proofs.Printed.Decimals.{IsNumber-decimal, IsNumber-signed_decimal}
use Rattle.serde_json.specs.Data.{Num, unsigned, negative, float, Data, null, boolean, number, string, array, object}
use Rattle.serde_json.specs.Data.{Items, no_items, item, Members, no_members, member}
use Rattle.serde_json.specs.Written.{number_text, compact_text, items_text, members_text, comma_if}
use Rattle.json_whole.specs.Run.{begins_run, has_zero_fraction, is_run_byte, run_len, first_run, is_number, is_whole}
use Rattle.json_whole.specs.Run.{is_negative, written}
use Rattle.json_whole.specs.Plain.{outside, in_string, plain_from, plain_of}
use Rattle.json_whole.proofs.Numerals.{digits_by_test}
use Rattle.json_whole.proofs.Steps.{plain_end, run_at}
use Rattle.json_whole.proofs.Words.{IsRun, run_head, run_rest}
use Rattle.json_written.proofs.PlainLaws.{IsWhole, IsPlain, ArePlain, HasPlain}

-- the text stays where no run goes on behind it
abbrev Stays : List ℕ → Type 0
Stays text = (rest : List ℕ) →
    is_run_byte (head rest) ≡ false → plain_from outside (text ++ rest) ≡ text ++ plain_from outside rest

-- ---- runs

run_none : (rest : List ℕ) → is_run_byte (head rest) ≡ false → run_len rest ≡ 0
run_none [] stops = refl
run_none (x ∷ xs) stops = ap (λ b. cond b (1 + run_len xs) 0) stops

run_whole : (run rest : List ℕ) → IsRun run → is_run_byte (head rest) ≡ false → run_len (run ++ rest) ≡ length run
run_whole [] rest all stops = run_none rest stops
run_whole (x ∷ run) rest all stops = ap (λ b. cond b (1 + run_len (run ++ rest)) 0) (run_head x run all)
    ∙ (ap (λ n. 1 + n) (run_whole run rest (run_rest x run all) stops) ∙ one-add (length run))

run_stays : (x : ℕ) (run : List ℕ) →
    IsRun (x ∷ run) → begins_run x ≡ true → written (x ∷ run) ≡ x ∷ run → Stays (x ∷ run)
run_stays x run all begun same rest stops =
    let text : List ℕ = (x ∷ run) ++ rest in
    let len : run_len text ≡ length (x ∷ run) = run_whole (x ∷ run) rest all stops in
    let first : first_run text ≡ x ∷ run = ap (λ n. take n text) len ∙ take-append_seam (x ∷ run) rest in
    let skipped : 0 + run_len text ≡ length (x ∷ run) = omega arith in
    let left : drop (0 + run_len text) text ≡ rest = ap (λ n. drop n text) skipped ∙ drop-append_seam (x ∷ run) rest in
    run_at text 0 (λ _. begun) ∙ (ap (λ w. written w ++ plain_of (drop (0 + run_len text) text)) first
    ∙ (ap (λ w. w ++ plain_of (drop (0 + run_len text) text)) same ∙ ap (λ r. (x ∷ run) ++ plain_of r) left))

-- ---- whole numbers

digits_run : (ds : List ℕ) → list_all is_ascii_digit ds ≡ true → IsRun ds
digits_run [] all = refl
digits_run (d ∷ ds) all =
    let digit : is_ascii_digit d ≡ true = (and_parts (is_ascii_digit d) (list_all is_ascii_digit ds) all).0 in
    and_from (is_run_byte d) (list_all is_run_byte ds)
    (ap (λ b. b || ((d == 43) || ((d == 45) || ((d == 46) || ((d == 101) || (d == 69)))))) digit)
    (digits_run ds ((and_parts (is_ascii_digit d) (list_all is_ascii_digit ds) all).1))

number_test : (run : List ℕ) → IsNumber run → is_number run ≡ true
number_test run is = ap (λ o. option_map_or (λ rest. length rest == 0) o false) is

written_whole : (run : List ℕ) → is_number run ≡ true → is_whole run ≡ true → written run ≡ run
unfolding written
written_whole run n w = rw (n, w) refl

written_negative : (run : List ℕ) → is_number run ≡ true →
    is_whole run ≡ false → has_zero_fraction run ≡ false → is_negative run ≡ true → written run ≡ run
unfolding written
written_negative run n w z g = rw (n, w, z, g) refl

stays_digits : (ds : List ℕ) → 0 < length ds → list_all is_ascii_digit ds ≡ true → written ds ≡ ds → Stays ds
stays_digits [] some all same = absurd (omega arith)
stays_digits (d ∷ ds) some all same = run_stays d ds (digits_run (d ∷ ds) all)
    (ap (λ b. b || (d == 45)) ((and_parts (is_ascii_digit d) (list_all is_ascii_digit ds) all).0)) same

stays_decimal : (n : ℕ) → n < 2 ^ 64 → Stays (decimal n)
stays_decimal n h =
    let digits = digits_decimal digits_by_test n h in
    let value : digits_value 10 (decimal n) ≡ n = digits_value-decimal digits_by_test n h in
    let fits : nat_lt (digits_value 10 (decimal n)) (2 ^ 64) ≡ true =
    ap (λ v. nat_lt v (2 ^ 64)) value ∙ lt-ltb n (2 ^ 64) h in
    stays_digits (decimal n) (decimal_nonempty n h) digits
    (written_whole (decimal n)
    (number_test (decimal n) (IsNumber-decimal n h)) (and_from (list_all is_ascii_digit (decimal n)) _ digits fits))

stays_negative : (n : ℕ) → n < 2 ^ 63 - 1 → Stays (signed_decimal (negsuc n))
stays_negative n h =
    let digits = digits_decimal digits_by_test (suc n) (omega arith) in
    let value : digits_value 10 (decimal (suc n)) ≡ suc n = digits_value-decimal digits_by_test (suc n) (omega arith) in
    let above : nat_lt 0 (digits_value 10 (decimal (suc n))) ≡ true =
    ap (nat_lt 0) value ∙ lt-ltb 0 (suc n) (omega arith) in
    let fits : nat_le (digits_value 10 (decimal (suc n))) (2 ^ 63) ≡ true =
    ap (λ v. nat_le v (2 ^ 63)) value ∙ le-leb (suc n) (2 ^ 63) (omega arith) in
    let test : is_negative (45 ∷ decimal (suc n)) ≡ true = and_from (list_all is_ascii_digit (decimal (suc n))) _ digits
    (and_from (nat_lt 0 (digits_value 10 (decimal (suc n)))) _ above fits) in
    run_stays 45 (decimal (suc n)) (digits_run (decimal (suc n)) digits) refl
    (written_negative (45 ∷ decimal (suc n))
    (number_test (45 ∷ decimal (suc n)) (IsNumber-signed_decimal (negsuc n) (omega arith))) refl refl test)

stays_number : (m : Num) → IsWhole m → Stays (number_text m)
stays_number (unsigned n) h = stays_decimal n h
stays_number (negative (pos n)) h = absurd h
stays_number (negative (negsuc n)) h = stays_negative n h
stays_number (float x) h = absurd h

-- ---- strings

abbrev Within : List ℕ → Type 0
Within text = (rest : List ℕ) → plain_from in_string (text ++ rest) ≡ text ++ plain_from in_string rest

within_short : (l : ℕ) → Within (92 ∷ l ∷ [])
unfolding plain_from
within_short l rest = refl

within_one : (x : ℕ) → (x == 34) ≡ false → (x == 92) ≡ false → Within (x ∷ [])
unfolding plain_from
within_one x q b rest = rw (q, b) refl

not_hex : (d c : ℕ) → (c < 48) ⊎ ((57 < c) × (c < 97)) → (digit_char d == c) ≡ false
not_hex d c other = cond_both (nat_lt d 10) (48 + d)
    (87 + d) (λ x. (x == c) ≡ false) (λ low. ne_eqb (48 + d) c (λ e. let small = ltb-true d 10 low in elim other [
      | inl l ↦ omega arith
      | inr r ↦ (let a = r.0 in let b = r.1 in omega arith)
    ]))
    (λ high. ne_eqb (87 + d) c (λ e. let large = ltb-false d 10 high in elim other [
      | inl l ↦ omega arith
      | inr r ↦ (let a = r.0 in let b = r.1 in omega arith)
    ]))

within_long : (a b : ℕ) → (a == 34) ≡ false →
    (a == 92) ≡ false → (b == 34) ≡ false → (b == 92) ≡ false → Within (92 ∷ 117 ∷ 48 ∷ 48 ∷ a ∷ b ∷ [])
unfolding plain_from
within_long a b p q r s rest = rw (p, q, r, s) refl

within_byte : (x : ℕ) → Within (escape_byte x)
unfolding escape_byte
within_byte x = cond_both (nat_lt 0 (escape_letter x)) (92 ∷ escape_letter x ∷ [])
    (cond (nat_lt x 32) (92 ∷ 117 ∷ 48 ∷ 48 ∷ digit_char (x / 16) ∷ digit_char (x % 16) ∷ []) (x ∷ [])) Within
    (λ short. within_short (escape_letter x))
    (λ none. cond_both
    (nat_lt x 32) (92 ∷ 117 ∷ 48 ∷ 48 ∷ digit_char (x / 16) ∷ digit_char (x % 16) ∷ []) (x ∷ []) Within
    (λ low. within_long (digit_char (x / 16)) (digit_char (x % 16))
    (not_hex (x / 16) 34 (inl (omega arith))) (not_hex (x / 16) 92 (inr (omega arith, omega arith)))
    (not_hex (x % 16) 34 (inl (omega arith))) (not_hex (x % 16) 92 (inr (omega arith, omega arith))))
    (λ plain. within_one x
    (ne_eqb x 34 (λ e. letter x 34 e none (omega arith))) (ne_eqb x 92 (λ e. letter x 92 e none (omega arith)))))
  where
    letter : (x c : ℕ) → x ≡ c → nat_lt 0 (escape_letter x) ≡ false → 0 < escape_letter c → ⊥
    letter x c e none some = let zero_is : escape_letter x ≤ 0 = ltb-false 0 (escape_letter x) none in
        let same : escape_letter x ≡ escape_letter c = ap escape_letter e in omega arith

within_escape : (s : List ℕ) → Within (escape s)
within_escape [] rest = refl
within_escape (x ∷ s) rest =
    ap (plain_from in_string) (append_assoc (escape_byte x) (escape s) rest)
    ∙ (within_byte x (escape s ++ rest) ∙ (ap (λ t. escape_byte x ++ t) (within_escape s rest)
    ∙ sym (append_assoc (escape_byte x) (escape s) (plain_from in_string rest))))

opened : (t : List ℕ) → plain_from outside (34 ∷ t) ≡ 34 ∷ plain_from in_string t
unfolding plain_from
opened t = refl

closed : (t : List ℕ) → plain_from in_string (34 ∷ t) ≡ 34 ∷ plain_from outside t
unfolding plain_from
closed t = refl

stays_quoted : (s rest : List ℕ) → plain_from outside (quoted s ++ rest) ≡ quoted s ++ plain_from outside rest
stays_quoted s rest =
    opened ((escape s ++ 34 ∷ []) ++ rest)
    ∙ (ap (λ t. 34 ∷ plain_from in_string t) (append_assoc (escape s) (34 ∷ []) rest)
    ∙ (ap (λ t. 34 ∷ t) (within_escape s (34 ∷ rest) ∙ ap (λ t. escape s ++ t) (closed rest))
    ∙ ap (λ t. 34 ∷ t) (sym (append_assoc (escape s) (34 ∷ []) (plain_from outside rest)))))

-- ---- values

-- one text behind another
both_stay : (a b rest : List ℕ) → plain_from outside (a ++ (b ++ rest)) ≡ a ++ plain_from outside (b ++ rest) →
    plain_from outside (b ++ rest) ≡ b ++ plain_from outside rest
    → plain_from outside ((a ++ b) ++ rest) ≡ (a ++ b) ++ plain_from outside rest
both_stay a b rest p q = ap (plain_from outside) (append_assoc a b rest)
    ∙ (p ∙ (ap (λ t. a ++ t) q ∙ sym (append_assoc a b (plain_from outside rest))))

items_stop : (ds : Items) (rest : List ℕ) → is_run_byte (head (items_text true ds ++ rest)) ≡ false
items_stop no_items rest = refl
items_stop (item d ds) rest = refl

members_stop : (ms : Members) (rest : List ℕ) → is_run_byte (head (members_text true ms ++ rest)) ≡ false
members_stop no_members rest = refl
members_stop (member k d ms) rest = refl

stays_null : Stays (compact_text null)
unfolding plain_from
stays_null rest stops = refl

stays_boolean : (b : Bool) → Stays (compact_text (boolean b))
unfolding plain_from
stays_boolean true rest stops = refl
stays_boolean false rest stops = refl

abbrev IsMark : ℕ → Type 0
IsMark x = (begins_run x ≡ false) × ((x == 34) ≡ false)

stays_mark : (x : ℕ) (t : List ℕ) → IsMark x → plain_from outside (x ∷ t) ≡ x ∷ plain_from outside t
unfolding plain_from
stays_mark x t h = rw (h.0, h.1) refl

stays_comma : (later : Bool) (a rest : List ℕ) → plain_from outside (a ++ rest) ≡ a ++ plain_from outside rest →
    plain_from outside ((comma_if later ++ a) ++ rest) ≡ (comma_if later ++ a) ++ plain_from outside rest
stays_comma true a rest h = stays_mark 44 (a ++ rest) (refl, refl) ∙ ap (λ t. 44 ∷ t) h
stays_comma false a rest h = h

mutual
  stays_value : (n : ℕ) (d : Data) → IsPlain n d → Stays (compact_text d)
  stays_value n null h = stays_null
  stays_value n (boolean b) h = stays_boolean b
  stays_value n (number m) h = stays_number m h
  stays_value n (string s) h = λ rest stops. stays_quoted s rest
  stays_value zero (array ds) h = absurd h
  stays_value (suc n) (array ds) h = λ rest stops. stays_mark 91 (items_text false ds ++ rest) (refl, refl)
      ∙ ap (λ t. 91 ∷ t) (stays_items n false ds h rest)
  stays_value zero (object ms) h = absurd h
  stays_value (suc n) (object ms) h = λ rest stops. stays_mark 123 (members_text false ms ++ rest) (refl, refl)
      ∙ ap (λ t. 123 ∷ t) (stays_members n false ms h rest)

  stays_items : (n : ℕ) (later : Bool) (ds : Items) → ArePlain n ds → (rest : List ℕ) →
      plain_from outside (items_text later ds ++ rest) ≡ items_text later ds ++ plain_from outside rest
  stays_items n later no_items h rest = stays_mark 93 rest (refl, refl)
  stays_items n later (item d ds) h rest =
      stays_comma later (compact_text d ++ items_text true ds) rest
      (both_stay (compact_text d) (items_text true ds) rest
      (stays_value n d h.0 (items_text true ds ++ rest) (items_stop ds rest)) (stays_items n true ds h.1 rest))

  stays_members : (n : ℕ) (later : Bool) (ms : Members) → HasPlain n ms → (rest : List ℕ) →
      plain_from outside (members_text later ms ++ rest) ≡ members_text later ms ++ plain_from outside rest
  stays_members n later no_members h rest = stays_mark 125 rest (refl, refl)
  stays_members n later (member k d ms) h rest =
      let value = both_stay (compact_text d) (members_text true ms) rest (stays_value n d h.0
      (members_text true ms ++ rest) (members_stop ms rest)) (stays_members n true ms h.2 rest) in
      stays_comma later (quoted k ++ 58 ∷ (compact_text d ++ members_text true ms)) rest
      (both_stay (quoted k) (58 ∷ (compact_text d ++ members_text true ms)) rest
      (stays_quoted k (58 ∷ (compact_text d ++ members_text true ms) ++ rest))
      (stays_mark 58 ((compact_text d ++ members_text true ms) ++ rest) (refl, refl) ∙ ap (λ t. 58 ∷ t) value))

-- a value's text is its own plain form
pub plain-compact_text : (n : ℕ) (d : Data) → IsPlain n d → plain_of (compact_text d) ≡ compact_text d
plain-compact_text n d h =
    ap (plain_from outside) (sym (append-nil (compact_text d))) ∙ (stays_value n d h [] refl
    ∙ (ap (λ t. compact_text d ++ t) (plain_end outside) ∙ append-nil (compact_text d)))
