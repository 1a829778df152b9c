-- The plain form of a text in UTF-8 is one too.
use Rattle.std.proofs.Common.{◌≡◌, ◌<◌, ◌≤◌, ℕ, zero, suc, List, [], ◌∷◌, ◌++◌, length, get_or, Bool, true, false, cond}
use Rattle.std.proofs.Common.{◌==◌, nat_lt, inl, inr, refl, sym, ap, ◌∙◌, subst, arith, IsUtf8, ne_eqb, append-nil}
use Rattle.std.specs.Prelude.{encode_utf8, encode_utf8_all}
use Rattle.std.specs.Str.{all_scalars}
use Rattle.std.proofs.lemmas.Bool.{and_parts, ltb-true, ltb-false}
use Rattle.std.proofs.lemmas.Str.{IsUtf8-append, IsUtf8-from_ascii, IsUtf8-nil, encode_ascii, inside_one, IsUtf8-encode}
use Rattle.json_whole.specs.Run.{begins_run, is_run_byte, first_run}
use Rattle.json_whole.specs.Plain.{Place, outside, in_run, in_string, escaped, next_place, written_at, plain_from}
use Rattle.json_whole.specs.Plain.{plain_of}
use Rattle.json_whole.proofs.Words.{IsRun}
use Rattle.json_whole.proofs.Numerals.{first_run_bytes, run_is_utf8}
use Rattle.json_whole.proofs.Exact.{Written, written_is}
use Rattle.json_whole.proofs.Steps.{plain_end}

-- ---- bytes of a character that is no ASCII

abbrev AreHigh : List ℕ → Type 0
AreHigh bytes = (k : ℕ) → k < length bytes → 128 ≤ get_or bytes k 0

high_by : (b : Bool) (c k : ℕ) → nat_lt (get_or (encode_utf8 c) k 0) 128 ≡ b → 128 ≤ c → k < length (encode_utf8 c) →
    128 ≤ get_or (encode_utf8 c) k 0
high_by true c k e high within =
    let same = inside_one c [] (encode_utf8 c) k (sym (append-nil (encode_utf8 c))) within (ltb-true _ 128 e) in
    omega (arith, same, ltb-true _ 128 e, high)
high_by false c k e high within = ltb-false _ 128 e

encode_high : (c : ℕ) → 128 ≤ c → AreHigh (encode_utf8 c)
encode_high c high k within = high_by (nat_lt (get_or (encode_utf8 c) k 0) 128) c k refl high within

-- where the byte behind such a byte stands
abbrev behind_high : Place → Place
behind_high outside = outside
behind_high in_run = outside
behind_high in_string = in_string
behind_high escaped = in_string

high_begins_no_run : (x : ℕ) → 128 ≤ x → begins_run x ≡ false
high_begins_no_run x h = grind arith

high_in_no_run : (x : ℕ) → 128 ≤ x → is_run_byte x ≡ false
high_in_no_run x h = grind arith

high_other : (x c : ℕ) → 128 ≤ x → c < 128 → (x == c) ≡ false
high_other x c h l = ne_eqb x c (λ same. omega (arith, same, h, l))

high_stays : (place : Place) (x : ℕ) (xs : List ℕ) → 128 ≤ x →
    plain_from place (x ∷ xs) ≡ x ∷ plain_from (behind_high place) xs
unfolding plain_from
high_stays outside x xs h = rw (high_begins_no_run x h, high_other x 34 h (omega arith)) refl
high_stays in_run x xs h =
    rw (high_in_no_run x h, high_begins_no_run x h, high_other x 34 h (omega arith)) refl
high_stays in_string x xs h = rw (high_other x 34 h (omega arith), high_other x 92 h (omega arith)) refl
high_stays escaped x xs h = refl

all_stay : (bytes : List ℕ) (place : Place) → AreHigh bytes →
    (after : Place) × ((rest : List ℕ) → plain_from place (bytes ++ rest) ≡ bytes ++ plain_from after rest)
all_stay [] place h = (place, λ rest. refl)
all_stay (x ∷ bytes) place h =
    let more = all_stay bytes (behind_high place) (λ k within. h (suc k) (omega (arith, within))) in
    (more.0, λ rest. high_stays place x (bytes ++ rest) (h 0 (omega arith)) ∙ ap (λ l. x ∷ l) (more.1 rest))

-- ---- ASCII bytes

one_ascii : (c : ℕ) → c < 128 → (i : ℕ) → get_or (c ∷ []) i 0 < 128
one_ascii c h zero = h
one_ascii c h (suc i) = omega arith

one_utf8 : (c : ℕ) → c < 128 → IsUtf8 (c ∷ [])
one_utf8 c h = IsUtf8-from_ascii (c ∷ []) (one_ascii c h)

two_utf8 : (c d : ℕ) → c < 128 → d < 128 → IsUtf8 (c ∷ d ∷ [])
two_utf8 c d h k = IsUtf8-append (c ∷ []) (d ∷ []) (one_utf8 c h) (one_utf8 d k)

written_utf8 : (r t : List ℕ) → IsRun r → Written r t → IsUtf8 t
written_utf8 r t h (inl e) =
    rw e (IsUtf8-append (91 ∷ 34 ∷ []) _ (two_utf8 91 34 (omega arith) (omega arith))
    (IsUtf8-append r (34 ∷ 93 ∷ []) (run_is_utf8 r h) (two_utf8 34 93 (omega arith) (omega arith))))
written_utf8 r t h (inr p) = run_is_utf8 t p.0

either_utf8 : (b : Bool) (xs ys : List ℕ) → IsUtf8 xs → IsUtf8 ys → IsUtf8 (cond b xs ys)
either_utf8 true xs ys p q = p
either_utf8 false xs ys p q = q

byte_utf8 : (place : Place) (c : ℕ) (xs : List ℕ) → c < 128 → IsUtf8 (written_at place c xs)
byte_utf8 outside c xs h =
    let run = first_run_bytes (c ∷ xs) in
    either_utf8 (begins_run c) _ _
    (written_utf8 (first_run (c ∷ xs)) _ run (written_is (first_run (c ∷ xs)) run)) (one_utf8 c h)
byte_utf8 in_run c xs h = either_utf8 (is_run_byte c) _ _ IsUtf8-nil (one_utf8 c h)
byte_utf8 in_string c xs h = one_utf8 c h
byte_utf8 escaped c xs h = one_utf8 c h

-- ---- a character further

abbrev PlainUtf8 : List ℕ → Type 0
PlainUtf8 xs = (place : Place) → IsUtf8 (plain_from place xs)

ascii_further : (c : ℕ) (xs : List ℕ) → c < 128 → PlainUtf8 xs → PlainUtf8 (c ∷ xs)
unfolding plain_from
ascii_further c xs h rest place =
    IsUtf8-append (written_at place c xs) _ (byte_utf8 place c xs h) (rest (next_place place c))

char_by : (b : Bool) (c : ℕ) (xs : List ℕ) → nat_lt c 128 ≡ b → IsUtf8 (encode_utf8 c) → PlainUtf8 xs →
    PlainUtf8 (encode_utf8 c ++ xs)
char_by true c xs e char rest place =
    let ascii : c < 128 = ltb-true c 128 e in
    subst (λ l. PlainUtf8 (l ++ xs)) (sym (encode_ascii c ascii)) (ascii_further c xs ascii rest) place
char_by false c xs e char rest place =
    let stay = all_stay (encode_utf8 c) place (encode_high c (ltb-false c 128 e)) in
    subst IsUtf8 (sym (stay.1 xs)) (IsUtf8-append (encode_utf8 c) _ char (rest stay.0))

chars_utf8 : (cs : List ℕ) → all_scalars cs ≡ true → PlainUtf8 (encode_utf8_all cs)
chars_utf8 [] h place = rw plain_end IsUtf8-nil
chars_utf8 (c ∷ cs) h place =
    let both = and_parts _ (all_scalars cs) h in
    char_by (nat_lt c 128) c (encode_utf8_all cs) refl (IsUtf8-encode c both.0) (chars_utf8 cs both.1) place

pub plain_utf8 : (text : List ℕ) → IsUtf8 text → IsUtf8 (plain_of text)
plain_utf8 text h = subst (λ l. IsUtf8 (plain_of l)) h.1.1 (chars_utf8 h.0 h.1.0 outside)
