-- The plain form, a byte, a string or a run at a time.
use Rattle.std.proofs.Common.{◌≡◌, ◌≢◌, ◌<◌, ◌≤◌, ℕ, ◌+◌, List, [], ◌∷◌, ◌++◌, length, take, drop, get_or, Bool, true}
use Rattle.std.proofs.Common.{false, cond, ◌==◌, refl, sym, ap, ◌∙◌, arith, append_assoc, one-add, add-zero}
use Rattle.std.proofs.Common.{length-drop, take_all, drop_of_length-le, ne_eqb}
use Rattle.std.proofs.Math.Seq.{take-add}
use Rattle.std.proofs.lemmas.List.{drop-drop, drop_more, get_or-drop, take_more}
use Rattle.json.specs.Word.{after_number}
use Rattle.json_whole.specs.Run.{begins_run, is_run_byte, run_len, first_run, written}
use Rattle.json_whole.specs.Plain.{Place, outside, in_run, in_string, escaped, next_place, written_at, plain_from}
use Rattle.json_whole.specs.Plain.{plain_of}
use Rattle.json_whole.specs.Forms.{plain_behind}

pub plain_end : (place : Place) → plain_from place [] ≡ []
unfolding plain_from
plain_end place = refl

-- where nothing is left, the place doesn't matter
pub all_passed : (place : Place) (xs : List ℕ) (at : ℕ) →
    length xs ≤ at → plain_behind place at xs ≡ plain_behind outside (length xs) xs
all_passed place xs at h = let whole : length xs ≤ length xs = omega arith in rw (
  take_all at xs h,
  drop_of_length-le xs h,
  take_all (length xs) xs whole,
  drop_of_length-le xs whole,
  plain_end,
  plain_end,
) refl

-- the byte at a place of the text
plain_at : (place : Place) (xs : List ℕ) (at : ℕ) → at < length xs
    → plain_from place (drop at xs) ≡ written_at place (get_or xs at 0) (drop (at + 1) xs)
    ++ plain_from (next_place place (get_or xs at 0)) (drop (at + 1) xs)
unfolding plain_from
plain_at place xs at h = ap (plain_from place) (drop_more xs at 0 h)

-- a byte that stays
stays_one : (place : Place) (xs : List ℕ) (at : ℕ) →
    at < length xs → written_at place (get_or xs at 0) (drop (at + 1) xs) ≡ get_or xs at 0 ∷ []
    → plain_behind place at xs ≡ plain_behind (next_place place (get_or xs at 0)) (at + 1) xs
stays_one place xs at h e =
    rw (plain_at place xs at h, e, take_more xs at 0 h) (sym (append_assoc (take at xs) (get_or xs at 0 ∷ []) _))

-- ---- the bytes of a string

pub after_escape : (xs : List ℕ) (at : ℕ) →
    at < length xs → plain_behind escaped at xs ≡ plain_behind in_string (at + 1) xs
after_escape xs at h = stays_one escaped xs at h refl

pub at_quote : (xs : List ℕ) (at : ℕ) →
    at < length xs → get_or xs at 0 ≡ 34 → plain_behind in_string at xs ≡ plain_behind outside (at + 1) xs
at_quote xs at h e = let one = stays_one in_string xs at h refl in rw e at one

-- another byte: a backslash escapes the one behind it
pub at_other : (xs : List ℕ) (at : ℕ) → at < length xs → get_or xs at 0 ≢ 34 →
    plain_behind in_string at xs ≡ plain_behind (cond (get_or xs at 0 == 92) escaped in_string) (at + 1) xs
at_other xs at h quote = let one = stays_one in_string xs at h refl in rw (ne_eqb _ _ quote) at one

-- ---- the bytes outside

outside_one : (xs : List ℕ) (at : ℕ) → at < length xs → begins_run (get_or xs at 0) ≡ false →
    plain_behind outside at xs ≡ plain_behind (cond (get_or xs at 0 == 34) in_string outside) (at + 1) xs
outside_one xs at h e = let one = stays_one outside xs at h (rw e refl) in rw e at one

pub before_string : (xs : List ℕ) (at : ℕ) → at < length xs → begins_run (get_or xs at 0) ≡ false →
    get_or xs at 0 ≡ 34 → plain_behind outside at xs ≡ plain_behind in_string (at + 1) xs
before_string xs at h e quote = let one = outside_one xs at h e in rw quote at one

pub between : (xs : List ℕ) (at : ℕ) → at < length xs → begins_run (get_or xs at 0) ≡ false →
    get_or xs at 0 ≢ 34 → plain_behind outside at xs ≡ plain_behind outside (at + 1) xs
between xs at h e quote = let one = outside_one xs at h e in rw (ne_eqb _ _ quote) at one

-- ---- a run

pub not_begun : (x : ℕ) → is_run_byte x ≡ false → begins_run x ≡ false
not_begun x e = grind arith

-- what is passed over of a run, by whether the next byte belongs to it
passed_one : (b : Bool) (x : ℕ) (xs : List ℕ) →
    is_run_byte x ≡ b → plain_from in_run xs ≡ plain_of (drop (run_len xs) xs)
    → plain_from in_run (x ∷ xs) ≡ plain_of (drop (cond b (1 + run_len xs) 0) (x ∷ xs))
unfolding plain_from
passed_one true x xs e rest = rw (e, one-add) rest
passed_one false x xs e rest = rw (e, not_begun x e) refl

-- the bytes of a run behind its first are passed over
pub run_passed : (xs : List ℕ) → plain_from in_run xs ≡ plain_of (drop (run_len xs) xs)
run_passed [] = plain_end in_run ∙ sym (plain_end outside)
run_passed (x ∷ xs) = passed_one (is_run_byte x) x xs refl (run_passed xs)

pub no_run : written [] ≡ []
unfolding after_number written
no_run = refl

pub begun_is_run : (x : ℕ) → begins_run x ≡ true → is_run_byte x ≡ true
begun_is_run x e = grind arith

pub begun_not_quote : (x : ℕ) → begins_run x ≡ true → (x == 34) ≡ false
begun_not_quote x e = grind arith

pub begun_here : (x : ℕ) (xs : List ℕ) →
    begins_run x ≡ true → plain_of (x ∷ xs) ≡ written (first_run (x ∷ xs)) ++ plain_from in_run xs
unfolding plain_from
begun_here x xs e = rw (begun_not_quote x e, e) refl

passed_here : (x : ℕ) (xs : List ℕ) →
    begins_run x ≡ true → plain_from in_run xs ≡ plain_of (drop (run_len (x ∷ xs)) (x ∷ xs))
passed_here x xs e = rw (begun_is_run x e, one-add) (run_passed xs)

-- a run at the front, or the end of the text
run_first : (xs : List ℕ) → (0 < length xs → begins_run (get_or xs 0 0) ≡ true) →
    plain_of xs ≡ written (first_run xs) ++ plain_of (drop (run_len xs) xs)
run_first [] begun = rw no_run refl
run_first (x ∷ xs) begun = let e : begins_run x ≡ true = begun (omega arith) in
    begun_here x xs e ∙ ap (λ rest. written (first_run (x ∷ xs)) ++ rest) (passed_here x xs e)

-- the same at a place of the text
pub run_at : (xs : List ℕ) (at : ℕ) → (at < length xs → begins_run (get_or xs at 0) ≡ true)
    → plain_of (drop at xs) ≡ written (first_run (drop at xs)) ++ plain_of (drop (at + run_len (drop at xs)) xs)
run_at xs at begun =
    let at_front : 0 < length (drop at xs) → begins_run (get_or (drop at xs) 0 0) ≡ true =
    λ h. rw (get_or-drop at xs 0 0, add-zero) (begun (omega (arith, length-drop at xs))) in
    rw (drop-drop (run_len (drop at xs)) at xs) at (run_first (drop at xs) at_front)

-- a run that stays
pub run_stays : (xs : List ℕ) (at : ℕ) →
    (at < length xs → begins_run (get_or xs at 0) ≡ true) → first_run (drop at xs) ≡ written (first_run (drop at xs))
    → plain_behind outside at xs ≡ plain_behind outside (at + run_len (drop at xs)) xs
run_stays xs at begun same = rw (run_at xs at begun, ← same, take-add at (run_len (drop at xs)) xs)
    (sym (append_assoc (take at xs) (first_run (drop at xs)) _))

-- bytes that stay and a run, written behind `out`
pub run_written : (out xs : List ℕ) (at : ℕ) →
    plain_of xs ≡ plain_behind outside at xs → (at < length xs → begins_run (get_or xs at 0) ≡ true)
    → ((out ++ take at xs) ++ written (first_run (drop at xs))) ++ plain_of (drop (at + run_len (drop at xs)) xs)
    ≡ out ++ plain_of xs
run_written out xs at same begun =
    append_assoc (out ++ take at xs) _ _ ∙ ap (λ rest. (out ++ take at xs) ++ rest) (sym (run_at xs at begun))
    ∙ append_assoc out (take at xs) _ ∙ ap (λ rest. out ++ rest) (sym same)
