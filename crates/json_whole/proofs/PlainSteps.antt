-- The grammar's steps at the tokens of the plain form.
use Rattle.std.proofs.Common.{◌≡◌, ◌<◌, ◌≤◌, ℕ, ◌-◌, List, [], ◌∷◌, ◌++◌, length, take, Bool, true, false, cond}
use Rattle.std.proofs.Common.{Option, Some, None, option_map, refl, sym, ap, ◌∙◌, arith, length-append, length-take-le}
use Rattle.std.specs.Str.{bytes_eq}
use Rattle.std.proofs.lemmas.Slice.Eq.{bytes_eq-Decides}
use Rattle.std.proofs.lemmas.List.Sums.{prefix_len-le-length}
use Rattle.std.specs.Char.{is_ascii_digit}
use Rattle.json.specs.Token as tok
use Rattle.json.specs.Json.{Json, array, no_items, item, string, parse_map, after_end_array, read_key}
use Rattle.json.specs.Json.{value}
use Rattle.json.specs.Json as json
use Rattle.json.proofs.Grammar.{value_is, value-begin_array, items_end, items_more, skip_value-shorter}
use Rattle.json_whole.specs.Run.{digit_count, listed, written, is_whole}
use Rattle.json_whole.specs.Forms.{written_as}
use Rattle.json_whole.specs.PlainTokens.{list_tokens, plain_number, plain_tokens, number_as}
use Rattle.json_whole.specs.declared.runs.Form.{Form}
use Rattle.json_whole.specs.declared.runs.Form.TheVariants.{Same, Digits, Listed}
use Rattle.json_whole.proofs.Numerals.{whole_stays}

-- ---- a number in its form

-- a list of a text is longer than the text
unlisted_by : (b : Bool) (s t : List ℕ) → bytes_eq t (listed s) ≡ b → length t ≤ length s →
    bytes_eq t (listed s) ≡ false
unlisted_by true s t e short =
    let same : t ≡ listed s = (bytes_eq-Decides t (listed s)).0 e in
    absurd (omega (arith, short, ap length same, length-append s (34 ∷ 93 ∷ [])))
unlisted_by false s t e short = e

unlisted : (s t : List ℕ) → written s ≡ t → length t ≤ length s → plain_number s ≡ tok.number t ∷ []
unlisted s t e short = rw (e, unlisted_by (bytes_eq t (listed s)) s t refl short) refl

pub form_written : (form : Form) (s : List ℕ) → written_as form s ≡ written s → number_as form s ≡ plain_number s
form_written Same s e = sym (unlisted s s (sym e) (omega arith))
form_written Digits s e =
    let within = prefix_len-le-length is_ascii_digit s in
    sym (unlisted s (take (digit_count s) s) (sym e) (omega (arith, length-take-le (digit_count s) s within, within)))
form_written Listed s e = rw (← e, (bytes_eq-Decides (listed s) (listed s)).1 refl) refl

pub whole_written : (s : List ℕ) → is_whole s ≡ true → number_as Same s ≡ plain_number s
whole_written s whole = form_written Same s (sym (whole_stays s whole))

-- ---- a number is read

pub list_read : (depth : ℕ) (s : List ℕ) (rest : List tok.Token) → 0 < depth →
    value depth (list_tokens s ++ rest) ≡ Some (array (item (string s) no_items), rest)
list_read depth s rest some =
    let p = value (depth - 1) in
    let end = tok.end_array ∷ rest in
    let text = tok.string s ∷ end in
    value-begin_array depth text some
    ∙ ap (parse_map array)
    (items_more p (length text) text end (string s) (omega arith) refl (value_is (depth - 1) text)
    ∙ ap (parse_map (item (string s))) (items_end p (length text - 1) end rest (omega arith) refl))

pub number_read : (form : Form) (depth : ℕ) (s : List ℕ) (rest : List tok.Token) → number_as form s ≡ plain_number s →
    (form ≡ Listed → 0 < depth) → (j : Json) × (value depth (plain_number s ++ rest) ≡ Some (j, rest))
number_read Same depth s rest e nests =
    (json.number s, ap (λ ts. value depth (ts ++ rest)) (sym e) ∙ value_is depth (tok.number s ∷ rest))
number_read Digits depth s rest e nests =
    let digits = take (digit_count s) s in
    (json.number digits, ap (λ ts. value depth (ts ++ rest)) (sym e) ∙ value_is depth (tok.number digits ∷ rest))
number_read Listed depth s rest e nests =
    let list = list_read depth s rest (nests refl) in
    (array (item (string s) no_items), ap (λ ts. value depth (ts ++ rest)) (sym e) ∙ list)

-- ---- the ends of lists, and keys

no_end : (b : Bool) (s w : List ℕ) (ts : List tok.Token) →
    after_end_array (cond b (list_tokens s) (tok.number w ∷ []) ++ ts) ≡ None
no_end true s w ts = refl
no_end false s w ts = refl

no_key : (b : Bool) (s w : List ℕ) (ts : List tok.Token) →
    read_key (cond b (list_tokens s) (tok.number w ∷ []) ++ ts) ≡ None
no_key true s w ts = refl
no_key false s w ts = refl

plain_end_array : (ts : List tok.Token) →
    after_end_array (plain_tokens ts) ≡ option_map plain_tokens (after_end_array ts)
plain_end_array [] = refl
plain_end_array (tok.begin_object ∷ ts) = refl
plain_end_array (tok.end_object ∷ ts) = refl
plain_end_array (tok.begin_array ∷ ts) = refl
plain_end_array (tok.end_array ∷ ts) = refl
plain_end_array (tok.key s ∷ ts) = refl
plain_end_array (tok.string s ∷ ts) = refl
plain_end_array (tok.number s ∷ ts) = no_end (bytes_eq (written s) (listed s)) s (written s) (plain_tokens ts)
plain_end_array (tok.boolean b ∷ ts) = refl
plain_end_array (tok.null ∷ ts) = refl
plain_end_array (tok.bad ∷ ts) = refl

plain_key : (ts : List tok.Token) →
    read_key (plain_tokens ts) ≡ option_map (λ q. (q.0, plain_tokens q.1)) (read_key ts)
plain_key [] = refl
plain_key (tok.begin_object ∷ ts) = refl
plain_key (tok.end_object ∷ ts) = refl
plain_key (tok.begin_array ∷ ts) = refl
plain_key (tok.end_array ∷ ts) = refl
plain_key (tok.key s ∷ ts) = refl
plain_key (tok.string s ∷ ts) = refl
plain_key (tok.number s ∷ ts) = no_key (bytes_eq (written s) (listed s)) s (written s) (plain_tokens ts)
plain_key (tok.boolean b ∷ ts) = refl
plain_key (tok.null ∷ ts) = refl
plain_key (tok.bad ∷ ts) = refl

pub array_goes_on : (ts : List tok.Token) → after_end_array ts ≡ None → after_end_array (plain_tokens ts) ≡ None
array_goes_on ts e = plain_end_array ts ∙ ap (option_map plain_tokens) e

pub array_ends : (ts r : List tok.Token) → after_end_array ts ≡ Some r →
    after_end_array (plain_tokens ts) ≡ Some (plain_tokens r)
array_ends ts r e = plain_end_array ts ∙ ap (option_map plain_tokens) e

pub key_comes : (ts : List tok.Token) (k : Option (List ℕ)) (r : List tok.Token) → read_key ts ≡ Some (k, r) →
    read_key (plain_tokens ts) ≡ Some (k, plain_tokens r)
key_comes ts k r e = plain_key ts ∙ ap (option_map (λ q. (q.0, plain_tokens q.1))) e

-- ---- what is read is taken off

pub value_shorter : (depth : ℕ) (ts r : List tok.Token) (j : Json) → value depth ts ≡ Some (j, r) → length r < length ts
value_shorter depth ts r j e = skip_value-shorter depth ts r (ap (option_map (λ p. p.1)) e)
