-- The tokens of the plain form of a text, where none of the text is bad.
use Rattle.std.proofs.Common.{◌≡◌, ◌<◌, ◌≤◌, ℕ, zero, suc, ◌-◌, List, [], ◌∷◌, ◌++◌, length, take, drop}
use Rattle.std.proofs.Common.{Bool, true, false, cond, ◌||◌, ◌&&◌, ◌==◌, nat_eq, Option, Some, None, option_map, map}
use Rattle.std.proofs.Common.{refl, sym, ap, ◌∙◌, subst, inl, inr, arith, one-add, length-append, length-drop}
use Rattle.std.proofs.Common.{append_assoc, ne_eqb}
use Rattle.std.specs.Prelude.{⊤, IfSome}
use Rattle.std.specs.Str.{bytes_eq}
use Rattle.std.specs.List.{starts_with}
use Rattle.std.specs.Option.{option_map_or}
use Rattle.std.proofs.Math.Seq.{take-append_seam}
use Rattle.std.proofs.lemmas.Bool.{eqb-true, and_parts}
use Rattle.std.proofs.lemmas.List.{take-append-drop}
use Rattle.std.proofs.lemmas.Slice.Eq.{bytes_eq-Decides}
use Rattle.json.specs.Token as tok
use Rattle.json.specs.Text as text
use Rattle.json.specs.Ascii.{true_text, false_text, null_text}
use Rattle.json.specs.Word.{head, ends_word, is_operator, is_space, word, after_number, number_before}
use Rattle.json.specs.Lex.{Lexeme, token, comma, colon, Place, fresh, after_value, after_comma, after_key, begins_colon}
use Rattle.json.specs.Lex.{may_begin, may_close, if_allowed, place_token, punctuate, tokens, string_token}
use Rattle.json.specs.Lex.{Mode, between, in_word, in_escape, operator, space, other, class, lex_byte, lex}
use Rattle.json.specs.Lex as lexing
use Rattle.json.specs.Json as json
use Rattle.serde_json.specs.Read.{max_depth}
use Rattle.json_whole.specs.Run.{begins_run, is_run_byte, run_len, first_run, is_number, listed, written}
use Rattle.json_whole.specs.Plain.{outside, in_run, in_string, escaped, plain_from, plain_of}
use Rattle.json_whole.specs.Plain as plain
use Rattle.json_whole.specs.PlainTokens.{list_tokens, plain_number, plain_token, plain_tokens}
use Rattle.json_whole.specs.Whole.{json_in}
use Rattle.json_whole.proofs.Tokens.{kept, mapped}
use Rattle.json_whole.proofs.Words.{IsRun, run_head, run_rest, run_class, run_goes_on, other_than, number_split}
use Rattle.json_whole.proofs.Numerals.{first_run_bytes}
use Rattle.json_whole.proofs.Steps.{plain_end, not_begun, begun_is_run, begun_here, run_passed}
use Rattle.json_whole.proofs.Lexed.{word_passes, string_passes, ends_not, no_number}
use Rattle.json_whole.proofs.Exact.{number_or_list, NumberOrList, no_digits}
use Rattle.json_whole.proofs.Contents.{same_content, run_content}

-- no token is bad
abbrev Good : tok.Token → Type 0
Good tok.begin_object = ⊤
Good tok.end_object = ⊤
Good tok.begin_array = ⊤
Good tok.end_array = ⊤
Good (tok.key s) = ⊤
Good (tok.string s) = ⊤
Good (tok.number s) = ⊤
Good (tok.boolean b) = ⊤
Good tok.null = ⊤
Good tok.bad = ⊥

abbrev AllGood : List tok.Token → Type 0
AllGood [] = ⊤
AllGood (t ∷ ts) = Good t × AllGood ts

abbrev GoodLexed : List Lexeme → Type 0
GoodLexed [] = ⊤
GoodLexed (token t ∷ ls) = Good t × GoodLexed ls
GoodLexed (comma ∷ ls) = GoodLexed ls
GoodLexed (colon ∷ ls) = GoodLexed ls

-- ---- from a value to the tokens that it was read of

-- the tokens are good where those that are left are
abbrev From : {A : Type 0} → List tok.Token → (A × List tok.Token) → Type 0
From ts q = AllGood q.1 → AllGood ts

abbrev Reads : {A : Type 0} → json.Parse A → Type 0
Reads parse = (ts : List tok.Token) → IfSome (parse ts) (From ts)

weaker : {A : Type 0} (P Q : A → Type 0) (o : Option A) → IfSome o P → ((a : A) → P a → Q a) → IfSome o Q
weaker P Q None h g = tt
weaker P Q (Some a) h g = g a h

after_array : (ts : List tok.Token) → IfSome (json.after_end_array ts) (λ rest. AllGood rest → AllGood ts)
after_array [] = tt
after_array (tok.begin_object ∷ ts) = tt
after_array (tok.end_object ∷ ts) = tt
after_array (tok.begin_array ∷ ts) = tt
after_array (tok.end_array ∷ ts) = λ h. (tt, h)
after_array (tok.key s ∷ ts) = tt
after_array (tok.string s ∷ ts) = tt
after_array (tok.number s ∷ ts) = tt
after_array (tok.boolean b ∷ ts) = tt
after_array (tok.null ∷ ts) = tt
after_array (tok.bad ∷ ts) = tt

key_read : (ts : List tok.Token) → IfSome (json.read_key ts) (λ q. AllGood q.1 → AllGood ts)
key_read [] = tt
key_read (tok.begin_object ∷ ts) = tt
key_read (tok.end_object ∷ ts) = λ h. (tt, h)
key_read (tok.begin_array ∷ ts) = tt
key_read (tok.end_array ∷ ts) = tt
key_read (tok.key s ∷ ts) = λ h. (tt, h)
key_read (tok.string s ∷ ts) = tt
key_read (tok.number s ∷ ts) = tt
key_read (tok.boolean b ∷ ts) = tt
key_read (tok.null ∷ ts) = tt
key_read (tok.bad ∷ ts) = tt

module _ (parse : json.Parse json.Json) (reads : Reads parse) where
  items_turn : (more : json.Parse json.Items) → Reads more → (ts : List tok.Token) → (o : Option (List tok.Token)) →
      IfSome o (λ rest. AllGood rest → AllGood ts) → IfSome (json.items_step parse more ts o) (From ts)
  items_turn more again ts (Some rest) e = e
  items_turn more again ts None e =
      kept (From ts) (From ts) _ (parse ts) (reads ts)
      (λ q r. mapped (From q.1) (From ts) _ (more q.1) (again q.1) (λ p f h. r (f h)))

  items_read : (n : ℕ) → Reads (json.items parse n)
  unfolding json.items
  items_read zero ts = tt
  items_read (suc n) ts =
      items_turn (json.items parse n) (items_read n) ts (json.after_end_array ts) (after_array ts)

  members_turn : (more : json.Parse json.Members) → Reads more → (k : Option (List ℕ))
      (ts : List tok.Token) → IfSome (json.members_step parse more k ts) (From ts)
  members_turn more again None ts = λ h. h
  members_turn more again (Some k) ts =
      kept (From ts) (From ts) _ (parse ts) (reads ts)
      (λ q r. mapped (From q.1) (From ts) _ (more q.1) (again q.1) (λ p f h. r (f h)))

  members_read : (n : ℕ) → Reads (json.members parse n)
  unfolding json.members
  members_read zero ts = tt
  members_read (suc n) ts =
      kept (λ q. AllGood q.1 → AllGood ts) (From ts) _ (json.read_key ts) (key_read ts) (λ q r. weaker (From q.1)
      (From ts) (json.members_step parse (json.members parse n) q.0 q.1)
      (members_turn (json.members parse n) (members_read n) q.0 q.1) (λ p f h. r (f h)))

one_read : (a : json.Parse json.Items) (o : json.Parse json.Members) →
    Reads a → Reads o → Reads (json.value_with a o)
one_read a o p q [] = tt
one_read a o p q (tok.begin_object ∷ ts) = mapped (From ts) _ _ (o ts) (q ts) (λ r f h. (tt, f h))
one_read a o p q (tok.end_object ∷ ts) = tt
one_read a o p q (tok.begin_array ∷ ts) = mapped (From ts) _ _ (a ts) (p ts) (λ r f h. (tt, f h))
one_read a o p q (tok.end_array ∷ ts) = tt
one_read a o p q (tok.key s ∷ ts) = tt
one_read a o p q (tok.string s ∷ ts) = λ h. (tt, h)
one_read a o p q (tok.number s ∷ ts) = λ h. (tt, h)
one_read a o p q (tok.boolean b ∷ ts) = λ h. (tt, h)
one_read a o p q (tok.null ∷ ts) = λ h. (tt, h)
one_read a o p q (tok.bad ∷ ts) = tt

value_read : (depth : ℕ) → Reads (json.value depth)
unfolding json.value
value_read zero = one_read (λ ts. None) (λ ts. None) (λ ts. tt) (λ ts. tt)
value_read (suc depth) =
    one_read (λ ts. json.items (json.value depth) (length ts) ts) (λ ts. json.members (json.value depth) (length ts) ts)
    (λ ts. items_read (json.value depth) (value_read depth) (length ts) ts)
    (λ ts. members_read (json.value depth) (value_read depth) (length ts) ts)

-- the text has no bad token where its plain form has none
number_good : (b : Bool) (s w : List ℕ) (ts : List tok.Token) →
    AllGood (cond b (list_tokens s) (tok.number w ∷ []) ++ ts) → AllGood ts
number_good true s w ts h = h.1.1.1
number_good false s w ts h = h.1

text_good : (ts : List tok.Token) → AllGood (plain_tokens ts) → AllGood ts
text_good [] h = tt
text_good (tok.begin_object ∷ ts) h = (tt, text_good ts h.1)
text_good (tok.end_object ∷ ts) h = (tt, text_good ts h.1)
text_good (tok.begin_array ∷ ts) h = (tt, text_good ts h.1)
text_good (tok.end_array ∷ ts) h = (tt, text_good ts h.1)
text_good (tok.key s ∷ ts) h = (tt, text_good ts h.1)
text_good (tok.string s ∷ ts) h = (tt, text_good ts h.1)
text_good (tok.number s ∷ ts) h =
    (tt, text_good ts (number_good (bytes_eq (written s) (listed s)) s (written s) (plain_tokens ts) h))
text_good (tok.boolean b ∷ ts) h = (tt, text_good ts h.1)
text_good (tok.null ∷ ts) h = (tt, text_good ts h.1)
text_good (tok.bad ∷ ts) h = absurd h.0

-- ---- from tokens to lexemes

allowed : (b : Bool) (t : tok.Token) (k : Place → List tok.Token) (next : Place) →
    AllGood (if_allowed b t k next) → Good t × ((p : Place) × AllGood (k p))
allowed true t k next h = (h.0, (next, h.1))
allowed false t k next h = absurd h.0

placed : (p : Place) (t : tok.Token) (b : Bool) (k : Place → List tok.Token) →
    AllGood (place_token p t b k) → Good t × ((p : Place) × AllGood (k p))
placed p tok.begin_object b k h = allowed (may_begin p) tok.begin_object k fresh h
placed p tok.end_object b k h = allowed (may_close p) tok.end_object k after_value h
placed p tok.begin_array b k h = allowed (may_begin p) tok.begin_array k fresh h
placed p tok.end_array b k h = allowed (may_close p) tok.end_array k after_value h
placed p (tok.key s) b k h = absurd h.0
placed p (tok.string s) true k h = (tt, (allowed (may_begin p) (tok.key s) k after_key h).1)
placed p (tok.string s) false k h = allowed (may_begin p) (tok.string s) k after_value h
placed p (tok.number s) b k h = allowed (may_begin p) (tok.number s) k after_value h
placed p (tok.boolean v) b k h = allowed (may_begin p) (tok.boolean v) k after_value h
placed p tok.null b k h = allowed (may_begin p) tok.null k after_value h
placed p tok.bad b k h = absurd h.0

lexed : (ls : List Lexeme) (p : Place) → AllGood (punctuate p ls) → GoodLexed ls
unfolding punctuate
lexed [] p h = tt
lexed (token t ∷ ls) p h =
    let one = placed p t (begins_colon ls) (λ next. punctuate next ls) h in (one.0, lexed ls one.1.0 one.1.1)
lexed (comma ∷ ls) fresh h = absurd h.0
lexed (comma ∷ ls) after_value h = lexed ls after_comma h
lexed (comma ∷ ls) after_comma h = absurd h.0
lexed (comma ∷ ls) after_key h = absurd h.0
lexed (colon ∷ ls) fresh h = absurd h.0
lexed (colon ∷ ls) after_value h = absurd h.0
lexed (colon ∷ ls) after_comma h = absurd h.0
lexed (colon ∷ ls) after_key h = lexed ls fresh h

behind : (l : Lexeme) (ls : List Lexeme) → GoodLexed (l ∷ ls) → GoodLexed ls
behind (token t) ls h = h.1
behind comma ls h = h
behind colon ls h = h

-- ---- the lexemes of the plain form

abbrev plain_lexemes : List Lexeme → List Lexeme
plain_lexemes [] = []
plain_lexemes (token t ∷ ls) = map token (plain_token t) ++ plain_lexemes ls
plain_lexemes (comma ∷ ls) = comma ∷ plain_lexemes ls
plain_lexemes (colon ∷ ls) = colon ∷ plain_lexemes ls

no_colon : (b : Bool) (s w : List ℕ) (ls : List Lexeme) →
    begins_colon (map token (cond b (list_tokens s) (tok.number w ∷ [])) ++ ls) ≡ false
no_colon true s w ls = refl
no_colon false s w ls = refl

same_colon : (ls : List Lexeme) → begins_colon (plain_lexemes ls) ≡ begins_colon ls
same_colon [] = refl
same_colon (token tok.begin_object ∷ ls) = refl
same_colon (token tok.end_object ∷ ls) = refl
same_colon (token tok.begin_array ∷ ls) = refl
same_colon (token tok.end_array ∷ ls) = refl
same_colon (token (tok.key s) ∷ ls) = refl
same_colon (token (tok.string s) ∷ ls) = refl
same_colon (token (tok.number s) ∷ ls) = no_colon (bytes_eq (written s) (listed s)) s (written s) (plain_lexemes ls)
same_colon (token (tok.boolean b) ∷ ls) = refl
same_colon (token tok.null ∷ ls) = refl
same_colon (token tok.bad ∷ ls) = refl
same_colon (comma ∷ ls) = refl
same_colon (colon ∷ ls) = refl

-- ---- from the lexemes to the tokens of the plain form

module _ (k m : Place → List tok.Token) (same : (next : Place) → m next ≡ plain_tokens (k next)) where
  allowed_plain : (b : Bool) (t : tok.Token) (next : Place) → plain_token t ≡ t ∷ [] →
      if_allowed b t m next ≡ plain_tokens (if_allowed b t k next)
  allowed_plain true t next e = rw (e, same next) refl
  allowed_plain false t next e = refl

  string_plain : (p : Place) (s : List ℕ) (b : Bool) →
      place_token p (tok.string s) b m ≡ plain_tokens (place_token p (tok.string s) b k)
  string_plain p s true = allowed_plain (may_begin p) (tok.key s) after_key refl
  string_plain p s false = allowed_plain (may_begin p) (tok.string s) after_value refl

-- a list may begin where a number may, and behind both a value has ended
number_plain : (list may : Bool) (s w : List ℕ) (ls : List Lexeme) (k : Place → List tok.Token) →
    punctuate after_value ls ≡ plain_tokens (k after_value) → (p : Place) → may_begin p ≡ may
    → punctuate p (map token (cond list (list_tokens s) (tok.number w ∷ [])) ++ ls)
    ≡ cond may (cond list (list_tokens s) (tok.number w ∷ []) ++ plain_tokens (k after_value)) (tok.bad ∷ [])
unfolding punctuate
number_plain true true s w ls k same p e = rw (e, same) refl
number_plain true false s w ls k same p e = rw e refl
number_plain false true s w ls k same p e = rw (e, same) refl
number_plain false false s w ls k same p e = rw e refl

allowed_number : (may : Bool) (s : List ℕ) (k : Place → List tok.Token) →
    cond may (plain_number s ++ plain_tokens (k after_value)) (tok.bad ∷ [])
    ≡ plain_tokens (if_allowed may (tok.number s) k after_value)
allowed_number true s k = refl
allowed_number false s k = refl

punctuated : (ls : List Lexeme) (p : Place) → punctuate p (plain_lexemes ls) ≡ plain_tokens (punctuate p ls)
unfolding punctuate
punctuated [] fresh = refl
punctuated [] after_value = refl
punctuated [] after_comma = refl
punctuated [] after_key = refl
punctuated (token tok.begin_object ∷ ls) p =
    allowed_plain _ _ (punctuated ls) (may_begin p) tok.begin_object fresh refl
punctuated (token tok.end_object ∷ ls) p =
    allowed_plain _ _ (punctuated ls) (may_close p) tok.end_object after_value refl
punctuated (token tok.begin_array ∷ ls) p =
    allowed_plain _ _ (punctuated ls) (may_begin p) tok.begin_array fresh refl
punctuated (token tok.end_array ∷ ls) p =
    allowed_plain _ _ (punctuated ls) (may_close p) tok.end_array after_value refl
punctuated (token (tok.key s) ∷ ls) p = refl
punctuated (token (tok.string s) ∷ ls) p =
    rw (same_colon ls) (string_plain _ _ (punctuated ls) p s (begins_colon ls))
punctuated (token (tok.number s) ∷ ls) p =
    number_plain (bytes_eq (written s) (listed s)) (may_begin p) s (written s) (plain_lexemes ls)
    (λ next. punctuate next ls) (punctuated ls after_value) p refl
    ∙ allowed_number (may_begin p) s (λ next. punctuate next ls)
punctuated (token (tok.boolean b) ∷ ls) p =
    allowed_plain _ _ (punctuated ls) (may_begin p) (tok.boolean b) after_value refl
punctuated (token tok.null ∷ ls) p = allowed_plain _ _ (punctuated ls) (may_begin p) tok.null after_value refl
punctuated (token tok.bad ∷ ls) p = refl
punctuated (comma ∷ ls) fresh = refl
punctuated (comma ∷ ls) after_value = punctuated ls after_comma
punctuated (comma ∷ ls) after_comma = refl
punctuated (comma ∷ ls) after_key = refl
punctuated (colon ∷ ls) fresh = refl
punctuated (colon ∷ ls) after_value = refl
punctuated (colon ∷ ls) after_comma = refl
punctuated (colon ∷ ls) after_key = punctuated ls fresh

-- ---- where a word ends

word_end_by : (o s : Bool) (y : ℕ) (ys : List ℕ) (k : Mode → List Lexeme) → (o || s) ≡ true →
    lex_byte in_word (cond o operator (cond s space other)) y ys k
    ≡ lex_byte between (cond o operator (cond s space other)) y ys k
word_end_by true s y ys k h = refl
word_end_by false true y ys k h = refl
word_end_by false false y ys k h = absurd (cc)

word_end : (ys : List ℕ) → ends_word ys ≡ true → lex in_word ys ≡ lex between ys
unfolding lex
word_end [] h = refl
word_end (y ∷ ys) h =
    rw (ends_not y 34 h refl, ends_not y 92 h refl)
    (word_end_by (is_operator y) (is_space y) y ys (λ next. lex next ys) h)

-- no run goes on, and none begins, where a word ends
end_stops : (b : Bool) (y : ℕ) → is_run_byte y ≡ b → (is_operator y || is_space y) ≡ true → is_run_byte y ≡ false
end_stops true y e h = let no : true ≡ false = sym h ∙ run_goes_on y e in absurd (cc)
end_stops false y e h = e

word_stops : (ys : List ℕ) → ends_word ys ≡ true → is_run_byte (head ys) ≡ false
word_stops [] h = refl
word_stops (y ∷ ys) h = end_stops (is_run_byte y) y refl h

plain_word_end : (ys : List ℕ) → ends_word ys ≡ true → ends_word (plain_of ys) ≡ true
unfolding plain_from
plain_word_end [] h = refl
plain_word_end (y ∷ ys) h = rw (not_begun y (end_stops (is_run_byte y) y refl h)) h

-- ---- a number and what stands behind it

some_rest : (o : Option (List ℕ)) → option_map_or (λ rest. length rest == 0) o false ≡ true → o ≡ Some []
some_rest None h = absurd (cc)
some_rest (Some []) h = refl
some_rest (Some (x ∷ xs)) h =
    let no : true ≡ false = sym h ∙ ne_eqb (length (x ∷ xs)) 0 (λ none. omega arith) in absurd (cc)

-- the number is the whole run
number_word : (x : ℕ) (r ys : List ℕ) → IsRun (x ∷ r) → is_number (x ∷ r) ≡ true → ends_word ys ≡ true →
    word (x ∷ r ++ ys) ≡ tok.number (x ∷ r)
unfolding word
number_word x r ys run number ends =
    let byte = run_head x r run in
    let split = number_split ys (word_stops ys ends) (x ∷ r) run in
    let whole = some_rest (after_number (x ∷ r)) number in
    let len : length (x ∷ r ++ ys) - length ys ≡ length (x ∷ r) = omega (arith, length-append r ys) in
    rw (
      other_than x 116 byte refl,
      other_than x 102 byte refl,
      other_than x 110 byte refl,
      split.0,
      whole,
      ends,
      len,
      take-append_seam (x ∷ r) ys,
    ) refl

number_lexed : (t ys : List ℕ) → IsRun t → is_number t ≡ true → ends_word ys ≡ true →
    lex between (t ++ ys) ≡ token (tok.number t) ∷ lex between ys
unfolding lex
number_lexed [] ys run number ends = let no : false ≡ true = sym no_digits ∙ number in absurd (cc)
number_lexed (x ∷ r) ys run number ends =
    rw (run_class x (run_head x r run), word_passes r ys (run_rest x r run), word_end ys ends)
    (ap (λ t. token t ∷ lex between ys) (number_word x r ys run number ends))

list_lexed : (r ys : List ℕ) → IsRun r → lex between (listed r ++ ys) ≡ map token (list_tokens r) ++ lex between ys
unfolding lex
list_lexed r ys run =
    let text : (r ++ 34 ∷ 93 ∷ []) ++ ys ≡ r ++ 34 ∷ 93 ∷ ys = append_assoc r (34 ∷ 93 ∷ []) ys in
    let rest : lex lexing.in_string (r ++ 34 ∷ 93 ∷ ys) ≡ token tok.end_array ∷ lex between ys =
    string_passes r (34 ∷ 93 ∷ ys) run in
    rw (text, run_content r (93 ∷ ys) run, rest) refl

-- what is written of a number, with its tokens
written_by : (b : Bool) (r ys : List ℕ) → bytes_eq (written r) (listed r) ≡ b → IsRun r → NumberOrList r →
    ends_word ys ≡ true → lex between (written r ++ ys) ≡ map token (plain_number r) ++ lex between ys
written_by true r ys e run is ends =
    let same : written r ≡ listed r = (bytes_eq-Decides (written r) (listed r)).0 e in
    rw (e, same) (list_lexed r ys run)
written_by false r ys e run (inl same) ends =
    let no : true ≡ false = sym ((bytes_eq-Decides (written r) (listed r)).1 same) ∙ e in absurd (cc)
written_by false r ys e run (inr number) ends = rw e (number_lexed (written r) ys number.0 number.1 ends)

-- ---- a run of the text

abbrev IsNumberBefore : List ℕ → List ℕ → Type 0
IsNumberBefore r ys = (is_number r ≡ true) × (ends_word ys ≡ true)

ended_good : {P : Type 0} (b : Bool) (s : List ℕ) → (b ≡ true → P) → Good (cond b (tok.number s) tok.bad) → P
ended_good true s p g = p refl
ended_good false s p g = absurd g

unended_bad : {P : Type 0} (b : Bool) (s : List ℕ) → b ≡ false → Good (cond b (tok.number s) tok.bad) → P
unended_bad true s e g = absurd (cc)
unended_bad false s e g = absurd g

module _ (ys : List ℕ) (stops : is_run_byte (head ys) ≡ false) where
  rest_good : (r : List ℕ) (o : Option (List ℕ)) → after_number r ≡ o → IfSome o IsRun →
      Good (number_before (r ++ ys) (option_map (λ rest. rest ++ ys) o)) → IsNumberBefore r ys
  rest_good r None e h g = absurd g
  rest_good r (Some []) e h g =
      let number : is_number r ≡ true = rw e refl in ended_good (ends_word ys) _ (λ ends. (number, ends)) g
  rest_good r (Some (l ∷ ls)) e h g = unended_bad (ends_word (l ∷ ls ++ ys)) _ (run_goes_on l (run_head l ls h)) g

  run_good : (x : ℕ) (r : List ℕ) → IsRun (x ∷ r) → Good (word (x ∷ r ++ ys)) → IsNumberBefore (x ∷ r) ys
  unfolding word
  run_good x r h g =
      let byte = run_head x r h in
      let split = number_split ys stops (x ∷ r) h in
      rest_good (x ∷ r) (after_number (x ∷ r)) refl split.1
      (rw (other_than x 116 byte refl, other_than x 102 byte refl, other_than x 110 byte refl, split.0) at g)

stop_by : (b : Bool) (x : ℕ) (xs : List ℕ) → is_run_byte x ≡ b → is_run_byte (head (drop (run_len xs) xs)) ≡ false →
    is_run_byte (head (drop (run_len (x ∷ xs)) (x ∷ xs))) ≡ false
stop_by true x xs e rest = rw (e, one-add) rest
stop_by false x xs e rest = rw e e

run_ends : (xs : List ℕ) → is_run_byte (head (drop (run_len xs) xs)) ≡ false
run_ends [] = refl
run_ends (x ∷ xs) = stop_by (is_run_byte x) x xs refl (run_ends xs)

-- ---- the text, from each mode

-- the plain form of what stands there has the lexemes of the plain form
abbrev PlainLexes : Mode → plain.Place → List ℕ → Type 0
PlainLexes mode place xs = lex mode (plain_from place xs) ≡ plain_lexemes (lex mode xs)

record Facts (n : ℕ) : Type 0 where
  free : (xs : List ℕ) → length xs ≤ n → GoodLexed (lex between xs) → PlainLexes between outside xs
  string : (xs : List ℕ) → length xs ≤ n → GoodLexed (lex lexing.in_string xs) →
      PlainLexes lexing.in_string in_string xs
  escape : (xs : List ℕ) → length xs ≤ n → GoodLexed (lex in_escape xs) → PlainLexes in_escape escaped xs

module _ (n : ℕ) (f : Facts n) where
  good_content : (o p : Option (List ℕ)) (ls : List Lexeme) → IfSome o (λ s. p ≡ Some s) → Good (string_token o) →
      token (string_token p) ∷ plain_lexemes ls ≡ plain_lexemes (token (string_token o) ∷ ls)
  good_content None p ls same g = absurd g
  good_content (Some s) p ls same g = rw same refl

  quote_written : (xs : List ℕ) → length xs ≤ n → GoodLexed (lex between (34 ∷ xs)) →
      PlainLexes between outside (34 ∷ xs)
  unfolding plain_from lex
  quote_written xs le g =
      ap (λ ls. token (string_token (text.content text.plain (plain_from in_string xs))) ∷ ls) (f.string xs le g.1)
      ∙ good_content (text.content text.plain xs) (text.content text.plain (plain_from in_string xs))
      (lex lexing.in_string xs) (same_content text.plain xs) g.0

  backslash_bad : (xs : List ℕ) → GoodLexed (lex between (92 ∷ xs)) → PlainLexes between outside (92 ∷ xs)
  unfolding lex
  backslash_bad xs g = absurd g.0

  -- a run
  run_written : (x : ℕ) (xs : List ℕ) → length xs ≤ n → begins_run x ≡ true →
      GoodLexed (lex between (x ∷ xs)) → Good (word (x ∷ xs)) → PlainLexes between outside (x ∷ xs)
  run_written x xs le begun h g =
      let byte = begun_is_run x begun in
      let r = first_run xs in
      let ys = drop (run_len xs) xs in
      let joined : r ++ ys ≡ xs = take-append-drop (run_len xs) xs in
      let run : IsRun (x ∷ r) = rw byte (first_run_bytes xs) in
      let good = run_good ys (run_ends xs) x r run (subst (λ l. Good (word (x ∷ l))) (sym joined) g) in
      let lexed : lex between (x ∷ xs) ≡ token (tok.number (x ∷ r)) ∷ lex between ys =
      subst (λ l. lex between (x ∷ l) ≡ token (tok.number (x ∷ r)) ∷ lex between ys) joined
      (number_lexed (x ∷ r) ys run good.0 good.1) in
      let within : length ys ≤ n = omega (arith, length-drop (run_len xs) xs, le) in
      let rest : GoodLexed (token (tok.number (x ∷ r)) ∷ lex between ys) = subst GoodLexed lexed h in
      let back : PlainLexes between outside ys = f.free ys within rest.1 in
      let front : first_run (x ∷ xs) ≡ x ∷ r = rw (byte, one-add) refl in
      let plain : plain_of (x ∷ xs) ≡ written (x ∷ r) ++ plain_of ys =
      begun_here x xs begun ∙ ap (λ l. written l ++ plain_from in_run xs) front
      ∙ ap (λ l. written (x ∷ r) ++ l) (run_passed xs) in
      ap (lex between) plain
      ∙ written_by (bytes_eq (written (x ∷ r)) (listed (x ∷ r))) (x ∷ r) (plain_of ys) refl run
      (number_or_list (x ∷ r) run good.0) (plain_word_end ys good.1)
      ∙ ap (λ ls. map token (plain_number (x ∷ r)) ++ ls) back ∙ ap plain_lexemes (sym lexed)

  -- one of the three names
  name_written : (name t : List ℕ) (k : tok.Token) → length t ≤ suc n → 0 < length name →
      plain_token k ≡ k ∷ [] → ((ys : List ℕ) → plain_of (name ++ ys) ≡ name ++ plain_of ys)
      → ((ys : List ℕ) → ends_word ys ≡ true → lex between (name ++ ys) ≡ token k ∷ lex between ys)
      → GoodLexed (lex between t) → (starts_with nat_eq t name && ends_word (drop (length name) t)) ≡ true
      → PlainLexes between outside t
  name_written name t k le some same stay passes g h =
      let ys = drop (length name) t in
      let front : name ≡ take (length name) t =
      (bytes_eq-Decides name (take (length name) t)).0 ((and_parts (starts_with nat_eq t name) _ h).0) in
      let ends = (and_parts (starts_with nat_eq t name) _ h).1 in
      let joined : name ++ ys ≡ t = ap (λ l. l ++ ys) front ∙ take-append-drop (length name) t in
      let lexed : lex between t ≡ token k ∷ lex between ys = ap (lex between) (sym joined) ∙ passes ys ends in
      let rest : GoodLexed (token k ∷ lex between ys) = subst GoodLexed lexed g in
      let within : length ys ≤ n = omega (arith, length-drop (length name) t, le, some) in
      let back : PlainLexes between outside ys = f.free ys within rest.1 in
      ap (λ l. lex between (plain_of l)) (sym joined) ∙ ap (lex between) (stay ys)
      ∙ passes (plain_of ys) (plain_word_end ys ends) ∙ ap (λ ls. token k ∷ ls) back
      ∙ ap (λ ts. map token ts ++ plain_lexemes (lex between ys)) (sym same) ∙ ap plain_lexemes (sym lexed)

  either : {P : Type 0} (b : Bool) (s t : tok.Token) → (Good s → P) → (Good t → P) → Good (cond b s t) → P
  either true s t p q g = p g
  either false s t p q g = q g

  good_test : {P : Type 0} (b : Bool) (k : tok.Token) → (b ≡ true → P) → Good (cond b k tok.bad) → P
  good_test true k p g = p refl
  good_test false k p g = absurd g

  true_passes : (ys : List ℕ) → ends_word ys ≡ true →
      lex between (true_text ++ ys) ≡ token (tok.boolean true) ∷ lex between ys
  unfolding word lex
  true_passes ys ends = rw (ends, word_end ys ends) refl

  false_passes : (ys : List ℕ) → ends_word ys ≡ true →
      lex between (false_text ++ ys) ≡ token (tok.boolean false) ∷ lex between ys
  unfolding word lex
  false_passes ys ends = rw (ends, word_end ys ends) refl

  null_passes : (ys : List ℕ) → ends_word ys ≡ true →
      lex between (null_text ++ ys) ≡ token tok.null ∷ lex between ys
  unfolding word lex
  null_passes ys ends = rw (ends, word_end ys ends) refl

  word_written : (x : ℕ) (xs : List ℕ) → length xs ≤ n → begins_run x ≡ false →
      GoodLexed (lex between (x ∷ xs)) → Good (word (x ∷ xs)) → PlainLexes between outside (x ∷ xs)
  unfolding word plain_from
  word_written x xs le none h g =
      let t = x ∷ xs in
      let within : length t ≤ suc n = omega (arith, le) in
      let number : Good (number_before t (after_number t)) → PlainLexes between outside t =
      rw (no_number x xs none) (λ g. absurd g) in
      either (x == 116) _ _ (good_test _ (tok.boolean true) (name_written true_text t (tok.boolean true) within
      (omega arith) refl (λ ys. refl) true_passes h)) (either (x == 102) _ _ (good_test _ (tok.boolean false)
      (name_written false_text t (tok.boolean false) within (omega arith) refl (λ ys. refl) false_passes h))
      (either (x == 110) _ _ (good_test _ tok.null (name_written null_text t tok.null within (omega arith) refl
      (λ ys. refl) null_passes h)) number)) g

  either_stays : (b : Bool) (l m : Lexeme) (ls : List Lexeme) → plain_lexemes (l ∷ ls) ≡ l ∷ plain_lexemes ls →
      plain_lexemes (m ∷ ls) ≡ m ∷ plain_lexemes ls → plain_lexemes (cond b l m ∷ ls) ≡ cond b l m ∷ plain_lexemes ls
  either_stays true l m ls p q = p
  either_stays false l m ls p q = q

  operator_stays : (x : ℕ) (ls : List Lexeme) →
      plain_lexemes (lexing.operator_lexeme x ∷ ls) ≡ lexing.operator_lexeme x ∷ plain_lexemes ls
  operator_stays x ls =
      either_stays (x == 123) (token tok.begin_object) _ ls refl
      (either_stays (x == 125) (token tok.end_object) _ ls refl
      (either_stays (x == 91) (token tok.begin_array) _ ls refl
      (either_stays (x == 93) (token tok.end_array) _ ls refl (either_stays (x == 44) comma colon ls refl refl))))

  -- a byte that begins no run, no string and no escape
  between_written : (o s : Bool) (x : ℕ) (xs : List ℕ) → (x == 34) ≡ false → (x == 92) ≡ false → is_operator x ≡ o →
      is_space x ≡ s → begins_run x ≡ false → length xs ≤ n → GoodLexed (lex between (x ∷ xs))
      → PlainLexes between outside (x ∷ xs)
  unfolding lex plain_from
  between_written true s x xs q b eo es none le g =
      let kind : class x ≡ operator = rw (q, b, eo) refl in
      rw (none, q, b, eo) (ap (λ ls. lexing.operator_lexeme x ∷ ls)
      (f.free xs le (behind (lexing.operator_lexeme x) (lex between xs) (rw kind at g)))
      ∙ sym (operator_stays x (lex between xs)))
  between_written false true x xs q b eo es none le g =
      let kind : class x ≡ space = rw (q, b, eo, es) refl in
      rw (none, q, b, eo, es) (f.free xs le (rw kind at g))
  between_written false false x xs q b eo es none le g =
      let kind : class x ≡ other = rw (q, b, eo, es) refl in
      let word_first : Good (word (x ∷ xs)) × GoodLexed (lex in_word xs) = rw kind at g in
      word_written x xs le none g word_first.0

  free_by : (r q b : Bool) (x : ℕ) (xs : List ℕ) → begins_run x ≡ r → (x == 34) ≡ q → (x == 92) ≡ b →
      length xs ≤ n → GoodLexed (lex between (x ∷ xs)) → PlainLexes between outside (x ∷ xs)
  unfolding lex
  free_by true q b x xs er eq eb le g =
      let word_first : Good (word (x ∷ xs)) × GoodLexed (lex in_word xs) =
      rw (run_class x (begun_is_run x er)) at g in
      run_written x xs le er g word_first.0
  free_by false true b x xs er eq eb le g =
      subst (λ y. GoodLexed (lex between (y ∷ xs)) → PlainLexes between outside (y ∷ xs))
      (sym (eqb-true x 34 eq)) (quote_written xs le) g
  free_by false false true x xs er eq eb le g =
      subst (λ y. GoodLexed (lex between (y ∷ xs)) → PlainLexes between outside (y ∷ xs))
      (sym (eqb-true x 92 eb)) (backslash_bad xs) g
  free_by false false false x xs er eq eb le g =
      between_written (is_operator x) (is_space x) x xs eq eb refl refl er le g

  free_step : (xs : List ℕ) → length xs ≤ suc n → GoodLexed (lex between xs) → PlainLexes between outside xs
  unfolding lex
  free_step [] le g = rw plain_end refl
  free_step (x ∷ xs) le g = free_by (begins_run x) (x == 34) (x == 92) x xs refl refl refl (omega (arith, le)) g

  -- ---- in a string

  inside : (o s : Bool) (x : ℕ) (xs : List ℕ) (k : Mode → List Lexeme) →
      lex_byte lexing.in_string (cond o operator (cond s space other)) x xs k ≡ k lexing.in_string
  inside true s x xs k = refl
  inside false true x xs k = refl
  inside false false x xs k = refl

  -- a byte that is no quote and no backslash is passed over
  passes_inside : (x : ℕ) (xs : List ℕ) → (x == 34) ≡ false → (x == 92) ≡ false →
      lex lexing.in_string (x ∷ xs) ≡ lex lexing.in_string xs
  unfolding lex
  passes_inside x xs eq eb = rw (eq, eb) (inside (is_operator x) (is_space x) x xs (λ next. lex next xs))

  string_by : (q b : Bool) (x : ℕ) (xs : List ℕ) → (x == 34) ≡ q → (x == 92) ≡ b → length xs ≤ n →
      GoodLexed (lex lexing.in_string (x ∷ xs)) → PlainLexes lexing.in_string in_string (x ∷ xs)
  unfolding plain_from lex
  string_by true b x xs eq eb le g =
      let same : x ≡ 34 = eqb-true x 34 eq in
      subst (λ y. GoodLexed (lex lexing.in_string (y ∷ xs)) → PlainLexes lexing.in_string in_string (y ∷ xs))
      (sym same) (f.free xs le) g
  string_by false true x xs eq eb le g =
      let same : x ≡ 92 = eqb-true x 92 eb in
      subst (λ y. GoodLexed (lex lexing.in_string (y ∷ xs)) → PlainLexes lexing.in_string in_string (y ∷ xs))
      (sym same) (f.escape xs le) g
  string_by false false x xs eq eb le g =
      let plain : plain_from in_string (x ∷ xs) ≡ x ∷ plain_from in_string xs = rw (eq, eb) refl in
      ap (lex lexing.in_string) plain ∙ passes_inside x (plain_from in_string xs) eq eb
      ∙ f.string xs le (subst GoodLexed (passes_inside x xs eq eb) g)
      ∙ ap plain_lexemes (sym (passes_inside x xs eq eb))

  string_step : (xs : List ℕ) → length xs ≤ suc n → GoodLexed (lex lexing.in_string xs) →
      PlainLexes lexing.in_string in_string xs
  unfolding lex
  string_step [] le g = rw plain_end refl
  string_step (x ∷ xs) le g = string_by (x == 34) (x == 92) x xs refl refl (omega (arith, le)) g

  escape_step : (xs : List ℕ) → length xs ≤ suc n → GoodLexed (lex in_escape xs) → PlainLexes in_escape escaped xs
  unfolding plain_from lex
  escape_step [] le g = refl
  escape_step (x ∷ xs) le g = f.string xs (omega (arith, le)) g

none_left : (mode : Mode) (place : plain.Place) (xs : List ℕ) → length xs ≤ 0 → PlainLexes mode place xs
unfolding plain_from lex
none_left mode place [] le = refl
none_left mode place (x ∷ xs) le = absurd (omega arith)

facts : (n : ℕ) → Facts n
facts zero = record {
  free = λ xs le g. none_left between outside xs le;
  string = λ xs le g. none_left lexing.in_string in_string xs le;
  escape = λ xs le g. none_left in_escape escaped xs le;
}
facts (suc n) = let f = facts n in record {
  free = free_step n f;
  string = string_step n f;
  escape = escape_step n f;
}

tokens_written : (text : List ℕ) → AllGood (tokens text) → tokens (plain_of text) ≡ plain_tokens (tokens text)
tokens_written text good =
    ap (punctuate fresh) ((facts (length text)).free text (omega arith) (lexed (lex between text) fresh good))
    ∙ punctuated (lex between text) fresh

pub plain_read : (text : List ℕ) (j : json.Json) →
    json.value max_depth (plain_tokens (tokens text)) ≡ Some (j, []) → json_in (plain_of text) ≡ Some j
plain_read text j found =
    let good : AllGood (plain_tokens (tokens text)) =
    (rw found at (value_read max_depth (plain_tokens (tokens text)))) tt in
    rw (tokens_written text (text_good (tokens text) good), found) refl
