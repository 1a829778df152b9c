-- A text whose number tokens are exact has a tree whose numbers are.
use Rattle.std.proofs.Common.{◌≡◌, ℕ, zero, suc, List, [], ◌∷◌, length, Bool, true, false, Option, Some, None}
use Rattle.std.proofs.Common.{option_map, option_and_then, refl, ◌&&◌, not}
use Rattle.std.specs.Prelude.{⊤, IfSome, IsTrue}
use Rattle.json.specs.Token as tok
use Rattle.json.specs.Lex.{Lexeme, token, comma, colon, Place, fresh, after_value, after_comma, after_key, begins_colon}
use Rattle.json.specs.Lex.{may_begin, may_close, if_allowed, place_token, punctuate, tokens, lex, between}
use Rattle.json.specs.Json as json
use Rattle.serde_json.specs.Read.{number_of, max_depth}
use Rattle.std.specs.Option.{option_map_or}
use Rattle.std.proofs.lemmas.Bool.{and_from}
use Rattle.serde_json.specs.Find.{is_float}
use Rattle.json_whole.specs.Whole.{json_in}

-- ---- whole numbers

-- the text is that of a whole number that 64 bits hold
abbrev pub is_whole_number : List ℕ → Bool
is_whole_number s = option_map_or (λ n. not (is_float n)) (number_of s) false

-- each number is one
abbrev mutual
  pub has_whole_numbers : json.Json → Bool
  has_whole_numbers json.null = true
  has_whole_numbers (json.boolean b) = true
  has_whole_numbers (json.number s) = is_whole_number s
  has_whole_numbers (json.string s) = true
  has_whole_numbers (json.array js) = items_have_whole_numbers js
  has_whole_numbers (json.object ms) = members_have_whole_numbers ms

  pub items_have_whole_numbers : json.Items → Bool
  items_have_whole_numbers json.no_items = true
  items_have_whole_numbers (json.item j js) = has_whole_numbers j && items_have_whole_numbers js

  pub members_have_whole_numbers : json.Members → Bool
  members_have_whole_numbers json.no_members = true
  members_have_whole_numbers (json.member k j ms) = has_whole_numbers j && members_have_whole_numbers ms

abbrev pub IsExact : List ℕ → Type 0
IsExact s = is_whole_number s ≡ true

abbrev pub Exact : tok.Token → Type 0
Exact tok.begin_object = ⊤
Exact tok.end_object = ⊤
Exact tok.begin_array = ⊤
Exact tok.end_array = ⊤
Exact (tok.key s) = ⊤
Exact (tok.string s) = ⊤
Exact (tok.number s) = IsExact s
Exact (tok.boolean b) = ⊤
Exact tok.null = ⊤
Exact tok.bad = ⊤

abbrev AllExact : List tok.Token → Type 0
AllExact [] = ⊤
AllExact (t ∷ ts) = Exact t × AllExact ts

-- the fact holds of what stands behind the token; behind a bad one nothing is read
abbrev pub Behind : tok.Token → Type 0 → Type 0
Behind tok.begin_object P = P
Behind tok.end_object P = P
Behind tok.begin_array P = P
Behind tok.end_array P = P
Behind (tok.key s) P = P
Behind (tok.string s) P = P
Behind (tok.number s) P = P
Behind (tok.boolean b) P = P
Behind tok.null P = P
Behind tok.bad P = ⊤

abbrev pub Lexed : List Lexeme → Type 0
Lexed [] = ⊤
Lexed (token t ∷ ls) = Exact t × Behind t (Lexed ls)
Lexed (comma ∷ ls) = Lexed ls
Lexed (colon ∷ ls) = Lexed ls

-- ---- from lexemes to tokens

allowed : (b : Bool) (t : tok.Token) (k : Place → List tok.Token) (next : Place) →
    Exact t → AllExact (k next) → AllExact (if_allowed b t k next)
allowed true t k next e h = (e, h)
allowed false t k next e h = (tt, tt)

placed : (p : Place) (t : tok.Token) (b : Bool) (k : Place → List tok.Token) (P : Type 0) →
    Exact t → Behind t P → (P → (next : Place) → AllExact (k next)) → AllExact (place_token p t b k)
placed p tok.begin_object b k P e h g = allowed (may_begin p) tok.begin_object k fresh tt (g h fresh)
placed p tok.end_object b k P e h g = allowed (may_close p) tok.end_object k after_value tt (g h after_value)
placed p tok.begin_array b k P e h g = allowed (may_begin p) tok.begin_array k fresh tt (g h fresh)
placed p tok.end_array b k P e h g = allowed (may_close p) tok.end_array k after_value tt (g h after_value)
placed p (tok.key s) b k P e h g = (tt, tt)
placed p (tok.string s) true k P e h g = allowed (may_begin p) (tok.key s) k after_key tt (g h after_key)
placed p (tok.string s) false k P e h g = allowed (may_begin p) (tok.string s) k after_value tt (g h after_value)
placed p (tok.number s) b k P e h g = allowed (may_begin p) (tok.number s) k after_value e (g h after_value)
placed p (tok.boolean v) b k P e h g = allowed (may_begin p) (tok.boolean v) k after_value tt (g h after_value)
placed p tok.null b k P e h g = allowed (may_begin p) tok.null k after_value tt (g h after_value)
placed p tok.bad b k P e h g = (tt, tt)

punctuated : (ls : List Lexeme) → Lexed ls → (p : Place) → AllExact (punctuate p ls)
unfolding punctuate
punctuated [] h fresh = tt
punctuated [] h after_value = tt
punctuated [] h after_comma = (tt, tt)
punctuated [] h after_key = (tt, tt)
punctuated (token t ∷ ls) h p =
    placed p t (begins_colon ls) (λ next. punctuate next ls) (Lexed ls) h.0 h.1 (λ behind. punctuated ls behind)
punctuated (comma ∷ ls) h fresh = (tt, tt)
punctuated (comma ∷ ls) h after_value = punctuated ls h after_comma
punctuated (comma ∷ ls) h after_comma = (tt, tt)
punctuated (comma ∷ ls) h after_key = (tt, tt)
punctuated (colon ∷ ls) h fresh = (tt, tt)
punctuated (colon ∷ ls) h after_value = (tt, tt)
punctuated (colon ∷ ls) h after_comma = (tt, tt)
punctuated (colon ∷ ls) h after_key = punctuated ls h fresh

-- ---- what a JSON value gives

pub kept : {A B : Type 0} (P : A → Type 0) (Q : B → Type 0) (f : A → Option B) (o : Option A) →
    IfSome o P → ((a : A) → P a → IfSome (f a) Q) → IfSome (option_and_then f o) Q
kept P Q f None h g = tt
kept P Q f (Some a) h g = g a h

pub mapped : {A B : Type 0} (P : A → Type 0) (Q : B → Type 0) (f : A → B) (o : Option A) →
    IfSome o P → ((a : A) → P a → Q (f a)) → IfSome (option_map f o) Q
mapped P Q f None h g = tt
mapped P Q f (Some a) h g = g a h

abbrev IsWhole : json.Json → Type 0
IsWhole j = IsTrue (has_whole_numbers j)

abbrev AreWhole : json.Items → Type 0
AreWhole js = IsTrue (items_have_whole_numbers js)

abbrev AreWholeMembers : json.Members → Type 0
AreWholeMembers ms = IsTrue (members_have_whole_numbers ms)

-- ---- from tokens to a JSON value

-- what was read keeps to P, and what is left is exact
abbrev Read : {A : Type 0} → (A → Type 0) → (A × List tok.Token) → Type 0
Read P q = P q.0 × AllExact q.1

abbrev Reads : {A : Type 0} → (A → Type 0) → json.Parse A → Type 0
Reads P parse = (ts : List tok.Token) → AllExact ts → IfSome (parse ts) (Read P)

after_array : (ts : List tok.Token) → AllExact ts → IfSome (json.after_end_array ts) AllExact
after_array [] h = tt
after_array (tok.begin_object ∷ ts) h = tt
after_array (tok.end_object ∷ ts) h = tt
after_array (tok.begin_array ∷ ts) h = tt
after_array (tok.end_array ∷ ts) h = h.1
after_array (tok.key s ∷ ts) h = tt
after_array (tok.string s ∷ ts) h = tt
after_array (tok.number s ∷ ts) h = tt
after_array (tok.boolean b ∷ ts) h = tt
after_array (tok.null ∷ ts) h = tt
after_array (tok.bad ∷ ts) h = tt

key_read : (ts : List tok.Token) → AllExact ts → IfSome (json.read_key ts) (λ q. AllExact q.1)
key_read [] h = tt
key_read (tok.begin_object ∷ ts) h = tt
key_read (tok.end_object ∷ ts) h = h.1
key_read (tok.begin_array ∷ ts) h = tt
key_read (tok.end_array ∷ ts) h = tt
key_read (tok.key s ∷ ts) h = h.1
key_read (tok.string s ∷ ts) h = tt
key_read (tok.number s ∷ ts) h = tt
key_read (tok.boolean b ∷ ts) h = tt
key_read (tok.null ∷ ts) h = tt
key_read (tok.bad ∷ ts) h = tt

module _ (parse : json.Parse json.Json) (reads : Reads IsWhole parse) where
  items_turn : (more : json.Parse json.Items) → Reads AreWhole more → (ts : List tok.Token) → AllExact ts →
      (o : Option (List tok.Token)) → IfSome o AllExact → IfSome (json.items_step parse more ts o) (Read AreWhole)
  items_turn more again ts h (Some rest) e = (refl, e)
  items_turn more again ts h None e =
      kept (Read IsWhole) (Read AreWhole) _ (parse ts) (reads ts h) (λ q r. mapped
      (Read AreWhole) (Read AreWhole) _ (more q.1) (again q.1 r.1) (λ p s. (and_from _ _ r.0 s.0, s.1)))

  items_read : (n : ℕ) → Reads AreWhole (json.items parse n)
  unfolding json.items
  items_read zero ts h = tt
  items_read (suc n) ts h =
      items_turn (json.items parse n) (items_read n) ts h (json.after_end_array ts) (after_array ts h)

  members_turn : (more : json.Parse json.Members) → Reads AreWholeMembers more → (k : Option (List ℕ))
      (ts : List tok.Token) → AllExact ts → IfSome (json.members_step parse more k ts) (Read AreWholeMembers)
  members_turn more again None ts h = (refl, h)
  members_turn more again (Some k) ts h =
      kept (Read IsWhole) (Read AreWholeMembers) _ (parse ts) (reads ts h) (λ q r. mapped (Read AreWholeMembers)
      (Read AreWholeMembers) _ (more q.1) (again q.1 r.1) (λ p s. (and_from _ _ r.0 s.0, s.1)))

  members_read : (n : ℕ) → Reads AreWholeMembers (json.members parse n)
  unfolding json.members
  members_read zero ts h = tt
  members_read (suc n) ts h =
      kept (λ q. AllExact q.1) (Read AreWholeMembers) _
      (json.read_key ts) (key_read ts h) (λ q r. members_turn (json.members parse n) (members_read n) q.0 q.1 r)

one_read : (a : json.Parse json.Items) (o : json.Parse json.Members) →
    Reads AreWhole a → Reads AreWholeMembers o → Reads IsWhole (json.value_with a o)
one_read a o p q [] h = tt
one_read a o p q (tok.begin_object ∷ ts) h =
    mapped (Read AreWholeMembers) (Read IsWhole) _ (o ts) (q ts h.1) (λ r s. (s.0, s.1))
one_read a o p q (tok.end_object ∷ ts) h = tt
one_read a o p q (tok.begin_array ∷ ts) h =
    mapped (Read AreWhole) (Read IsWhole) _ (a ts) (p ts h.1) (λ r s. (s.0, s.1))
one_read a o p q (tok.end_array ∷ ts) h = tt
one_read a o p q (tok.key s ∷ ts) h = tt
one_read a o p q (tok.string s ∷ ts) h = (refl, h.1)
one_read a o p q (tok.number s ∷ ts) h = (h.0, h.1)
one_read a o p q (tok.boolean b ∷ ts) h = (refl, h.1)
one_read a o p q (tok.null ∷ ts) h = (refl, h.1)
one_read a o p q (tok.bad ∷ ts) h = tt

value_read : (depth : ℕ) → Reads IsWhole (json.value depth)
unfolding json.value
value_read zero = one_read (λ ts. None) (λ ts. None) (λ ts h. tt) (λ ts h. tt)
value_read (suc depth) =
    one_read (λ ts. json.items (json.value depth) (length ts) ts) (λ ts. json.members (json.value depth) (length ts) ts)
    (λ ts. items_read (json.value depth) (value_read depth) (length ts) ts)
    (λ ts. members_read (json.value depth) (value_read depth) (length ts) ts)

alone : (j : json.Json) (ts : List tok.Token) → IsWhole j → IfSome (json.if_last j ts) IsWhole
alone j [] h = h
alone j (t ∷ ts) h = tt

-- each number of the text is whole, where it is a JSON text
abbrev pub IsWholeText : List ℕ → Type 0
IsWholeText text = IfSome (json_in text) (λ j. IsTrue (has_whole_numbers j))

pub whole_text : (text : List ℕ) → Lexed (lex between text) → IsWholeText text
whole_text text h =
    let read_all = json.value max_depth (tokens text) in
    kept (Read IsWhole) IsWhole (λ q. json.if_last q.0 q.1) read_all
    (value_read max_depth (tokens text) (punctuated _ h fresh)) (λ q r. alone q.0 q.1 r.0)
