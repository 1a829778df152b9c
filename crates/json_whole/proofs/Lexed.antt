-- The lexemes of a plain form: each number among them is exact, up to the first bad one.
use Rattle.std.proofs.Common.{◌≡◌, ℕ, List, [], ◌∷◌, ◌++◌, length, take, drop, Bool, true, false, cond, ◌||◌, ◌&&◌}
use Rattle.std.proofs.Common.{◌==◌, Option, Some, None, inl, inr, refl, sym, ap, ◌∙◌, arith, append_assoc, nat_eq}
use Rattle.std.proofs.Common.{ne_eqb}
use Rattle.std.proofs.lemmas.Bool.{eqb-true, and_parts}
use Rattle.std.proofs.lemmas.List.{take-append-drop}
use Rattle.std.proofs.lemmas.Slice.Eq.{bytes_eq-Decides}
use Rattle.std.specs.List.{starts_with}
use Rattle.std.specs.Char.{is_ascii_digit}
use Rattle.json.specs.Token as tok
use Rattle.json.specs.Text as text
use Rattle.json.specs.Ascii.{true_text, false_text, null_text}
use Rattle.json.specs.Word.{head, ends_word, is_operator, is_space, word, after_number, number_before}
use Rattle.json.specs.Lex.{Lexeme, token, comma, colon, Class, quote, backslash, operator, space, other, class}
use Rattle.json.specs.Lex.{operator_lexeme, string_token, Mode, between, in_word, in_escape, lex_byte, lex}
use Rattle.json.specs.Lex as lexing
use Rattle.json_whole.specs.Run.{begins_run, is_run_byte, first_run, is_number, listed}
use Rattle.json_whole.specs.Plain.{outside, in_run, in_string, escaped, plain_from, plain_of}
use Rattle.json_whole.proofs.Tokens.{IsExact, Exact, Behind, Lexed}
use Rattle.json_whole.proofs.Words.{IsRun, run_rest, run_head, run_class, run_token}
use Rattle.json_whole.proofs.Numerals.{first_run_bytes}
use Rattle.json_whole.proofs.Steps.{plain_end, not_begun, begun_not_quote}
use Rattle.json_whole.proofs.Exact.{Written, written_is}

-- no quote and no backslash stands in the rest of a word
abbrev goes_on : Class → Bool → Bool
goes_on quote rest = false
goes_on backslash rest = false
goes_on operator rest = true
goes_on space rest = true
goes_on other rest = rest

abbrev is_clear : List ℕ → Bool
is_clear [] = true
is_clear (x ∷ xs) = goes_on (class x) (is_clear xs)

-- ---- lexemes that are no number

string_lexed : (o : Option (List ℕ)) (P : Type 0) → P → Exact (string_token o) × Behind (string_token o) P
string_lexed None P p = (tt, tt)
string_lexed (Some s) P p = (tt, p)

one_lexed : (b : Bool) (x y : Lexeme) (ls : List Lexeme) → Lexed (x ∷ ls) → Lexed (y ∷ ls) → Lexed (cond b x y ∷ ls)
one_lexed true x y ls p q = p
one_lexed false x y ls p q = q

operator_lexed : (x : ℕ) (ls : List Lexeme) → Lexed ls → Lexed (operator_lexeme x ∷ ls)
operator_lexed x ls h =
    one_lexed (x == 123) (token tok.begin_object) _ ls (tt, h) (one_lexed
    (x == 125) (token tok.end_object) _ ls (tt, h) (one_lexed (x == 91) (token tok.begin_array) _ ls (tt, h)
    (one_lexed (x == 93) (token tok.end_array) _ ls (tt, h) (one_lexed (x == 44) comma colon ls h h))))

-- ---- run bytes

pub word_passes : (r ys : List ℕ) → IsRun r → lex in_word (r ++ ys) ≡ lex in_word ys
unfolding lex
word_passes [] ys h = refl
word_passes (x ∷ r) ys h = rw (run_class x (run_head x r h)) (word_passes r ys (run_rest x r h))

pub string_passes : (r ys : List ℕ) → IsRun r → lex lexing.in_string (r ++ ys) ≡ lex lexing.in_string ys
unfolding lex
string_passes [] ys h = refl
string_passes (x ∷ r) ys h = rw (run_class x (run_head x r h)) (string_passes r ys (run_rest x r h))

clear_passes : (r ys : List ℕ) → IsRun r → is_clear (r ++ ys) ≡ is_clear ys
clear_passes [] ys h = refl
clear_passes (x ∷ r) ys h = rw (run_class x (run_head x r h)) (clear_passes r ys (run_rest x r h))

-- a byte that ends a word is none that doesn't
pub ends_not : (y c : ℕ) → (is_operator y || is_space y) ≡ true → (is_operator c || is_space c) ≡ false →
    (y == c) ≡ false
ends_not y c ends not_ends =
    ne_eqb y c (λ same. let no : true ≡ false = sym ends ∙ ap (λ x. is_operator x || is_space x) same ∙ not_ends in cc)

stops_clear : (o s rest : Bool) → (o || s) ≡ true → goes_on (cond o operator (cond s space other)) rest ≡ true
stops_clear true s rest h = refl
stops_clear false true rest h = refl
stops_clear false false rest h = absurd (cc)

-- a word that ends here is clear
clear_end : (ys : List ℕ) → ends_word ys ≡ true → is_clear ys ≡ true
clear_end [] h = refl
clear_end (y ∷ ys) h =
    rw (ends_not y 34 h refl, ends_not y 92 h refl) (stops_clear (is_operator y) (is_space y) (is_clear ys) h)

-- what stands behind a run, lexed between words and in a word
record Goes (ys : List ℕ) : Type 0 where
  free : Lexed (lex between ys)
  word : is_clear ys ≡ true → Lexed (lex in_word ys)

-- ---- a run and what stands behind it

listed_goes : (r ys : List ℕ) → IsRun r → Goes ys → Goes (listed r ++ ys)
unfolding lex
listed_goes r ys h g =
    let closed : Lexed (lex lexing.in_string ((r ++ 34 ∷ 93 ∷ []) ++ ys)) =
    rw (append_assoc r (34 ∷ 93 ∷ []) ys, string_passes r (34 ∷ 93 ∷ ys) h) (tt, g.free) in
    let all : Lexed (lex between (listed r ++ ys)) =
    (tt, string_lexed (text.content text.plain ((r ++ 34 ∷ 93 ∷ []) ++ ys)) _ closed) in
    record { free = all; word = λ clear. all }

run_goes : (r ys : List ℕ) →
    IsRun r → (is_number r ≡ true → IsExact r) → is_run_byte (head ys) ≡ false → Goes ys → Goes (r ++ ys)
unfolding lex
run_goes [] ys h exact stops g = g
run_goes (x ∷ r) ys h exact stops g = record {
  free = rw (run_class x (run_head x r h), word_passes r ys (run_rest x r h))
      (run_token ys stops x r h exact (Lexed (lex in_word ys)) (λ ended. g.word (clear_end ys ended)));
  word = λ clear. rw (word_passes (x ∷ r) ys h) (g.word (sym (clear_passes (x ∷ r) ys h) ∙ clear));
}

written_goes : (r t ys : List ℕ) → IsRun r → Written r t → is_run_byte (head ys) ≡ false → Goes ys → Goes (t ++ ys)
written_goes r t ys h (inl e) stops g = rw e (listed_goes r ys h g)
written_goes r t ys h (inr p) stops g = run_goes t ys p.0 p.1 stops g

-- ---- the plain form, from each place

record Facts (xs : List ℕ) : Type 0 where
  open_text : Goes (plain_from outside xs)
  run : Goes (plain_from in_run xs)
  string : Lexed (lex lexing.in_string (plain_from in_string xs))
  escape : Lexed (lex in_escape (plain_from escaped xs))

stops_by : (b : Bool) (x : ℕ) (xs : List ℕ) → is_run_byte x ≡ b →
    is_run_byte (head (plain_from in_run xs)) ≡ false → is_run_byte (head (plain_from in_run (x ∷ xs))) ≡ false
unfolding plain_from
stops_by true x xs e rest = rw e rest
stops_by false x xs e rest = rw e e

-- no byte of a run stands behind it
run_stops : (xs : List ℕ) → is_run_byte (head (plain_from in_run xs)) ≡ false
run_stops [] = rw plain_end refl
run_stops (x ∷ xs) = stops_by (is_run_byte x) x xs refl (run_stops xs)

either_word : (b : Bool) (s t : tok.Token) (P : Type 0) →
    Exact s × Behind s P → Exact t × Behind t P → Exact (cond b s t) × Behind (cond b s t) P
either_word true s t P p q = p
either_word false s t P p q = q

literal_word : (b : Bool) (k : tok.Token) (P : Type 0) →
    Exact k → (P → Behind k P) → (b ≡ true → P) → Exact (cond b k tok.bad) × Behind (cond b k tok.bad) P
literal_word true k P e g p = (e, g (p refl))
literal_word false k P e g p = (tt, tt)

literal_clear : (name t : List ℕ) → ((rest : List ℕ) → is_clear (name ++ rest) ≡ is_clear rest) →
    (starts_with nat_eq t name && ends_word (drop (length name) t)) ≡ true → is_clear t ≡ true
literal_clear name t passes h =
    let front : name ≡ take (length name) t =
    (bytes_eq-Decides name (take (length name) t)).0 ((and_parts (starts_with nat_eq t name) _ h).0) in
    let behind = clear_end (drop (length name) t) ((and_parts (starts_with nat_eq t name) _ h).1) in
    let joined : name ++ drop (length name) t ≡ t =
    ap (λ l. l ++ drop (length name) t) front ∙ take-append-drop (length name) t in
    ap is_clear (sym joined) ∙ passes (drop (length name) t) ∙ behind

not_minus : (x : ℕ) → begins_run x ≡ false → (x == 45) ≡ false
not_minus x e = grind arith

not_zero : (x : ℕ) → begins_run x ≡ false → (x == 48) ≡ false
not_zero x e = grind arith

not_digit : (x : ℕ) → begins_run x ≡ false → is_ascii_digit x ≡ false
not_digit x e = grind arith

pub no_number : (x : ℕ) (ys : List ℕ) → begins_run x ≡ false → after_number (x ∷ ys) ≡ None
unfolding after_number
no_number x ys e = rw (not_minus x e, not_zero x e, not_digit x e) refl

-- a word that begins no run is no number
other_word : (x : ℕ) (ys : List ℕ) (P : Type 0) →
    begins_run x ≡ false → class x ≡ other → (is_clear ys ≡ true → P) → Exact (word (x ∷ ys)) × Behind (word (x ∷ ys)) P
unfolding word
other_word x ys P none kind clear =
    let whole : is_clear (x ∷ ys) ≡ true → P = λ h. clear (sym (ap (λ c. goes_on c (is_clear ys)) kind) ∙ h) in
    let number : Exact (number_before (x ∷ ys) (after_number (x ∷ ys)))
    × Behind (number_before (x ∷ ys) (after_number (x ∷ ys))) P = rw (no_number x ys none) (tt, tt) in
    either_word (x == 116) _ _ P (literal_word _
    (tok.boolean true) P tt (λ p. p) (λ h. whole (literal_clear true_text (x ∷ ys) (λ rest. refl) h)))
    (either_word (x == 102) _ _ P (literal_word _
    (tok.boolean false) P tt (λ p. p) (λ h. whole (literal_clear false_text (x ∷ ys) (λ rest. refl) h)))
    (either_word (x == 110) _ _ P (literal_word _ tok.null P tt
    (λ p. p) (λ h. whole (literal_clear null_text (x ∷ ys) (λ rest. refl) h))) number))

quote_goes : (ys : List ℕ) → Lexed (lex lexing.in_string ys) → Goes (34 ∷ ys)
unfolding lex
quote_goes ys h = record { free = string_lexed (text.content text.plain ys) _ h; word = λ clear. absurd (cc) }

backslash_goes : (ys : List ℕ) → Goes (92 ∷ ys)
unfolding lex
backslash_goes ys = record { free = (tt, tt); word = λ clear. absurd (cc) }

between_goes : (o s : Bool) (x : ℕ) (ys : List ℕ) → (x == 34) ≡ false →
    (x == 92) ≡ false → is_operator x ≡ o → is_space x ≡ s → begins_run x ≡ false → Goes ys → Goes (x ∷ ys)
unfolding lex
between_goes true s x ys q b eo es none g =
    let kind : class x ≡ operator = rw (q, b, eo) refl in
    record { free = rw kind (operator_lexed x _ g.free); word = λ clear. rw kind (operator_lexed x _ g.free) }
between_goes false true x ys q b eo es none g =
    let kind : class x ≡ space = rw (q, b, eo, es) refl in
    record { free = rw kind g.free; word = λ clear. rw kind g.free }
between_goes false false x ys q b eo es none g =
    let kind : class x ≡ other = rw (q, b, eo, es) refl in
    record {
      free = rw kind (other_word x ys _ none kind g.word);
      word = λ clear. rw kind (g.word (sym (ap (λ c. goes_on c (is_clear ys)) kind) ∙ clear));
    }

-- ---- a byte further

-- a byte that belongs to no run
byte_goes : (q b : Bool) (x : ℕ) (xs : List ℕ) → (x == 34) ≡ q →
    (x == 92) ≡ b → begins_run x ≡ false → Facts xs → Goes (x ∷ plain_from (cond (x == 34) in_string outside) xs)
byte_goes true b x xs eq eb none f = rw (eqb-true x 34 eq) (quote_goes _ f.string)
byte_goes false true x xs eq eb none f = rw (eqb-true x 92 eb) (backslash_goes _)
byte_goes false false x xs eq eb none f =
    rw eq (between_goes (is_operator x) (is_space x) x (plain_from outside xs) eq eb refl refl none f.open_text)

-- a byte of a string that is no quote and no backslash
inside : (o s : Bool) (x : ℕ) (ys : List ℕ) (k : Mode → List Lexeme) →
    Lexed (k lexing.in_string) → Lexed (lex_byte lexing.in_string (cond o operator (cond s space other)) x ys k)
inside true s x ys k h = h
inside false true x ys k h = h
inside false false x ys k h = h

string_by : (q b : Bool) (x : ℕ) (xs : List ℕ) →
    (x == 34) ≡ q → (x == 92) ≡ b → Facts xs → Lexed (lex lexing.in_string (plain_from in_string (x ∷ xs)))
unfolding plain_from lex
string_by true b x xs eq eb f = rw (eqb-true x 34 eq) f.open_text.free
string_by false true x xs eq eb f = rw (eqb-true x 92 eb) f.escape
string_by false false x xs eq eb f = rw (eq, eb) (inside
    (is_operator x) (is_space x) x (plain_from in_string xs) (λ next. lex next (plain_from in_string xs)) f.string)

escape_step : (x : ℕ) (xs : List ℕ) → Facts xs → Lexed (lex in_escape (plain_from escaped (x ∷ xs)))
unfolding plain_from lex
escape_step x xs f = f.string

run_by : (b : Bool) (x : ℕ) (xs : List ℕ) → is_run_byte x ≡ b → Facts xs → Goes (plain_from in_run (x ∷ xs))
unfolding plain_from
run_by true x xs e f = rw e f.run
run_by false x xs e f = rw (e, not_begun x e) (byte_goes (x == 34) (x == 92) x xs refl refl (not_begun x e) f)

outside_by : (b : Bool) (x : ℕ) (xs : List ℕ) → begins_run x ≡ b → Facts xs → Goes (plain_from outside (x ∷ xs))
unfolding plain_from
outside_by true x xs e f = rw (e, begun_not_quote x e) (written_goes
    (first_run (x ∷ xs)) _ _ (first_run_bytes (x ∷ xs)) (written_is _ (first_run_bytes (x ∷ xs))) (run_stops xs) f.run)
outside_by false x xs e f = rw e (byte_goes (x == 34) (x == 92) x xs refl refl e f)

facts_end : Facts []
unfolding plain_from lex
facts_end = record {
  open_text = record { free = tt; word = λ clear. tt };
  run = record { free = tt; word = λ clear. tt };
  string = tt;
  escape = tt;
}

facts : (xs : List ℕ) → Facts xs
facts [] = facts_end
facts (x ∷ xs) = let f = facts xs in record {
  open_text = outside_by (begins_run x) x xs refl f;
  run = run_by (is_run_byte x) x xs refl f;
  string = string_by (x == 34) (x == 92) x xs refl refl f;
  escape = escape_step x xs f;
}

pub plain_lexed : (bytes : List ℕ) → Lexed (lex between (plain_of bytes))
plain_lexed bytes = (facts bytes).open_text.free
