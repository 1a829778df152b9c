-- The content of a string is the same in the plain form.
use Rattle.std.proofs.Common.{◌≡◌, ℕ, List, [], ◌∷◌, ◌++◌, Bool, true, false, cond, ◌&&◌, ◌==◌, nat_lt, Option}
use Rattle.std.proofs.Common.{Some, None}
use Rattle.std.proofs.Common.{option_and_then, refl, sym, ap, ◌∙◌, ne_eqb, arith}
use Rattle.std.specs.Prelude.{IfSome}
use Rattle.std.specs.Char.{is_digit}
use Rattle.std.proofs.lemmas.Bool.{eqb-true, and_parts}
use Rattle.json.specs.Text as text
use Rattle.json.specs.Text.{Within, after_backslash, after_u, after_high, content, code_unit, short_escape, prepend}
use Rattle.json.specs.Text.{is_low_surrogate}
use Rattle.json_whole.specs.Run.{is_run_byte}
use Rattle.json_whole.specs.Plain.{Place, in_string, escaped, plain_from}
use Rattle.json_whole.proofs.Words.{IsRun, run_head, run_rest, other_than}

-- the place of a byte of a string
abbrev pub place_of : Within → Place
place_of text.plain = in_string
place_of after_backslash = escaped
place_of after_u = in_string
place_of (after_high h) = in_string

-- what the one gives, the other gives too
abbrev Follows : Option (List ℕ) → Option (List ℕ) → Type 0
Follows o p = IfSome o (λ s. p ≡ Some s)

-- the content that the text has there the plain form has too
abbrev pub KeepsContent : Within → List ℕ → Type 0
KeepsContent w xs = Follows (content w xs) (content w (plain_from (place_of w) xs))

more : (bytes : List ℕ) (o p : Option (List ℕ)) → Follows o p → Follows (prepend bytes o) (prepend bytes p)
more bytes None p h = tt
more bytes (Some s) p h = ap (prepend bytes) h

-- ---- a byte

byte_by : (q b l : Bool) (x : ℕ) (xs : List ℕ) → (x == 34) ≡ q → (x == 92) ≡ b → nat_lt x 32 ≡ l →
    KeepsContent after_backslash xs → KeepsContent text.plain xs → KeepsContent text.plain (x ∷ xs)
unfolding content plain_from
byte_by true b l x xs eq eb el escape rest = rw eq refl
byte_by false true l x xs eq eb el escape rest = rw (eq, eb) escape
byte_by false false true x xs eq eb el escape rest = rw (eq, eb, el) tt
byte_by false false false x xs eq eb el escape rest = rw (eq, eb, el) (more (x ∷ []) (content text.plain xs) _ rest)

short_by : (o : Option ℕ) (p q : Option (List ℕ)) → Follows p q →
    Follows (option_and_then (λ c. prepend (c ∷ []) p) o) (option_and_then (λ c. prepend (c ∷ []) q) o)
short_by None p q h = tt
short_by (Some c) p q h = more (c ∷ []) p q h

escape_by : (u : Bool) (x : ℕ) (xs : List ℕ) → (x == 117) ≡ u →
    KeepsContent after_u xs → KeepsContent text.plain xs → KeepsContent after_backslash (x ∷ xs)
unfolding content plain_from
escape_by true x xs e unit rest = rw e unit
escape_by false x xs e unit rest =
    rw e (short_by (short_escape x) (content text.plain xs) (content text.plain (plain_from in_string xs)) rest)

-- ---- hex digits

hex_not : (x c : ℕ) → is_digit x 16 ≡ true → is_digit c 16 ≡ false → (x == c) ≡ false
hex_not x c p q = ne_eqb x c (λ same. let no : true ≡ false = sym p ∙ ap (λ y. is_digit y 16) same ∙ q in cc)

hex_stays : (x : ℕ) (xs : List ℕ) → is_digit x 16 ≡ true → plain_from in_string (x ∷ xs) ≡ x ∷ plain_from in_string xs
unfolding plain_from
hex_stays x xs e = rw (hex_not x 34 e refl, hex_not x 92 e refl) refl

abbrev are_hex : ℕ → ℕ → ℕ → ℕ → Bool
are_hex a b c d = is_digit a 16 && is_digit b 16 && is_digit c 16 && is_digit d 16

four_stay : (a b c d : ℕ) (xs : List ℕ) → are_hex a b c d ≡ true →
    plain_from in_string (a ∷ b ∷ c ∷ d ∷ xs) ≡ a ∷ b ∷ c ∷ d ∷ plain_from in_string xs
four_stay a b c d xs h =
    let three = and_parts (is_digit a 16 && is_digit b 16 && is_digit c 16) (is_digit d 16) h in
    let two = and_parts (is_digit a 16 && is_digit b 16) (is_digit c 16) three.0 in
    let one = and_parts (is_digit a 16) (is_digit b 16) two.0 in
    hex_stays a (b ∷ c ∷ d ∷ xs) one.0
    ∙ ap (λ l. a ∷ l) (hex_stays b (c ∷ d ∷ xs) one.1
    ∙ ap (λ l. b ∷ l) (hex_stays c (d ∷ xs) two.1 ∙ ap (λ l. c ∷ l) (hex_stays d xs three.1)))

unit_by : (high low : Bool) (bytes : List ℕ) (o p q r : Option (List ℕ)) → Follows o p → Follows q r →
    Follows (cond high o (cond low None (prepend bytes q))) (cond high p (cond low None (prepend bytes r)))
unit_by true low bytes o p q r first second = first
unit_by false true bytes o p q r first second = tt
unit_by false false bytes o p q r first second = more bytes q r second

after_u_by : (h : Bool) (a b c d : ℕ) (xs : List ℕ) → are_hex a b c d ≡ h →
    ((u : ℕ) → KeepsContent (after_high u) xs) → KeepsContent text.plain xs → KeepsContent after_u (a ∷ b ∷ c ∷ d ∷ xs)
unfolding content code_unit
after_u_by true a b c d xs e high rest =
    rw (four_stay a b c d xs e, e) (unit_by _ _ _ _ _ _ _ (high _) rest)
after_u_by false a b c d xs e high rest = rw e tt

low_by : (low : Bool) (bytes : List ℕ) (o p : Option (List ℕ)) → Follows o p →
    Follows (cond low (prepend bytes o) None) (cond low (prepend bytes p) None)
low_by true bytes o p h = more bytes o p h
low_by false bytes o p h = tt

low_unit_by : (h : Bool) (high a b c d : ℕ) (xs : List ℕ) → are_hex a b c d ≡ h →
    KeepsContent text.plain xs → KeepsContent (after_high high) (92 ∷ 117 ∷ a ∷ b ∷ c ∷ d ∷ xs)
unfolding content code_unit plain_from
low_unit_by true high a b c d xs e rest = rw (four_stay a b c d xs e, e) (low_by _ _ _ _ rest)
low_unit_by false high a b c d xs e rest = rw e tt

after_high_by : (v : Bool) (high s u a b c d : ℕ) (xs : List ℕ) → ((s == 92) && (u == 117)) ≡ v →
    KeepsContent text.plain xs → KeepsContent (after_high high) (s ∷ u ∷ a ∷ b ∷ c ∷ d ∷ xs)
unfolding content
after_high_by true high s u a b c d xs e rest =
    let both = and_parts (s == 92) (u == 117) e in
    rw (eqb-true s 92 both.0, eqb-true u 117 both.1) (low_unit_by (are_hex a b c d) high a b c d xs refl rest)
after_high_by false high s u a b c d xs e rest = rw e tt

pub same_content : (w : Within) (xs : List ℕ) → KeepsContent w xs
unfolding content
same_content text.plain [] = tt
same_content text.plain (x ∷ xs) = byte_by (x == 34) (x == 92) (nat_lt x 32) x xs refl refl refl
    (same_content after_backslash xs) (same_content text.plain xs)
same_content after_backslash [] = tt
same_content after_backslash (x ∷ xs) =
    escape_by (x == 117) x xs refl (same_content after_u xs) (same_content text.plain xs)
same_content after_u [] = tt
same_content after_u (a ∷ []) = tt
same_content after_u (a ∷ b ∷ []) = tt
same_content after_u (a ∷ b ∷ c ∷ []) = tt
same_content after_u (a ∷ b ∷ c ∷ d ∷ xs) = after_u_by (are_hex a b c d) a b c d xs refl
    (λ u. same_content (after_high u) xs) (same_content text.plain xs)
same_content (after_high h) [] = tt
same_content (after_high h) (s ∷ []) = tt
same_content (after_high h) (s ∷ u ∷ []) = tt
same_content (after_high h) (s ∷ u ∷ a ∷ []) = tt
same_content (after_high h) (s ∷ u ∷ a ∷ b ∷ []) = tt
same_content (after_high h) (s ∷ u ∷ a ∷ b ∷ c ∷ []) = tt
same_content (after_high h) (s ∷ u ∷ a ∷ b ∷ c ∷ d ∷ xs) =
    after_high_by ((s == 92) && (u == 117)) h s u a b c d xs refl (same_content text.plain xs)

-- ---- a run between quotes

run_printed : (x : ℕ) → is_run_byte x ≡ true → nat_lt x 32 ≡ false
run_printed x e = grind arith

pub run_content : (r rest : List ℕ) → IsRun r → content text.plain (r ++ 34 ∷ rest) ≡ Some r
unfolding content
run_content [] rest h = refl
run_content (x ∷ r) rest h =
    let byte = run_head x r h in
    rw (other_than x 34 byte refl, other_than x 92 byte refl, run_printed x byte)
    (ap (prepend (x ∷ [])) (run_content r rest (run_rest x r h)))
