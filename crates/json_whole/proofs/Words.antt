-- Where the number at the front of a run ends does not depend on what stands behind the run.
use Rattle.std.proofs.Common.{◌≡◌, ◌≤◌, ℕ, ◌+◌, ◌-◌, List, [], ◌∷◌, ◌++◌, length, length-append, take, drop, subst}
use Rattle.std.proofs.Common.{Bool, true, false, cond, ◌||◌, ◌==◌, Option, Some, None, option_map}
use Rattle.std.proofs.Common.{option_and_then, refl, sym, ap, ◌∙◌, arith, ne_eqb}
use Rattle.std.specs.Prelude.{IfSome}
use Rattle.std.specs.List.{prefix_len, list_all}
use Rattle.std.specs.Char.{is_ascii_digit}
use Rattle.std.proofs.Math.Seq.{take-append_seam}
use Rattle.std.proofs.lemmas.List.{drop-append-le}
use Rattle.std.proofs.lemmas.List.Elements.{All-drop}
use Rattle.std.proofs.lemmas.List.Sums.{prefix_len-le-length, AllPass-from_list_all, list_all-from_AllPass}
use Rattle.std.proofs.lemmas.Bool.{and_parts}
use Rattle.json.specs.Token.{number, bad}
use Rattle.json.specs.Word.{is_operator, is_space, head, ends_word, number_before, word, after_digits, after_minus}
use Rattle.json.specs.Word.{after_sign, after_whole, after_fraction, after_exponent, after_number}
use Rattle.json.specs.Lex.{class, other}
use Rattle.json_whole.specs.Run.{is_run_byte, run_len, is_number}
use Rattle.json_whole.proofs.Tokens.{IsExact, Exact, Behind}

abbrev pub IsRun : List ℕ → Type 0
IsRun r = list_all is_run_byte r ≡ true

pub run_rest : (x : ℕ) (r : List ℕ) → IsRun (x ∷ r) → IsRun r
run_rest x r h = (and_parts (is_run_byte x) (list_all is_run_byte r) h).1

pub run_head : (x : ℕ) (r : List ℕ) → IsRun (x ∷ r) → is_run_byte x ≡ true
run_head x r h = (and_parts (is_run_byte x) (list_all is_run_byte r) h).0

run_drop : (n : ℕ) (r : List ℕ) → IsRun r → IsRun (drop n r)
run_drop n r h = list_all-from_AllPass is_run_byte
    (drop n r) (All-drop (λ x. is_run_byte x ≡ true) n r (AllPass-from_list_all is_run_byte r h))

pull : {A B : Type 0} (f : A → B) (b : Bool) (x y : A) → f (cond b x y) ≡ cond b (f x) (f y)
pull f true x y = refl
pull f false x y = refl

digit_is_run : (x : ℕ) → is_run_byte x ≡ false → is_ascii_digit x ≡ false
digit_is_run x e = grind arith

stopped : (b : Bool) (n : ℕ) → cond b (1 + n) 0 ≡ 0 → b ≡ false
stopped true n h = absurd (omega arith)
stopped false n h = refl

differ : (x c : ℕ) → is_run_byte x ≡ false → is_run_byte c ≡ true → (x == c) ≡ false
differ x c p q = ne_eqb x c (λ same. let no : false ≡ true = sym p ∙ ap is_run_byte same ∙ q in cc)

pub other_than : (x c : ℕ) → is_run_byte x ≡ true → is_run_byte c ≡ false → (x == c) ≡ false
other_than x c p q = ne_eqb x c (λ same. let no : true ≡ false = sym p ∙ ap is_run_byte same ∙ q in cc)

-- a run byte ends no word
pub run_goes_on : (x : ℕ) → is_run_byte x ≡ true → (is_operator x || is_space x) ≡ false
run_goes_on x e =
    rw (
      other_than x 123 e refl,
      other_than x 125 e refl,
      other_than x 91 e refl,
      other_than x 93 e refl,
      other_than x 58 e refl,
      other_than x 44 e refl,
      other_than x 32 e refl,
      other_than x 9 e refl,
      other_than x 10 e refl,
      other_than x 13 e refl,
    )
    refl

pub run_class : (x : ℕ) → is_run_byte x ≡ true → class x ≡ other
run_class x e =
    rw (
      other_than x 34 e refl,
      other_than x 92 e refl,
      other_than x 123 e refl,
      other_than x 125 e refl,
      other_than x 91 e refl,
      other_than x 93 e refl,
      other_than x 58 e refl,
      other_than x 44 e refl,
      other_than x 32 e refl,
      other_than x 9 e refl,
      other_than x 10 e refl,
      other_than x 13 e refl,
    )
    refl

ended : (b : Bool) (s r : List ℕ) (P : Type 0) →
    s ≡ r → IsExact r → (b ≡ true → P) → Exact (cond b (number s) bad) × Behind (cond b (number s) bad) P
ended true s r P same exact p = (subst IsExact (sym same) exact, p refl)
ended false s r P same exact p = (tt, tt)

unended : (b : Bool) (s : List ℕ) (P : Type 0) →
    b ≡ false → Exact (cond b (number s) bad) × Behind (cond b (number s) bad) P
unended b s P e = rw e (tt, tt)

no_digit_at : (ys : List ℕ) → is_run_byte (head ys) ≡ false → prefix_len is_ascii_digit ys ≡ 0
no_digit_at [] h = refl
no_digit_at (y ∷ ys) h = rw (digit_is_run y h) refl

-- the head of what stands behind a run
pub head_stops : (ys : List ℕ) → run_len ys ≡ 0 → is_run_byte (head ys) ≡ false
head_stops [] h = refl
head_stops (y ∷ ys) h = stopped (is_run_byte y) (run_len ys) h

module _ (ys : List ℕ) (stops : is_run_byte (head ys) ≡ false) where
  -- f finds the same end with and without what stands behind
  abbrev Splits : (List ℕ → Option (List ℕ)) → Type 0
  Splits f = (r : List ℕ) → IsRun r → (f (r ++ ys) ≡ option_map (λ rest. rest ++ ys) (f r)) × IfSome (f r) IsRun

  head_is_not : (c : ℕ) → is_run_byte c ≡ true → (head ys == c) ≡ false
  head_is_not c e = differ (head ys) c stops e

  same_head : (c : ℕ) → is_run_byte c ≡ true → (r : List ℕ) → (head (r ++ ys) == c) ≡ (head r == c)
  same_head c e [] = head_is_not c e ∙ sym (differ 32 c refl e)
  same_head c e (x ∷ r) = refl

  some_split : Splits (λ t. Some t)
  some_split r h = (refl, h)

  no_digit : prefix_len is_ascii_digit ys ≡ 0
  no_digit = no_digit_at ys stops

  same_digits : (r : List ℕ) → prefix_len is_ascii_digit (r ++ ys) ≡ prefix_len is_ascii_digit r
  same_digits [] = no_digit
  same_digits (x ∷ r) = ap (λ n. cond (is_ascii_digit x) (1 + n) 0) (same_digits r)

  digits_by : (b : Bool) (n : ℕ) (r : List ℕ) → IsRun r → n ≤ length r
      → (cond b None (Some (drop n (r ++ ys))) ≡ option_map (λ rest. rest ++ ys) (cond b None (Some (drop n r))))
      × IfSome (cond b None (Some (drop n r))) IsRun
  digits_by true n r h e = (refl, tt)
  digits_by false n r h e = (ap (λ l. Some l) (drop-append-le n r ys e), run_drop n r h)

  digits_split : Splits after_digits
  digits_split r h =
      let n = prefix_len is_ascii_digit r in
      rw (same_digits r) (digits_by (n == 0) n r h (prefix_len-le-length is_ascii_digit r))

  -- one byte may stand before what f finds
  branch_by : (b : Bool) (f g : List ℕ → Option (List ℕ)) → Splits f → Splits g → (x : ℕ) (r : List ℕ) → IsRun (x ∷ r)
      → (cond b (f (r ++ ys)) (g (x ∷ r ++ ys)) ≡ option_map (λ rest. rest ++ ys) (cond b (f r) (g (x ∷ r))))
      × IfSome (cond b (f r) (g (x ∷ r))) IsRun
  branch_by true f g p q x r h = p r (run_rest x r h)
  branch_by false f g p q x r h = q (x ∷ r) h

  branch : (test : List ℕ → Bool) → ((r : List ℕ) → test (r ++ ys) ≡ test r) →
      test [] ≡ false → (f g : List ℕ → Option (List ℕ)) → Splits f → Splits g
      → Splits (λ t. cond (test t) (f (drop 1 t)) (g t))
  branch test same none f g p q [] h = rw (same [], none) (q [] h)
  branch test same none f g p q (x ∷ r) h = rw (same (x ∷ r)) (branch_by (test (x ∷ r)) f g p q x r h)

  zero_split : Splits after_whole
  zero_split = branch (λ t. head t == 48) (same_head 48 refl) refl (λ t. Some t) after_digits some_split digits_split

  whole_split : Splits (λ t. after_whole (after_minus t))
  whole_split r h =
      rw (
        pull after_whole (head (r ++ ys) == 45) (drop 1 (r ++ ys)) (r ++ ys),
        pull after_whole (head r == 45) (drop 1 r) r,
      )
      (branch (λ t. head t == 45) (same_head 45 refl) refl after_whole after_whole zero_split zero_split r h)

  fraction_split : Splits after_fraction
  fraction_split =
      branch (λ t. head t == 46) (same_head 46 refl) refl after_digits (λ t. Some t) digits_split some_split

  is_either : ℕ → ℕ → List ℕ → Bool
  is_either a b t = (head t == a) || (head t == b)

  same_either : (a b : ℕ) → is_run_byte a ≡ true → is_run_byte b ≡ true →
      (r : List ℕ) → ((head (r ++ ys) == a) || (head (r ++ ys) == b)) ≡ ((head r == a) || (head r == b))
  same_either a b p q r = rw (same_head a p r, same_head b q r) refl

  signed_split : Splits (λ t. after_digits (after_sign t))
  signed_split r h =
      rw (
        pull after_digits ((head (r ++ ys) == 45) || (head (r ++ ys) == 43)) (drop 1 (r ++ ys)) (r ++ ys),
        pull after_digits ((head r == 45) || (head r == 43)) (drop 1 r) r,
      )
      (branch (λ t. (head t == 45) || (head t == 43))
      (same_either 45 43 refl refl) refl after_digits after_digits digits_split digits_split r h)

  exponent_split : Splits after_exponent
  exponent_split = branch (λ t. (head t == 101) || (head t == 69))
      (same_either 101 69 refl refl) refl (λ t. after_digits (after_sign t)) (λ t. Some t) signed_split some_split

  then_by : (g : List ℕ → Option (List ℕ)) →
      Splits g → (o more : Option (List ℕ)) → more ≡ option_map (λ rest. rest ++ ys) o → IfSome o IsRun
      → (option_and_then g more ≡ option_map (λ rest. rest ++ ys) (option_and_then g o))
      × IfSome (option_and_then g o) IsRun
  then_by g q None more e h = rw e (refl, tt)
  then_by g q (Some l) more e h = rw e (q l h)

  then_split : (f g : List ℕ → Option (List ℕ)) → Splits f → Splits g → Splits (λ t. option_and_then g (f t))
  then_split f g p q r h = let one = p r h in then_by g q (f r) (f (r ++ ys)) one.0 one.1

  pub number_split : Splits after_number
  unfolding after_number
  number_split =
      then_split (λ t. option_and_then after_fraction (after_whole (after_minus t))) after_exponent
      (then_split (λ t. after_whole (after_minus t)) after_fraction whole_split fraction_split) exponent_split

  -- the token that a run begins: a number only where the whole run is one and the word ends behind it
  number_token : (r : List ℕ) → (is_number r ≡ true → IsExact r) →
      (P : Type 0) → (ends_word ys ≡ true → P) → (o : Option (List ℕ)) → after_number r ≡ o → IfSome o IsRun
      → let t = number_before (r ++ ys) (option_map (λ rest. rest ++ ys) o) in Exact t × Behind t P
  number_token r exact P behind None e h = (tt, tt)
  number_token r exact P behind (Some []) e h =
      let len : length (r ++ ys) - length ys ≡ length r = omega (arith, length-append r ys) in
      let alone : take (length (r ++ ys) - length ys) (r ++ ys) ≡ r = rw len (take-append_seam r ys) in
      let whole : is_number r ≡ true = rw e refl in
      ended (ends_word ys) _ r P alone (exact whole) behind
  number_token r exact P behind (Some (l ∷ ls)) e h =
      unended (ends_word (l ∷ ls ++ ys)) _ P (run_goes_on l (run_head l ls h))

  pub run_token : (x : ℕ) (r : List ℕ) →
      IsRun (x ∷ r) → (is_number (x ∷ r) ≡ true → IsExact (x ∷ r)) → (P : Type 0) → (ends_word ys ≡ true → P)
      → Exact (word (x ∷ r ++ ys)) × Behind (word (x ∷ r ++ ys)) P
  unfolding word
  run_token x r h exact P behind =
      let byte = run_head x r h in
      rw (
        other_than x 116 byte refl,
        other_than x 102 byte refl,
        other_than x 110 byte refl,
        (number_split (x ∷ r) h).0,
      )
      (number_token (x ∷ r) exact P behind (after_number (x ∷ r)) refl (number_split (x ∷ r) h).1)
