-- Numbers in decimal.
use Rattle.std.proofs.Common.{◌≡◌, ℕ, ◌^◌, ◌<◌, ◌&&◌, Bool, true, false, List, Result, Ok, Option, Some, None}
use Rattle.std.proofs.Common.{if◌then◌else◌, refl, sym, ◌∙◌, ap, subst, nat_lt, true≢false, IfSome, IfNone}
use Rattle.std.specs.Prelude.{decimal}
use Rattle.std.specs.Bool.{Decides}
use Rattle.std.specs.Str.{bytes_eq}
use Rattle.std.specs.Str.Parse.{ParsesUnsigned, digits_value}
use Rattle.std.proofs.lemmas.Bool.{ltb-true, lt-ltb, and_parts}
use Rattle.std.proofs.lemmas.Fmt.{parse-decimal, decimal_is_IsNumeral}
use Rattle.std.proofs.lemmas.Slice.Eq.{bytes_eq-Decides}
use Rattle.text_forms.specs.Numbers.{is_number, number_in}

pub parsed : {E : Type 0} (n m : ℕ) (bs : List ℕ) (r : Result ℕ E) →
    n < 2 ^ 64 → ParsesUnsigned 64 10 bs r → r ≡ Ok m → bs ≡ decimal n → m ≡ n
parsed n m bs r small parses ok is = let same : r ≡ Ok n = parse-decimal 64 n bs r small small is parses in cc

-- equal texts pass the test, and what passes it is equal
same_texts : (xs ys : List ℕ) → xs ≡ ys → bytes_eq xs ys ≡ true
same_texts xs ys e = by (bytes_eq xs ys) (bytes_eq-Decides xs ys)
  where
    by : (b : Bool) → Decides b (xs ≡ ys) → b ≡ true
    by true tells = refl
    by false tells = absurd (true≢false (sym (tells.1 e)))

tested : (xs ys : List ℕ) (b : Bool) → Decides b (xs ≡ ys) → b ≡ true → xs ≡ ys
tested xs ys true tells e = tells.0 refl
tested xs ys false tells e = absurd (true≢false (sym e))

-- the number that a text is written for
pub is_of : (word : List ℕ) (n : ℕ) → n < 2 ^ 64 → word ≡ decimal n → number_in word ≡ Some n
is_of word n small is =
    let value : digits_value 10 word ≡ n = ap (digits_value 10) is ∙ (decimal_is_IsNumeral n small).1 in
    let text : bytes_eq (decimal (digits_value 10 word)) word ≡ true =
    same_texts (decimal (digits_value 10 word)) word (ap decimal value ∙ sym is) in
    let fits : nat_lt (digits_value 10 word) (2 ^ 64) ≡ true =
    lt-ltb (digits_value 10 word) (2 ^ 64) (subst (λ m. m < 2 ^ 64) (sym value) small) in
    let yes : is_number word ≡ true = ap (λ b. b && nat_lt (digits_value 10 word) (2 ^ 64)) text ∙ fits in
    ap (λ b. if b then Some (digits_value 10 word) else None) yes ∙ ap Some value

none_by : (word : List ℕ) (b : Bool) → is_number word ≡ b →
    ((n : ℕ) → n < 2 ^ 64 → word ≡ decimal n → ⊥) → (if b then Some (digits_value 10 word) else None) ≡ None
none_by word true e never =
    let both = and_parts (bytes_eq (decimal (digits_value 10 word)) word) (nat_lt (digits_value 10 word) (2 ^ 64)) e in
    absurd (never (digits_value 10 word) (ltb-true (digits_value 10 word) (2 ^ 64) both.1)
    (sym (tested (decimal (digits_value 10 word)) word (bytes_eq (decimal (digits_value 10 word)) word)
    (bytes_eq-Decides (decimal (digits_value 10 word)) word) both.0)))
none_by word false e never = refl

-- and one that is written for none
pub is_none : (word : List ℕ) → ((n : ℕ) → n < 2 ^ 64 → word ≡ decimal n → ⊥) → number_in word ≡ None
is_none word never = none_by word (is_number word) refl never

pub by_both : (word : List ℕ) (o : Option ℕ) → IfSome o (λ n. word ≡ decimal n) →
    IfSome o (λ n. n < 2 ^ 64) → IfNone o ((n : ℕ) → n < 2 ^ 64 → word ≡ decimal n → ⊥) → o ≡ number_in word
by_both word (Some n) is small never = sym (is_of word n small is)
by_both word None is small never = sym (is_none word never)
