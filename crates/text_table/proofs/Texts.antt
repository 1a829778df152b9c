-- What a set of texts holds, as their bytes.
use Rattle.std.proofs.Common.{◌≡◌, refl, sym, ap, ◌∙◌, ℕ, suc, ◌+◌, ◌<◌, ◌≤◌, List, [], ◌∷◌, ◌++◌, length, Some, None}
use Rattle.std.proofs.Common.{Option, IfSome, nat_lt, arith, Vec, Global, Bool, true, false, not, ◌||◌, cond}
use Rattle.std.proofs.Common.{if◌then◌else◌, position}
use Rattle.std.proofs.lemmas.List.{map-append, length-map}
use Rattle.std.proofs.lemmas.Bool.{ltb-false, ltb-true}
use Rattle.std.proofs.lemmas.List.Sums.{prefix_len-le-length}
use Rattle.std.specs.List.{list_any, position_or_len}
use Rattle.std.specs.Str.{bytes_eq}
use Rattle.text_table.specs.Tables.{texts_of, with_text, index_of, number_of}

any-texts : (q : List ℕ) (vs : List (Vec ℕ Global)) →
    list_any (λ v. bytes_eq q v.items) vs ≡ list_any (bytes_eq q) (texts_of vs)
any-texts q [] = refl
any-texts q (v ∷ vs) = ap (λ b. bytes_eq q v.items || b) (any-texts q vs)

pub index-texts : (q : List ℕ) (vs : List (Vec ℕ Global)) →
    position_or_len (λ v. bytes_eq q v.items) vs ≡ index_of (texts_of vs) q
index-texts q [] = refl
index-texts q (v ∷ vs) = ap (λ n. cond (not (bytes_eq q v.items)) (1 + n) 0) (index-texts q vs)

pub position-texts : (q : List ℕ) (vs : List (Vec ℕ Global)) →
    position (λ v. bytes_eq q v.items) vs ≡ position (bytes_eq q) (texts_of vs)
position-texts q vs = rw (← index-texts q vs, length-map) refl

added_texts : (vs : List (Vec ℕ Global)) (v : Vec ℕ Global) (b : Bool) →
    texts_of (if b then vs else vs ++ v ∷ []) ≡ (if b then texts_of vs else texts_of vs ++ v.items ∷ [])
added_texts vs v true = refl
added_texts vs v false = map-append (λ (t : Vec ℕ Global). t.items) vs (v ∷ [])

pub texts-added : (vs : List (Vec ℕ Global)) (v : Vec ℕ Global) → texts_of
    (if list_any (λ w. bytes_eq v.items w.items) vs then vs else vs ++ v ∷ []) ≡ with_text (texts_of vs) v.items
texts-added vs v = added_texts vs v (list_any (λ w. bytes_eq v.items w.items) vs)
    ∙ ap (λ b. if b then texts_of vs else texts_of vs ++ v.items ∷ []) (any-texts v.items vs)

at_the_end : (n len : ℕ) (b : Bool) → nat_lt n len ≡ b → n ≤ len → (if b then Some n else None) ≡ None → n ≡ len
at_the_end n len true e within none = absurd (let some : Some n ≡ None = none in cc)
at_the_end n len false e within none = let past : len ≤ n = ltb-false n len e in omega (arith, past)

-- a text that has no number would get the next one
pub next_index : (texts : List (List ℕ)) (q : List ℕ) →
    position (bytes_eq q) texts ≡ None → index_of texts q ≡ length texts
next_index texts q none = at_the_end (index_of texts q)
    (length texts) (nat_lt (index_of texts q) (length texts)) refl (prefix_len-le-length _ texts) none

was_found : (n len m : ℕ) (b : Bool) → nat_lt n len ≡ b → (if b then Some n else None) ≡ Some m → (n ≡ m) × (n < len)
was_found n len m true e is = (let same : n ≡ m = cc in same, ltb-true n len e)
was_found n len m false e is = absurd (cc)

any_by : (b : Bool) (n len : ℕ) (any : Bool) → cond (not b) (1 + n) 0 < suc len → (n < len → any ≡ true) →
    (b || any) ≡ true
any_by true n len any lt later = refl
any_by false n len any lt later = later (omega (arith, lt))

pub is_there : (q : List ℕ) (texts : List (List ℕ)) → index_of texts q < length texts →
    list_any (bytes_eq q) texts ≡ true
is_there q [] lt = absurd (omega (arith, lt))
is_there q (x ∷ xs) lt = any_by (bytes_eq q x) (index_of xs q) (length xs) (list_any (bytes_eq q) xs) lt (is_there q xs)

-- a number is below the count
pub number_within : (texts : List (List ℕ)) (q : List ℕ) (o : Option ℕ) → o ≡ number_of texts q →
    IfSome o (λ n. n < length texts)
number_within texts q None e = tt
number_within texts q (Some n) e =
    let found = was_found (index_of texts q) (length texts) n (nat_lt (index_of texts q) (length texts)) refl (sym e) in
    let same : index_of texts q ≡ n = found.0 in
    let low : index_of texts q < length texts = found.1 in omega arith

-- a text that has a number is there
pub found_text : (texts : List (List ℕ)) (q : List ℕ) (n : ℕ) → position (bytes_eq q) texts ≡ Some n →
    (texts ≡ with_text texts q) × (n ≡ index_of texts q)
found_text texts q n is =
    let found = was_found (index_of texts q) (length texts) n (nat_lt (index_of texts q) (length texts)) refl is in
    (sym (ap (λ b. if b then texts else texts ++ q ∷ []) (is_there q texts found.1)), sym found.0)
