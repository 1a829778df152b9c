-- Texts without repeats, in the order in which they were added.
use Rattle.std.proofs.Common.{◌≡◌, refl, sym, ap, subst, ◌∙◌, ℕ, suc, List, [], ◌∷◌, ◌++◌, map, Bool, true, false, not}
use Rattle.std.proofs.Common.{◌||◌, true≢false, Some, arith, ◌+◌, cond, nat_lt, length, None, option_map}
use Rattle.std.proofs.Common.{if◌then◌else◌, Bor, ◌==◌}
use Rattle.std.proofs.lemmas.Bool.{ne_eqb}
use Rattle.std.proofs.lemmas.Bool.Decides.{nat_tests}
use Rattle.std.proofs.lemmas.Map.Keys.{IsDistinct-push}
use Rattle.std.specs.Cmp.Lexicographic.{nat_list_eq_equiv, slice_cmp}
use Rattle.std.specs.List.{IsDistinct, list_any, position_or_len}
use Rattle.std.specs.Str.{bytes_eq}
use Rattle.std.specs.Ordering.{nat_cmp, match_ordering}
use Rattle.std.specs.declared.cmp.Ordering.{Ordering}
use Rattle.std.specs.declared.cmp.Ordering.TheVariants.{Less, Equal, Greater}
use Rattle.std.specs.BTreeSet.{insert_key}
use Rattle.json.specs.declared.value.Value.{Value}
use Rattle.json_whole.specs.Values.{entries_view}
use Rattle.json_fields.specs.Values.{keys_of}
use Rattle.text_table.specs.Tables.{number_of}
use Rattle.list_laws.proofs.Lists.{all_at_middle}

either : (a b : Bool) → (a || b) ≡ true → (a ≡ true → ⊥) → (b ≡ true → ⊥) → ⊥
either true b h left right = left refl
either false b h left right = right h

-- a text that stands twice
pub doubled_at : (xs : List (List ℕ)) (x : List ℕ) (rest : List (List ℕ)) →
    list_any (bytes_eq x) xs ≡ true → IsDistinct bytes_eq (xs ++ x ∷ rest) → ⊥
unfolding IsDistinct
doubled_at [] x rest any d = true≢false (sym any)
doubled_at (y ∷ xs) x rest any d =
    either (bytes_eq x y) _ any (λ same.
    true≢false (sym same ∙ (nat_list_eq_equiv.symm x y ∙ all_at_middle (λ z. bytes_eq y z ≡ false) xs x rest d.0)))
    (λ h. doubled_at xs x rest h d.1)

pub distinct-more : (old new : List (List ℕ)) (x : List ℕ) →
    new ≡ old ++ x ∷ [] → list_any (bytes_eq x) old ≡ false → IsDistinct bytes_eq old → IsDistinct bytes_eq new
distinct-more old new x more absent d =
    let P : List (List ℕ) → Type 0 = λ ys. IsDistinct bytes_eq ys in
    subst P (sym more) (IsDistinct-push nat_list_eq_equiv old x d absent)

pub distinct-nil : IsDistinct bytes_eq []
unfolding IsDistinct
distinct-nil = tt

pub not_new : (a b : Bool) → a ≡ not b → a ≡ true → b ≡ false
not_new a true e t = absurd (true≢false (sym t ∙ e))
not_new a false e t = refl

pub not_old : (a b : Bool) → a ≡ not b → a ≡ false → b ≡ true
not_old a true e t = refl
not_old a false e t = absurd (true≢false (sym e ∙ t))

-- ---- a text's number

found_or_not : (b : Bool) (n : ℕ) → cond b (Some (1 + n)) None ≡ option_map suc (cond b (Some n) None)
found_or_not true n = ap Some (omega arith)
found_or_not false n = refl

next_number : (b : Bool) (n m : ℕ) → cond (nat_lt (cond (not b) (1 + n) 0) (suc m)) (Some (cond (not b) (1 + n) 0)) None
    ≡ (if b then Some 0 else option_map suc (cond (nat_lt n m) (Some n) None))
next_number true n m = let e : nat_lt 0 (suc m) ≡ true = grind (arith, nat_tests) in rw e refl
next_number false n m = let e : nat_lt (1 + n) (suc m) ≡ nat_lt n m = grind (arith, nat_tests) in
    rw e (found_or_not (nat_lt n m) n)

-- its number is 0 where the first one is the text, and else one more than among the others
pub number_step : (q x : List ℕ) (xs : List (List ℕ)) →
    number_of (x ∷ xs) q ≡ (if bytes_eq q x then Some 0 else option_map suc (number_of xs q))
number_step q x xs = next_number (bytes_eq q x) (position_or_len (bytes_eq q) xs) (length xs)

-- ---- texts in byte order

ordered : (o : Ordering) (k x : List ℕ) (xs ys : List (Bor (List ℕ))) (zs : List (List ℕ)) (b y : Bor (List ℕ)) →
    k ≡ b.now → x ≡ y.now → map (λ s. s.now) ys ≡ zs
    → map (λ s. s.now) (match_ordering o (b ∷ y ∷ xs) (y ∷ xs) (y ∷ ys))
    ≡ match_ordering o (k ∷ x ∷ map (λ s. s.now) xs) (x ∷ map (λ s. s.now) xs) (x ∷ zs)
ordered Less k x xs ys zs b y e f g = rw (e, f) refl
ordered Equal k x xs ys zs b y e f g = rw f refl
ordered Greater k x xs ys zs b y e f g = rw (f, ← g) refl

-- a reference to a text is put among others as the text among texts
pub insert_key-now : (xs : List (Bor (List ℕ))) (k : Bor (List ℕ)) →
    map (λ s. s.now) (insert_key (λ a b. slice_cmp nat_cmp a.now b.now) xs k)
    ≡ insert_key (slice_cmp nat_cmp) (map (λ s. s.now) xs) k.now
insert_key-now [] k = refl
insert_key-now (x ∷ xs) k =
    ordered (slice_cmp nat_cmp k.now x.now) k.now x.now xs _ _ k x refl refl (insert_key-now xs k)

-- ---- keys of an object

pub keys_of-entries : {A : Type 0} (es : List (Bor (List ℕ) × Bor (Value A))) →
    map (λ k. k.now) (map (λ e. e.0) es) ≡ keys_of (entries_view es)
keys_of-entries [] = refl
keys_of-entries (e ∷ es) = ap (λ ks. e.0.now ∷ ks) (keys_of-entries es)

-- ---- the index past the last

end_by : (b : Bool) (n len : ℕ) (any : Bool) →
    (n == len) ≡ not any → (cond (not b) (1 + n) 0 == suc len) ≡ not (b || any)
end_by true n len any same = ne_eqb 0 (suc len) (λ e. omega arith)
end_by false n len any same = let one : (1 + n == suc len) ≡ (n == len) = grind (arith, nat_tests) in one ∙ same

-- a text that would stand past the last is not among them
pub at_the_end : (q : List ℕ) (xs : List (List ℕ)) →
    (position_or_len (bytes_eq q) xs == length xs) ≡ not (list_any (bytes_eq q) xs)
at_the_end q [] = refl
at_the_end q (x ∷ xs) =
    end_by (bytes_eq q x) (position_or_len (bytes_eq q) xs) (length xs) (list_any (bytes_eq q) xs) (at_the_end q xs)
