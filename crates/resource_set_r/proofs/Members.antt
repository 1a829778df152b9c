-- What stands in a list.
use Rattle.std.proofs.Common.{◌≡◌, ℕ, zero, suc, ◌+◌, ◌<◌, ◌≤◌, ◌⊎◌, Bool, true, false, List, [], ◌∷◌, ◌++◌, length}
use Rattle.std.proofs.Common.{get_or, fold, Option, Some, None, inl, inr, refl, sym, ◌∙◌, ap, subst, arith, cond}
use Rattle.std.proofs.Common.{true≢false}
use Rattle.std.specs.List.{cons_option, filter, filter_map, flat_map, list_any, Contains}
use Rattle.std.specs.Ordering.{nat_cmp, match_ordering}
use Rattle.std.specs.declared.cmp.Ordering.{Ordering}
use Rattle.std.specs.declared.cmp.Ordering.TheVariants.{Less, Equal, Greater}
use Rattle.std.specs.BTreeSet.{insert_key}
use Rattle.std.proofs.lemmas.Bool.{or_cases, or_left, or_right, cases_eq, cases_lt}
use Rattle.std.proofs.lemmas.Bool.Decides.{nat_tests}
use Rattle.idset_text.specs.Idsets.{ids_from}
use Rattle.resource_set_r.specs.Rows.{rising}

-- x is an item of the list
abbrev pub Stands : {X : Type 0} → X → List X → Type 0
Stands x [] = ⊥
Stands x (y ∷ ys) = (y ≡ x) ⊎ Stands x ys

pub contains_stands : {X : Type 0} (x : X) (xs : List X) → Stands x xs → Contains xs x
contains_stands x [] h = absurd h
contains_stands x (y ∷ ys) (inl e) = (0, omega arith, e)
contains_stands x (y ∷ ys) (inr h) = let r = contains_stands x ys h in (suc r.0, omega (arith, r.1), r.2)

pub stands_contains : {X : Type 0} (x : X) (xs : List X) → Contains xs x → Stands x xs
stands_contains {X} x xs c = by xs c.0 c.1 c.2
  where
    by : (xs : List X) (k : ℕ) → k < length xs → get_or xs k x ≡ x → Stands x xs
    by [] k lt e = absurd (omega arith)
    by (y ∷ ys) zero lt e = inl e
    by (y ∷ ys) (suc k) lt e = inr (by ys k (omega arith) e)

-- ---- numbers in rising order

same_number : (a b : ℕ) → nat_cmp a b ≡ Equal → b ≡ a
same_number a b e = grind (arith, nat_tests)

inserted : (x k : ℕ) (ks : List ℕ) → Stands x (insert_key nat_cmp ks k) → (k ≡ x) ⊎ Stands x ks
inserted x k [] (inl e) = inl e
inserted x k [] (inr h) = absurd h
inserted x k (y ∷ ys) h = by (nat_cmp k y) h (λ r. inserted x k ys r)
  where
    by : (o : Ordering) → Stands x (match_ordering o (k ∷ y ∷ ys) (y ∷ ys) (y ∷ insert_key nat_cmp ys k)) →
        (Stands x (insert_key nat_cmp ys k) → (k ≡ x) ⊎ Stands x ys) → (k ≡ x) ⊎ Stands x (y ∷ ys)
    by Less (inl e) rest = inl e
    by Less (inr r) rest = inr r
    by Equal r rest = inr r
    by Greater (inl e) rest = inr (inl e)
    by Greater (inr r) rest = elim (rest r) [ inl e ↦ inl e | inr t ↦ inr (inr t) ]

insert_new : (k : ℕ) (ks : List ℕ) → Stands k (insert_key nat_cmp ks k)
insert_new k [] = inl refl
insert_new k (y ∷ ys) = by (nat_cmp k y) refl (insert_new k ys)
  where
    by : (o : Ordering) → nat_cmp k y ≡ o → Stands k (insert_key nat_cmp ys k) →
        Stands k (match_ordering o (k ∷ y ∷ ys) (y ∷ ys) (y ∷ insert_key nat_cmp ys k))
    by Less e rest = inl refl
    by Equal e rest = inl (same_number k y e)
    by Greater e rest = inr rest

insert_old : (x k : ℕ) (ks : List ℕ) → Stands x ks → Stands x (insert_key nat_cmp ks k)
insert_old x k [] h = absurd h
insert_old x k (y ∷ ys) h = by (nat_cmp k y) h (λ r. insert_old x k ys r)
  where
    by : (o : Ordering) → Stands x (y ∷ ys) → (Stands x ys → Stands x (insert_key nat_cmp ys k)) →
        Stands x (match_ordering o (k ∷ y ∷ ys) (y ∷ ys) (y ∷ insert_key nat_cmp ys k))
    by Less r rest = inr r
    by Equal r rest = r
    by Greater (inl e) rest = inl e
    by Greater (inr r) rest = inr (rest r)

folded : (x : ℕ) (ns ks : List ℕ) → Stands x (fold (insert_key nat_cmp) ks ns) → Stands x ks ⊎ Stands x ns
folded x [] ks h = inl h
folded x (n ∷ ns) ks h =
    elim (folded x ns (insert_key nat_cmp ks n) h) [
      | inl r ↦ elim (inserted x n ks r) [ inl e ↦ inr (inl e) | inr t ↦ inl t ]
      | inr r ↦ inr (inr r)
    ]

fold_old : (x : ℕ) (ns ks : List ℕ) → Stands x ks → Stands x (fold (insert_key nat_cmp) ks ns)
fold_old x [] ks h = h
fold_old x (n ∷ ns) ks h = fold_old x ns (insert_key nat_cmp ks n) (insert_old x n ks h)

fold_new : (x : ℕ) (ns ks : List ℕ) → Stands x ns → Stands x (fold (insert_key nat_cmp) ks ns)
fold_new x [] ks h = absurd h
fold_new x (n ∷ ns) ks (inl e) =
    fold_old x ns (insert_key nat_cmp ks n) (subst (λ (m : ℕ). Stands m (insert_key nat_cmp ks n)) e (insert_new n ks))
fold_new x (n ∷ ns) ks (inr r) = fold_new x ns (insert_key nat_cmp ks n) r

pub of_rising : (x : ℕ) (ns : List ℕ) → Stands x (rising ns) → Stands x ns
of_rising x ns h = elim (folded x ns [] h) [ inl none ↦ absurd none | inr r ↦ r ]

pub in_rising : (x : ℕ) (ns : List ℕ) → Stands x ns → Stands x (rising ns)
in_rising x ns h = fold_new x ns [] h

-- ---- other lists

pub of_filter : {X : Type 0} (p : X → Bool) (x : X) (xs : List X) → Stands x (filter p xs) → Stands x xs × (p x ≡ true)
of_filter p x [] h = absurd h
of_filter {X} p x (y ∷ ys) h = by (p y) refl h (λ r. of_filter p x ys r)
  where
    by : (b : Bool) → p y ≡ b → Stands x (cond b (y ∷ filter p ys) (filter p ys)) →
        (Stands x (filter p ys) → Stands x ys × (p x ≡ true)) → Stands x (y ∷ ys) × (p x ≡ true)
    by true e (inl same) rest = (inl same, subst (λ (z : X). p z ≡ true) same e)
    by true e (inr r) rest = (inr (rest r).0, (rest r).1)
    by false e r rest = (inr (rest r).0, (rest r).1)

pub in_filter : {X : Type 0} (p : X → Bool) (x : X) (xs : List X) → Stands x xs → p x ≡ true → Stands x (filter p xs)
in_filter p x [] h t = absurd h
in_filter {X} p x (y ∷ ys) h t = by (p y) refl h (λ r. in_filter p x ys r t)
  where
    by : (b : Bool) → p y ≡ b →
        Stands x (y ∷ ys) → (Stands x ys → Stands x (filter p ys)) → Stands x (cond b (y ∷ filter p ys) (filter p ys))
    by true e (inl same) rest = inl same
    by true e (inr r) rest = inr (rest r)
    by false e (inl same) rest = absurd (true≢false (sym t ∙ (ap p (sym same) ∙ e)))
    by false e (inr r) rest = rest r

pub of_filter_map : {X Y : Type 0} (h : X → Option Y) (y : Y) (xs : List X) →
    Stands y (filter_map h xs) → (x : X) × Stands x xs × (h x ≡ Some y)
of_filter_map h y [] s = absurd s
of_filter_map {X} {Y} h y (x ∷ xs) s = by (h x) refl s (λ r. of_filter_map h y xs r)
  where
    by : (o : Option Y) → h x ≡ o → Stands y (cons_option o (filter_map h xs)) → (Stands y (filter_map h xs) →
        (z : X) × Stands z xs × (h z ≡ Some y)) → (z : X) × Stands z (x ∷ xs) × (h z ≡ Some y)
    by None e r rest = let t = rest r in (t.0, inr t.1, t.2)
    by (Some w) e (inl same) rest = (x, inl refl, e ∙ ap Some same)
    by (Some w) e (inr r) rest = let t = rest r in (t.0, inr t.1, t.2)

pub in_filter_map : {X Y : Type 0} (h : X → Option Y) (x : X) (y : Y) (xs : List X) →
    Stands x xs → h x ≡ Some y → Stands y (filter_map h xs)
in_filter_map h x y [] s e = absurd s
in_filter_map {X} {Y} h x y (z ∷ xs) s e = by (h z) refl s (λ r. in_filter_map h x y xs r e)
  where
    some : (o : Option Y) → o ≡ Some y → Stands y (cons_option o (filter_map h xs))
    some None f = absurd (cc)
    some (Some w) f = let same : w ≡ y = cc in inl same

    keep : (o : Option Y) → Stands y (filter_map h xs) → Stands y (cons_option o (filter_map h xs))
    keep None r = r
    keep (Some w) r = inr r

    by : (o : Option Y) → h z ≡ o →
        Stands x (z ∷ xs) → (Stands x xs → Stands y (filter_map h xs)) → Stands y (cons_option o (filter_map h xs))
    by o f (inl same) rest = some o (sym f ∙ (ap h same ∙ e))
    by o f (inr r) rest = keep o (rest r)

of_append : {X : Type 0} (x : X) (a b : List X) → Stands x (a ++ b) → Stands x a ⊎ Stands x b
of_append x [] b h = inr h
of_append x (y ∷ a) b (inl e) = inl (inl e)
of_append x (y ∷ a) b (inr h) = elim (of_append x a b h) [ inl r ↦ inl (inr r) | inr r ↦ inr r ]

in_front : {X : Type 0} (x : X) (a b : List X) → Stands x a → Stands x (a ++ b)
in_front x [] b h = absurd h
in_front x (y ∷ a) b (inl e) = inl e
in_front x (y ∷ a) b (inr h) = inr (in_front x a b h)

in_rest : {X : Type 0} (x : X) (a b : List X) → Stands x b → Stands x (a ++ b)
in_rest x [] b h = h
in_rest x (y ∷ a) b h = inr (in_rest x a b h)

pub of_flat_map : {X Y : Type 0} (f : X → List Y) (y : Y) (xs : List X) →
    Stands y (flat_map f xs) → (x : X) × Stands x xs × Stands y (f x)
of_flat_map f y [] h = absurd h
of_flat_map f y (x ∷ xs) h =
    elim (of_append y (f x) (flat_map f xs) h) [
      | inl r ↦ (x, inl refl, r)
      | inr r ↦ (let t = of_flat_map f y xs r in (t.0, inr t.1, t.2))
    ]

pub in_flat_map : {X Y : Type 0} (f : X → List Y) (x : X) (y : Y) (xs : List X) →
    Stands x xs → Stands y (f x) → Stands y (flat_map f xs)
in_flat_map f x y [] s h = absurd s
in_flat_map {X} {Y} f x y (z ∷ xs) (inl e) h =
    in_front y (f z) (flat_map f xs) (subst (λ (w : X). Stands y (f w)) (sym e) h)
in_flat_map f x y (z ∷ xs) (inr r) h = in_rest y (f z) (flat_map f xs) (in_flat_map f x y xs r h)

pub of_ids : (x count start : ℕ) → Stands x (ids_from count start) → (start ≤ x) × (x < start + count)
of_ids x zero start h = absurd h
of_ids x (suc count) start (inl e) = (omega arith, omega arith)
of_ids x (suc count) start (inr h) = let r = of_ids x count (start + 1) h in (omega (arith, r.0), omega (arith, r.1))

pub in_ids : (x count start : ℕ) → start ≤ x → x < start + count → Stands x (ids_from count start)
in_ids x zero start lo hi = absurd (omega arith)
in_ids x (suc count) start lo hi =
    elim (cases_eq start x) [
      | inl same ↦ inl same
      | inr differ ↦ inr (in_ids x count (start + 1) (elim (cases_lt start x) [
        | inl less ↦ omega arith
        | inr le ↦ absurd (differ (omega arith))
      ]) (omega arith))
    ]

-- some item passes
pub of_any : {X : Type 0} (p : X → Bool) (xs : List X) → list_any p xs ≡ true → (x : X) × Stands x xs × (p x ≡ true)
of_any p [] h = absurd (true≢false (sym h))
of_any p (x ∷ xs) h =
    elim (or_cases (p x) (list_any p xs) h) [
      | inl t ↦ (x, inl refl, t)
      | inr t ↦ (let r = of_any p xs t in (r.0, inr r.1, r.2))
    ]

pub in_any : {X : Type 0} (p : X → Bool) (x : X) (xs : List X) → Stands x xs → p x ≡ true → list_any p xs ≡ true
in_any p x [] s t = absurd s
in_any {X} p x (y ∷ ys) (inl e) t = or_left (p y) (list_any p ys) (subst (λ (z : X). p z ≡ true) (sym e) t)
in_any p x (y ∷ ys) (inr r) t = or_right (p y) (list_any p ys) (in_any p x ys r t)
