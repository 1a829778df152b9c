-- Laws of lists.
use Rattle.std.proofs.Common.{◌≡◌, ◌≢◌, ℕ, zero, suc, ◌+◌, ◌<◌, ◌≤◌, ◌∙◌, refl, sym, ap, subst, arith, List, [], ◌∷◌}
use Rattle.std.proofs.Common.{◌++◌, length, length-append, ◌⊎◌, inl, inr, IsTrue, true≢false, Contains, get_or, map}
use Rattle.std.proofs.Common.{Bool, true, false, cond, filter, take, drop, Some, slice_get, slice_set}
use Rattle.std.specs.List.{AllByRecursion, list_any}
use Rattle.std.proofs.lemmas.Bool.{or_cases, or_left, or_right}
use Rattle.std.proofs.lemmas.List.{take_more}
use Rattle.std.proofs.lemmas.List.Elements.{All-from_recursion}
use Rattle.std.proofs.lemmas.Option.{slice_get_within, get_or_from_slice_get}
use mathlib.Core.List.{IsPrefix}

-- what holds of two lists' elements holds of both lists'
pub all_append : {X : Type 0} (P : X → Type 0) (xs ys : List X) →
    AllByRecursion P xs → AllByRecursion P ys → AllByRecursion P (xs ++ ys)
all_append P [] ys h k = k
all_append P (x ∷ xs) ys h k = (h.0, all_append P xs ys h.1 k)

-- it holds of those that pass a test
pub all_filter : {X : Type 0} (P : X → Type 0) (keep : X → Bool) (xs : List X) →
    AllByRecursion P xs → AllByRecursion P (filter keep xs)
all_filter P keep [] h = tt
all_filter {X} P keep (x ∷ xs) h = by_test (keep x) (all_filter P keep xs h.1)
  where
    by_test : (b : Bool) →
        AllByRecursion P (filter keep xs) → AllByRecursion P (cond b (x ∷ filter keep xs) (filter keep xs))
    by_test true rest = (h.0, rest)
    by_test false rest = rest

-- and what follows from it holds of each
pub all_along : {X : Type 0} (P Q : X → Type 0) →
    ((x : X) → P x → Q x) → (xs : List X) → AllByRecursion P xs → AllByRecursion Q xs
all_along P Q along [] h = tt
all_along P Q along (x ∷ xs) h = (along x h.0, all_along P Q along xs h.1)

-- what holds of each element holds of the list
pub all_from : {X : Type 0} (P : X → Type 0) (xs : List X) →
    ((i : ℕ) (x : X) → slice_get xs i ≡ Some x → P x) → AllByRecursion P xs
all_from P [] each = tt
all_from P (x ∷ xs) each = (each 0 x refl, all_from P xs (λ i. each (suc i)))

-- what holds of the images of all holds of all images
pub all_mapped : {X Y : Type 0} (P : Y → Type 0) (f : X → Y) (xs : List X) →
    AllByRecursion (λ x. P (f x)) xs → AllByRecursion P (map f xs)
all_mapped P f [] h = tt
all_mapped P f (x ∷ xs) h = (h.0, all_mapped P f xs h.1)

-- it holds of the element at an index
pub all_at : {X : Type 0} (P : X → Type 0) (xs : List X) (i : ℕ) (x : X) →
    AllByRecursion P xs → slice_get xs i ≡ Some x → P x
all_at P [] i x all e = absurd (cc)
all_at P (y ∷ ys) zero x all e = let same : y ≡ x = cc in subst P same all.0
all_at P (y ∷ ys) (suc i) x all e = all_at P ys i x all.1 e

-- it holds of an element that the list has
pub all_contained : {X : Type 0} (P : X → Type 0) (xs : List X) (x : X) → AllByRecursion P xs → Contains xs x → P x
all_contained P xs x all (i, within, is) = subst P is (All-from_recursion P xs all i x within)

-- it holds of an element between two parts
pub all_at_middle : {X : Type 0} (P : X → Type 0) (xs : List X) (x : X) (rest : List X) →
    AllByRecursion P (xs ++ x ∷ rest) → P x
all_at_middle P [] x rest h = h.0
all_at_middle P (y ∷ xs) x rest h = all_at_middle P xs x rest h.1

-- an empty list has no element
pub contains_none : {X : Type 0} (x : X) → Contains [] x → ⊥
contains_none x (i, within, is) = omega (arith, within)

-- a list with one more in front has what the list has
pub contains_more : {X : Type 0} (y : X) (xs : List X) (x : X) → Contains xs x → Contains (y ∷ xs) x
contains_more y xs x (i, within, is) = (suc i, omega (arith, within), is)

-- and the list of the images has the image of the element at an index
pub contains_mapped : {X Y : Type 0} (f : X → Y) (xs : List X) (x : X) (i : ℕ) → i < length xs → get_or xs i x ≡ x →
    Contains (map f xs) (f x)
contains_mapped f [] x i within e = absurd (omega arith)
contains_mapped f (y ∷ ys) x zero within e = (0, omega arith, ap f e)
contains_mapped f (y ∷ ys) x (suc i) within e =
    let r = contains_mapped f ys x i (omega arith) e in contains_more (f y) (map f ys) (f x) r

-- where each that passes the first test passes one of two others, and some pass the first, some pass one of these
pub any_either : {X : Type 0} (s a b : X → Bool) → ((x : X) → IsTrue (s x) → IsTrue (a x) ⊎ IsTrue (b x)) →
    (xs : List X) → IsTrue (list_any s xs) → IsTrue (list_any a xs) ⊎ IsTrue (list_any b xs)
any_either s a b h [] some = absurd (true≢false (sym some))
any_either s a b h (x ∷ xs) some = elim (or_cases (s x) (list_any s xs) some) [
  | inl now ↦ elim (h x now) [
    | inl p ↦ inl (or_left (a x) (list_any a xs) p)
    | inr q ↦ inr (or_left (b x) (list_any b xs) q)
  ]
  | inr later ↦ elim (any_either s a b h xs later) [
    | inl p ↦ inl (or_right (a x) (list_any a xs) p)
    | inr q ↦ inr (or_right (b x) (list_any b xs) q)
  ]
]

-- an item that passes one test passes another
pub any_along : {X : Type 0} (s t : X → Bool) → ((x : X) → IsTrue (s x) → IsTrue (t x)) →
    (xs : List X) → IsTrue (list_any s xs) → IsTrue (list_any t xs)
any_along s t h [] some = some
any_along s t h (x ∷ xs) some = elim (or_cases (s x) (list_any s xs) some) [
  | inl now ↦ or_left (t x) (list_any t xs) (h x now)
  | inr later ↦ or_right (t x) (list_any t xs) (any_along s t h xs later)
]

-- the rest of a list from an index on begins with the element there
pub drop_here : {X : Type 0} (xs : List X) (k : ℕ) (x : X) → slice_get xs k ≡ Some x → drop k xs ≡ x ∷ drop (k + 1) xs
drop_here [] k x e = absurd (cc)
drop_here (y ∷ ys) zero x e = let same : y ≡ x = cc in ap (λ z. z ∷ ys) same
drop_here (y ∷ ys) (suc k) x e =
    let next : suc (k + 1) ≡ suc k + 1 = omega arith in drop_here ys k x e ∙ ap (λ n. x ∷ drop n (y ∷ ys)) next

-- and the element with which it begins is there
pub get_first : {X : Type 0} (xs rest : List X) (k : ℕ) (x : X) → drop k xs ≡ x ∷ rest → slice_get xs k ≡ Some x
get_first [] rest zero x e = absurd (cc)
get_first [] rest (suc k) x e = absurd (cc)
get_first (y ∷ ys) rest zero x e = let same : y ≡ x = cc in ap Some same
get_first (y ∷ ys) rest (suc k) x e = get_first ys rest k x e

-- the elements up to an index and the one there
pub take_next : {X : Type 0} (xs : List X) (i : ℕ) (x : X) →
    slice_get xs i ≡ Some x → take (i + 1) xs ≡ take i xs ++ x ∷ []
take_next xs i x here =
    let within = slice_get_within xs i x here in
    take_more xs i x within ∙ ap (λ y. take i xs ++ y ∷ []) (get_or_from_slice_get xs i x x here)

-- an index within a list has an element
pub get_some : {X : Type 0} (xs : List X) (i : ℕ) → i < length xs → (x : X) × (slice_get xs i ≡ Some x)
get_some [] i within = absurd (omega arith)
get_some (x ∷ xs) zero within = (x, refl)
get_some (x ∷ xs) (suc i) within = get_some xs i (omega arith)

-- an element of a list with one more is one of the list, or that one
pub last_or : {X : Type 0} (xs : List X) (z y : X) (i : ℕ) → slice_get (xs ++ z ∷ []) i ≡ Some y →
    (slice_get xs i ≡ Some y) ⊎ ((i ≡ length xs) × (z ≡ y))
last_or [] z y zero e = inr (refl, cc)
last_or [] z y (suc i) e = absurd (cc)
last_or (x ∷ xs) z y zero e = inl e
last_or (x ∷ xs) z y (suc i) e = elim (last_or xs z y i e) [
  | inl there ↦ inl there
  | inr last ↦ inr (ap suc last.0, last.1)
]

-- in a list with one more at its end those of the list stay, and that one is the last
pub get_old : {X : Type 0} (xs : List X) (z x : X) (i : ℕ) →
    slice_get xs i ≡ Some x → slice_get (xs ++ z ∷ []) i ≡ Some x
get_old [] z x i here = absurd (cc)
get_old (y ∷ ys) z x zero here = here
get_old (y ∷ ys) z x (suc i) here = get_old ys z x i here

pub get_last : {X : Type 0} (xs : List X) (z : X) → slice_get (xs ++ z ∷ []) (length xs) ≡ Some z
get_last [] z = refl
get_last (x ∷ xs) z = get_last xs z

-- an element that is put at an index is there, the others stay, and the list is as long as before
pub get_set : {X : Type 0} (xs : List X) (i : ℕ) (x : X) → i < length xs → slice_get (slice_set xs i x) i ≡ Some x
get_set [] i x within = absurd (omega arith)
get_set (y ∷ ys) zero x within = refl
get_set (y ∷ ys) (suc i) x within = get_set ys i x (omega arith)

pub get_beside : {X : Type 0} (xs : List X) (i other : ℕ) (x : X) → other ≢ i →
    slice_get (slice_set xs i x) other ≡ slice_get xs other
get_beside [] i other x apart = refl
get_beside (y ∷ ys) zero zero x apart = absurd (apart refl)
get_beside (y ∷ ys) zero (suc other) x apart = refl
get_beside (y ∷ ys) (suc i) zero x apart = refl
get_beside (y ∷ ys) (suc i) (suc other) x apart = get_beside ys i other x (λ e. apart (omega arith))

pub set_length : {X : Type 0} (xs : List X) (i : ℕ) (x : X) → length (slice_set xs i x) ≡ length xs
set_length [] i x = refl
set_length (y ∷ ys) zero x = refl
set_length (y ∷ ys) (suc i) x = ap suc (set_length ys i x)

-- of two elements that are put at an index the later one is there
pub set_twice : {X : Type 0} (xs : List X) (i : ℕ) (x y : X) → slice_set (slice_set xs i x) i y ≡ slice_set xs i y
set_twice [] i x y = refl
set_twice (z ∷ xs) zero x y = refl
set_twice (z ∷ xs) (suc i) x y = ap (λ ys. z ∷ ys) (set_twice xs i x y)

-- putting the element back that is there changes nothing
pub set_back : {X : Type 0} (xs : List X) (i : ℕ) (x : X) → slice_get xs i ≡ Some x → slice_set xs i x ≡ xs
set_back [] i x here = refl
set_back (y ∷ ys) zero x here = (let e : x ≡ y = cc in ap (λ u. u ∷ ys) e)
set_back (y ∷ ys) (suc i) x here = ap (λ u. y ∷ u) (set_back ys i x here)

-- a beginning of a list is no longer than the list
pub prefix_length : {X : Type 0} (xs ys : List X) → IsPrefix xs ys → length xs ≤ length ys
prefix_length xs ys p = omega (arith, sym (ap length p.1) ∙ length-append xs p.0)

-- equal lists have equal first elements, and equal rests
pub heads : {X : Type 0} (x y : X) (xs ys : List X) → x ∷ xs ≡ y ∷ ys → x ≡ y
heads x y xs ys same = cc

pub tails : {X : Type 0} (x y : X) (xs ys : List X) → x ∷ xs ≡ y ∷ ys → xs ≡ ys
tails x y xs ys same = cc
