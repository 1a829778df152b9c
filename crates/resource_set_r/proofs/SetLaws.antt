-- Numbers that are put in rising order.
use Rattle.std.proofs.Common.{◌≡◌, ℕ, zero, suc, ◌-◌, List, [], ◌∷◌, ◌++◌, fold, length, slice_get, Some}
use Rattle.std.proofs.Common.{refl, sym, ◌∙◌, ap, subst, arith, append_assoc}
use Rattle.std.specs.List.{AllByRecursion}
use Rattle.std.specs.List.Sorted.{IsStrictlySortedBy}
use Rattle.std.specs.Ordering.{nat_cmp, match_ordering}
use Rattle.std.specs.declared.cmp.Ordering.{Ordering}
use Rattle.std.specs.declared.cmp.Ordering.TheVariants.{Less, Equal, Greater}
use Rattle.std.specs.BTreeSet.{insert_key}
use Rattle.std.proofs.lemmas.Bool.Decides.{nat_tests}
use Rattle.std.proofs.lemmas.List.{append-nil}
use Rattle.std.proofs.lemmas.Option.{slice_get_within}
use Rattle.resource_set_r.specs.Rows.{rising}

greater_than : (a b : ℕ) → nat_cmp a b ≡ Less → nat_cmp b a ≡ Greater
greater_than a b less = grind (arith, nat_tests)

equal_to_itself : (a : ℕ) → nat_cmp a a ≡ Equal
equal_to_itself a = grind (arith, nat_tests)

-- ---- one number more

added_to : (xs ks : List ℕ) (n : ℕ) →
    fold (insert_key nat_cmp) ks (xs ++ n ∷ []) ≡ insert_key nat_cmp (fold (insert_key nat_cmp) ks xs) n
added_to [] ks n = refl
added_to (x ∷ xs) ks n = added_to xs (insert_key nat_cmp ks x) n

pub added : (xs : List ℕ) (n : ℕ) → rising (xs ++ n ∷ []) ≡ insert_key nat_cmp (rising xs) n
added xs n = added_to xs [] n

-- ---- a number that was the last one

twice : (ks : List ℕ) (n : ℕ) → insert_key nat_cmp (insert_key nat_cmp ks n) n ≡ insert_key nat_cmp ks n
twice [] n = rw (equal_to_itself n) refl
twice (x ∷ xs) n = by (nat_cmp n x) refl (twice xs n)
  where
    by : (o : Ordering) → nat_cmp n x ≡ o →
        insert_key nat_cmp (insert_key nat_cmp xs n) n ≡ insert_key nat_cmp xs n →
        insert_key nat_cmp (match_ordering o (n ∷ x ∷ xs) (x ∷ xs) (x ∷ insert_key nat_cmp xs n)) n
        ≡ match_ordering o (n ∷ x ∷ xs) (x ∷ xs) (x ∷ insert_key nat_cmp xs n)
    by Less e rest = rw (equal_to_itself n) refl
    by Equal e rest = rw e refl
    by Greater e rest = rw e (ap (λ ys. x ∷ ys) rest)

last_again : (xs ks : List ℕ) (k n : ℕ) → suc k ≡ length xs → slice_get xs k ≡ Some n →
    insert_key nat_cmp (fold (insert_key nat_cmp) ks xs) n ≡ fold (insert_key nat_cmp) ks xs
last_again [] ks k n long at = absurd (omega (arith, long))
last_again (x ∷ []) ks zero n long at =
    let same : x ≡ n = cc in
    subst (λ (m : ℕ). insert_key nat_cmp (insert_key nat_cmp ks x) m ≡ insert_key nat_cmp ks x) same (twice ks x)
last_again (x ∷ []) ks (suc k) n long at = absurd (omega (arith, long))
last_again (x ∷ y ∷ ys) ks zero n long at = absurd (omega (arith, long))
last_again (x ∷ y ∷ ys) ks (suc k) n long at =
    last_again (y ∷ ys) (insert_key nat_cmp ks x) k n (omega (arith, long)) at

-- a slice shows the list
pub already : (seen xs : List ℕ) → seen ≡ xs → (n : ℕ) → slice_get seen (length seen - 1) ≡ Some n →
    rising xs ≡ insert_key nat_cmp (rising xs) n
already seen xs same n at =
    let here : slice_get xs (length xs - 1) ≡ Some n =
    subst (λ (l : List ℕ). slice_get l (length l - 1) ≡ Some n) same at in
    let within = slice_get_within xs (length xs - 1) n here in
    sym (last_again xs [] (length xs - 1) n (omega (arith, within)) here)

-- ---- numbers that rise already

at_end : (xs : List ℕ) (n : ℕ) → AllByRecursion (λ x. nat_cmp x n ≡ Less) xs →
    insert_key nat_cmp xs n ≡ xs ++ n ∷ []
at_end [] n all = refl
at_end (x ∷ xs) n all = rw (greater_than x n all.0) (ap (λ ys. x ∷ ys) (at_end xs n all.1))

among : (k : ℕ) (ks : List ℕ) (n : ℕ) (xs : List ℕ) →
    AllByRecursion (λ y. nat_cmp k y ≡ Less) (ks ++ n ∷ xs) → nat_cmp k n ≡ Less
among k [] n xs all = all.0
among k (y ∷ ks) n xs all = among k ks n xs all.1

before_all : (ks : List ℕ) (n : ℕ) (xs : List ℕ) → IsStrictlySortedBy nat_cmp (ks ++ n ∷ xs) →
    AllByRecursion (λ k. nat_cmp k n ≡ Less) ks
unfolding IsStrictlySortedBy
before_all [] n xs s = tt
before_all (k ∷ ks) n xs s = (among k ks n xs s.0, before_all ks n xs s.1)

in_order_from : (xs ks : List ℕ) → IsStrictlySortedBy nat_cmp (ks ++ xs) →
    fold (insert_key nat_cmp) ks xs ≡ ks ++ xs
in_order_from [] ks s = sym (append-nil ks)
in_order_from (x ∷ xs) ks s =
    let end : insert_key nat_cmp ks x ≡ ks ++ x ∷ [] = at_end ks x (before_all ks x xs s) in
    let moved : (ks ++ x ∷ []) ++ xs ≡ ks ++ x ∷ xs = append_assoc ks (x ∷ []) xs in
    ap (λ ys. fold (insert_key nat_cmp) ys xs) end
    ∙ (in_order_from xs (ks ++ x ∷ []) (subst (λ (l : List ℕ). IsStrictlySortedBy nat_cmp l) (sym moved) s) ∙ moved)

pub rising_itself : (xs : List ℕ) → IsStrictlySortedBy nat_cmp xs → rising xs ≡ xs
rising_itself xs s = in_order_from xs [] s
