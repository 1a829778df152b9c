-- Numbers in rising order.
use Rattle.std.proofs.Common.{◌≡◌, ℕ, Bool, true, false, List, [], ◌∷◌, ◌++◌, fold, refl, sym, subst, arith}
use Rattle.std.proofs.Common.{append_assoc, if◌then◌else◌}
use Rattle.std.specs.List.{All, AllByRecursion}
use Rattle.std.specs.List.Sorted.{IsStrictlySortedBy, IsStrictlyIncreasing}
use Rattle.std.specs.Ordering.{nat_cmp, match_ordering}
use Rattle.std.specs.declared.cmp.Ordering.{Ordering}
use Rattle.std.specs.declared.cmp.Ordering.TheVariants.{Less, Equal, Greater}
use Rattle.std.specs.BTreeSet.{insert_key}
use Rattle.std.proofs.lemmas.Bool.Decides.{nat_tests}
use Rattle.std.proofs.lemmas.List.Elements.{All-from_recursion}
use Rattle.std.proofs.lemmas.Map.Keys.{IsStrictlyIncreasing-from_sorted, sorted_from_strictly_increasing}
use Rattle.resource_set_r.specs.declared.rows.Children.{Children}
use Rattle.resource_set_r.specs.declared.rows.Element.{Element}
use Rattle.resource_set_r.specs.Rows.{rising, is_same, with_rank, element_of, elements_from, elements}
use Rattle.resource_set_r.specs.WrittenR.{RisesWithin}

less_trans : (a b c : ℕ) → nat_cmp a b ≡ Less → nat_cmp b c ≡ Less → nat_cmp a c ≡ Less
less_trans a b c p q = grind (arith, nat_tests)

greater_less : (a b : ℕ) → nat_cmp a b ≡ Greater → nat_cmp b a ≡ Less
greater_less a b p = grind (arith, nat_tests)

all_less : (a b : ℕ) (xs : List ℕ) →
    nat_cmp a b ≡ Less → AllByRecursion (λ y. nat_cmp b y ≡ Less) xs → AllByRecursion (λ y. nat_cmp a y ≡ Less) xs
all_less a b [] h all = tt
all_less a b (x ∷ xs) h all = (less_trans a b x h all.0, all_less a b xs h all.1)

all_insert : (a k : ℕ) (xs : List ℕ) → nat_cmp a k ≡ Less →
    AllByRecursion (λ y. nat_cmp a y ≡ Less) xs → AllByRecursion (λ y. nat_cmp a y ≡ Less) (insert_key nat_cmp xs k)
all_insert a k [] h all = (h, tt)
all_insert a k (x ∷ xs) h all = by (nat_cmp k x) (all_insert a k xs h all.1)
  where
    by : (o : Ordering) → AllByRecursion (λ y. nat_cmp a y ≡ Less) (insert_key nat_cmp xs k) →
        AllByRecursion (λ y. nat_cmp a y ≡ Less) (match_ordering o (k ∷ x ∷ xs) (x ∷ xs) (x ∷ insert_key nat_cmp xs k))
    by Less rest = (h, all)
    by Equal rest = all
    by Greater rest = (all.0, rest)

-- a number put among rising ones leaves them rising
sorted_insert : (k : ℕ) (xs : List ℕ) →
    IsStrictlySortedBy nat_cmp xs → IsStrictlySortedBy nat_cmp (insert_key nat_cmp xs k)
unfolding IsStrictlySortedBy
sorted_insert k [] s = (tt, tt)
sorted_insert k (x ∷ xs) s = by (nat_cmp k x) refl (sorted_insert k xs s.1)
  where
    by : (o : Ordering) → nat_cmp k x ≡ o → IsStrictlySortedBy nat_cmp (insert_key nat_cmp xs k) →
        IsStrictlySortedBy nat_cmp (match_ordering o (k ∷ x ∷ xs) (x ∷ xs) (x ∷ insert_key nat_cmp xs k))
    by Less e rest = ((e, all_less k x xs e s.0), s)
    by Equal e rest = s
    by Greater e rest = (all_insert x k xs (greater_less k x e) s.0, rest)

sorted_fold : (ns ks : List ℕ) →
    IsStrictlySortedBy nat_cmp ks → IsStrictlySortedBy nat_cmp (fold (insert_key nat_cmp) ks ns)
sorted_fold [] ks s = s
sorted_fold (n ∷ ns) ks s = sorted_fold ns (insert_key nat_cmp ks n) (sorted_insert n ks s)

sorted_nil : IsStrictlySortedBy nat_cmp []
unfolding IsStrictlySortedBy
sorted_nil = tt

pub rising_sorted : (ns : List ℕ) → IsStrictlySortedBy nat_cmp (rising ns)
rising_sorted ns = sorted_fold ns [] sorted_nil

pub rising_increases : (ns : List ℕ) → IsStrictlyIncreasing (rising ns)
rising_increases ns = IsStrictlyIncreasing-from_sorted (rising ns) (rising_sorted ns)

-- ---- the two parts of a rising list

all_front : (a : ℕ) (xs ys : List ℕ) →
    AllByRecursion (λ y. nat_cmp a y ≡ Less) (xs ++ ys) → AllByRecursion (λ y. nat_cmp a y ≡ Less) xs
all_front a [] ys h = tt
all_front a (x ∷ xs) ys h = (h.0, all_front a xs ys h.1)

pub sorted_front : (xs ys : List ℕ) → IsStrictlySortedBy nat_cmp (xs ++ ys) → IsStrictlySortedBy nat_cmp xs
unfolding IsStrictlySortedBy
sorted_front [] ys s = tt
sorted_front (x ∷ xs) ys s = (all_front x xs ys s.0, sorted_front xs ys s.1)

pub sorted_rest : (xs ys : List ℕ) → IsStrictlySortedBy nat_cmp (xs ++ ys) → IsStrictlySortedBy nat_cmp ys
unfolding IsStrictlySortedBy
sorted_rest [] ys s = s
sorted_rest (x ∷ xs) ys s = sorted_rest xs ys s.1

-- ---- elements

abbrev HaveRising : (ℕ → Children) → Type 0
HaveRising children =
    (rank : ℕ) → IsStrictlyIncreasing (children rank).cores × IsStrictlyIncreasing (children rank).gpus

rises : (last : Element) (ranks : List ℕ) → IsStrictlySortedBy nat_cmp (last.ranks ++ ranks) →
    IsStrictlyIncreasing last.children.cores → IsStrictlyIncreasing last.children.gpus → RisesWithin last
rises last ranks s cores gpus = record {
  ranks = IsStrictlyIncreasing-from_sorted last.ranks
      (sorted_front last.ranks ranks s);
  cores = cores;
  gpus = gpus;
}

rise_from : (children : ℕ → Children) →
    HaveRising children → (last : Element) (ranks : List ℕ) → IsStrictlySortedBy nat_cmp (last.ranks ++ ranks) →
    IsStrictlyIncreasing last.children.cores →
    IsStrictlyIncreasing last.children.gpus → AllByRecursion RisesWithin (elements_from children last ranks)
rise_from children have last [] s cores gpus = (rises last [] s cores gpus, tt)
rise_from children have last (rank ∷ ranks) s cores gpus =
    let P : List ℕ → Type 0 = λ xs. IsStrictlySortedBy nat_cmp xs in
    by (is_same last.children (children rank)) (rise_from children have
    (with_rank last rank) ranks (subst P (sym (append_assoc last.ranks (rank ∷ []) ranks)) s) cores gpus)
    (rise_from children have
    (element_of rank (children rank)) ranks (sorted_rest last.ranks (rank ∷ ranks) s) (have rank).0 (have rank).1)
  where
    by : (b : Bool) → AllByRecursion RisesWithin (elements_from children (with_rank last rank) ranks) →
        AllByRecursion RisesWithin (elements_from children (element_of rank (children rank)) ranks) →
        AllByRecursion RisesWithin (if b then elements_from children (with_rank last rank) ranks
        else (last ∷ elements_from children (element_of rank (children rank)) ranks))
    by true joined new = joined
    by false joined new = (rises last (rank ∷ ranks) s cores gpus, new)

pub elements_rise : (children : ℕ → Children) →
    HaveRising children → (ranks : List ℕ) → IsStrictlyIncreasing ranks → All RisesWithin (elements children ranks)
elements_rise children have ranks up =
    All-from_recursion RisesWithin (elements children ranks) (by ranks (sorted_from_strictly_increasing ranks up))
  where
    by : (ranks : List ℕ) → IsStrictlySortedBy nat_cmp ranks → AllByRecursion RisesWithin (elements children ranks)
    by [] s = tt
    by (rank ∷ ranks) s = rise_from children have (element_of rank (children rank)) ranks s (have rank).0 (have rank).1
