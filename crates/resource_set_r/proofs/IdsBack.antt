-- Ids that are written are read again, and what is known of the ids of a job.
use Rattle.std.proofs.Common.{◌≡◌, ℕ, zero, suc, ◌+◌, ◌-◌, ◌<◌, ◌≤◌, ◌==◌, ◌&&◌, nat_eq, nat_le, nat_lt, Bool}
use Rattle.std.proofs.Common.{true, false, List, [], ◌∷◌, ◌++◌, fold, Option, Some, None, Ok, refl, sym, ◌∙◌, ap, subst}
use Rattle.std.proofs.Common.{arith, cond, if◌then◌else◌, append_assoc, IsUtf8, decimal}
use Rattle.std.specs.List.{cons_option, AllByRecursion, filter_map, flat_map, count_by}
use Rattle.std.specs.List.Sorted.{IsStrictlySortedBy, IsStrictlyIncreasing}
use Rattle.std.specs.Ordering.{nat_cmp, match_ordering}
use Rattle.std.specs.declared.cmp.Ordering.{Ordering}
use Rattle.std.specs.declared.cmp.Ordering.TheVariants.{Less, Equal, Greater}
use Rattle.std.specs.BTreeSet.{insert_key}
use Rattle.std.proofs.lemmas.Bool.{ne_eqb, eqb-true}
use Rattle.std.proofs.lemmas.Bool.Decides.{nat_tests}
use Rattle.std.proofs.lemmas.List.Elements.{All-from_recursion}
use Rattle.std.proofs.lemmas.Str.{IsUtf8-append, IsUtf8-nil, is_utf8-from_IsUtf8}
use Rattle.json.proofs.Printed.Utf8.{IsUtf8-are_ascii}
use Rattle.json_written.specs.Texts.{readable}
use Rattle.idset_text.specs.declared.idsets.Range.{Range}
use Rattle.idset_text.specs.Idsets.{ids_from, ids_between, is_within, ids_of, runs_of, range_text, runs_text}
use Rattle.idset_text.specs.Idsets.{idset_text, Rises}
use Rattle.idset_text.proofs.IdsetTexts.{idset_of-runs_text, runs_rise, ids_rise, ids_of-runs_of}
use Rattle.resource_set_r.specs.declared.faults.FieldPath.{FieldPath}
use Rattle.resource_set_r.specs.declared.rows.Children.{Children}
use Rattle.resource_set_r.specs.declared.rows.Element.{Element}
use Rattle.resource_set_r.specs.Rows.{rising, is_same, with_rank, element_of, elements_from, elements}
use Rattle.resource_set_r.specs.ReadRows.{idset_read, idset_text_at, covers, IsRepeatedRank}
use Rattle.std.proofs.lemmas.Map.Keys.{IsStrictlyIncreasing-from_sorted, sorted_from_strictly_increasing}
use Rattle.std.proofs.lemmas.List.Sums.{sum_by-cons, sum_by-append}
use Rattle.flux_defs.specs.declared.limits.TheConstants.{NO_ID}
use Rattle.resource_set_r.proofs.Rising.{sorted_front, sorted_rest}
use Rattle.text_forms.proofs.Ascii.{utf8_decimal}
use Rattle.list_laws.proofs.Tests.{less_is_below}

abbrev pub Small : ℕ → Type 0
Small n = n < NO_ID

-- ids that can be written and read
pub record AreFine (ids : List ℕ) : Type 0 where
  pub rise : IsStrictlyIncreasing ids
  pub small : AllByRecursion Small ids

-- ---- one idset

utf8_range : (range : Range) → range.lo ≤ range.hi → range.hi < NO_ID → IsUtf8 (range_text range)
utf8_range range le small = by (range.lo == range.hi)
  where
    by : (b : Bool) → IsUtf8 (if b then decimal range.lo else (decimal range.lo ++ 45 ∷ decimal range.hi))
    by true = utf8_decimal range.lo (omega arith)
    by false =
        IsUtf8-append (decimal range.lo) (45 ∷ decimal range.hi) (utf8_decimal range.lo (omega arith)) (IsUtf8-append
        (45 ∷ []) (decimal range.hi) (IsUtf8-are_ascii (45 ∷ []) refl) (utf8_decimal range.hi (omega arith)))

utf8_runs : (least : ℕ) (runs : List Range) → Rises least runs → IsUtf8 (runs_text runs)
utf8_runs least [] r = IsUtf8-nil
utf8_runs least (run ∷ []) r = utf8_range run r.1.ordered r.1.small
utf8_runs least (run ∷ next ∷ runs) r =
    IsUtf8-append (range_text run) (44 ∷ runs_text (next ∷ runs)) (utf8_range run r.1.ordered r.1.small)
    (IsUtf8-append (44 ∷ [])
    (runs_text (next ∷ runs)) (IsUtf8-are_ascii (44 ∷ []) refl) (utf8_runs (run.hi + 1) (next ∷ runs) r.2))

runs_of_fine : (ids : List ℕ) → AreFine ids → Rises 0 (runs_of ids)
runs_of_fine ids fine =
    runs_rise 0 ids (ids_rise 0 ids (λ some. omega arith) fine.rise (All-from_recursion Small ids fine.small))

pub utf8_idset : (ids : List ℕ) → AreFine ids → IsUtf8 (idset_text ids)
utf8_idset ids fine = utf8_runs 0 (runs_of ids) (runs_of_fine ids fine)

pub readable_utf8 : (text : List ℕ) → IsUtf8 text → readable text ≡ text
readable_utf8 text u = ap (λ b. if b then text else []) (is_utf8-from_IsUtf8 text u)

-- the text of ids is read as their runs
pub text_back : (at : FieldPath) (ids : List ℕ) → AreFine ids →
    idset_text_at at (readable (idset_text ids)) ≡ Ok (runs_of ids)
text_back at ids fine =
    ap (idset_text_at at) (readable_utf8 (idset_text ids) (utf8_idset ids fine))
    ∙ ap (idset_read at) (idset_of-runs_text (runs_of ids) (runs_of_fine ids fine))

-- and these stand for the ids
pub ids_back : (ids : List ℕ) → AreFine ids → ids_of (runs_of ids) ≡ ids
ids_back ids fine =
    ids_of-runs_of 0 ids (ids_rise 0 ids (λ some. omega arith) fine.rise (All-from_recursion Small ids fine.small))

-- ---- sorted numbers

module _ (P : ℕ → Type 0) where
  all_insert : (k : ℕ) (ks : List ℕ) → P k → AllByRecursion P ks → AllByRecursion P (insert_key nat_cmp ks k)
  all_insert k [] p all = (p, tt)
  all_insert k (x ∷ xs) p all = by (nat_cmp k x) (all_insert k xs p all.1)
    where
      by : (o : Ordering) → AllByRecursion P (insert_key nat_cmp xs k) →
          AllByRecursion P (match_ordering o (k ∷ x ∷ xs) (x ∷ xs) (x ∷ insert_key nat_cmp xs k))
      by Less rest = (p, all)
      by Equal rest = all
      by Greater rest = (all.0, rest)

  all_fold : (ns ks : List ℕ) →
      AllByRecursion P ks → AllByRecursion P ns → AllByRecursion P (fold (insert_key nat_cmp) ks ns)
  all_fold [] ks a b = a
  all_fold (n ∷ ns) ks a b = all_fold ns (insert_key nat_cmp ks n) (all_insert n ks b.0 a) b.1

  pub all_rising : (ns : List ℕ) → AllByRecursion P ns → AllByRecursion P (rising ns)
  all_rising ns all = all_fold ns [] tt all

  pub all_found : {X : Type 0} (h : X → Option ℕ) (xs : List X) →
      ((x : X) (y : ℕ) → h x ≡ Some y → P y) → AllByRecursion P (filter_map h xs)
  all_found h [] each = tt
  all_found h (x ∷ xs) each = by (h x) refl (all_found h xs each)
    where
      by : (o : Option ℕ) →
          h x ≡ o → AllByRecursion P (filter_map h xs) → AllByRecursion P (cons_option o (filter_map h xs))
      by None e rest = rest
      by (Some y) e rest = (each x y e, rest)

  all_front : (xs ys : List ℕ) → AllByRecursion P (xs ++ ys) → AllByRecursion P xs
  all_front [] ys all = tt
  all_front (x ∷ xs) ys all = (all.0, all_front xs ys all.1)

  all_rest : (xs ys : List ℕ) → AllByRecursion P (xs ++ ys) → AllByRecursion P ys
  all_rest [] ys all = all
  all_rest (x ∷ xs) ys all = all_rest xs ys all.1

-- ---- elements

pub record IsFine (e : Element) : Type 0 where
  pub ranks : AreFine e.ranks
  pub cores : AreFine e.children.cores
  pub gpus : AreFine e.children.gpus

abbrev HaveFine : (ℕ → Children) → Type 0
HaveFine children = (rank : ℕ) → AreFine (children rank).cores × AreFine (children rank).gpus

fine_front : (xs ys : List ℕ) → AreFine (xs ++ ys) → AreFine xs
fine_front xs ys fine = record {
  rise =
      IsStrictlyIncreasing-from_sorted xs (sorted_front xs ys (sorted_from_strictly_increasing (xs ++ ys) fine.rise));
  small = all_front Small xs ys fine.small;
}

fine_rest : (xs ys : List ℕ) → AreFine (xs ++ ys) → AreFine ys
fine_rest xs ys fine = record {
  rise = IsStrictlyIncreasing-from_sorted ys (sorted_rest xs ys (sorted_from_strictly_increasing (xs ++ ys) fine.rise));
  small = all_rest Small xs ys fine.small;
}

fine_from : (children : ℕ → Children) → HaveFine children → (last : Element) (ranks : List ℕ) →
    AreFine (last.ranks ++ ranks) → AreFine last.children.cores → AreFine last.children.gpus →
    AllByRecursion IsFine (elements_from children last ranks)
fine_from children have last [] fine cores gpus =
    (record { ranks = fine_front last.ranks [] fine; cores = cores; gpus = gpus }, tt)
fine_from children have last (rank ∷ ranks) fine cores gpus =
    by (is_same last.children (children rank))
    (fine_from children have (with_rank last rank) ranks
    (subst (λ (xs : List ℕ). AreFine xs) (sym (append_assoc last.ranks (rank ∷ []) ranks)) fine) cores gpus)
    (fine_from children have
    (element_of rank (children rank)) ranks (fine_rest last.ranks (rank ∷ ranks) fine) (have rank).0 (have rank).1)
  where
    by : (b : Bool) → AllByRecursion IsFine (elements_from children (with_rank last rank) ranks) →
        AllByRecursion IsFine (elements_from children (element_of rank (children rank)) ranks) →
        AllByRecursion IsFine (if b then elements_from children (with_rank last rank) ranks
        else (last ∷ elements_from children (element_of rank (children rank)) ranks))
    by true joined new = joined
    by false joined new =
        (record { ranks = fine_front last.ranks (rank ∷ ranks) fine; cores = cores; gpus = gpus }, new)

pub elements_fine : (children : ℕ → Children) →
    HaveFine children → (ranks : List ℕ) → AreFine ranks → AllByRecursion IsFine (elements children ranks)
elements_fine children have [] fine = tt
elements_fine children have (rank ∷ ranks) fine =
    fine_from children have (element_of rank (children rank)) ranks fine (have rank).0 (have rank).1

-- the ranks of the elements are all ranks
ranks_from : (children : ℕ → Children) (last : Element) (ranks : List ℕ) →
    flat_map (λ e. e.ranks) (elements_from children last ranks) ≡ last.ranks ++ ranks
ranks_from children last [] = refl
ranks_from children last (rank ∷ ranks) = by (is_same last.children (children rank))
    (ranks_from children (with_rank last rank) ranks) (ranks_from children (element_of rank (children rank)) ranks)
  where
    by : (b : Bool) → flat_map (λ e. e.ranks) (elements_from children (with_rank last rank) ranks)
        ≡ (last.ranks ++ rank ∷ []) ++ ranks →
        flat_map (λ e. e.ranks) (elements_from children (element_of rank (children rank)) ranks) ≡ rank ∷ ranks →
        flat_map (λ e. e.ranks) (if b then elements_from children (with_rank last rank) ranks
        else (last ∷ elements_from children (element_of rank (children rank)) ranks)) ≡ last.ranks ++ rank ∷ ranks
    by true joined new = joined ∙ append_assoc last.ranks (rank ∷ []) ranks
    by false joined new = ap (λ xs. last.ranks ++ xs) new

pub ranks_of_elements : (children : ℕ → Children) (ranks : List ℕ) →
    flat_map (λ e. e.ranks) (elements children ranks) ≡ ranks
ranks_of_elements children [] = refl
ranks_of_elements children (rank ∷ ranks) = ranks_from children (element_of rank (children rank)) ranks

-- ---- no rank is covered twice

-- ranges have a number as often as it stands among their ids
in_ids : (count lo id : ℕ) →
    count_by (nat_eq id) (ids_from count lo) ≡ cond (nat_le lo id && nat_lt id (lo + count)) 1 0
in_ids zero lo id =
    let none : (nat_le lo id && nat_lt id (lo + 0)) ≡ false = grind (arith, nat_tests) in
    ap (λ b. cond b 1 0) (sym none)
in_ids (suc count) lo id =
    let step : count_by (nat_eq id) (lo ∷ ids_from count (lo + 1)) ≡ cond (nat_eq id lo) 1 0 + count_by (nat_eq id)
    (ids_from count (lo + 1)) = sum_by-cons (λ x. cond (nat_eq id x) 1 0) lo (ids_from count (lo + 1)) in
    let next : cond (nat_eq id lo) 1 0 + cond (nat_le (lo + 1) id && nat_lt id (lo + 1 + count)) 1 0
    ≡ cond (nat_le lo id && nat_lt id (lo + suc count)) 1 0 = grind (arith, nat_tests) in
    step ∙ ap (λ n. cond (nat_eq id lo) 1 0 + n) (in_ids count (lo + 1) id) ∙ next

within_ids : (range : Range) (id : ℕ) → count_by (nat_eq id) (ids_between range) ≡ cond (is_within range id) 1 0
within_ids range id =
    let same : cond (nat_le range.lo id && nat_lt id (range.lo + (range.hi + 1 - range.lo))) 1 0
    ≡ cond (nat_le range.lo id && nat_le id range.hi) 1 0 = grind (arith, nat_tests) in
    in_ids (range.hi + 1 - range.lo) range.lo id ∙ same

pub covers_ids : (ranges : List Range) (id : ℕ) → covers ranges id ≡ count_by (nat_eq id) (ids_of ranges)
covers_ids [] id = refl
covers_ids (range ∷ ranges) id =
    let one : covers (range ∷ ranges) id ≡ cond (is_within range id) 1 0 + covers ranges id =
    sum_by-cons (λ r. cond (is_within r id) 1 0) range ranges in
    let both : count_by (nat_eq id) (ids_between range ++ ids_of ranges)
    ≡ count_by (nat_eq id) (ids_between range) + count_by (nat_eq id) (ids_of ranges) =
    sum_by-append (λ x. cond (nat_eq id x) 1 0) (ids_between range) (ids_of ranges) in
    one ∙ ap (λ n. cond (is_within range id) 1 0 + n) (covers_ids ranges id)
    ∙ ap (λ n. n + count_by (nat_eq id) (ids_of ranges)) (sym (within_ids range id)) ∙ sym both

-- a number stands once at most among rising ones
none_above : (id x : ℕ) (xs : List ℕ) →
    AllByRecursion (λ y. nat_cmp x y ≡ Less) xs → id ≤ x → count_by (nat_eq id) xs ≡ 0
none_above id x [] all le = refl
none_above id x (y ∷ ys) all le =
    let lt : x < y = less_is_below x y all.0 in
    let other : nat_eq id y ≡ false = ne_eqb id y (λ e. omega arith) in
    let step : count_by (nat_eq id) (y ∷ ys) ≡ cond (nat_eq id y) 1 0 + count_by (nat_eq id) ys =
    sum_by-cons (λ z. cond (nat_eq id z) 1 0) y ys in
    let rest : count_by (nat_eq id) ys ≡ 0 = none_above id x ys all.1 le in
    let whole : count_by (nat_eq id) (y ∷ ys) ≡ 0 + count_by (nat_eq id) ys =
    step ∙ ap (λ (b : Bool). cond {A = ℕ} b 1 0 + count_by (nat_eq id) ys) other in
    omega (arith, whole, rest)

once : (id : ℕ) (xs : List ℕ) → IsStrictlySortedBy nat_cmp xs → count_by (nat_eq id) xs ≤ 1
unfolding IsStrictlySortedBy
once id [] s = omega arith
once id (x ∷ xs) s =
    let step : count_by (nat_eq id) (x ∷ xs) ≡ cond (nat_eq id x) 1 0 + count_by (nat_eq id) xs =
    sum_by-cons (λ z. cond (nat_eq id z) 1 0) x xs in
    by (nat_eq id x) refl step (once id xs s.1)
  where
    by : (b : Bool) → nat_eq id x ≡ b → count_by (nat_eq id) (x ∷ xs) ≡ cond b 1 0 + count_by (nat_eq id) xs →
        count_by (nat_eq id) xs ≤ 1 → count_by (nat_eq id) (x ∷ xs) ≤ 1
    by true e step rest =
        let same : id ≡ x = eqb-true id x e in
        let none : count_by (nat_eq id) xs ≡ 0 = none_above id x xs s.0 (omega arith) in omega arith
    by false e step rest = omega arith

pub none_twice : (ranges : List Range) → IsStrictlyIncreasing (ids_of ranges) → IsRepeatedRank ranges None
none_twice ranges up = λ rank twice.
    let same : covers ranges rank ≡ count_by (nat_eq rank) (ids_of ranges) = covers_ids ranges rank in
    let most : count_by (nat_eq rank) (ids_of ranges) ≤ 1 =
    once rank (ids_of ranges) (sorted_from_strictly_increasing (ids_of ranges) up) in
    let two : 1 < covers ranges rank = twice in omega arith
