-- Hosts and ranks that are read.
use Rattle.std.proofs.Common.{◌≡◌, ℕ, zero, suc, ◌+◌, ◌-◌, ◌<◌, ◌≤◌, ◌==◌, nat_le, Bool, true, false, List, [], ◌∷◌}
use Rattle.std.proofs.Common.{◌++◌, length, get_or, drop, take, inl, inr, Option, Some, None, Result, Ok, Err, refl}
use Rattle.std.proofs.Common.{sym, ◌∙◌, ap, arith, append_assoc, if◌then◌else◌, cond, true≢false, Global}
use Rattle.std.specs.Result.{result_map_both}
use Rattle.std.proofs.lemmas.Bool.{leb-true, leb-false, le-leb, cases_Bool, and_parts, and_from, false_from_ne_true}
use Rattle.std.proofs.lemmas.List.{length-map, take_all}
use Rattle.std.proofs.lemmas.List.Sums.{sum_by-cons}
use Rattle.std.proofs.lemmas.List.Sorted.{sum_by-IsPermutation}
use Rattle.std.specs.List.Sorted.{IsPermutation}
use Rattle.std.proofs.Math.Seq.{drop-cons}
use Rattle.json_whole.specs.Values.{view, items_view}
use Rattle.serde_json.specs.Data.{item}
use Rattle.json.specs.declared.value.Value.{Value}
use Rattle.list_laws.proofs.Tests.{one_at_most}
use Rattle.idset_text.specs.declared.idsets.Range.{Range}
use Rattle.idset_text.specs.declared.hostlists.Hosts.{Hosts}
use Rattle.idset_text.specs.Idsets.{ids_from, ids_of, is_within}
use Rattle.idset_text.specs.Hostlists.{names_from, padded, names_of}
use Rattle.resource_set_r.specs.declared.faults.Misread.{Misread}
use Rattle.resource_set_r.specs.declared.sets_read.RRow.{RRow}
use Rattle.resource_set_r.specs.ReadRows.{covers, IsCoveredTwice, IsRepeatedRank, overlap_from, ranges_in}
use Rattle.resource_set_r.specs.ReadR.{hosts_fit}

pub length-ids_from : (count start : ℕ) → length (ids_from count start) ≡ count
length-ids_from zero start = refl
length-ids_from (suc count) start = ap suc (length-ids_from count (start + 1))

pub length-names_from : (prefix : List ℕ) (width count start : ℕ) → length (names_from prefix width count start) ≡ count
length-names_from prefix width count start =
    length-map (ids_from count start) (λ number. prefix ++ padded width number) ∙ length-ids_from count start

-- a list that isn't empty
pub fit_some : (values : List (Value Global)) (rows : List RRow) (hosts : List Hosts) → 0 < length values →
    hosts_fit (items_view values) rows hosts ≡ (length (names_of hosts) == length (ids_of (ranges_in rows)))
fit_some [] rows hosts some = absurd (omega arith)
fit_some (v ∷ vs) rows hosts some = refl

-- what is read of a list's items, one by one
pub item_first : (values : List (Value Global)) (k : ℕ) (v : Value Global) → k < length values →
    v ≡ get_or values k v → items_view (drop k values) ≡ item (view v) (items_view (drop (k + 1) values))
item_first values k v lt e =
    let n : suc k ≡ k + 1 = omega arith in
    ap items_view (drop-cons values k v lt ∙ ap (λ n. get_or values k v ∷ drop n values) n)
    ∙ ap (λ x. item (view x) (items_view (drop (k + 1) values))) (sym e)

pub joined_read : (all hosts : List Hosts) (r : Result (List Hosts) Misread) →
    result_map_both (λ others. (all ++ hosts) ++ others) (λ m. m) r
    ≡ result_map_both (λ others. all ++ others) (λ m. m) (result_map_both (λ others. hosts ++ others) (λ m. m) r)
joined_read all hosts (Ok others) = ap Ok (append_assoc all hosts others)
joined_read all hosts (Err m) = refl

-- ---- repeated ranks

covers_more : (x : Range) (xs : List Range) (rank : ℕ) →
    covers (x ∷ xs) rank ≡ cond (is_within x rank) 1 0 + covers xs rank
covers_more x xs rank = sum_by-cons (λ range. cond (is_within range rank) 1 0) x xs

-- ranges that all begin above a rank don't have it
none_cover : (ranges : List Range) (rank : ℕ) →
    ((j : ℕ) (d : Range) → j < length ranges → rank < (get_or ranges j d).lo) → covers ranges rank ≡ 0
none_cover [] rank above = refl
none_cover (range ∷ ranges) rank above =
    let first : is_within range rank ≡ false = false_from_ne_true _ (λ h. let le : range.lo ≤ rank = leb-true _ _
    (and_parts _ _ h).0 in let lt : rank < range.lo = above 0 range (omega arith) in omega arith) in
    let rest : covers ranges rank ≡ 0 = none_cover ranges rank (λ j d lt. above (suc j) d (omega arith)) in
    let more : covers (range ∷ ranges) rank ≡ 0 + covers ranges rank =
    covers_more range ranges rank ∙ ap (λ b. cond b 1 0 + covers ranges rank) first in omega arith

abbrev pub Sorted : List Range → Type 0
Sorted ranges = (i j : ℕ) (d : Range) → i ≤ j → j < length ranges → (get_or ranges i d).lo ≤ (get_or ranges j d).lo

abbrev pub Rising : List Range → Type 0
Rising ranges = (i : ℕ) (d : Range) → i < length ranges → (get_or ranges i d).lo ≤ (get_or ranges i d).hi

-- all sorted ranges begin above what is less than the first start
above_first : (x : Range) (xs : List Range) (rank : ℕ) → Sorted (x ∷ xs) → rank < x.lo → covers (x ∷ xs) rank ≡ 0
above_first x xs rank s lt = none_cover
    (x ∷ xs) rank (λ j d within. let le : x.lo ≤ (get_or (x ∷ xs) j d).lo = s 0 j d (omega arith) within in omega arith)

pub overlap_right : (last : Range) (xs : List Range) →
    Sorted (last ∷ xs) → Rising (last ∷ xs) → IsRepeatedRank (last ∷ xs) (overlap_from last xs)
overlap_right last [] s up = λ rank twice.
    let more : covers (last ∷ []) rank ≡ cond (is_within last rank) 1 0 + 0 = covers_more last [] rank in
    let most : cond (is_within last rank) 1 0 ≤ 1 = one_at_most (is_within last rank) in
    let two : 1 < covers (last ∷ []) rank = twice in omega arith
overlap_right last (x ∷ xs) s up =
    by (nat_le x.lo last.hi) refl (overlap_right x xs
    (λ i j d le lt. s (suc i) (suc j) d (omega arith) (omega arith)) (λ i d lt. up (suc i) d (omega arith)))
  where
    rest : Sorted (x ∷ xs)
    rest = λ i j d le lt. s (suc i) (suc j) d (omega arith) (omega arith)

    both : x.lo ≤ last.hi → IsCoveredTwice (last ∷ x ∷ xs) x.lo
    both le =
        let low : last.lo ≤ x.lo = s 0 1 x (omega arith) (omega arith) in
        let high : x.lo ≤ x.hi = up 1 x (omega arith) in
        let a : is_within last x.lo ≡ true = and_from _ _ (le-leb last.lo x.lo low) (le-leb x.lo last.hi le) in
        let b : is_within x x.lo ≡ true = and_from _ _ (le-leb x.lo x.lo (omega arith)) (le-leb x.lo x.hi high) in
        let one : covers (last ∷ x ∷ xs) x.lo ≡ 1 + covers (x ∷ xs) x.lo =
        covers_more last (x ∷ xs) x.lo ∙ ap (λ t. cond t 1 0 + covers (x ∷ xs) x.lo) a in
        let two : covers (x ∷ xs) x.lo ≡ 1 + covers xs x.lo =
        covers_more x xs x.lo ∙ ap (λ t. cond t 1 0 + covers xs x.lo) b in
        omega arith

    alone : (q : ℕ) → q < x.lo → IsCoveredTwice (last ∷ x ∷ xs) q → ⊥
    alone q lt twice =
        let more : covers (last ∷ x ∷ xs) q ≡ cond (is_within last q) 1 0 + covers (x ∷ xs) q =
        covers_more last (x ∷ xs) q in
        let most : cond (is_within last q) 1 0 ≤ 1 = one_at_most (is_within last q) in
        let none : covers (x ∷ xs) q ≡ 0 = above_first x xs q rest lt in
        let two : 1 < covers (last ∷ x ∷ xs) q = twice in omega arith

    widened : (q : ℕ) → IsCoveredTwice (x ∷ xs) q → IsCoveredTwice (last ∷ x ∷ xs) q
    widened q twice =
        let more : covers (last ∷ x ∷ xs) q ≡ cond (is_within last q) 1 0 + covers (x ∷ xs) q =
        covers_more last (x ∷ xs) q in
        let two : 1 < covers (x ∷ xs) q = twice in omega arith

    narrowed : last.hi < x.lo → (q : ℕ) → IsCoveredTwice (last ∷ x ∷ xs) q → IsCoveredTwice (x ∷ xs) q
    narrowed apart q twice =
        elim (cases_Bool (is_within last q)) [
          | inl inside ↦ absurd (
              let le : q ≤ last.hi = leb-true q last.hi (and_parts (nat_le last.lo q) (nat_le q last.hi) inside).1 in
              alone q (omega arith) twice)
          | inr outside ↦ (
              let more : covers (last ∷ x ∷ xs) q ≡ 0 + covers (x ∷ xs) q =
              covers_more last (x ∷ xs) q ∙ ap (λ t. cond t 1 0 + covers (x ∷ xs) q) outside in
              let two : 1 < covers (last ∷ x ∷ xs) q = twice in omega arith)
        ]

    kept : last.hi < x.lo → (found : Option ℕ) → IsRepeatedRank (x ∷ xs) found → IsRepeatedRank (last ∷ x ∷ xs) found
    kept apart None none = λ q twice. none q (narrowed apart q twice)
    kept apart (Some r) least = (widened r least.0, λ q lt twice. least.1 q lt (narrowed apart q twice))

    by : (b : Bool) → nat_le x.lo last.hi ≡ b → IsRepeatedRank (x ∷ xs) (overlap_from x xs) →
        IsRepeatedRank (last ∷ x ∷ xs) (if b then Some x.lo else overlap_from x xs)
    by true e ih = (both (leb-true _ _ e), λ q lt twice. alone q lt twice)
    by false e ih = kept (leb-false _ _ e) (overlap_from x xs) ih

-- order doesn't matter
pub repeated_permuted : (xs ys : List Range) (found : Option ℕ) →
    IsPermutation xs ys → IsRepeatedRank ys found → IsRepeatedRank xs found
repeated_permuted xs ys found perm h = by found h
  where
    same : (rank : ℕ) → covers ys rank ≡ covers xs rank
    same rank = sum_by-IsPermutation (λ range. cond (is_within range rank) 1 0) xs ys perm

    there : (rank : ℕ) → IsCoveredTwice xs rank → IsCoveredTwice ys rank
    there rank twice = let e : covers ys rank ≡ covers xs rank = same rank in
        let two : 1 < covers xs rank = twice in omega arith

    back : (rank : ℕ) → IsCoveredTwice ys rank → IsCoveredTwice xs rank
    back rank twice = let e : covers ys rank ≡ covers xs rank = same rank in
        let two : 1 < covers ys rank = twice in omega arith

    by : (found : Option ℕ) → IsRepeatedRank ys found → IsRepeatedRank xs found
    by None none = λ rank twice. none rank (there rank twice)
    by (Some rank) least = (back rank least.0, λ q lt twice. least.1 q lt (there q twice))

-- a list that isn't empty is its first item and the others
pub first_and_others : {X : Type 0} (xs : List X) (d : X) →
    1 ≤ length xs → get_or xs 0 d ∷ take (length xs - 1) (drop 1 xs) ≡ xs
first_and_others [] d some = absurd (omega arith)
first_and_others (x ∷ xs) d some = let e : suc (length xs) - 1 ≡ length xs = omega arith in
    ap (λ n. x ∷ take n xs) e ∙ ap (λ ys. x ∷ ys) (take_all (length xs) xs (omega arith))

pub some_length : {X : Type 0} (xs : List X) → (length xs == 0) ≡ false → 0 < length xs
some_length [] e = absurd (true≢false e)
some_length (x ∷ xs) e = omega arith
