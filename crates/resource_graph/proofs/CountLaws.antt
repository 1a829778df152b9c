-- How many vertices of a kind stand between two vertices, by the list of that kind.
use Rattle.std.proofs.Common.{◌≡◌, ℕ, zero, suc, ◌+◌, ◌-◌, ◌<◌, ◌≤◌, Bool, true, false, cond, List, length, get_or}
use Rattle.std.proofs.Common.{min, inl, inr, refl, sym, ◌∙◌, ap, subst, arith, true≢false}
use Rattle.std.specs.List.{count_by, range_with_len}
use Rattle.std.proofs.lemmas.Bool.{cases_lt}
use Rattle.std.proofs.lemmas.List.Sums.{sum_by-cons}
use Rattle.flux_defs.specs.declared.vertices.Vertex.{Vertex}
use Rattle.flux_defs.specs.Graph.{HasKind}
use Rattle.text_forms.specs.Rising.{IsIndexOf}
use Rattle.text_forms.proofs.RisingLists.{less_later, not_less}
use Rattle.resource_graph.specs.Preorder.{KnowsKinds}
use Rattle.resource_graph.specs.Tables.{has_kind, kind_count, IsCountIn, IsRunOfKind, ListsKind}
use Rattle.resource_graph.proofs.NestLaws.{of_kind, is_of_kind, kind_in}

-- one more, where the first passes
pub count_first : (p : ℕ → Bool) (a n : ℕ) →
    count_by p (range_with_len a (suc n)) ≡ cond (p a) 1 0 + count_by p (range_with_len (a + 1) n)
count_first p a n = sum_by-cons (λ v. cond (p v) 1 0) a (range_with_len (a + 1) n)

-- indices rise with the numbers
index_le : (list : List ℕ) (u v i j : ℕ) → u ≤ v → IsIndexOf list u i → IsIndexOf list v j → i ≤ j
index_le list u v i j le at_u at_v =
    elim (cases_lt j i) [
      | inr few ↦ few
      | inl over ↦ (
          let within : i ≤ length list = at_u.within in
          let low : v ≤ get_or list j 0 = at_v.after j (omega arith) (omega (arith, over, within)) in
          let high : get_or list j 0 < u = at_u.before j over in
          omega (arith, le, low, high))
    ]

-- so a number has one index
index_same : (list : List ℕ) (v i j : ℕ) → IsIndexOf list v i → IsIndexOf list v j → i ≡ j
index_same list v i j a b =
    let there = index_le list v v i j (omega arith) a b in
    let back = index_le list v v j i (omega arith) b a in
    omega (arith, there, back)

-- the same index, written otherwise
index_as : (list : List ℕ) (u v i j : ℕ) → u ≡ v → i ≡ j → IsIndexOf list u i → IsIndexOf list v j
index_as list u v i j e f at =
    subst (λ (n : ℕ). IsIndexOf list n j) e (subst (λ (n : ℕ). IsIndexOf list u n) f at)

module _ (vertices : List Vertex) (kind : ℕ) (list : List ℕ) (lists : ListsKind vertices kind list) where
  -- past a vertex the index is one more where it is of the kind
  index_next : (v i : ℕ) (b : Bool) → has_kind vertices kind v ≡ b → IsIndexOf list v i →
      IsIndexOf list (v + 1) (i + cond b 1 0)
  index_next v i true is at =
      let there = lists.all v (of_kind vertices kind v is) in
      let k : ℕ = there.0 in
      let k_in : k < length list = there.1 in
      let e : get_or list k 0 ≡ v = there.2 in
      let le : i ≤ k = elim (cases_lt k i) [
        | inr few ↦ few
        | inl less ↦ (let before : get_or list k 0 < v = at.before k less in omega (arith, before, e))
      ] in
      let low : get_or list i 0 ≤ get_or list k 0 = not_less list lists.rising i k le k_in in
      record {
        within = omega (arith, le, k_in);
        before = λ j lt. elim (cases_lt j i) [
          | inl less ↦ (let before : get_or list j 0 < v = at.before j less in omega (arith, before))
          | inr more ↦ (
              let same : j ≡ i = omega (arith, lt, more) in
              let f : get_or list j 0 ≡ get_or list i 0 = ap (λ n. get_or list n 0) same in
              omega (arith, f, low, e))
        ];
        after = λ j le' lt.
            let own : v ≤ get_or list i 0 = at.after i (omega arith) (omega (arith, le, k_in)) in
            let less : get_or list i 0 < get_or list j 0 =
            less_later list lists.rising i j 0 (omega (arith, le')) lt in
            omega (arith, own, less);
      }
  index_next v i false is at = record {
    within = (let within : i ≤ length list = at.within in omega (arith, within));
    before = λ j lt. let before : get_or list j 0 < v = at.before j (omega (arith, lt)) in omega (arith, before);
    after = λ j le lt.
        let low : v ≤ get_or list j 0 = at.after j (omega (arith, le)) lt in
        elim (cases_lt v (get_or list j 0)) [
          | inl more ↦ omega (arith, more)
          | inr few ↦ (
              let same : get_or list j 0 ≡ v = omega (arith, low, few) in
              let has : HasKind vertices kind v =
              subst (λ (n : ℕ). HasKind vertices kind n) same (lists.only j lt) in
              absurd (true≢false (sym (is_of_kind vertices kind v has) ∙ is)))
        ];
  }

  -- and past some as many more as are of the kind
  index_along : (n v i : ℕ) → IsIndexOf list v i →
      IsIndexOf list (v + n) (i + count_by (has_kind vertices kind) (range_with_len v n))
  index_along zero v i at = index_as list v (v + 0) i (i + 0) (omega arith) (omega arith) at
  index_along (suc n) v i at =
      let one : ℕ = cond (has_kind vertices kind v) 1 0 in
      let rest : ℕ = count_by (has_kind vertices kind) (range_with_len (v + 1) n) in
      let e : count_by (has_kind vertices kind) (range_with_len v (suc n)) ≡ one + rest =
      count_first (has_kind vertices kind) v n in
      index_as list (v + 1 + n) (v + suc n) (i + one + rest) _ (omega arith) (omega (arith, e))
      (index_along n (v + 1) (i + one) (index_next v i (has_kind vertices kind v) refl at))

  -- each number has an index
  index_some : (v : ℕ) → (i : ℕ) × IsIndexOf list v i
  index_some v = (
    0 + count_by (has_kind vertices kind) (range_with_len 0 v),
    index_as list (0 + v) v _ _ (omega arith) refl (index_along v 0 0 (record {
      within = omega arith;
      before = λ j lt. absurd (omega (arith, lt));
      after = λ j le lt. omega arith;
    })),
  )

  -- between two numbers as many are of the kind as their indices are apart
  count_apart : (from to first after : ℕ) → IsIndexOf list from first → IsIndexOf list to after →
      kind_count vertices kind from to ≡ after - first
  count_apart from to first after at_from at_to =
      elim (cases_lt to from) [
        | inl less ↦ (
            let none : to - from ≡ 0 = omega (arith, less) in
            let e : kind_count vertices kind from to ≡ 0 =
            ap (λ n. count_by (has_kind vertices kind) (range_with_len from n)) none in
            let le : after ≤ first = index_le list to from after first (omega (arith, less)) at_to at_from in
            omega (arith, e, le))
        | inr more ↦ (
            let same : first + kind_count vertices kind from to ≡ after =
            index_same list to _ after (index_as list (from + (to - from)) to _ _ (omega (arith, more)) refl
            (index_along (to - from) from first at_from)) at_to in
            omega (arith, same))
      ]

  -- what is counted in the list is counted among the vertices
  pub count_listed : (from to most count : ℕ) → IsCountIn list from to most count →
      count ≡ min most (kind_count vertices kind from to)
  count_listed from to most count counts =
      let a = index_some from in
      let b = index_some to in
      counts a.0 b.0 a.1 b.1 ∙ ap (min most) (sym (count_apart from to a.0 b.0 a.1 b.1))

-- what the search for both ends counts
pub counts_in : (list : List ℕ) (from to most count first after : ℕ) → IsIndexOf list from first →
    IsIndexOf list to after → count ≡ min most (after - first) → IsCountIn list from to most count
counts_in list from to most count first after at_from at_to e i j at_i at_j =
    let f = index_same list from first i at_from at_i in
    let g = index_same list to after j at_to at_j in
    omega (arith, e, f, g)

-- past the last kind there are none
pub count_past : (vertices : List Vertex) (kinds kind from to most : ℕ) → KnowsKinds vertices kinds → kinds ≤ kind →
    0 ≡ min most (kind_count vertices kind from to)
count_past vertices kinds kind from to most known past =
    let e : kind_count vertices kind from to ≡ 0 = none (to - from) from in omega (arith, e)
  where
    test : (v : ℕ) (b : Bool) → has_kind vertices kind v ≡ b → (let n : ℕ = cond b 1 0 in n ≡ 0)
    test v false is = refl
    test v true is =
        let lt = kind_in vertices kinds kind v known (of_kind vertices kind v is) in omega (arith, lt, past)

    none : (n v : ℕ) → count_by (has_kind vertices kind) (range_with_len v n) ≡ 0
    none zero v = refl
    none (suc n) v =
        let e = count_first (has_kind vertices kind) v n in
        let f = test v (has_kind vertices kind v) refl in
        let g = none n (v + 1) in
        omega (arith, e, f, g)

-- so many that are of the kind are counted
module _ (vertices : List Vertex) (kind : ℕ) where
  run_least : (n m from : ℕ) → IsRunOfKind vertices kind from (from + m) n →
      n ≤ count_by (has_kind vertices kind) (range_with_len from m)
  run_least zero m from run = omega arith
  run_least (suc n) zero from run =
      let lt : from < from + 0 = (run from (omega arith) (omega arith)).0 in absurd (omega (arith, lt))
  run_least (suc n) (suc m) from run =
      let one : ℕ = cond (has_kind vertices kind from) 1 0 in
      let is : one ≡ 1 = ap (λ b. cond b 1 0)
      (is_of_kind vertices kind from (run from (omega arith) (omega arith)).1) in
      let e = count_first (has_kind vertices kind) from m in
      let le = run_least n m (from + 1) (λ v lo hi.
      let there = run v (omega (arith, lo)) (omega (arith, hi)) in
      let lt : v < from + suc m = there.0 in (omega (arith, lt), there.1)) in
      omega (arith, is, e, le)

  pub counts_run : (from to most : ℕ) → IsRunOfKind vertices kind from to most →
      most ≡ min most (kind_count vertices kind from to)
  counts_run from to most run =
      let le = run_least most (to - from) from (λ v lo hi.
      let there = run v lo hi in let lt : v < to = there.0 in (omega (arith, lt, lo), there.1)) in
      omega (arith, le)
