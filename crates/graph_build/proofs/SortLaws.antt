-- The ends of the sorted paths are the vertices in preorder.
use Rattle.std.proofs.Common.{◌≡◌, ℕ, ◌+◌, ◌-◌, ◌<◌, ◌≤◌, nat_eq, Bool, false, List, [], ◌∷◌, ◌++◌, length, get_or}
use Rattle.std.proofs.Common.{Some, inl, inr, sym, ◌∙◌, ap, subst, arith, Vec, Global, IsPermutation}
use Rattle.std.specs.Prelude.{slice_get}
use Rattle.std.specs.Ordering.{nat_cmp, is_lt}
use Rattle.std.specs.Cmp.Lexicographic.{slice_cmp}
use Rattle.std.specs.List.{All}
use Rattle.std.specs.List.Sorted.{IsSortedBy}
use Rattle.std.proofs.lemmas.Bool.{cases_order, ne_eqb, both_ways, eq-eqb}
use Rattle.std.proofs.lemmas.Cmp.{nat_list_cmp_total}
use Rattle.std.proofs.lemmas.List.Sorted.{ranks_by, sorted_far, All-permutation, Contains-permutation}
use Rattle.std.proofs.lemmas.List.Sorted.{length_permutation}
use Rattle.std.proofs.lemmas.List.{length_push}
use Rattle.std.proofs.lemmas.Map.Keys.{apart_from_distinct, IsDistinct-from_apart, IsDistinct-IsPermutation}
use Rattle.std.proofs.lemmas.Option.{slice_get-get_or, slice_get_within, slice_get_cases, get_or_from_slice_get}
use Rattle.flux_defs.specs.declared.vertices.Vertex.{Vertex}
use Rattle.graph_build.specs.Orders.{IsRooted, IsPreorderOf, HasPaths, HasEnds}
use Rattle.graph_build.proofs.PathLaws.{path_to, path_last, path_ends, stands_before, preorder_by_path}

-- the last number of a list
abbrev last : Vec ℕ Global → ℕ
last path = get_or path.items (length path.items - 1) 0

flips : (a b : ℕ) → nat_eq a b ≡ nat_eq b a
flips a b =
    elim (cases_order a b) [
      | inl same ↦ eq-eqb a b same ∙ sym (eq-eqb b a (sym same))
      | inr differ ↦ elim differ [
        | inl less ↦ ne_eqb a b (λ e. omega arith) ∙ sym (ne_eqb b a (λ e. omega arith))
        | inr more ↦ ne_eqb a b (λ e. omega arith) ∙ sym (ne_eqb b a (λ e. omega arith))
      ]
    ]

module _ (vertices : List Vertex) (rooted : IsRooted vertices) (paths sorted : List (Vec ℕ Global))
    (has : HasPaths vertices (length vertices) paths) (moved : IsPermutation paths sorted) where
  -- a path of some vertex
  abbrev IsPathOf : Vec ℕ Global → Type 0
  IsPathOf path = (v : ℕ) × (v < length vertices) × (path.items ≡ path_to vertices rooted v)

  is_path : All IsPathOf sorted
  is_path = All-permutation IsPathOf paths sorted moved
      (λ k d lt. (
        k,
        (let long = has.as_many in omega arith),
        has.each k (get_or paths k d) (slice_get-get_or paths k d lt),
      ))

  pub none_empty : (k : ℕ) (list : Vec ℕ Global) → slice_get sorted k ≡ Some list → 0 < length list.items
  none_empty k list e =
      let of = subst IsPathOf (get_or_from_slice_get sorted k list list e)
      (is_path k list (slice_get_within sorted k list e)) in
      let end = path_ends vertices rooted of.0 of.1 in
      let long : length list.items ≡ length (end.0 ++ of.0 ∷ []) = ap length (of.2 ∙ end.1) in
      let more : length (end.0 ++ of.0 ∷ []) ≡ length end.0 + 1 = length_push end.0 of.0 in
      omega arith

  last_is : (path : Vec ℕ Global) (of : IsPathOf path) → last path ≡ of.0
  last_is path of = ap (λ l. get_or l (length l - 1) 0) of.2 ∙ path_last vertices rooted of.0 of.1

  module _ (ends : List ℕ) (rises : IsSortedBy (λ x y. is_lt (slice_cmp nat_cmp x.items y.items)) sorted)
      (ended : HasEnds sorted (length sorted) ends) where
    -- what stands at an index of the ends
    at_index : (k i : ℕ) → slice_get ends k ≡ Some i → (path : Vec ℕ Global) × (slice_get sorted k ≡ Some path)
        × (i < length vertices) × (path.items ≡ path_to vertices rooted i) × (i ≡ last path)
    at_index k i e =
        let k_in : k < length ends = slice_get_within ends k i e in
        let long = ended.as_many in
        elim (slice_get_cases sorted k).1 [
          | inl there ↦ (
              let path = there.0 in
              let of = subst IsPathOf there.3 (is_path k path there.1) in
              let end : i ≡ last path = ended.each k i path e there.2 in
              let is : of.0 ≡ i = sym (last_is path of) ∙ sym end in (
                path,
                there.2,
                subst (λ (v : ℕ). v < length vertices) is of.1,
                of.2 ∙ ap (path_to vertices rooted) is,
                end,
              ))
          | inr past ↦ absurd (let le = past.0 in omega arith)
        ]

    known : (k i : ℕ) → slice_get ends k ≡ Some i → i < length vertices
    known k i e = (at_index k i e).2

    sorted_by : (a b i j : ℕ) → a ≤ b → slice_get ends a ≡ Some i → slice_get ends b ≡ Some j →
        stands_before (path_to vertices rooted j) (path_to vertices rooted i) ≡ false
    sorted_by a b i j le at_a at_b =
        let p = at_index a i at_a in
        let q = at_index b j at_b in
        let far = sorted_far (λ x y. is_lt (slice_cmp nat_cmp x.items y.items))
        (ranks_by nat_list_cmp_total (λ (v : Vec ℕ Global). v.items)) sorted rises a b p.0 le
        (slice_get_within sorted b q.0 q.1) in
        let at_q : get_or sorted b p.0 ≡ q.0 = get_or_from_slice_get sorted b q.0 p.0 q.1 in
        let at_p : get_or sorted a p.0 ≡ p.0 = get_or_from_slice_get sorted a p.0 p.0 p.1 in
        ap (λ l. stands_before l (path_to vertices rooted i)) (sym q.3)
        ∙ (ap (λ l. stands_before q.0.items l) (sym p.3) ∙
        (ap (λ (v : Vec ℕ Global). stands_before v.items p.0.items) (sym at_q)
        ∙ (ap (λ (v : Vec ℕ Global). stands_before (get_or sorted b p.0).items v.items) (sym at_p) ∙ far)))

    each : (i : ℕ) → i < length vertices → (k : ℕ) × (slice_get ends k ≡ Some i)
    each i lt =
        elim (slice_get_cases paths i).1 [
          | inl there ↦ (
              let path = there.0 in
              let contains = Contains-permutation paths sorted path moved (i, there.1, there.3) in
              let k = contains.0 in
              let k_in : k < length ends = (let long = ended.as_many in let within : k < length sorted = contains.1 in
              omega arith) in
              let at_k : slice_get ends k ≡ Some (get_or ends k 0) = slice_get-get_or ends k 0 k_in in
              let path_at : slice_get sorted k ≡ Some path = slice_get-get_or sorted k path contains.1
              ∙ ap Some contains.2 in
              let end : get_or ends k 0 ≡ last path = ended.each k (get_or ends k 0) path at_k path_at in
              let is : last path ≡ i = last_is path (i, lt, has.each i path there.2) in
              (k, at_k ∙ ap Some (end ∙ is)))
          | inr past ↦ absurd (let le = past.0 in let long = has.as_many in omega arith)
        ]

    apart : (j k i : ℕ) → slice_get ends j ≡ Some i → slice_get ends k ≡ Some i → j ≡ k
    apart j k i at_j at_k =
        elim (cases_order j k) [
          | inl same ↦ same
          | inr differ ↦ elim differ [
            | inl less ↦ absurd (clash j k i less at_j at_k)
            | inr more ↦ absurd (clash k j i more at_k at_j)
          ]
        ]
      where
        same_end : Vec ℕ Global → Vec ℕ Global → Bool
        same_end x y = nat_eq (last x) (last y)

        paths_apart : (a b : ℕ) (d : Vec ℕ Global) → a < b → b < length paths →
            nat_eq (last (get_or paths a d)) (last (get_or paths b d)) ≡ false
        paths_apart a b d lt b_in =
            let long = has.as_many in
            let x : last (get_or paths a d) ≡ a = last_is (get_or paths a d)
            (a, omega arith, has.each a (get_or paths a d) (slice_get-get_or paths a d (omega arith))) in
            let y : last (get_or paths b d) ≡ b = last_is (get_or paths b d)
            (b, omega arith, has.each b (get_or paths b d) (slice_get-get_or paths b d b_in)) in
            ne_eqb _ _ (λ e. let same : a ≡ b = sym x ∙ (e ∙ y) in omega arith)

        clash : (a b v : ℕ) → a < b → slice_get ends a ≡ Some v → slice_get ends b ≡ Some v → ⊥
        clash a b v lt at_a at_b =
            let p = at_index a v at_a in
            let q = at_index b v at_b in
            let distinct = IsDistinct-IsPermutation (λ x y. nat_eq (last x) (last y)) (λ x y. flips (last x) (last y))
            paths sorted moved (IsDistinct-from_apart (λ x y. nat_eq (last x) (last y)) paths paths_apart) in
            let differ = apart_from_distinct (λ x y. nat_eq (last x) (last y)) sorted a b p.0 distinct lt
            (slice_get_within sorted b q.0 q.1) in
            let at_p : last (get_or sorted a p.0) ≡ v = ap last (get_or_from_slice_get sorted a p.0 p.0 p.1)
            ∙ sym p.4 in
            let at_q : last (get_or sorted b p.0) ≡ v = ap last (get_or_from_slice_get sorted b q.0 p.0 q.1)
            ∙ sym q.4 in
            both_ways _ differ (eq-eqb _ _ (at_p ∙ sym at_q))

    pub preorder_of_sorted : IsPreorderOf vertices ends
    preorder_of_sorted = preorder_by_path vertices rooted ends (record {
      indices = record {
        as_many = ended.as_many ∙ (length_permutation paths sorted moved ∙ has.as_many);
        known = known;
        apart = apart;
        each = each;
      };
      sorted = sorted_by;
    })
