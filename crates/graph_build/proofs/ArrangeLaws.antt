-- What a list of vertices says of itself in any order, its arrangement says too.
use Rattle.std.proofs.Common.{◌≡◌, ℕ, zero, suc, ◌<◌, ◌≤◌, ◌&&◌, ◌||◌, nat_eq, not, List, [], ◌∷◌, length, get_or, map}
use Rattle.std.proofs.Common.{Option, Some, None, inl, inr, refl, sym, ◌∙◌, ap, subst, arith, IsTrue, MatchOption}
use Rattle.std.proofs.Common.{option_and_then}
use Rattle.std.specs.Prelude.{slice_get}
use Rattle.std.specs.Option.{IsSomeAnd, option_map}
use Rattle.std.specs.List.{list_any}
use Rattle.std.proofs.lemmas.Bool.{cases_lt, cases_eq, ne_eqb, eq-eqb}
use Rattle.std.proofs.lemmas.List.{get_or_past, length-map}
use Rattle.std.proofs.lemmas.Option.{slice_get-get_or, slice_get_within, slice_get_past, get_or_from_slice_get}
use Rattle.std.proofs.lemmas.Option.{same_Some}
use Rattle.flux_defs.specs.declared.vertices.Vertex.{Vertex}
use Rattle.flux_defs.specs.Graph.{ResourceGraph, parent_of, chain, is_at_or_below, is_below}
use Rattle.flux_defs.specs.ValidGraph.{StandsInPreorder}
use Rattle.graph_laws.proofs.Containment.{at_or_below-opens}
use Rattle.resource_graph.specs.Chains.{chain_of}
use Rattle.graph_build.specs.Orders.{IsPreorderOf, IsRooted}
use Rattle.graph_build.specs.Raw.{IsArranged, IsRenumbered}
use Rattle.resource_graph.proofs.ChainLaws.{no_vertex, parent_read}

module _ (kinds : List (List ℕ)) (vertices : List Vertex) (order : List ℕ) (g : ResourceGraph)
    (arranged : IsArranged kinds vertices order g) where
  -- the index of a number in the list; past the last number, past the list's end
  abbrev pub index_of : ℕ → ℕ
  index_of k = get_or order k (length vertices)

  pub index_at : (k : ℕ) → k < length vertices → slice_get order k ≡ Some (index_of k)
  index_at k lt = slice_get-get_or order k (length vertices) (let long = arranged.indices.as_many in omega arith)

  pub index_in : (k : ℕ) → k < length vertices → index_of k < length vertices
  index_in k lt = arranged.indices.known k (index_of k) (index_at k lt)

  pub index_past : (k : ℕ) → length vertices ≤ k → index_of k ≡ length vertices
  index_past k le = get_or_past order k (length vertices) (let long = arranged.indices.as_many in omega arith)

  pub index_is : (k i : ℕ) → slice_get order k ≡ Some i → index_of k ≡ i
  index_is k i e = get_or_from_slice_get order k i (length vertices) e

  pub within_index : (k : ℕ) → index_of k < length vertices → k < length vertices
  within_index k lt = elim (cases_lt k (length vertices))
      [ inl less ↦ less | inr past ↦ absurd (let e = index_past k past in omega arith) ]

  -- no two numbers have one index
  pub same_index : (j k : ℕ) → j < length vertices → index_of j ≡ index_of k → j ≡ k
  same_index j k lt e =
      let k_in : k < length vertices = within_index k (let less = index_in j lt in omega arith) in
      arranged.indices.apart j k (index_of j) (index_at j lt) (index_at k k_in ∙ ap Some (sym e))

  -- an index has its number
  pub number_of : (i : ℕ) → i < length vertices → (k : ℕ) × (k < length vertices) × (index_of k ≡ i)
  number_of i lt =
      let there = arranged.indices.each i lt in (
        there.0,
        (let less : there.0 < length order = slice_get_within order there.0 i there.1 in
            let long = arranged.indices.as_many in omega arith),
        index_is there.0 i there.1,
      )

  -- the two vertices of a number
  pub both_of : (k : ℕ) → k < length vertices → (x : Vertex) × (y : Vertex)
      × (slice_get vertices (index_of k) ≡ Some x) × (slice_get g.vertices k ≡ Some y) × IsRenumbered kinds g order x y
  both_of k lt =
      let x = get_or vertices (index_of k) no_vertex in
      let y = get_or g.vertices k no_vertex in
      let at_x : slice_get vertices (index_of k) ≡ Some x = slice_get-get_or vertices (index_of k) no_vertex
      (index_in k lt) in
      let at_y : slice_get g.vertices k ≡ Some y = slice_get-get_or g.vertices k no_vertex
      (let long = arranged.as_many in omega arith) in
      (x, y, at_x, at_y, arranged.renumbered k (index_of k) x y (index_at k lt) at_x at_y)

  -- the parent's index is the index's parent
  pub parent_index : (k : ℕ) → parent_of vertices (index_of k) ≡ option_map index_of (parent_of g.vertices k)
  parent_index k =
      elim (cases_lt k (length vertices)) [
        | inl within ↦ (
            let both = both_of k within in
            parent_read vertices (index_of k) both.0 both.2
            ∙ (along both.0.parent both.1.parent both.4.parent
            ∙ ap (option_map index_of) (sym (parent_read g.vertices k both.1 both.3))))
        | inr past ↦ (
            let none : parent_of g.vertices k ≡ None = ap (option_and_then (λ x. x.parent))
            (slice_get_past g.vertices k (let long = arranged.as_many in omega arith)) in
            let raw_none : parent_of vertices (index_of k) ≡ None = ap (option_and_then (λ x. x.parent))
            (slice_get_past vertices (index_of k) (let e = index_past k past in omega arith)) in
            raw_none ∙ ap (option_map index_of) (sym none))
      ]
    where
      some_parent : (i : ℕ) (q : Option ℕ) → IsSomeAnd q (λ p. slice_get order p ≡ Some i) →
          Some i ≡ option_map index_of q
      some_parent i None h = absurd h
      some_parent i (Some p) h = ap Some (sym (index_is p i h))

      along : (a b : Option ℕ) → MatchOption a (b ≡ None) (λ i. IsSomeAnd b (λ p. slice_get order p ≡ Some i)) →
          a ≡ option_map index_of b
      along None b h = ap (option_map index_of) (sym h)
      along (Some i) b h = some_parent i b h

  -- so a chain's indices are the indices' chain
  pub chain_indices : (most : ℕ) (o : Option ℕ) →
      chain vertices most (option_map index_of o) ≡ map index_of (chain g.vertices most o)
  chain_indices zero o = refl
  chain_indices (suc most) None = refl
  chain_indices (suc most) (Some k) =
      ap (λ l. index_of k ∷ l) (ap (chain vertices most) (parent_index k) ∙ chain_indices most (parent_of g.vertices k))

  same_test : (u w : ℕ) → u < length vertices → nat_eq (index_of u) (index_of w) ≡ nat_eq u w
  same_test u w lt =
      elim (cases_eq u w) [
        | inl same ↦ eq-eqb (index_of u) (index_of w) (ap index_of same) ∙ sym (eq-eqb u w same)
        | inr differ ↦ ne_eqb (index_of u) (index_of w) (λ e. differ (same_index u w lt e)) ∙ sym (ne_eqb u w differ)
      ]

  any_index : (u : ℕ) → u < length vertices → (list : List ℕ) →
      list_any (nat_eq (index_of u)) (map index_of list) ≡ list_any (nat_eq u) list
  any_index u lt [] = refl
  any_index u lt (w ∷ list) = ap (λ b. b || list_any (nat_eq (index_of u)) (map index_of list)) (same_test u w lt)
      ∙ ap (λ b. nat_eq u w || b) (any_index u lt list)

  -- containment is the same
  pub same_at_or_below : (v u : ℕ) → u < length vertices →
      is_at_or_below vertices (index_of v) (index_of u) ≡ is_at_or_below g.vertices v u
  same_at_or_below v u lt =
      at_or_below-opens vertices (index_of v) (index_of u) ∙
      (ap (list_any (nat_eq (index_of u))) (chain_indices (length vertices) (Some v)) ∙
      (any_index u lt (chain g.vertices (length vertices) (Some v)) ∙
      (ap (λ n. list_any (nat_eq u) (chain g.vertices n (Some v))) (sym arranged.as_many)
      ∙ sym (at_or_below-opens g.vertices v u))))

  pub same_below : (v u : ℕ) → v < length vertices → u < length vertices →
      is_below vertices (index_of v) (index_of u) ≡ is_below g.vertices v u
  same_below v u v_in u_in =
      ap (λ b. b && not (nat_eq (index_of v) (index_of u))) (same_at_or_below v u u_in)
      ∙ ap (λ b. is_at_or_below g.vertices v u && not b) (same_test v u v_in)

  pub same_chain_length : (v : ℕ) → length (chain_of g.vertices v) ≡ length (chain_of vertices (index_of v))
  same_chain_length v =
      ap (λ n. length (chain g.vertices n (Some v))) arranged.as_many
      ∙ (sym (length-map (chain g.vertices (length vertices) (Some v)) index_of)
      ∙ ap length (sym (chain_indices (length vertices) (Some v))))

  pub parent_back : (k p : ℕ) → parent_of g.vertices k ≡ Some p → parent_of vertices (index_of k) ≡ Some (index_of p)
  parent_back k p e = parent_index k ∙ ap (option_map index_of) e

  pub no_parent_back : (k : ℕ) → parent_of vertices (index_of k) ≡ None → parent_of g.vertices k ≡ None
  no_parent_back k e = none (parent_of g.vertices k) (sym (parent_index k) ∙ e)
    where
      none : (o : Option ℕ) → option_map index_of o ≡ None → o ≡ None
      none None h = refl
      none (Some p) h = absurd (cc)

  pub parent_forth : (k i : ℕ) → i < length vertices → parent_of vertices (index_of k) ≡ Some i → (p : ℕ)
      × (parent_of g.vertices k ≡ Some p) × (index_of p ≡ i) × (p < length vertices)
  parent_forth k i lt e = some (parent_of g.vertices k) refl (sym (parent_index k) ∙ e)
    where
      some : (o : Option ℕ) → parent_of g.vertices k ≡ o → option_map index_of o ≡ Some i → (p : ℕ)
          × (parent_of g.vertices k ≡ Some p) × (index_of p ≡ i) × (p < length vertices)
      some None f h = absurd (cc)
      some (Some p) f h = (let is : index_of p ≡ i = same_Some _ _ h in
          (p, f, is, within_index p (subst (λ (n : ℕ). n < length vertices) (sym is) lt)))

  -- an arrangement by preorder stands in preorder
  pub preorder_arranged : IsRooted vertices → IsPreorderOf vertices order → StandsInPreorder g
  preorder_arranged rooted pre = record {
    some = (let less : rooted.root.0 < length vertices = rooted.root.1 in let long = arranged.as_many in omega arith);
    root = no_parent_back 0 (pre.first (index_of 0)
        (index_at 0 (let less : rooted.root.0 < length vertices = rooted.root.1 in omega arith)));
    next = λ v lt.
        let long = arranged.as_many in
        let next_in : suc v < length vertices = omega arith in
        let v_in : v < length vertices = omega arith in
        let found = pre.next v (index_of v) (index_of (suc v)) (index_at v v_in) (index_at (suc v) next_in) in
        let p_in : found.0 < length vertices = rooted.known (index_of (suc v)) found.0 found.1 in
        let up = parent_forth (suc v) found.0 p_in found.1 in (
          up.0,
          up.1,
          sym (same_at_or_below v up.0 up.3)
              ∙ subst (λ (p : ℕ). IsTrue (is_at_or_below vertices (index_of v) p)) (sym up.2) found.2,
        );
  }
