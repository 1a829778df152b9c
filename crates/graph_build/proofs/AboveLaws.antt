-- What stands above a vertex is what its chain has besides it.
use Rattle.std.proofs.Common.{◌≡◌, ◌≢◌, ℕ, ◌+◌, ◌<◌, nat_eq, not, Bool, true, false, List, [], ◌∷◌, ◌++◌, length}
use Rattle.std.proofs.Common.{get_or, set, Option, Some, None, inl, inr, refl, sym, ◌∙◌, ap, subst, arith, IsTrue}
use Rattle.std.proofs.Common.{true≢false}
use Rattle.std.specs.Prelude.{slice_get, is_some}
use Rattle.std.specs.List.{list_any}
use Rattle.std.specs.Option.{option_map_or}
use Rattle.std.proofs.lemmas.Bool.{cases_lt, cases_eq, and_parts, and_from, eqb-true, eq-eqb, ne_eqb, not-true}
use Rattle.std.proofs.lemmas.Bool.{not_from_false, both_ways}
use Rattle.std.proofs.lemmas.List.{get_or-set_same, get_or-set_other, length-set, length_push}
use Rattle.std.proofs.lemmas.List.Folds.{Any-from_list_any, list_any_at}
use Rattle.std.proofs.lemmas.Option.{slice_get-get_or, slice_get_within, get_or_from_slice_get, same_Some}
use Rattle.flux_defs.specs.declared.vertices.Vertex.{Vertex}
use Rattle.flux_defs.specs.Graph.{ResourceGraph, parent_of, is_at_or_below, is_below, HasKind, is_pool, is_pool_kind}
use Rattle.graph_laws.proofs.Containment.{at_or_below-opens}
use Rattle.resource_graph.specs.Chains.{chain_of}
use Rattle.graph_build.specs.Faults.{IsNodeType, IsNestedInKind, IsHoused}
use Rattle.graph_build.specs.Checks.{graph_in, IsHouse, HasHouses, HasChildTo, HasChildren}
use Rattle.resource_graph.proofs.ChainLaws.{no_vertex}
use Rattle.graph_build.proofs.OwnLaws.{fact_here, fact_read}
use Rattle.resource_graph.proofs.TableLaws.{push_cases}

module _ (vertices : List Vertex) where
  -- what is below another has that one in its chain, at some index
  pub in_chain : (v u : ℕ) → IsTrue (is_below vertices v u) → ((i : ℕ) × (slice_get (chain_of vertices v) i ≡ Some u))
      × (u ≢ v)
  in_chain v u h =
      let parts = and_parts (is_at_or_below vertices v u) (not (nat_eq v u)) h in
      let any = Any-from_list_any (nat_eq u) (chain_of vertices v) (sym (at_or_below-opens vertices v u) ∙ parts.0) in
      let is : u ≡ any.1 = eqb-true u any.1 any.4 in (
        (any.0, slice_get-get_or (chain_of vertices v) any.0 any.1 any.2 ∙ ap Some (any.3 ∙ sym is)),
        (λ same. both_ways (nat_eq v u) (not-true (nat_eq v u) parts.1) (eq-eqb v u (sym same))),
      )

  pub from_chain : (v u i : ℕ) → slice_get (chain_of vertices v) i ≡ Some u → u ≢ v → IsTrue (is_below vertices v u)
  from_chain v u i e differ =
      let lt = slice_get_within (chain_of vertices v) i u e in
      let at : get_or (chain_of vertices v) i u ≡ u = get_or_from_slice_get (chain_of vertices v) i u u e in
      let any : list_any (nat_eq u) (chain_of vertices v) ≡ true = list_any_at (nat_eq u) (chain_of vertices v) i u lt
      (ap (nat_eq u) at ∙ eq-eqb u u refl) in
      and_from (is_at_or_below vertices v u) (not (nat_eq v u)) (at_or_below-opens vertices v u ∙ any)
      (not_from_false (nat_eq v u) (ne_eqb v u (λ same. differ (sym same))))

module _ (kinds : List (List ℕ)) (vertices : List Vertex) (v : ℕ) where
  pub nested_here : (u i : ℕ) → v < length vertices → u < length vertices →
      slice_get (chain_of vertices v) i ≡ Some u → u ≢ v →
      (get_or vertices u no_vertex).kind ≡ (get_or vertices v no_vertex).kind →
      IsNestedInKind (graph_in kinds vertices) v
  nested_here u i v_in u_in e differ same = (
    u,
    (get_or vertices v no_vertex).kind,
    fact_here vertices v (λ x. x.kind ≡ (get_or vertices v no_vertex).kind)
        v_in refl,
    fact_here vertices u (λ x. x.kind ≡ (get_or vertices v no_vertex).kind) u_in same,
    from_chain vertices v u i e differ,
  )

  pub nested_nowhere : (chain : List ℕ) → chain ≡ chain_of vertices v →
      ((i u : ℕ) → i < length chain → slice_get chain i ≡ Some u → u ≢ v → (kind : ℕ) → HasKind vertices kind v →
      HasKind vertices kind u → ⊥) → IsNestedInKind (graph_in kinds vertices) v → ⊥
  nested_nowhere chain is none bad =
      let there = in_chain vertices v bad.0 bad.4 in
      let at : slice_get chain there.0.0 ≡ Some bad.0 = ap (λ l. slice_get l there.0.0) is ∙ there.0.1 in
      none there.0.0 bad.0 (slice_get_within chain there.0.0 bad.0 at) at there.1 bad.1 bad.2 bad.3

  pub kinds_differ : (u kind : ℕ) → v < length vertices → u < length vertices →
      (get_or vertices u no_vertex).kind ≢ (get_or vertices v no_vertex).kind → HasKind vertices kind v →
      HasKind vertices kind u → ⊥
  kinds_differ u kind v_in u_in differ at_v at_u =
      differ (fact_read vertices u (λ x. x.kind ≡ kind) u_in at_u
      ∙ sym (fact_read vertices v (λ x. x.kind ≡ kind) v_in at_v))

  pub house_nowhere : (chain : List ℕ) → chain ≡ chain_of vertices v →
      ((i u : ℕ) → i < length chain → slice_get chain i ≡ Some u → u ≢ v → IsNodeType (graph_in kinds vertices) u → ⊥) →
      IsHoused (graph_in kinds vertices) v → ⊥
  house_nowhere chain is none house =
      let there = in_chain vertices v house.0 house.2 in
      let at : slice_get chain there.0.0 ≡ Some house.0 = ap (λ l. slice_get l there.0.0) is ∙ there.0.1 in
      none there.0.0 house.0 (slice_get_within chain there.0.0 house.0 at) at there.1 house.1

pub houses_more : (g : ResourceGraph) (v : ℕ) (houses grown : List (Option ℕ)) (o : Option ℕ) → HasHouses g v houses →
    IsHouse g v o → grown ≡ houses ++ o ∷ [] → HasHouses g (v + 1) grown
houses_more g v houses grown o to here is = record {
  as_many = ap length is ∙ (length_push houses o ∙ ap (λ n. n + 1) to.as_many);
  each = λ u other e. elim (push_cases houses o other u (ap (λ l. slice_get l u) (sym is) ∙ e)) [
    | inl old ↦ to.each u other old.1
    | inr new ↦ (let at : v ≡ u = sym to.as_many ∙ sym new.0 in
        subst (λ (w : ℕ). IsHouse g w other) at (subst (λ (x : Option ℕ). IsHouse g v x) (sym new.1) here))
  ];
}

-- one vertex more shows a child, or none
pub children_more : (vertices : List Vertex) (v p : ℕ) (children : List Bool) → p < length vertices →
    parent_of vertices v ≡ Some p → HasChildren vertices v children → HasChildren vertices (v + 1) (set children p true)
children_more vertices v p children p_in parent to = record {
  as_many = length-set children p true ∙ to.as_many;
  each = λ u u_in. elim (cases_eq u p) [
    | inl same ↦ (
      (λ _. (v, omega arith, parent ∙ ap Some (sym same))),
      (λ _. ap (λ i. get_or (set children p true) i false) same
          ∙ get_or-set_same children p true false (let long = to.as_many in omega arith)),
    )
    | inr differ ↦ (
      (λ h. (let was = (to.each u u_in).0 (sym (get_or-set_other children p u true false differ) ∙ h) in
          (was.0, (let lt : was.0 < v = was.1 in omega arith), was.2))),
      (λ child. elim (cases_lt child.0 v) [
        | inl before ↦ get_or-set_other children p u true false differ ∙ (to.each u u_in).1 (child.0, before, child.2)
        | inr last ↦ absurd (differ (let is : child.0 ≡ v = (let lt : child.0 < v + 1 = child.1 in omega arith) in
            same_Some _ _ (sym child.2 ∙ (ap (parent_of vertices) is ∙ parent))))
      ]),
    )
  ];
}

pub children_same : (vertices : List Vertex) (v : ℕ) (children : List Bool) → parent_of vertices v ≡ None →
    HasChildren vertices v children → HasChildren vertices (v + 1) children
children_same vertices v children none to = record {
  as_many = to.as_many;
  each = λ u u_in. (
    (λ h. (let was = (to.each u u_in).0 h in (was.0, (let lt : was.0 < v = was.1 in omega arith), was.2))),
    (λ child. elim (cases_lt child.0 v) [
      | inl before ↦ (to.each u u_in).1 (child.0, before, child.2)
      | inr last ↦ absurd (let is : child.0 ≡ v = (let lt : child.0 < v + 1 = child.1 in omega arith) in
          let clash : None ≡ Some u = sym none ∙ (ap (parent_of vertices) (sym is) ∙ child.2) in cc)
    ]),
  );
}

-- a pool with a child, by the two tables
pub pool_here : (vertices : List Vertex) (v : ℕ) → v < length vertices →
    is_pool vertices v ≡ is_pool_kind vertices (get_or vertices v no_vertex).kind
pool_here vertices v lt = ap (λ o. option_map_or (λ x. is_pool_kind vertices x.kind) o false)
    (slice_get-get_or vertices v no_vertex lt)

-- the table of houses at a vertex
pub housed_at : (g : ResourceGraph) (most : ℕ) (houses : List (Option ℕ)) (v : ℕ) → HasHouses g most houses →
    v < most → is_some (get_or houses v None) ≡ true → IsHoused g v
housed_at g most houses v has lt h = go (get_or houses v None) h
    (has.each v (get_or houses v None) (slice_get-get_or houses v None (let long = has.as_many in omega arith)))
  where
    go : (o : Option ℕ) → is_some o ≡ true → IsHouse g v o → IsHoused g v
    go None t house = absurd (true≢false (sym t))
    go (Some n) t house = (n, house.0, house.1)

pub unhoused_at : (g : ResourceGraph) (most : ℕ) (houses : List (Option ℕ)) (v : ℕ) → HasHouses g most houses →
    v < most → is_some (get_or houses v None) ≡ false → IsHoused g v → ⊥
unhoused_at g most houses v has lt h = go (get_or houses v None) h
    (has.each v (get_or houses v None) (slice_get-get_or houses v None (let long = has.as_many in omega arith)))
  where
    go : (o : Option ℕ) → is_some o ≡ false → IsHouse g v o → IsHoused g v → ⊥
    go None t house = house
    go (Some n) t house = absurd (true≢false t)

-- a pool with a child by the two tables
pub parent_pool : (vertices : List Vertex) (v : ℕ) (r : Bool) → v < length vertices →
    r ≡ is_pool_kind vertices (get_or vertices v no_vertex).kind → HasChildTo vertices (length vertices) v →
    (IsTrue r → IsTrue (is_pool vertices v) × ((w : ℕ) × (parent_of vertices w ≡ Some v)))
    × (IsTrue (is_pool vertices v) × ((w : ℕ) × (parent_of vertices w ≡ Some v)) → IsTrue r)
parent_pool vertices v r lt is child =
    let same = pool_here vertices v lt in
    ((λ h. (same ∙ (sym is ∙ h), (child.0, child.2))), (λ bad. is ∙ (sym same ∙ bad.0)))
