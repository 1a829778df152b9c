-- Which chains of parents end, and how soon, by climbs.
use Rattle.std.proofs.Common.{◌≡◌, ℕ, zero, suc, ◌+◌, ◌-◌, ◌<◌, ◌≤◌, true, List, ◌∷◌, length, get_or, Option, Some}
use Rattle.std.proofs.Common.{None, inl, inr, refl, sym, ◌∙◌, ap, arith, true≢false}
use Rattle.std.specs.Prelude.{slice_get, is_some, position}
use Rattle.std.proofs.lemmas.Bool.{cases_lt}
use Rattle.std.proofs.lemmas.Option.{slice_get-get_or, slice_get_within}
use Rattle.flux_defs.specs.declared.limits.TheConstants.{MOST_LEVELS}
use Rattle.flux_defs.specs.declared.vertices.Vertex.{Vertex}
use Rattle.flux_defs.specs.Graph.{parent_of, chain}
use Rattle.resource_graph.specs.Chains.{chain_of}
use Rattle.graph_build.specs.Faults.{NeverEnds, IsDeep}
use Rattle.graph_build.specs.Checks.{graph_in, climb, HasClimbs}
use Rattle.resource_graph.specs.Finds.{IsFirstOf}
use Rattle.resource_graph.proofs.ChainLaws.{chains_agree, chain_short}
use Rattle.graph_laws.proofs.Containment.{chain_none}
use Rattle.graph_build.proofs.ClimbLaws.{climb-None, climb-climb, chain_ends, chain_goes_on}
use Rattle.resource_graph.proofs.Finds.{Passes, finds_position, finds_same}
use Rattle.list_laws.proofs.Values.{value_of, from_value}

-- past its end a chain doesn't grow
chain_stops : (vertices : List Vertex) (m k : ℕ) (o : Option ℕ) → climb vertices m o ≡ None → m ≤ k →
    chain vertices k o ≡ chain vertices m o
chain_stops vertices zero zero None e le = refl
chain_stops vertices zero (suc k) None e le = refl
chain_stops vertices zero k (Some v) e le = absurd (cc)
chain_stops vertices (suc m) zero None e le = refl
chain_stops vertices (suc m) (suc k) None e le = refl
chain_stops vertices (suc m) zero (Some v) e le = absurd (omega arith)
chain_stops vertices (suc m) (suc k) (Some v) e le =
    ap (λ l. v ∷ l) (chain_stops vertices m k (parent_of vertices v) e (omega arith))

some_or_none : (o : Option ℕ) → is_some o ≡ true → (u : ℕ) × (o ≡ Some u)
some_or_none None t = absurd (true≢false (sym t))
some_or_none (Some u) t = (u, refl)

module _ (kinds : List (List ℕ)) (vertices : List Vertex) where
  -- where a climb of so many steps came to a vertex
  reached_to : (n : ℕ) (climbs : List (Option ℕ)) → HasClimbs vertices n climbs → (v : ℕ) →
      Passes (λ o. is_some o) climbs v → (v < length vertices) × ((u : ℕ) × (climb vertices n (Some v) ≡ Some u))
  reached_to n climbs has v h =
      let o = value_of (slice_get climbs v) (λ o. is_some o ≡ true) h in
      let u = some_or_none o.0 o.2 in
      let lt : v < length climbs = slice_get_within climbs v o.0 o.1 in
      ((let long = has.as_many in omega arith), (u.0, sym (has.each v o.0 o.1) ∙ u.1))

  reached_from : (n : ℕ) (climbs : List (Option ℕ)) → HasClimbs vertices n climbs → (v : ℕ) → v < length vertices →
      (climb vertices n (Some v) ≡ None → ⊥) → Passes (λ o. is_some o) climbs v
  reached_from n climbs has v lt on =
      let at : slice_get climbs v ≡ Some (get_or climbs v None) = slice_get-get_or climbs v None
      (let long = has.as_many in omega arith) in
      from_value (slice_get climbs v) (λ o. is_some o ≡ true) (get_or climbs v None) at
      (go (get_or climbs v None) (has.each v (get_or climbs v None) at))
    where
      go : (o : Option ℕ) → o ≡ climb vertices n (Some v) → is_some o ≡ true
      go None e = absurd (on (sym e))
      go (Some u) e = refl

  pub finds_endless : (climbs : List (Option ℕ)) (found : Option ℕ) → HasClimbs vertices (length vertices) climbs →
      found ≡ position (λ o. is_some o) climbs → IsFirstOf (NeverEnds (graph_in kinds vertices)) found
  finds_endless climbs found has e =
      finds_same (Passes (λ o. is_some o) climbs) (NeverEnds (graph_in kinds vertices)) found
      (λ v h. (let r = reached_to (length vertices) climbs has v h in (
        r.0,
        (let long : length (chain vertices (suc (length vertices)) (Some v)) ≡ suc (length vertices) =
            chain_goes_on vertices (length vertices) r.1.0 (Some v) r.1.1 in omega arith),
      )))
      (λ v bad. reached_from (length vertices) climbs has v bad.0 (λ none.
      (let short : length (chain vertices (suc (length vertices)) (Some v)) ≤ length vertices =
      chain_ends vertices (length vertices) (Some v) none in
      let over : length vertices < length (chain vertices (suc (length vertices)) (Some v)) = bad.1 in omega arith)))
      (finds_position (λ o. is_some o) climbs found e)

  pub finds_deep : (climbs : List (Option ℕ)) (found : Option ℕ) →
      ((v : ℕ) → NeverEnds (graph_in kinds vertices) v → ⊥) → HasClimbs vertices MOST_LEVELS climbs →
      found ≡ position (λ o. is_some o) climbs → IsFirstOf (IsDeep (graph_in kinds vertices)) found
  finds_deep climbs found ends has e =
      finds_same (Passes (λ o. is_some o) climbs) (IsDeep (graph_in kinds vertices)) found
      (λ v h. (let r = reached_to MOST_LEVELS climbs has v h in (r.0, deep v r.0 r.1.0 r.1.1)))
      (λ v bad. reached_from MOST_LEVELS climbs has v bad.0 (λ none.
      (let over : MOST_LEVELS < length (chain_of vertices v) = bad.1 in
      let long : length (chain_of vertices v) ≤ length vertices = chain_short vertices (length vertices) (Some v) in
      let same : length (chain_of vertices v) ≡ length (chain vertices MOST_LEVELS (Some v)) =
      ap length (chain_stops vertices MOST_LEVELS (length vertices) (Some v) none (omega arith)) in
      let short : length (chain vertices MOST_LEVELS (Some v)) ≤ MOST_LEVELS =
      chain_short vertices MOST_LEVELS (Some v) in omega arith)))
      (finds_position (λ o. is_some o) climbs found e)
    where
      deep : (v : ℕ) → v < length vertices → (u : ℕ) → climb vertices MOST_LEVELS (Some v) ≡ Some u →
          MOST_LEVELS < length (chain_of vertices v)
      deep v lt u on =
          let long : length (chain vertices (MOST_LEVELS + 1) (Some v)) ≡ (MOST_LEVELS + 1) =
          chain_goes_on vertices MOST_LEVELS u (Some v) on in
          elim (cases_lt MOST_LEVELS (length vertices)) [
            | inl many ↦ elim (cases_lt MOST_LEVELS (length (chain_of vertices v))) [
              | inl over ↦ over
              | inr short ↦ absurd (
                  let same : length (chain_of vertices v) ≡ length (chain vertices (MOST_LEVELS + 1) (Some v)) =
                  ap length (chains_agree vertices
                  (length vertices) (MOST_LEVELS + 1) (Some v) (omega arith) (omega arith)) in
                  omega arith)
            ]
            | inr few ↦ absurd (go (climb vertices (length vertices) (Some v)) refl few)
          ]
        where
          go : (o : Option ℕ) → climb vertices (length vertices) (Some v) ≡ o → length vertices ≤ MOST_LEVELS → ⊥
          go None f le =
              let split : length vertices + (MOST_LEVELS - length vertices) ≡ MOST_LEVELS = omega arith in
              let none : climb vertices MOST_LEVELS (Some v) ≡ None =
              ap (λ n. climb vertices n (Some v)) (sym split)
              ∙ (sym (climb-climb vertices (length vertices) (MOST_LEVELS - length vertices) (Some v))
              ∙ (ap (climb vertices (MOST_LEVELS - length vertices)) f
              ∙ climb-None vertices (MOST_LEVELS - length vertices))) in
              let clash : None ≡ Some u = sym none ∙ on in cc
          go (Some w) f le =
              ends v (
                lt,
                (let over : length (chain vertices (suc (length vertices)) (Some v)) ≡ suc (length vertices)
                    = chain_goes_on vertices (length vertices) w (Some v) f in omega arith),
              )

-- where parents stand before their children, no chain is longer than the vertices up to its own
module _ (vertices : List Vertex) (first : (v p : ℕ) → parent_of vertices v ≡ Some p → p < v) where
  chain_within : (most v : ℕ) → length (chain vertices most (Some v)) ≤ v + 1
  chain_within zero v = omega arith
  chain_within (suc most) v = by (parent_of vertices v) refl (λ p. chain_within most p)
    where
      by : (o : Option ℕ) → parent_of vertices v ≡ o → ((p : ℕ) → length (chain vertices most (Some p)) ≤ p + 1) →
          suc (length (chain vertices most o)) ≤ v + 1
      by None e shorter = let none = chain_none vertices most in omega (arith, none)
      by (Some p) e shorter = let before = first v p e in let rest = shorter p in omega (arith, before, rest)

  pub none_endless : (kinds : List (List ℕ)) (v : ℕ) → NeverEnds (graph_in kinds vertices) v → ⊥
  none_endless kinds v bad =
      let within = bad.0 in
      let over = bad.1 in
      let short = chain_within (suc (length vertices)) v in absurd (omega (arith, within, over, short))
