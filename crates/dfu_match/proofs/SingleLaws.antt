-- Needs of which each vertex serves exactly 1: the scope serves as many as it has vertices of their kind.
use Rattle.std.proofs.Common.{◌≡◌, ℕ, zero, suc, ◌+◌, ◌-◌, ◌<◌, ◌≤◌, Bool, true, false, cond, List, length, Some, min}
use Rattle.std.proofs.Common.{inl, inr, refl, sym, ◌∙◌, subst, arith, true≢false}
use Rattle.std.specs.List.{count_by, range_with_len}
use Rattle.std.proofs.lemmas.Bool.{cases_lt}
use Rattle.std.proofs.lemmas.List.Sums.{count_by-le-length}
use Rattle.std.proofs.lemmas.List.FromFn.{length-range_with_len}
use Rattle.flux_defs.specs.declared.vertices.Vertex.{Vertex}
use Rattle.flux_defs.specs.declared.claims.Claim.{Claim}
use Rattle.flux_defs.specs.declared.requests.Need.{Need}
use Rattle.flux_defs.specs.Graph.{Scope, HasKind}
use Rattle.flux_defs.specs.Lowest.{CanServe}
use Rattle.flux_laws.proofs.FitLaws.{TakesLess, serves_less}
use Rattle.match_laws.specs.Offers.{IsGreatest, SomeGroup}
use Rattle.match_laws.proofs.Walk.{Reached, reached_start, reached_over, reached_next, reached_end}
use Rattle.match_laws.proofs.NeedLists.{greatest_along, group_to, group_from, server}
use Rattle.resource_graph.specs.Tables.{has_kind, kind_count}
use Rattle.resource_graph.proofs.CountLaws.{count_first}
use Rattle.resource_graph.proofs.NestLaws.{of_kind, is_of_kind}
use Rattle.dfu_match.specs.Searches.{Covers, IsKindOfNeed}
use Rattle.dfu_match.specs.Walks.{ServesOneEach}
use Rattle.dfu_match.proofs.ScopeLaws.{none_before, none_after, found}

-- there are no more vertices of a kind than numbers
pub count_few : (vertices : List Vertex) (kind from to : ℕ) → kind_count vertices kind from to ≤ to - from
count_few vertices kind from to =
    let le = count_by-le-length (has_kind vertices kind) (range_with_len from (to - from)) in
    let long = length-range_with_len from (to - from) in
    omega (arith, le, long)

module _ (vertices : List Vertex) (ok : Claim → Type 0) (less : TakesLess ok) (scope : Scope) (need : Need)
    (kind from to most : ℕ) (named : IsKindOfNeed vertices need (Some kind)) (cover : Covers vertices scope from to)
    (within : to ≤ length vertices) (singles : ServesOneEach vertices ok need) where
  abbrev can : ℕ → ℕ → Type 0
  can = CanServe vertices ok scope need

  abbrev one : ℕ → ℕ
  one v = cond (has_kind vertices kind v) 1 0

  -- a vertex of the kind serves 1, where more is asked, and another one nothing
  next : (at done : ℕ) (b : Bool) → has_kind vertices kind at ≡ b → from ≤ at → at < to → Reached can most at done →
      Reached can most (at + 1) (min most (done + cond b 1 0))
  next at done true is lo hi r = elim (cases_lt done most) [
    | inl lt ↦ (
        let here = found vertices ok scope need kind from at to at cover lo within named
        (of_kind vertices kind at is, omega arith, hi) in
        let e : done + 1 ≡ min most (done + 1) = omega (arith, lt) in
        subst (Reached can most (at + 1)) e
        (reached_next can (serves_less vertices ok less scope need) most at done 1 r
        (singles scope at (most - done) here.0 here.1 (omega (arith, lt)))))
    | inr ge ↦ (
        let few = r.within in
        let e : done + 0 ≡ min most (done + 1) = omega (arith, ge, few) in
        subst (Reached can most (at + 1)) e
        (reached_next can (serves_less vertices ok less scope need) most at done 0 r (record {
          within = omega arith;
          can_be = λ some. absurd (omega (arith, some));
          full = λ lt c. absurd (omega (arith, lt, ge));
        })))
  ]
  next at done false is lo hi r =
      let few = r.within in
      let e : done ≡ min most (done + 0) = omega (arith, few) in
      subst (Reached can most (at + 1)) e
      (reached_over can (serves_less vertices ok less scope need) most at (at + 1) done (omega arith)
      (λ v q le lt some c.
      let same : v ≡ at = omega (arith, le, lt) in
      let has : HasKind vertices kind at =
      subst (λ (n : ℕ). HasKind vertices kind n) same
      ((named v).0 (server vertices ok scope need v q c).0) in
      true≢false (sym (is_of_kind vertices kind at has) ∙ is)) r)

  -- so along some of the scope's vertices as many are served as are of the kind
  along : (n at done : ℕ) → n ≤ to - at → from ≤ at → Reached can most at done →
      Reached can most (at + n) (min most (done + count_by (has_kind vertices kind) (range_with_len at n)))
  along zero at done le lo r =
      let few = r.within in
      let e : done ≡ min most (done + 0) = omega (arith, few) in
      let same : at ≡ at + 0 = omega arith in
      subst (λ (v : ℕ). Reached can most v (min most (done + 0))) same (subst (Reached can most at) e r)
  along (suc n) at done le lo r =
      let rest : ℕ = count_by (has_kind vertices kind) (range_with_len (at + 1) n) in
      let first = count_first (has_kind vertices kind) at n in
      let e : min most (min most (done + one at) + rest)
      ≡ min most (done + count_by (has_kind vertices kind) (range_with_len at (suc n))) = omega (arith, first) in
      let same : at + 1 + n ≡ at + suc n = omega arith in
      subst (λ (v : ℕ). Reached can most v
      (min most (done + count_by (has_kind vertices kind) (range_with_len at (suc n))))) same
      (subst (Reached can most (at + 1 + n)) e
      (along n (at + 1) (min most (done + one at)) (omega (arith, le)) (omega (arith, lo))
      (next at done (has_kind vertices kind at) refl lo (omega (arith, le)) r)))

  -- and in the whole scope
  pub greatest_count : IsGreatest (SomeGroup vertices ok scope need) most (min most (kind_count vertices kind from to))
  greatest_count =
      let down = serves_less vertices ok less scope need in
      let e : min most (0 + kind_count vertices kind from to) ≡ min most (kind_count vertices kind from to) =
      omega arith in
      greatest_along _ _ most _ (group_from vertices ok scope need) (group_to vertices ok scope need)
      (reached_end can down most (from + (to - from)) (min most (kind_count vertices kind from to))
      (none_after vertices ok scope need from (from + (to - from)) to cover
      (λ sc v q lo hi some c. omega (arith, lo, hi)))
      (subst (Reached can most (from + (to - from))) e (along (to - from) from 0 (omega arith) (omega arith)
      (reached_start can down most from (none_before vertices ok scope need from to cover)))))
