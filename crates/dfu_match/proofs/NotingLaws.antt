-- What a walk over the vertices of a need notes.
use Rattle.std.proofs.Common.{ℕ, ◌+◌, List, Some, arith}
use Rattle.flux_defs.specs.declared.requests.Need.{Need}
use Rattle.flux_defs.specs.Graph.{ResourceGraph, HasKind}
use Rattle.flux_defs.specs.ValidGraph.{IsValidGraph}
use Rattle.graph_laws.proofs.Containment.{below_from}
use Rattle.graph_laws.proofs.Preorder.{parents_first}
use Rattle.resource_graph.specs.Tables.{IsPast, IsNextOfKind, HasNoneOfKind}
use Rattle.dfu_match.specs.Searches.{IsKindOfNeed}
use Rattle.dfu_match.specs.Rows.{NoneOfNeed}

module _ (g : ResourceGraph) (names : List (List ℕ)) (valid : IsValidGraph g names) (need : Need) (kind : ℕ)
    (of_kind : IsKindOfNeed g.vertices need (Some kind)) where
  -- no vertex of the need is left
  pub none_to : (from to : ℕ) → HasNoneOfKind g.vertices kind from to → NoneOfNeed g.vertices need from to
  none_to from to over v lo hi is = over v ((of_kind v).0 is) lo hi

  -- nor one before the next
  pub none_before : (from to v : ℕ) → IsNextOfKind g.vertices kind from to v → NoneOfNeed g.vertices need from v
  none_before from to v next u lo hi is = let le = next.least u ((of_kind u).0 is) lo in omega (arith, le, hi)

  -- nor one below it
  pub none_below : (v past : ℕ) → HasKind g.vertices kind v → IsPast g.vertices v past →
      NoneOfNeed g.vertices need (v + 1) past
  none_below v past is after u lo hi other =
      let first = parents_first g valid.preorder in
      valid.unnested u v kind ((of_kind u).0 other) is
      (below_from g.vertices first u v (λ e. omega (arith, e, lo)) (after.covered u (omega arith) hi))
