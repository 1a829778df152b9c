-- What a walk over the vertices of a need may pass over.
use Rattle.std.proofs.Common.{ℕ, ◌-◌, ◌<◌, ◌≤◌, nat_le, Bool, true, false, not, if◌then◌else◌, List, inl, inr, Some}
use Rattle.std.proofs.Common.{sym, arith, IsTrue, true≢false}
use Rattle.std.specs.List.{list_any}
use Rattle.std.proofs.lemmas.Bool.{and_parts, or_right, or_left}
use Rattle.std.proofs.lemmas.Bool.Decides.{nat_tests}
use Rattle.flux_defs.specs.declared.vertices.Vertex.{Vertex}
use Rattle.flux_defs.specs.declared.requests.Need.{Vert', Pool, Spread'}
use Rattle.flux_defs.specs.Jobs.{some_live_claim, holds_over}
use Rattle.flux_defs.specs.Closed.{is_closed}
use Rattle.flux_defs.specs.Free.{taken_at, free_at}
use Rattle.flux_defs.specs.Lowest.{CanServe}
use Rattle.graph_laws.proofs.Containment.{not_to}
use Rattle.dfu_match.specs.Bars.{BarsAll}
use Rattle.dfu_match.proofs.ScopeLaws.{alike_node}
use Rattle.std.proofs.lemmas.Bool.{cases_lt}
use Rattle.flux_defs.specs.declared.claims.Claim.{Claim}
use Rattle.flux_defs.specs.declared.claims.Window.{Window}
use Rattle.flux_defs.specs.declared.requests.Need.{Need}
use Rattle.flux_defs.specs.Graph.{ResourceGraph, Scope, HasKind, IsNode, is_at_or_below, is_pool, size_of}
use Rattle.flux_defs.specs.ValidGraph.{IsValidGraph}
use Rattle.flux_defs.specs.Needs.{IsValidNeed}
use Rattle.flux_defs.specs.Present.{Present}
use Rattle.graph_laws.proofs.Containment.{below_le}
use Rattle.graph_laws.proofs.Preorder.{parents_first}
use Rattle.match_laws.proofs.NeedLists.{server}
use Rattle.resource_graph.specs.Tables.{IsPast, IsNextOfKind, HasNoneOfKind}
use Rattle.prune_filters.specs.Shorts.{IsShortFor}
use Rattle.prune_laws.proofs.Demanded.{too_little_none}
use Rattle.dfu_match.specs.Searches.{open_to, meets, IsKindOfNeed}
use Rattle.dfu_match.specs.Walks.{ServesNone}

-- a barred vertex can't serve
module _ (vertices : List Vertex) (present : Present) (barred : List ℕ) (w : Window) (opens : w.from < w.to) (u : ℕ)
    (bars : IsTrue (list_any (is_at_or_below vertices u) barred)) where
  closed : IsTrue (is_closed (meets vertices present barred) w.from u)
  closed = or_right (some_live_claim present.jobs w.from (holds_over vertices u)) _
      (or_left _ (list_any (is_at_or_below vertices u) present.down) bars)

  never : IsTrue (not (is_closed (meets vertices present barred) w.from u)) → ⊥
  never h = not_to (is_closed (meets vertices present barred) w.from u) h closed

  nothing : (q : ℕ) → 1 ≤ q → IsTrue (nat_le q (free_at (meets vertices present barred) w.from u)) → ⊥
  nothing q some h = go (is_closed (meets vertices present barred) w.from u)
      (if is_pool vertices u then (size_of vertices u - taken_at present.jobs w.from u) else 1) closed h
    where
      least : IsTrue (nat_le q 0) → ⊥
      least k = grind (arith, nat_tests)

      go : (b : Bool) (n : ℕ) → IsTrue b → (let free : ℕ = (if b then 0 else n) in IsTrue (nat_le q free)) → ⊥
      go true n t k = least k
      go false n t k = true≢false (sym t)

  pub barred_none : (scope : Scope) (need : Need) (q : ℕ) → 1 ≤ q →
      CanServe vertices (open_to vertices present barred w) scope need u q → ⊥
  barred_none scope (Vert' kind count true m needs) q some c =
      never (and_parts _ _ (c.1.3.1 w.from (omega arith) opens)).0
  barred_none scope (Vert' kind count false m needs) q some c = never (c.1.3.2 w.from (omega arith) opens)
  barred_none scope (Pool kind quantity) q some c = nothing q some (c.1.3 w.from (omega arith) opens)
  barred_none scope (Spread' count m needs) q some c = never (c.1.2.2 w.from (omega arith) opens)

module _ (g : ResourceGraph) (names : List (List ℕ)) (valid : IsValidGraph g names) (present : Present)
    (barred : List ℕ)
    (w : Window) (need : Need) (kind : ℕ) (of_kind : IsKindOfNeed g.vertices need (Some kind)) where
  abbrev ok : Claim → Type 0
  ok = open_to g.vertices present barred w

  -- no vertex between is of the need's kind
  pub skipped_to : (from at to v : ℕ) → IsNextOfKind g.vertices kind at to v → ServesNone g.vertices ok need from at →
      ServesNone g.vertices ok need from v
  skipped_to from at to v next none scope u q lo hi some can = elim (cases_lt u at) [
    | inl before ↦ none scope u q lo before some can
    | inr after ↦ (let le : v ≤ u = next.least u ((of_kind u).0 (server g.vertices ok scope need u q can).0) after in
        omega arith)
  ]

  -- the ask bars each node, and one vertex of the need's kind is a node
  pub skipped_shut : (v from at to : ℕ) → w.from < w.to → BarsAll g.vertices barred → HasKind g.vertices kind v →
      IsNode g.vertices v →
      ServesNone g.vertices ok need from at → ServesNone g.vertices ok need from to
  skipped_shut v from at to opens bars is node none scope u q lo hi some can =
      elim (cases_lt u at) [
        | inl before ↦ none scope u q lo before some can
        | inr after ↦ (
            let there = (of_kind u).0 (server g.vertices ok scope need u q can).0 in
            barred_none g.vertices present barred w opens u (bars u
            (alike_node g names valid u v kind is node there)) scope need q some can)
      ]

  -- none is left
  pub skipped_all : (from at to : ℕ) → HasNoneOfKind g.vertices kind at to → ServesNone g.vertices ok need from at →
      ServesNone g.vertices ok need from to
  skipped_all from at to over none scope u q lo hi some can = elim (cases_lt u at) [
    | inl before ↦ none scope u q lo before some can
    | inr after ↦ over u ((of_kind u).0 (server g.vertices ok scope need u q can).0) after hi
  ]

  -- what lies in a short subtree can't serve
  pub skipped_past : (keeps : ℕ → ℕ → Type 0) → IsValidNeed g.vertices need → (from at v top past : ℕ) →
      IsTrue (is_at_or_below g.vertices v top) → IsShortFor g.vertices present w keeps need top →
      IsPast g.vertices top past →
      ServesNone g.vertices ok need from v → ServesNone g.vertices ok need from past
  skipped_past keeps fine from at v top past above short is none scope u q lo hi some can = elim (cases_lt u v) [
    | inl before ↦ none scope u q lo before some can
    | inr after ↦ (
        let le : top ≤ v = below_le g.vertices (parents_first g valid.preorder) v top above in
        too_little_none g names valid present barred w need fine top (short.0, short.1.1) scope u q
        (is.covered u (omega arith) hi) some can)
  ]
