-- From the tables to what the queries answer.
use Rattle.std.proofs.Common.{◌≡◌, ℕ, ◌+◌, ◌<◌, ◌≤◌, inl, inr, false, List, length, get_or, Option, Some, None, refl}
use Rattle.std.proofs.Common.{sym, subst, arith, ltb, MatchOption, Vec, Global}
use Rattle.std.specs.Prelude.{slice_get}
use Rattle.std.specs.Option.{IsSomeAnd}
use Rattle.std.proofs.lemmas.Bool.{cases_lt, false_from_ne_true, lt-ltb, ltb-true}
use Rattle.std.proofs.lemmas.Option.{slice_get-get_or, slice_get_read}
use Rattle.flux_defs.specs.declared.limits.TheConstants.{MOST_LEVELS}
use Rattle.flux_defs.specs.declared.vertices.Vertex.{Vertex}
use Rattle.flux_defs.specs.Graph.{ResourceGraph, is_below, HasKind}
use Rattle.flux_defs.specs.ValidGraph.{IsValidGraph, StandsInPreorder}
use Rattle.graph_laws.proofs.Containment.{ParentsFirst, below_le, below_from, below_to}
use Rattle.graph_laws.proofs.Preorder.{parents_first, has_parent}
use Rattle.list_laws.proofs.Tests.{same_tests}
use Rattle.resource_graph.specs.Chains.{chain_of, KnowsParents}
use Rattle.resource_graph.specs.Holds.{HasLists}
use Rattle.resource_graph.specs.Preorder.{InPreorder}
use Rattle.resource_graph.specs.Tables.{IsPast, IsNextOfKind, HasNoneOfKind, IsNextIn, HasNoneIn, ListsKind}

module _ (vertices : List Vertex) (first : ParentsFirst vertices) where
  -- nothing is below a vertex that does not stand before it
  pub below_later : (u v : ℕ) → v ≤ u → is_below vertices v u ≡ false
  below_later u v le =
      false_from_ne_true (is_below vertices v u) (λ h.
      let b = below_to vertices first v u h in
      let le' : u ≤ v = below_le vertices first v u b.0 in
      b.1 (omega arith))

  -- below is a range
  pub below_range : (u v after : ℕ) →
      IsPast vertices u after → v < length vertices → u < v → ltb v after ≡ is_below vertices v u
  below_range u v after past lt before =
      same_tests (ltb v after) (is_below vertices v u)
      (λ h. let le : v < after = ltb-true v after h in
      below_from vertices first v u (λ e. omega arith) (past.covered v (omega arith) le))
      (λ h. let b = below_to vertices first v u h in lt-ltb v after (past.whole v lt b.0))

-- what has a kind is a vertex
pub kind_within : (vertices : List Vertex) (kind v : ℕ) →
    HasKind vertices kind v → (x : Vertex) × (slice_get vertices v ≡ Some x) × (x.kind ≡ kind)
kind_within vertices kind v h = at (slice_get vertices v) refl h
  where
    at : (o : Option Vertex) → slice_get vertices v ≡ o →
        IsSomeAnd o (λ x. x.kind ≡ kind) → (x : Vertex) × (slice_get vertices v ≡ Some x) × (x.kind ≡ kind)
    at None e p = absurd p
    at (Some x) e p = (x, e, p)

-- a list that was read is that of its kind
pub read_list : (vertices : List Vertex) (kinds kind : ℕ) (lists : List (Vec ℕ Global))
    (list : Vec ℕ Global) (items : List ℕ) → HasLists vertices kinds lists → kind < length lists →
    list ≡ get_or lists kind list → items ≡ list.items → ListsKind vertices kind items
read_list vertices kinds kind lists list items has lt read same =
    subst (λ (xs : List ℕ). ListsKind vertices kind xs)
    (sym same) (has.each kind list (slice_get_read lists (length lists) kind list refl lt read))

-- the next of a list of a kind is the next of that kind
pub next_of_list : (vertices : List Vertex) (kind : ℕ) (list : List ℕ) (from to : ℕ) (found : Option ℕ) →
    ListsKind vertices kind list →
    MatchOption found (HasNoneIn list from to) (λ v. IsNextIn list from to v) →
    MatchOption found (HasNoneOfKind vertices kind from to) (λ v. IsNextOfKind vertices kind from to v)
next_of_list vertices kind list from to None lists none = λ u has low high.
    let there = lists.all u has in
    none there.0 there.1 (let e : get_or list there.0 0 ≡ u = there.2 in omega arith)
    (let e : get_or list there.0 0 ≡ u = there.2 in omega arith)
next_of_list vertices kind list from to (Some v) lists next = record {
  of_kind = subst (λ (w : ℕ). HasKind vertices kind w) next.there.2 (lists.only next.there.0 next.there.1);
  low = next.low;
  high = next.high;
  least = λ u has low.
      let there = lists.all u has in
      let e : get_or list there.0 0 ≡ u = there.2 in
      let le : v ≤ get_or list there.0 0 = next.least there.0 there.1 (omega arith) in
      omega arith;
}

-- where a vertex isn't of the kind, the next one behind it is the next one from it on
pub next_from_behind : (vertices : List Vertex) (kind from to : ℕ) (found : Option ℕ) →
    (HasKind vertices kind from → ⊥) →
    MatchOption found (HasNoneOfKind vertices kind (from + 1) to) (λ v. IsNextOfKind vertices kind (from + 1) to v) →
    MatchOption found (HasNoneOfKind vertices kind from to) (λ v. IsNextOfKind vertices kind from to v)
next_from_behind vertices kind from to found never next = at found next
  where
    behind : (u : ℕ) → HasKind vertices kind u → from ≤ u → from + 1 ≤ u
    behind u has low = elim (cases_lt from u) [
      | inl later ↦ omega arith
      | inr same ↦ (let e : u ≡ from = omega arith in
          absurd (never (subst (λ (w : ℕ). HasKind vertices kind w) e has)))
    ]

    at : (found : Option ℕ) →
        MatchOption found (HasNoneOfKind vertices kind (from + 1) to)
        (λ v. IsNextOfKind vertices kind (from + 1) to v) →
        MatchOption found (HasNoneOfKind vertices kind from to) (λ v. IsNextOfKind vertices kind from to v)
    at None none = λ u has low high. none u has (behind u has low) high
    at (Some v) next = record {
      of_kind = next.of_kind;
      low = let low = next.low in omega (arith, low);
      high = next.high;
      least = λ u has low. next.least u has (behind u has low);
    }

-- in a valid graph each parent is a vertex, and each chain is short
pub parents_known : (g : ResourceGraph) (names : List (List ℕ)) → IsValidGraph g names → KnowsParents g.vertices
parents_known g names valid v p e =
    let before : p < v = parents_first g valid.preorder v p e in
    let within : v < length g.vertices = has_parent g.vertices v p e in omega arith

pub chains_short : (g : ResourceGraph) (names : List (List ℕ)) →
    IsValidGraph g names → (v : ℕ) → v < length g.vertices → length (chain_of g.vertices v) ≤ MOST_LEVELS
chains_short g names valid v lt =
    valid.shallow v (get_or g.vertices v no_vertex) (slice_get-get_or g.vertices v no_vertex lt)
  where
    no_vertex : Vertex
    no_vertex = record { kind = 0; size = 0; parent = None; id = None; rank = None }

-- preorder doesn't speak of the types' names
pub in_preorder : (g : ResourceGraph) (vertices : List Vertex) →
    vertices ≡ g.vertices → StandsInPreorder g → InPreorder vertices
in_preorder g vertices same o =
    let here : InPreorder g.vertices = record { some = o.some; root = o.root; next = o.next } in
    subst (λ (l : List Vertex). InPreorder l) (sym same) here
