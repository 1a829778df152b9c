-- Which kinds contain which: the test over all pairs of vertices agrees with what a graph answers.
use Rattle.std.proofs.Common.{◌≡◌, ℕ, zero, suc, ◌+◌, ◌<◌, ◌==◌, Bool, true, false, ◌||◌, List, length, Option}
use Rattle.std.proofs.Common.{Some, None, slice_get, IsTrue, ◌↔◌, true≢false, refl, sym, zero-add, arith}
use Rattle.std.specs.List.{list_any, range_with_len}
use Rattle.std.specs.Option.{IsSomeAnd, option_map_or}
use Rattle.std.proofs.lemmas.List.Folds.{list_any_at}
use Rattle.std.proofs.lemmas.List.FromFn.{length-range_with_len, get_or-range_with_len}
use Rattle.std.proofs.lemmas.Bool.{eqb-true, eq-eqb, and_from}
use Rattle.std.specs.Cmp.{first_so, second_so}
use Rattle.resource_graph.proofs.MarkLaws.{has_kind_in}
use Rattle.flux_defs.specs.declared.vertices.Vertex.{Vertex}
use Rattle.flux_defs.specs.Graph.{HasKind, Contains}
use Rattle.list_laws.proofs.Tests.{same_tests}
use Rattle.resource_graph.specs.Preorder.{KnowsKinds}
use Rattle.resource_graph.specs.Tables.{has_kind, contains_kind}
use Rattle.list_laws.proofs.Values.{value_of}

-- an index that passes a test of all indices, and the converse
any_index : (test : ℕ → Bool) (count v : ℕ) →
    v < count → IsTrue (test v) → IsTrue (list_any test (range_with_len 0 count))
any_index test count v less h =
    list_any_at test (range_with_len 0 count) v v
    (rw (length-range_with_len) less) (rw (get_or-range_with_len 0 count v v less, zero-add) h)

some_index : (test : ℕ → Bool) (low count : ℕ) →
    IsTrue (list_any test (range_with_len low count)) → (v : ℕ) × IsTrue (test v)
some_index test low zero h = absurd (true≢false (sym h))
some_index test low (suc count) h = by (test low) refl h (some_index test (low + 1) count)
  where
    by : (b : Bool) → test low ≡ b → IsTrue (b || list_any test (range_with_len (low + 1) count)) →
        (IsTrue (list_any test (range_with_len (low + 1) count)) → (v : ℕ) × IsTrue (test v)) →
        (v : ℕ) × IsTrue (test v)
    by true is h later = (low, is)
    by false is h later = later h

pub of_kind : (vertices : List Vertex) (kind v : ℕ) → IsTrue (has_kind vertices kind v) → HasKind vertices kind v
of_kind vertices kind v h = by (slice_get vertices v) h
  where
    by : (o : Option Vertex) → IsTrue (option_map_or (λ x. x.kind == kind) o false) → IsSomeAnd o (λ x. x.kind ≡ kind)
    by None h = absurd (true≢false (sym h))
    by (Some x) h = eqb-true x.kind kind h

pub is_of_kind : (vertices : List Vertex) (kind v : ℕ) → HasKind vertices kind v → IsTrue (has_kind vertices kind v)
is_of_kind vertices kind v h = by (slice_get vertices v) h
  where
    by : (o : Option Vertex) → IsSomeAnd o (λ x. x.kind ≡ kind) → IsTrue (option_map_or (λ x. x.kind == kind) o false)
    by None h = absurd h
    by (Some x) h = eq-eqb x.kind kind h

pub contains_is : (vertices : List Vertex) (upper lower : ℕ) →
    IsTrue (contains_kind vertices upper lower) ↔ Contains vertices (HasKind vertices upper) (HasKind vertices lower)
contains_is vertices upper lower = (
  (λ h.
      let u = some_index _ 0 (length vertices) h in
      let v = some_index _ 0 (length vertices) u.1 in
      let rest = second_so (has_kind vertices upper u.0) _ v.1 in (
        u.0,
        v.0,
        of_kind vertices upper u.0 (first_so (has_kind vertices upper u.0) _ v.1),
        of_kind vertices lower v.0
            (first_so (has_kind vertices lower v.0) _ rest),
        second_so (has_kind vertices lower v.0) _ rest,
      )),
  (λ (u, v, up, low, below).
      any_index _ (length vertices) u
      (has_kind_in vertices upper u up) (any_index _ (length vertices) v (has_kind_in vertices lower v low)
      (and_from _ _ (is_of_kind vertices upper u up) (and_from _ _ (is_of_kind vertices lower v low) below)))),
)

-- what a graph answers is this test
pub nests_is : (vertices : List Vertex) (upper lower : ℕ) (answer : Bool) →
    (IsTrue answer ↔ Contains vertices (HasKind vertices upper) (HasKind vertices lower)) →
    answer ≡ contains_kind vertices upper lower
nests_is vertices upper lower answer is =
    let (to, from) = contains_is vertices upper lower in
    same_tests answer (contains_kind vertices upper lower) (λ h. from (is.0 h)) (λ h. is.1 (to h))

-- a kind is one of the graph's
pub kind_in : (vertices : List Vertex) (kinds kind v : ℕ) →
    KnowsKinds vertices kinds → HasKind vertices kind v → kind < kinds
kind_in vertices kinds kind v known h =
    let x = value_of (slice_get vertices v) (λ x. x.kind ≡ kind) h in
    let lt : x.0.kind < kinds = known v x.0 x.1 in
    let same : x.0.kind ≡ kind = x.2 in omega arith

-- past the last type none contains another
pub none_past : (vertices : List Vertex) (kinds upper lower : ℕ) → KnowsKinds vertices kinds →
    (upper < kinds → lower < kinds → ⊥) → false ≡ contains_kind vertices upper lower
none_past vertices kinds upper lower known past =
    nests_is vertices upper lower false (
      λ h. absurd (true≢false (sym h)),
      λ (u, v, up, low, below). absurd (past (kind_in vertices kinds upper u known up)
          (kind_in vertices kinds lower v known low)),
    )
