-- Nothing is wrong with the list of vertices that a load's graph is built from.
use Rattle.std.proofs.Common.{◌≡◌, ◌≢◌, ◌⊎◌, ℕ, zero, suc, ◌+◌, ◌*◌, ◌/◌, ◌%◌, ◌<◌, ◌≤◌, ◌==◌, ◌&&◌, not, Bool, true}
use Rattle.std.proofs.Common.{false, List, [], ◌∷◌, ◌++◌, length, get_or, Option, Some, None, inl, inr, refl, sym, ◌∙◌}
use Rattle.std.proofs.Common.{ap, subst, arith, IsTrue, IsSome, true≢false, option_and_then}
use Rattle.std.specs.Prelude.{slice_get, codes, decimal}
use Rattle.std.specs.Option.{IsSomeAnd, option_map_or}
use Rattle.std.proofs.lemmas.Bool.{cases_lt, eqb-true, eq-eqb}
use Rattle.std.proofs.lemmas.Bool.Decides.{eqb_tells}
use Rattle.std.proofs.lemmas.Fmt.{decimal_injective}
use Rattle.std.proofs.lemmas.Option.{slice_get-get_or, slice_get_within, same_Some, none-some}
use Rattle.std.proofs.lemmas.List.Folds.{list_any_none}
use Rattle.flux_defs.specs.declared.limits.TheConstants.{GREATEST_NUMBER}
use Rattle.flux_defs.specs.declared.vertices.Vertex.{Vertex}
use Rattle.flux_defs.specs.Graph.{ResourceGraph, parent_of, chain, is_at_or_below, is_below, is_pool_kind, is_pool}
use Rattle.flux_defs.specs.ValidGraph.{IsDevice, HasType}
use Rattle.list_laws.proofs.Values.{value_of, at_value, from_value}
use Rattle.resource_graph.specs.Finds.{Nowhere}
use Rattle.graph_laws.proofs.Containment.{ParentsFirst, up, up-None, steps_of, below_parent, below_from, below_to}
use Rattle.graph_laws.proofs.Containment.{chain_none, parent_below}
use Rattle.graph_build.specs.declared.raw.RawVertex.{RawVertex}
use Rattle.graph_build.specs.Faults.{IsNodeType, HasDoubleId, HasDoubleName, HasBadRank}
use Rattle.graph_build.specs.Raw.{shape_of, raw_graph, raw_names, KindsApart}
use Rattle.graph_build.specs.Table.{IsFaultless}
use Rattle.graph_build.proofs.Facts.{Facts, faultless}
use Rattle.load_script.specs.Vertices.{load_kinds, cluster, node, load_vertices}
use Rattle.load_script.proofs.Places.{Spot, is_cluster, is_rack, is_node, is_core, is_memory, shapes, shapes_long, spot}
use Rattle.load_script.proofs.Places.{name_there}

-- ---- types by their names

-- a number by the first two letters of a word
abbrev key : List ℕ → ℕ
key word = get_or word 0 0 * 256 + get_or word 1 0

-- the type with each number has such letters
abbrev Named : ℕ → ℕ → Type 0
Named kind letters =
    ((kind ≡ 0) × (letters ≡ 25452)) ⊎ (((kind ≡ 1) × (letters ≡ 29281)) ⊎ (((kind ≡ 2) × (letters ≡ 28271))
    ⊎ (((kind ≡ 3) × (letters ≡ 25455)) ⊎ ((kind ≡ 4) × (letters ≡ 28005)))))

spelled : (a b : List ℕ) → Some a ≡ Some b → key b ≡ key a
spelled a b e = ap key (sym (same_Some a b e))

named : (kind : ℕ) (name : List ℕ) → slice_get load_kinds kind ≡ Some name → Named kind (key name)
named zero name e = inl (refl, spelled (codes "cluster") name e)
named (suc zero) name e = inr (inl (refl, spelled (codes "rack") name e))
named (suc (suc zero)) name e = inr (inr (inl (refl, spelled (codes "node") name e)))
named (suc (suc (suc zero))) name e = inr (inr (inr (inl (refl, spelled (codes "core") name e))))
named (suc (suc (suc (suc zero)))) name e = inr (inr (inr (inr (refl, spelled (codes "memory") name e))))
named (suc (suc (suc (suc (suc kind))))) name e = absurd (let none : None ≡ Some name = e in cc)

-- the kind of the type with these letters
kind_by : (kind letters : ℕ) → Named kind letters → (letters ≡ 28271 → kind ≡ 2) × (letters ≡ 25455 → kind ≡ 3)
    × (letters ≡ 29548 → ⊥) × (letters ≡ 26480 → ⊥)
kind_by kind letters (inl h) = (
  λ e. absurd (omega arith),
  λ e. absurd
      (omega arith),
  λ e. omega arith,
  λ e. omega arith,
)
kind_by kind letters (inr (inl h)) = (
  λ e. absurd (omega arith),
  λ e. absurd
      (omega arith),
  λ e. omega arith,
  λ e. omega arith,
)
kind_by kind letters (inr (inr (inl h))) = (λ e. h.0, λ e. absurd (omega arith), λ e. omega arith, λ e. omega arith)
kind_by kind letters (inr (inr (inr (inl h)))) = (
  λ e. absurd
      (omega arith),
  λ e. h.0,
  λ e. omega arith,
  λ e. omega arith,
)
kind_by kind letters (inr (inr (inr (inr h)))) = (
  λ e. absurd (omega arith),
  λ e. absurd
      (omega arith),
  λ e. omega arith,
  λ e. omega arith,
)

-- the types differ
pub kinds_apart : KindsApart load_kinds
kinds_apart j k some same = by (slice_get load_kinds j) refl some
  where
    meet : (a b letters : ℕ) → Named a letters → Named b letters → a ≡ b
    meet a b letters (inl h) (inl g) = omega arith
    meet a b letters (inl h) (inr (inl g)) = absurd (omega arith)
    meet a b letters (inl h) (inr (inr (inl g))) = absurd (omega arith)
    meet a b letters (inl h) (inr (inr (inr (inl g)))) = absurd (omega arith)
    meet a b letters (inl h) (inr (inr (inr (inr g)))) = absurd (omega arith)
    meet a b letters (inr (inl h)) (inl g) = absurd (omega arith)
    meet a b letters (inr (inl h)) (inr (inl g)) = omega arith
    meet a b letters (inr (inl h)) (inr (inr (inl g))) = absurd (omega arith)
    meet a b letters (inr (inl h)) (inr (inr (inr (inl g)))) = absurd (omega arith)
    meet a b letters (inr (inl h)) (inr (inr (inr (inr g)))) = absurd (omega arith)
    meet a b letters (inr (inr (inl h))) (inl g) = absurd (omega arith)
    meet a b letters (inr (inr (inl h))) (inr (inl g)) = absurd (omega arith)
    meet a b letters (inr (inr (inl h))) (inr (inr (inl g))) = omega arith
    meet a b letters (inr (inr (inl h))) (inr (inr (inr (inl g)))) = absurd (omega arith)
    meet a b letters (inr (inr (inl h))) (inr (inr (inr (inr g)))) = absurd (omega arith)
    meet a b letters (inr (inr (inr (inl h)))) (inl g) = absurd (omega arith)
    meet a b letters (inr (inr (inr (inl h)))) (inr (inl g)) = absurd (omega arith)
    meet a b letters (inr (inr (inr (inl h)))) (inr (inr (inl g))) = absurd (omega arith)
    meet a b letters (inr (inr (inr (inl h)))) (inr (inr (inr (inl g)))) = omega arith
    meet a b letters (inr (inr (inr (inl h)))) (inr (inr (inr (inr g)))) = absurd (omega arith)
    meet a b letters (inr (inr (inr (inr h)))) (inl g) = absurd (omega arith)
    meet a b letters (inr (inr (inr (inr h)))) (inr (inl g)) = absurd (omega arith)
    meet a b letters (inr (inr (inr (inr h)))) (inr (inr (inl g))) = absurd (omega arith)
    meet a b letters (inr (inr (inr (inr h)))) (inr (inr (inr (inl g)))) = absurd (omega arith)
    meet a b letters (inr (inr (inr (inr h)))) (inr (inr (inr (inr g)))) = omega arith

    by : (o : Option (List ℕ)) → slice_get load_kinds j ≡ o → IsSome o → j ≡ k
    by None e some = absurd (true≢false (sym some))
    by (Some name) e some = meet j k (key name) (named j name e) (named k name (sym same ∙ e))

-- ---- what a vertex has

-- its range, and in it its kind, its parent and its size; of a node also the rank, and of a core the id
data Told (v : ℕ) (x : Vertex) : Type 0 where
  top : v ≡ 0 → x.kind ≡ 0 → x.parent ≡ None → x.size ≡ 1 → Told v x
  racked : 1 ≤ v → v < 17 → x.kind ≡ 1 → x.parent ≡ Some 0 → x.size ≡ 1 → Told v x
  noded : (i : ℕ) → i < 256 → v ≡ 17 + i → x.kind ≡ 2 → x.parent ≡ Some (1 + i / 16) → x.size ≡ 1 → x.rank ≡ Some i →
      Told v x
  cored : (i : ℕ) → i < 4096 → v ≡ 273 + i → x.kind ≡ 3 → x.parent ≡ Some (17 + i / 16) → x.size ≡ 1 →
      x.id ≡ Some (i % 16) → Told v x
  pooled : (i : ℕ) → i < 256 → v ≡ 4369 + i → x.kind ≡ 4 → x.parent ≡ Some (17 + i) → x.size ≡ 64 → Told v x

told_by : (v : ℕ) (r : RawVertex) → Spot v r → Told v (shape_of r)
told_by v r (is_cluster at is) = top at (ap (λ (s : RawVertex). s.kind) is) (ap (λ (s : RawVertex). s.parent) is) (ap
    (λ (s : RawVertex). s.size) is)
told_by v r (is_rack i few at is) = racked (omega arith) (omega arith) (ap (λ (s : RawVertex). s.kind) is)
    (ap (λ (s : RawVertex). s.parent) is) (ap (λ (s : RawVertex). s.size) is)
told_by v r (is_node i few at is) = noded i few at (ap (λ (s : RawVertex). s.kind) is) (ap (λ
    (s : RawVertex). s.parent) is)
    (ap (λ (s : RawVertex). s.size) is) (ap (λ (s : RawVertex). s.rank) is)
told_by v r (is_core i few at is) = cored i few at (ap (λ (s : RawVertex). s.kind) is) (ap (λ
    (s : RawVertex). s.parent) is)
    (ap (λ (s : RawVertex). s.size) is) (ap (λ (s : RawVertex). s.id) is)
told_by v r (is_memory i few at is) = pooled i few at (ap (λ (s : RawVertex). s.kind) is) (ap (λ
    (s : RawVertex). s.parent) is)
    (ap (λ (s : RawVertex). s.size) is)

told : (v : ℕ) (x : Vertex) → slice_get shapes v ≡ Some x → Told v x
told v x there =
    let here = spot v x there in subst (Told v) (sym here.2) (told_by v here.0 here.4)

within : (v : ℕ) (x : Vertex) → slice_get shapes v ≡ Some x → v < 4625
within v x there = let lt = slice_get_within shapes v x there in omega (arith, lt, shapes_long)

-- the vertex of a number
there_is : (v : ℕ) → v < 4625 → (x : Vertex) × (slice_get shapes v ≡ Some x)
there_is v few = (get_or shapes v blank, slice_get-get_or shapes v blank (omega (arith, shapes_long)))
  where
    blank : Vertex
    blank = shape_of cluster

-- the kind by the number
record Kinds (v kind : ℕ) : Type 0 where
  zeroth : v < 1 → kind ≡ 0
  first : 1 ≤ v → v < 17 → kind ≡ 1
  second : 17 ≤ v → v < 273 → kind ≡ 2
  third : 273 ≤ v → v < 4369 → kind ≡ 3
  few : kind < 5
  node_at : kind ≡ 2 → (17 ≤ v) × (v < 273)
  core_at : kind ≡ 3 → (273 ≤ v) × (v < 4369)

kinds_by : (v : ℕ) (x : Vertex) → Told v x → Kinds v x.kind
kinds_by v x (top at k p s) = record {
  zeroth = λ a. k;
  first = λ a b. absurd (omega arith);
  second = λ a b. absurd (omega arith);
  third = λ a b. absurd (omega arith);
  few = omega arith;
  node_at = λ e. absurd (omega arith);
  core_at = λ e. absurd (omega arith);
}
kinds_by v x (racked low high k p s) = record {
  zeroth = λ a. absurd (omega arith);
  first = λ a b. k;
  second = λ a b. absurd (omega arith);
  third = λ a b. absurd (omega arith);
  few = omega arith;
  node_at = λ e. absurd (omega arith);
  core_at = λ e. absurd (omega arith);
}
kinds_by v x (noded i less at k p s r) = record {
  zeroth = λ a. absurd (omega arith);
  first = λ a b. absurd (omega arith);
  second = λ a b. k;
  third = λ a b. absurd (omega arith);
  few = omega arith;
  node_at = λ e. (omega arith, omega arith);
  core_at = λ e. absurd (omega arith);
}
kinds_by v x (cored i less at k p s d) = record {
  zeroth = λ a. absurd (omega arith);
  first = λ a b. absurd (omega arith);
  second = λ a b. absurd (omega arith);
  third = λ a b. k;
  few = omega arith;
  node_at = λ e. absurd (omega arith);
  core_at = λ e. (omega arith, omega arith);
}
kinds_by v x (pooled i less at k p s) = record {
  zeroth = λ a. absurd (omega arith);
  first = λ a b. absurd (omega arith);
  second = λ a b. absurd (omega arith);
  third = λ a b. absurd (omega arith);
  few = omega arith;
  node_at = λ e. absurd (omega arith);
  core_at = λ e. absurd (omega arith);
}

kinds_of : (v : ℕ) (x : Vertex) → slice_get shapes v ≡ Some x → Kinds v x.kind
kinds_of v x there = kinds_by v x (told v x there)

-- ---- parents

-- a parent stands before its child, among the first three types; it is of a lesser kind
record Over (v p kind : ℕ) : Type 0 where
  before : p < v
  low : p < 273
  lesser : (k : ℕ) → Kinds p k → k < kind
  of_core : kind ≡ 3 → 17 ≤ p

over_by : (v p : ℕ) (x : Vertex) → Told v x → x.parent ≡ Some p → Over v p x.kind
over_by v p x (top at k none s) e = absurd (none-some p (sym none ∙ e))
over_by v p x (racked low high k up s) e =
    let is : 0 ≡ p = same_Some 0 p (sym up ∙ e) in
    record {
      before = omega arith;
      low = omega arith;
      lesser = λ j kinds. (let z = kinds.zeroth (omega arith) in
          omega arith);
      of_core = λ c. absurd (omega arith);
    }
over_by v p x (noded i less at k up s r) e =
    let is : 1 + i / 16 ≡ p = same_Some (1 + i / 16) p (sym up ∙ e) in
    record {
      before = omega arith;
      low = omega arith;
      lesser = λ j kinds. (let z = kinds.first (omega arith)
          (omega arith) in omega arith);
      of_core = λ c. absurd (omega arith);
    }
over_by v p x (cored i less at k up s d) e =
    let is : 17 + i / 16 ≡ p = same_Some (17 + i / 16) p (sym up ∙ e) in
    record {
      before = omega arith;
      low = omega arith;
      lesser = λ j kinds. (let z = kinds.second (omega arith)
          (omega arith) in omega arith);
      of_core = λ c. omega arith;
    }
over_by v p x (pooled i less at k up s) e =
    let is : 17 + i ≡ p = same_Some (17 + i) p (sym up ∙ e) in
    record {
      before = omega arith;
      low = omega arith;
      lesser = λ j kinds. (let z = kinds.second (omega arith)
          (omega arith) in omega arith);
      of_core = λ c. absurd (omega arith);
    }

-- the vertex of which a parent is read
child_of : (v p : ℕ) → parent_of shapes v ≡ Some p → (x : Vertex) × (slice_get shapes v ≡ Some x) × (x.parent ≡ Some p)
child_of v p e = by (slice_get shapes v) refl e
  where
    by : (o : Option Vertex) → slice_get shapes v ≡ o → option_and_then (λ (x : Vertex). x.parent) o ≡ Some p →
        (x : Vertex) × (slice_get shapes v ≡ Some x) × (x.parent ≡ Some p)
    by None there up = absurd (none-some p up)
    by (Some x) there up = (x, there, up)

parent_read : (v : ℕ) (x : Vertex) → slice_get shapes v ≡ Some x → parent_of shapes v ≡ x.parent
parent_read v x there = ap (option_and_then (λ (y : Vertex). y.parent)) there

over : (v p : ℕ) → parent_of shapes v ≡ Some p → (x : Vertex) × (slice_get shapes v ≡ Some x) × Over v p x.kind
over v p e = let child = child_of v p e in (child.0, child.1, over_by v p child.0 (told v child.0 child.1) child.2)

first : ParentsFirst shapes
first v p e = (over v p e).2.before

-- ---- lines of parents

-- a line has no more vertices than its first one's kind and one
depth : (most v : ℕ) (x : Vertex) → slice_get shapes v ≡ Some x → length (chain shapes most (Some v)) ≤ suc x.kind
depth zero v x there = omega arith
depth (suc most) v x there = by (parent_of shapes v) refl (depth most)
  where
    by : (o : Option ℕ) → parent_of shapes v ≡ o → ((p : ℕ) (y : Vertex) → slice_get shapes p ≡ Some y →
        length (chain shapes most (Some p)) ≤ suc y.kind) → suc (length (chain shapes most o)) ≤ suc x.kind
    by None e upper = let none = chain_none shapes most in omega (arith, none)
    by (Some p) e upper =
        let o = over_by v p x (told v x there) (sym (parent_read v x there) ∙ e) in
        let low = o.low in
        let y = there_is p (omega arith) in
        let rest = upper p y.0 y.1 in
        let less : y.0.kind < x.kind = o.lesser y.0.kind (kinds_of p y.0 y.1) in
        omega (arith, rest, less)

-- what is above is of a lesser kind
above : (n v u : ℕ) (x y : Vertex) → slice_get shapes v ≡ Some x → slice_get shapes u ≡ Some y →
    up shapes n (Some v) ≡ Some u → (v ≡ u) ⊎ (y.kind < x.kind)
above zero v u x y at_v at_u e = inl (same_Some v u e)
above (suc n) v u x y at_v at_u e = by (parent_of shapes v) refl e (λ p z at f. above n p u z y at at_u f)
  where
    by : (o : Option ℕ) → parent_of shapes v ≡ o → up shapes n o ≡ Some u →
        ((p : ℕ) (z : Vertex) → slice_get shapes p ≡ Some z → up shapes n (Some p) ≡ Some u →
        (p ≡ u) ⊎ (y.kind < z.kind)) →
        (v ≡ u) ⊎ (y.kind < x.kind)
    by None none f upper = absurd (none-some u (sym (up-None shapes n) ∙ f))
    by (Some p) some f upper =
        let o = over_by v p x (told v x at_v) (sym (parent_read v x at_v) ∙ some) in
        let low = o.low in
        let z = there_is p (omega arith) in
        let less : z.0.kind < x.kind = o.lesser z.0.kind (kinds_of p z.0 z.1) in
        elim (upper p z.0 z.1 f) [
          | inl same ↦ inr (let is : z.0 ≡ y = same_Some z.0 y (sym z.1 ∙ (ap (slice_get shapes) same ∙ at_u)) in
              let kinds : z.0.kind ≡ y.kind = ap (λ (w : Vertex). w.kind) is in omega (arith, less, kinds))
          | inr lower ↦ inr (omega (arith, less, lower))
        ]

-- the kind of a vertex below another is greater
below_kind : (v u : ℕ) (x y : Vertex) → slice_get shapes v ≡ Some x → slice_get shapes u ≡ Some y →
    IsTrue (is_below shapes v u) → y.kind < x.kind
below_kind v u x y at_v at_u below =
    let apart = below_to shapes first v u below in
    let steps = steps_of shapes first v u apart.0 in
    elim (above steps.0 v u x y at_v at_u steps.1) [ inl same ↦ absurd (apart.1 same) | inr less ↦ less ]

-- ---- types

abbrev graph : ResourceGraph
graph = raw_graph load_kinds load_vertices

abbrev texts : List (List ℕ)
texts = raw_names load_vertices

-- a vertex whose type is called so
typed : (name : List ℕ) (v : ℕ) → HasType graph name v →
    (x : Vertex) × (slice_get shapes v ≡ Some x) × Named x.kind (key name)
typed name v has =
    let x = value_of (slice_get shapes v) (λ x. slice_get load_kinds x.kind ≡ Some name) has in
    (x.0, x.1, named x.0.kind name x.2)

of_node : (v : ℕ) → IsNodeType graph v → (x : Vertex) × (slice_get shapes v ≡ Some x) × (x.kind ≡ 2)
of_node v has = let x = typed (codes "node") v has in (x.0, x.1, (kind_by x.0.kind (key (codes "node")) x.2).0 refl)

of_device : (v : ℕ) → IsDevice graph v → (x : Vertex) × (slice_get shapes v ≡ Some x) × (x.kind ≡ 3)
of_device v (inl has) = let x = typed (codes "core") v has in
    (x.0, x.1, (kind_by x.0.kind (key (codes "core")) x.2).1 refl)
of_device v (inr has) = let x = typed (codes "gpu") v has in absurd ((kind_by x.0.kind (key (codes "gpu")) x.2).3 refl)

a_node : (v : ℕ) (x : Vertex) → slice_get shapes v ≡ Some x → x.kind ≡ 2 → IsNodeType graph v
a_node v x there kind = from_value (slice_get shapes v) (λ x. slice_get load_kinds x.kind ≡ Some (codes "node")) x there
    (ap (slice_get load_kinds) kind)

-- ---- sizes

size_by : (v : ℕ) (x : Vertex) → Told v x → (x.kind < 4 → x.size ≡ 1) × (x.size ≤ 64)
size_by v x (top at k p s) = (λ few. s, omega arith)
size_by v x (racked low high k p s) = (λ few. s, omega arith)
size_by v x (noded i less at k p s r) = (λ few. s, omega arith)
size_by v x (cored i less at k p s d) = (λ few. s, omega arith)
size_by v x (pooled i less at k p s) = (λ few. absurd (omega arith), omega arith)

size_of : (v : ℕ) (x : Vertex) → slice_get shapes v ≡ Some x → (x.kind < 4 → x.size ≡ 1) × (x.size ≤ 64)
size_of v x there = size_by v x (told v x there)

-- a type but the last is no pool type
no_pool : (kind : ℕ) → kind < 4 → is_pool_kind shapes kind ≡ false
no_pool kind few = list_any_none (λ (x : Vertex). (x.kind == kind) && not (x.size == 1)) shapes
    (λ k d lt. plain (get_or shapes k d) (size_of k (get_or shapes k d) (slice_get-get_or shapes k d lt)).0)
  where
    whole : (x : Vertex) (a b : Bool) → (x.kind == kind) ≡ a → (x.size == 1) ≡ b → (x.kind < 4 → x.size ≡ 1) →
        (a && not b) ≡ false
    whole x false b kinds sizes small = refl
    whole x true true kinds sizes small = refl
    whole x true false kinds sizes small =
        let same : x.kind ≡ kind = eqb-true x.kind kind kinds in
        let one : x.size ≡ 1 = small (omega arith) in
        absurd (true≢false (sym (eq-eqb x.size 1 one) ∙ sizes))

    plain : (x : Vertex) → (x.kind < 4 → x.size ≡ 1) → ((x.kind == kind) && not (x.size == 1)) ≡ false
    plain x small = whole x (x.kind == kind) (x.size == 1) refl refl small

leaf : (v w : ℕ) → IsTrue (is_pool shapes v) → parent_of shapes w ≡ Some v → ⊥
leaf v w pool e =
    let o = over w v e in
    let low = o.2.low in
    let x = there_is v (omega arith) in
    let few : x.0.kind < 4 = elim (cases_lt v 17) [
      | inl a ↦ elim (cases_lt v 1) [
        | inl b ↦ (let z = (kinds_of v x.0 x.1).zeroth b in omega arith)
        | inr b ↦ (let z = (kinds_of v x.0 x.1).first b a in omega arith)
      ]
      | inr a ↦ (let z = (kinds_of v x.0 x.1).second a low in omega arith)
    ] in
    let own : is_pool shapes v ≡ is_pool_kind shapes x.0.kind =
    ap (λ (p : Option Vertex). option_map_or (λ (y : Vertex). is_pool_kind shapes y.kind) p false) x.1 in
    true≢false (sym pool ∙ (own ∙ no_pool x.0.kind few))

-- ---- nodes above cores

node_above : (v : ℕ) (x : Vertex) → slice_get shapes v ≡ Some x → x.kind ≡ 3 →
    (p : ℕ) × (x.parent ≡ Some p) × IsNodeType graph p × IsTrue (is_below shapes v p)
node_above v x there kind = by x.parent refl
  where
    none : x.parent ≡ None → ⊥
    none e = no (told v x there)
      where
        no : Told v x → ⊥
        no (top at k p s) = omega arith
        no (racked low high k p s) = omega arith
        no (noded i less at k p s r) = omega arith
        no (cored i less at k p s d) = none-some (17 + i / 16) (sym e ∙ p)
        no (pooled i less at k p s) = omega arith

    by : (o : Option ℕ) → x.parent ≡ o →
        (p : ℕ) × (x.parent ≡ Some p) × IsNodeType graph p × IsTrue (is_below shapes v p)
    by None e = absurd (none e)
    by (Some p) e =
        let o = over_by v p x (told v x there) e in
        let low = o.low in
        let high = o.of_core kind in
        let before = o.before in
        let y = there_is p (omega arith) in
        let lt : v < length shapes = slice_get_within shapes v x there in (
          p,
          e,
          a_node p y.0 y.1 ((kinds_of p y.0 y.1).second high low),
          below_from shapes first v p (λ same. omega arith) (below_parent shapes first v p lt (parent_read v x there
              ∙ e)),
        )

-- the node above a core is its parent
only_node : (v n : ℕ) (x : Vertex) → slice_get shapes v ≡ Some x → x.kind ≡ 3 → IsNodeType graph n →
    IsTrue (is_below shapes v n) → x.parent ≡ Some n
only_node v n x there kind node below =
    let p = node_above v x there kind in
    let lt : v < length shapes = slice_get_within shapes v x there in
    let up_to = parent_below shapes first v n lt below in
    let same : up_to.0 ≡ p.0 = same_Some up_to.0 p.0 (sym up_to.1 ∙ (parent_read v x there ∙ p.1)) in
    let own = of_node p.0 p.2 in
    let other = of_node n node in
    elim (eqb_tells p.0 n) [
      | inl is ↦ p.1 ∙ ap Some is.1
      | inr differ ↦ absurd (
          let under = below_from shapes first p.0 n differ.1 (subst (λ (q : ℕ). IsTrue
          (is_at_or_below shapes q n)) same up_to.2) in
          let less = below_kind p.0 n own.0 other.0 own.1 other.1 under in
          omega (arith, less, own.2, other.2))
    ]

-- ---- ids, names and ranks

core_told : (v : ℕ) (x : Vertex) → Told v x → x.kind ≡ 3 →
    (i : ℕ) × (i < 4096) × (v ≡ 273 + i) × (x.parent ≡ Some (17 + i / 16)) × (x.id ≡ Some (i % 16))
core_told v x (top at k p s) kind = absurd (omega arith)
core_told v x (racked low high k p s) kind = absurd (omega arith)
core_told v x (noded i less at k p s r) kind = absurd (omega arith)
core_told v x (cored i less at k p s d) kind = (i, less, at, p, d)
core_told v x (pooled i less at k p s) kind = absurd (omega arith)

node_told : (v : ℕ) (x : Vertex) → Told v x → x.kind ≡ 2 → (i : ℕ) × (i < 256) × (v ≡ 17 + i) × (x.rank ≡ Some i)
node_told v x (top at k p s) kind = absurd (omega arith)
node_told v x (racked low high k p s) kind = absurd (omega arith)
node_told v x (noded i less at k p s r) kind = (i, less, at, r)
node_told v x (cored i less at k p s d) kind = absurd (omega arith)
node_told v x (pooled i less at k p s) kind = absurd (omega arith)

double_id : Nowhere (HasDoubleId graph)
double_id v (device, (u, before, kind, kind_v, kind_u, id, id_v, id_u, n, node, below_v, below_u)) =
    let x = of_device v device in
    let of_x : x.0.kind ≡ kind = at_value (slice_get shapes v) (λ (w : Vertex). w.kind ≡ kind) x.0 x.1 kind_v in
    let y = value_of (slice_get shapes u) (λ (w : Vertex). w.kind ≡ kind) kind_u in
    let core_u : y.0.kind ≡ 3 = omega (arith, of_x, x.2, y.2) in
    let up_v = only_node v n x.0 x.1 x.2 node below_v in
    let up_u = only_node u n y.0 y.1 core_u node below_u in
    let i = core_told v x.0 (told v x.0 x.1) x.2 in
    let j = core_told u y.0 (told u y.0 y.1) core_u in
    let own_v : x.0.id ≡ Some id = at_value (slice_get shapes v) (λ (w : Vertex). w.id ≡ Some id) x.0 x.1 id_v in
    let own_u : y.0.id ≡ Some id = at_value (slice_get shapes u) (λ (w : Vertex). w.id ≡ Some id) y.0 y.1 id_u in
    let ids : i.0 % 16 ≡ j.0 % 16 = same_Some (i.0 % 16) (j.0 % 16) (sym i.4 ∙ (own_v ∙ (sym own_u ∙ j.4))) in
    let parents : 17 + i.0 / 16 ≡ 17 + j.0 / 16 = same_Some (17 + i.0 / 16) (17 + j.0 / 16) (sym i.3 ∙ (up_v
    ∙ (sym up_u ∙ j.3))) in
    omega (arith, before, i.2, j.2, ids, parents)

same_numbers : (word : List ℕ) (i j : ℕ) → i < 18446744073709551616 → j < 18446744073709551616 →
    word ++ decimal i ≡ word ++ decimal j → i ≡ j
same_numbers [] i j small_i small_j e = decimal_injective i j small_i small_j e
same_numbers (b ∷ word) i j small_i small_j e = same_numbers word i j small_i small_j cc

parents_are : (r s : RawVertex) (p q : ℕ) → r.parent ≡ Some p → s.parent ≡ Some q → s.parent ≡ r.parent → q ≡ p
parents_are r s p q up_r up_s same = same_Some q p (sym up_s ∙ (same ∙ up_r))

numbers_are : (word : List ℕ) (r s : RawVertex) (i j : ℕ) → i < 18446744073709551616 → j < 18446744073709551616 →
    r.name ≡ word ++ decimal i → s.name ≡ word ++ decimal j → s.name ≡ r.name → j ≡ i
numbers_are word r s i j small_i small_j name_r name_s same = same_numbers word j i small_j small_i (sym name_s
    ∙ (same ∙ name_r))

parent_in : RawVertex → Option ℕ
parent_in r = r.parent

siblings : (v u : ℕ) (r s : RawVertex) → Spot v r → Spot u s → u < v → s.parent ≡ r.parent → (r.parent ≡ None → ⊥) →
    s.name ≡ r.name → ⊥
siblings v u r s (is_cluster a e) there before same some names = some (ap (λ (w : RawVertex). w.parent) e)
siblings v u r s (is_rack i few a e) (is_cluster b f) before same some names = none-some 0 (sym (ap (λ
    (w : RawVertex). w.parent) f) ∙ (same ∙ ap (λ (w : RawVertex). w.parent) e))
siblings v u r s (is_rack i few a e) (is_rack j less b f) before same some names =
    let is = numbers_are (codes "rack") r s i j (omega arith) (omega arith) (ap (λ (w : RawVertex). w.name) e) (ap (λ
    (w : RawVertex). w.name) f) names in omega arith
siblings v u r s (is_rack i few a e) (is_node j less b f) before same some names = omega arith
siblings v u r s (is_rack i few a e) (is_core j less b f) before same some names = omega arith
siblings v u r s (is_rack i few a e) (is_memory j less b f) before same some names = omega arith
siblings v u r s (is_node i few a e) (is_cluster b f) before same some names = none-some (1 + i / 16) (sym (ap (λ
    (w : RawVertex). w.parent) f) ∙ (same ∙ ap (λ (w : RawVertex). w.parent) e))
siblings v u r s (is_node i few a e) (is_rack j less b f) before same some names =
    let is = parents_are r s (1 + i / 16) 0 (ap (λ (w : RawVertex). w.parent) e) (ap (λ
    (w : RawVertex). w.parent) f) same in omega arith
siblings v u r s (is_node i few a e) (is_node j less b f) before same some names =
    let is = numbers_are (codes "node") r s i j (omega arith) (omega arith) (ap (λ (w : RawVertex). w.name) e) (ap (λ
    (w : RawVertex). w.name) f) names in omega arith
siblings v u r s (is_node i few a e) (is_core j less b f) before same some names = omega arith
siblings v u r s (is_node i few a e) (is_memory j less b f) before same some names = omega arith
siblings v u r s (is_core i few a e) (is_cluster b f) before same some names = none-some (17 + i / 16) (sym (ap (λ
    (w : RawVertex). w.parent) f) ∙ (same ∙ ap (λ (w : RawVertex). w.parent) e))
siblings v u r s (is_core i few a e) (is_rack j less b f) before same some names =
    let is = parents_are r s (17 + i / 16) 0 (ap (λ (w : RawVertex). w.parent) e) (ap (λ
    (w : RawVertex). w.parent) f) same in omega arith
siblings v u r s (is_core i few a e) (is_node j less b f) before same some names =
    let is = parents_are r s (17 + i / 16) (1 + j / 16) (ap (λ (w : RawVertex). w.parent) e) (ap (λ
    (w : RawVertex). w.parent) f) same in omega arith
siblings v u r s (is_core i few a e) (is_core j less b f) before same some names =
    let is = parents_are r s (17 + i / 16) (17 + j / 16) (ap (λ (w : RawVertex). w.parent) e) (ap (λ
    (w : RawVertex). w.parent) f) same in
    let id = numbers_are (codes "core") r s (i % 16) (j % 16) (omega arith) (omega arith) (ap (λ
    (w : RawVertex). w.name) e) (ap (λ (w : RawVertex). w.name) f) names in
    omega arith
siblings v u r s (is_core i few a e) (is_memory j less b f) before same some names = omega arith
siblings v u r s (is_memory i few a e) (is_cluster b f) before same some names = none-some (17 + i) (sym (ap (λ
    (w : RawVertex). w.parent) f) ∙ (same ∙ ap (λ (w : RawVertex). w.parent) e))
siblings v u r s (is_memory i few a e) (is_rack j less b f) before same some names =
    let is = parents_are r s (17 + i) 0 (ap (λ (w : RawVertex). w.parent) e) (ap (λ
    (w : RawVertex). w.parent) f) same in omega arith
siblings v u r s (is_memory i few a e) (is_node j less b f) before same some names =
    let is = parents_are r s (17 + i) (1 + j / 16) (ap (λ (w : RawVertex). w.parent) e) (ap (λ
    (w : RawVertex). w.parent) f) same in omega arith
siblings v u r s (is_memory i few a e) (is_core j less b f) before same some names =
    let is : key (codes "core" ++ decimal (j % 16)) ≡ key (codes "memory" ++ decimal 0) =
    ap key (sym (ap (λ (w : RawVertex). w.name) f) ∙ (names ∙ ap (λ (w : RawVertex). w.name) e)) in omega (arith, is)
siblings v u r s (is_memory i few a e) (is_memory j less b f) before same some names =
    let is = parents_are r s (17 + i) (17 + j) (ap (λ (w : RawVertex). w.parent) e) (ap (λ
    (w : RawVertex). w.parent) f) same in omega arith

-- the number of a node is in its name
node_named : (v : ℕ) (r : RawVertex) → Spot v r → (shape_of r).kind ≡ 2 →
    (i : ℕ) × (i < 256) × (v ≡ 17 + i) × (r.name ≡ codes "node" ++ decimal i)
node_named v r (is_cluster at e) kind = absurd (let k : r.kind ≡ 0 = ap (λ (w : RawVertex). w.kind) e in omega arith)
node_named v r (is_rack i few at e) kind = absurd (let k : r.kind ≡ 1 = ap (λ (w : RawVertex). w.kind) e in omega arith)
node_named v r (is_node i few at e) kind = (i, few, at, ap (λ (w : RawVertex). w.name) e)
node_named v r (is_core i few at e) kind = absurd (let k : r.kind ≡ 3 = ap (λ (w : RawVertex). w.kind) e in omega arith)
node_named v r (is_memory i few at e) kind = absurd (let k : r.kind ≡ 4 = ap (λ (w : RawVertex). w.kind) e in
    omega arith)

names_same : (v u : ℕ) (r s : RawVertex) → slice_get load_vertices v ≡ Some r → slice_get load_vertices u ≡ Some s →
    slice_get texts u ≡ slice_get texts v → s.name ≡ r.name
names_same v u r s at_v at_u same =
    same_Some s.name r.name (sym (name_there u s at_u) ∙ (same ∙ name_there v r at_v))

double_name : Nowhere (HasDoubleName graph texts)
double_name v (u, before, same, inl (some, parents)) = by (parent_of shapes v) refl some
  where
    by : (o : Option ℕ) → parent_of shapes v ≡ o → IsSome o → ⊥
    by None e is = true≢false (sym is)
    by (Some p) e is =
        let x = child_of v p e in
        let y = child_of u p (parents ∙ e) in
        let r = spot v x.0 x.1 in
        let s = spot u y.0 y.1 in
        let up_r : r.0.parent ≡ Some p = sym (ap (λ (w : Vertex). w.parent) r.2) ∙ x.2 in
        let up_s : s.0.parent ≡ Some p = sym (ap (λ (w : Vertex). w.parent) s.2) ∙ y.2 in
        siblings v u r.0 s.0 r.4 s.4 before (up_s ∙ sym up_r) (λ none. none-some p (sym none ∙ up_r))
        (names_same v u r.0 s.0 r.1 s.1 same)
double_name v (u, before, same, inr (node_u, node_v)) =
    let x = of_node v node_v in
    let y = of_node u node_u in
    let r = spot v x.0 x.1 in
    let s = spot u y.0 y.1 in
    let i = node_named v r.0 r.4 (sym (ap (λ (w : Vertex). w.kind) r.2) ∙ x.2) in
    let j = node_named u s.0 s.4 (sym (ap (λ (w : Vertex). w.kind) s.2) ∙ y.2) in
    let is = numbers_are (codes "node") r.0 s.0 i.0 j.0 (omega (arith, i.1)) (omega (arith, j.1)) i.3 j.3
    (names_same v u r.0 s.0 r.1 s.1 same) in
    omega (arith, before, is, i.2, j.2)

bad_rank : Nowhere (HasBadRank graph)
bad_rank v (some, node, inl none) =
    let x = of_node v node in
    let i = node_told v x.0 (told v x.0 x.1) x.2 in
    none-some i.0 (sym (at_value (slice_get shapes v) (λ (w : Vertex). w.rank ≡ None) x.0 x.1 none) ∙ i.3)
bad_rank v (some, node, inr (u, before, node_u, rank, rank_v, rank_u)) =
    let x = of_node v node in
    let y = of_node u node_u in
    let i = node_told v x.0 (told v x.0 x.1) x.2 in
    let j = node_told u y.0 (told u y.0 y.1) y.2 in
    let of_v : x.0.rank ≡ Some rank = at_value (slice_get shapes v) (λ
    (w : Vertex). w.rank ≡ Some rank) x.0 x.1 rank_v in
    let of_u : y.0.rank ≡ Some rank = at_value (slice_get shapes u) (λ
    (w : Vertex). w.rank ≡ Some rank) y.0 y.1 rank_u in
    let is : i.0 ≡ j.0 = same_Some i.0 j.0 (sym i.3 ∙ (of_v ∙ (sym of_u ∙ j.3))) in
    omega (arith, before, is, i.2, j.2)

-- ---- all rows

root_at : (v : ℕ) (x : Vertex) → Told v x → x.parent ≡ None → v ≡ 0
root_at v x (top at k p s) none = at
root_at v x (racked low high k p s) none = absurd (none-some 0 (sym none ∙ p))
root_at v x (noded i less at k p s r) none = absurd (none-some (1 + i / 16) (sym none ∙ p))
root_at v x (cored i less at k p s d) none = absurd (none-some (17 + i / 16) (sym none ∙ p))
root_at v x (pooled i less at k p s) none = absurd (none-some (17 + i) (sym none ∙ p))

chain_falls : (most v : ℕ) → length (chain shapes most (Some v)) ≤ suc v
chain_falls zero v = omega arith
chain_falls (suc most) v = by (parent_of shapes v) refl (chain_falls most)
  where
    by : (o : Option ℕ) → parent_of shapes v ≡ o → ((p : ℕ) → length (chain shapes most (Some p)) ≤ suc p) →
        suc (length (chain shapes most o)) ≤ suc v
    by None e rest = let none = chain_none shapes most in omega (arith, none)
    by (Some p) e rest = let less = first v p e in let short = rest p in omega (arith, less, short)

root_is : (v : ℕ) → v < length shapes → parent_of shapes v ≡ None → v ≡ 0
root_is v lt none =
    let x = there_is v (omega (arith, lt, shapes_long)) in
    root_at v x.0 (told v x.0 x.1) (sym (parent_read v x.0 x.1) ∙ none)

no_parent : parent_of shapes 0 ≡ None
no_parent = let x = there_is 0 (omega arith) in by x.0 x.1 (told 0 x.0 x.1)
  where
    by : (x : Vertex) → slice_get shapes 0 ≡ Some x → Told 0 x → parent_of shapes 0 ≡ None
    by x there (top at k p s) = parent_read 0 x there ∙ p
    by x there (racked low high k p s) = absurd (omega arith)
    by x there (noded i less at k p s r) = absurd (omega arith)
    by x there (cored i less at k p s d) = absurd (omega arith)
    by x there (pooled i less at k p s) = absurd (omega arith)

facts : Facts graph texts
facts = record {
  few = omega (arith, shapes_long);
  few_kinds = omega arith;
  parents = λ v has. (let low = (over v has.0 has.1).2.low in let past = has.2 in
      omega (arith, low, past, shapes_long));
  known = λ v has. (let x = value_of (slice_get shapes v) (λ (w : Vertex). length load_kinds ≤ w.kind) has in
      let few = (kinds_of v x.0 x.1).few in let past : 5 ≤ x.0.kind = x.2 in omega (arith, few, past));
  root = (0, (omega (arith, shapes_long), no_parent));
  alone = λ v has. (let one = root_is v has.0.0 has.0.1 in let before = has.1.1 in omega (arith, one, before));
  ends = λ v has. (let short = chain_falls (suc (length shapes)) v in let lt = has.0 in let past = has.1 in
      omega (arith, short, lt, past));
  shallow = λ v has. (let x = there_is v (omega (arith, has.0, shapes_long)) in
      let short = depth (length shapes) v x.0 x.1 in let few = (kinds_of v x.0 x.1).few in let past = has.1 in
      omega (arith, short, few, past));
  unnested = λ v has.
      (let x = value_of (slice_get shapes v) (λ (w : Vertex). w.kind ≡ has.1) has.2 in
      let y = value_of (slice_get shapes has.0) (λ (w : Vertex). w.kind ≡ has.1) has.3 in
      let less = below_kind v has.0 x.0 y.0 x.1 y.1 has.4 in omega (arith, less, x.2, y.2));
  unreserved = λ v has. (let x = typed (codes "slot") v has in (kind_by x.0.kind (key (codes "slot")) x.2).2 refl);
  leaves = λ v has. leaf v has.1.0 has.0 has.1.1;
  whole = λ v has. sized v has.0 has.1;
  most = λ v has. (let x = value_of (slice_get shapes v) (λ (w : Vertex). GREATEST_NUMBER < w.size) has in
      let few = (size_of v x.0 x.1).1 in let past = x.2 in omega (arith, few, past));
  housed = λ v device. (let x = of_device v device in let p = node_above v x.0 x.1 x.2 in (p.0, p.2, p.3));
  identified = λ v has.
      (let x = of_device v has.0 in let i = core_told v x.0 (told v x.0 x.1) x.2 in
      none-some (i.0 % 16) (sym (at_value (slice_get shapes v) (λ (w : Vertex). w.id ≡ None) x.0 x.1 has.1) ∙ i.4));
  ids = double_id;
  names_apart = double_name;
  ranks = bad_rank;
}
  where
    sized : (v : ℕ) → IsNodeType graph v ⊎ IsDevice graph v →
        IsSomeAnd (slice_get shapes v) (λ (w : Vertex). w.size ≢ 1) → ⊥
    sized v (inl node) other = let x = of_node v node in
        at_value (slice_get shapes v) (λ (w : Vertex). w.size ≢ 1) x.0 x.1 other
        ((size_of v x.0 x.1).0 (omega (arith, x.2)))
    sized v (inr device) other = let x = of_device v device in
        at_value (slice_get shapes v) (λ (w : Vertex). w.size ≢ 1) x.0 x.1 other
        ((size_of v x.0 x.1).0 (omega (arith, x.2)))

-- nothing is wrong with the list
pub load_faultless : IsFaultless graph texts
load_faultless = faultless graph texts facts
