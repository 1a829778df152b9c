-- Nothing is wrong with the list of vertices of nodes whose names differ.
use Rattle.std.proofs.Common.{◌≡◌, ◌≢◌, ◌⊎◌, ℕ, zero, suc, ◌+◌, ◌*◌, ◌<◌, ◌≤◌, ◌==◌, ◌&&◌, not, Bool, true, false}
use Rattle.std.proofs.Common.{List, [], ◌∷◌, ◌++◌, length, get_or, map, Option, Some, None, inl, inr, refl, sym, ◌∙◌}
use Rattle.std.proofs.Common.{ap, subst, arith, IsTrue, IsSome, true≢false, option_and_then}
use Rattle.std.specs.Prelude.{slice_get, codes, decimal}
use Rattle.std.specs.Option.{IsSomeAnd, option_map, option_map_or}
use Rattle.std.proofs.lemmas.Bool.{eq-eqb}
use Rattle.std.proofs.lemmas.Bool.Decides.{eqb_tells}
use Rattle.std.proofs.lemmas.Fmt.{decimal_injective}
use Rattle.std.proofs.lemmas.List.{length-map}
use Rattle.std.proofs.lemmas.List.Kept.{AllPairs-from_increasing}
use Rattle.std.proofs.lemmas.Option.{slice_get-get_or, slice_get_within, slice_get-map, get_or_from_slice_get}
use Rattle.std.proofs.lemmas.Option.{same_Some, none-some}
use Rattle.std.proofs.lemmas.List.Folds.{list_any_none}
use Rattle.flux_defs.specs.declared.limits.TheConstants.{GREATEST_NUMBER, NO_ID}
use Rattle.flux_defs.specs.declared.vertices.Vertex.{Vertex}
use Rattle.flux_defs.specs.Graph.{ResourceGraph, parent_of, chain, is_at_or_below, is_below, is_pool_kind, is_pool}
use Rattle.flux_defs.specs.ValidGraph.{IsDevice, HasType}
use Rattle.list_laws.proofs.Lists.{get_some}
use Rattle.list_laws.proofs.Values.{value_of, at_value, from_value}
use Rattle.resource_graph.specs.Finds.{Nowhere}
use Rattle.graph_laws.proofs.Containment.{ParentsFirst, up, up-None, steps_of, below_parent, below_from, below_to}
use Rattle.graph_laws.proofs.Containment.{chain_none, parent_below}
use Rattle.graph_build.specs.declared.raw.RawVertex.{RawVertex}
use Rattle.graph_build.specs.Faults.{IsNodeType, HasDoubleId, HasDoubleName, HasBadRank}
use Rattle.graph_build.specs.Raw.{shape_of, raw_graph, raw_names, KindsApart}
use Rattle.graph_build.specs.Table.{IsFaultless}
use Rattle.graph_build.proofs.Facts.{Facts, faultless}
use Rattle.graph_from_r.specs.declared.nodes.RNode.{RNode}
use Rattle.graph_from_r.specs.Names.{IsRepeatedName}
use Rattle.graph_from_r.specs.Vertices.{r_kinds, devices_of, r_vertices}
use Rattle.graph_from_r.specs.Graphs.{AreFairNodes}
use Rattle.graph_from_r.proofs.Spots.{Spot, is_cluster, is_node, is_device, IsOf, IsDeviceFrom, spot_of, raw_of}
use Rattle.graph_from_r.proofs.Spots.{name_there, apart_at, devices_apart, parent_is}

-- ---- types by their names

-- a number by the first two letters of a word
abbrev key : List ℕ → ℕ
key word = get_or word 0 0 * 256 + get_or word 1 0

-- the type with each number has such letters
abbrev Named : ℕ → ℕ → Type 0
Named kind letters =
    ((kind ≡ 0) × (letters ≡ 25452)) ⊎ (((kind ≡ 1) × (letters ≡ 28271)) ⊎ (((kind ≡ 2) × (letters ≡ 25455))
    ⊎ ((kind ≡ 3) × (letters ≡ 26480))))

spelled : (a b : List ℕ) → Some a ≡ Some b → key b ≡ key a
spelled a b e = ap key (sym (same_Some a b e))

named : (kind : ℕ) (name : List ℕ) → slice_get r_kinds kind ≡ Some name → Named kind (key name)
named zero name e = inl (refl, spelled (codes "cluster") name e)
named (suc zero) name e = inr (inl (refl, spelled (codes "node") name e))
named (suc (suc zero)) name e = inr (inr (inl (refl, spelled (codes "core") name e)))
named (suc (suc (suc zero))) name e = inr (inr (inr (refl, spelled (codes "gpu") name e)))
named (suc (suc (suc (suc kind)))) name e = absurd (let none : None ≡ Some name = e in cc)

-- the kind of the type with these letters
pub record KindBy (kind letters : ℕ) : Type 0 where
  pub node : letters ≡ 28271 → kind ≡ 1
  pub core : letters ≡ 25455 → kind ≡ 2
  pub gpu : letters ≡ 26480 → kind ≡ 3
  pub slot : letters ≡ 29548 → ⊥

kind_by : (kind letters : ℕ) → Named kind letters → KindBy kind letters
kind_by kind letters (inl h) = record {
  node = λ e. absurd (omega arith);
  core = λ e. absurd (omega arith);
  gpu = λ e. absurd (omega arith);
  slot = λ e. omega arith;
}
kind_by kind letters (inr (inl h)) = record {
  node = λ e. h.0;
  core = λ e. absurd (omega arith);
  gpu = λ e. absurd (omega arith);
  slot = λ e. omega arith;
}
kind_by kind letters (inr (inr (inl h))) = record {
  node = λ e. absurd (omega arith);
  core = λ e. h.0;
  gpu = λ e. absurd (omega arith);
  slot = λ e. omega arith;
}
kind_by kind letters (inr (inr (inr h))) = record {
  node = λ e. absurd (omega arith);
  core = λ e. absurd (omega arith);
  gpu = λ e. h.0;
  slot = λ e. omega arith;
}

same_kind : (a b letters : ℕ) → Named a letters → Named b letters → a ≡ b
same_kind a b letters (inl h) (inl g) = omega arith
same_kind a b letters (inl h) (inr (inl g)) = absurd (omega arith)
same_kind a b letters (inl h) (inr (inr (inl g))) = absurd (omega arith)
same_kind a b letters (inl h) (inr (inr (inr g))) = absurd (omega arith)
same_kind a b letters (inr (inl h)) (inl g) = absurd (omega arith)
same_kind a b letters (inr (inl h)) (inr (inl g)) = omega arith
same_kind a b letters (inr (inl h)) (inr (inr (inl g))) = absurd (omega arith)
same_kind a b letters (inr (inl h)) (inr (inr (inr g))) = absurd (omega arith)
same_kind a b letters (inr (inr (inl h))) (inl g) = absurd (omega arith)
same_kind a b letters (inr (inr (inl h))) (inr (inl g)) = absurd (omega arith)
same_kind a b letters (inr (inr (inl h))) (inr (inr (inl g))) = omega arith
same_kind a b letters (inr (inr (inl h))) (inr (inr (inr g))) = absurd (omega arith)
same_kind a b letters (inr (inr (inr h))) (inl g) = absurd (omega arith)
same_kind a b letters (inr (inr (inr h))) (inr (inl g)) = absurd (omega arith)
same_kind a b letters (inr (inr (inr h))) (inr (inr (inl g))) = absurd (omega arith)
same_kind a b letters (inr (inr (inr h))) (inr (inr (inr g))) = omega arith

-- the types differ
pub kinds_apart : KindsApart r_kinds
kinds_apart j k some same = by (slice_get r_kinds j) refl some
  where
    by : (o : Option (List ℕ)) → slice_get r_kinds j ≡ o → IsSome o → j ≡ k
    by None e some = absurd (true≢false (sym some))
    by (Some name) e some = same_kind j k (key name) (named j name e) (named k name (sym same ∙ e))

same_numbers : (word : List ℕ) (i j : ℕ) → i < 18446744073709551616 → j < 18446744073709551616 →
    word ++ decimal i ≡ word ++ decimal j → i ≡ j
same_numbers [] i j small_i small_j e = decimal_injective i j small_i small_j e
same_numbers (b ∷ word) i j small_i small_j e = same_numbers word i j small_i small_j cc

-- cores and gpus that are called the same have one type and one id
called : (a b i j : ℕ) (r s : RawVertex) → i < NO_ID → j < NO_ID → IsOf a i r → IsOf b j s → r.name ≡ s.name →
    (r.kind ≡ s.kind) × (r.id ≡ s.id)
called a b i j r s si sj (inl d) (inl e) names =
    let same : i ≡ j = same_numbers (codes "core") i j (omega arith) (omega arith)
    (sym (ap (λ (w : RawVertex). w.name) d) ∙ (names ∙ ap (λ (w : RawVertex). w.name) e)) in (
      ap (λ (w : RawVertex). w.kind) d ∙ sym (ap (λ (w : RawVertex). w.kind) e),
      ap (λ (w : RawVertex). w.id) d ∙ (ap Some same ∙ sym (ap (λ (w : RawVertex). w.id) e)),
    )
called a b i j r s si sj (inl d) (inr e) names =
    let is : key (codes "core" ++ decimal i) ≡ key (codes "gpu" ++ decimal j) =
    ap key (sym (ap (λ (w : RawVertex). w.name) d) ∙ (names ∙ ap (λ (w : RawVertex). w.name) e)) in
    absurd (omega (arith, is))
called a b i j r s si sj (inr d) (inl e) names =
    let is : key (codes "gpu" ++ decimal i) ≡ key (codes "core" ++ decimal j) =
    ap key (sym (ap (λ (w : RawVertex). w.name) d) ∙ (names ∙ ap (λ (w : RawVertex). w.name) e)) in
    absurd (omega (arith, is))
called a b i j r s si sj (inr d) (inr e) names =
    let same : i ≡ j = same_numbers (codes "gpu") i j (omega arith) (omega arith)
    (sym (ap (λ (w : RawVertex). w.name) d) ∙ (names ∙ ap (λ (w : RawVertex). w.name) e)) in (
      ap (λ (w : RawVertex). w.kind) d ∙ sym (ap (λ (w : RawVertex). w.kind) e),
      ap (λ (w : RawVertex). w.id) d ∙ (ap Some same ∙ sym (ap (λ (w : RawVertex). w.id) e)),
    )

-- what is known of a vertex, by its number
data Told (count v : ℕ) (x : Vertex) : Type 0 where
  top : v ≡ 0 → x.kind ≡ 0 → x.parent ≡ None → x.size ≡ 1 → Told count v x
  noded : (rank : ℕ) → 1 ≤ v → v ≤ count → x.kind ≡ 1 → x.parent ≡ Some 0 → x.size ≡ 1 → x.rank ≡ Some rank →
      Told count v x
  deviced : (at id : ℕ) → 1 ≤ at → at ≤ count → count < v → 2 ≤ x.kind → x.kind ≤ 3 → x.parent ≡ Some at →
      x.size ≡ 1 → x.id ≡ Some id → Told count v x

-- the kind by the number
record Kinds (count v kind : ℕ) : Type 0 where
  zeroth : v ≡ 0 → kind ≡ 0
  first : 1 ≤ v → v ≤ count → kind ≡ 1
  few : kind < 4
  node_at : kind ≡ 1 → (1 ≤ v) × (v ≤ count)
  device_at : 2 ≤ kind → count < v

kinds_by : (count v : ℕ) (x : Vertex) → Told count v x → Kinds count v x.kind
kinds_by count v x (top at k p s) = record {
  zeroth = λ a. k;
  first = λ a b. absurd (omega arith);
  few = omega arith;
  node_at = λ e. absurd (omega arith);
  device_at = λ e. absurd (omega arith);
}
kinds_by count v x (noded rank low high k p s r) = record {
  zeroth = λ a. absurd (omega arith);
  first = λ a b. k;
  few = omega arith;
  node_at = λ e. (low, high);
  device_at = λ e. absurd (omega arith);
}
kinds_by count v x (deviced at id low high past k l p s d) = record {
  zeroth = λ a. absurd (omega arith);
  first = λ a b. absurd (omega arith);
  few = omega arith;
  node_at = λ e. absurd (omega arith);
  device_at = λ e. past;
}

-- a parent stands before its child, among the cluster and the nodes; it is of a lesser kind
record Over (count v p kind : ℕ) : Type 0 where
  before : p < v
  low : p ≤ count
  lesser : (k : ℕ) → Kinds count p k → k < kind
  of_device : 2 ≤ kind → 1 ≤ p

over_by : (count v p : ℕ) (x : Vertex) → Told count v x → x.parent ≡ Some p → Over count v p x.kind
over_by count v p x (top at k none s) e = absurd (none-some p (sym none ∙ e))
over_by count v p x (noded rank low high k up s r) e =
    let is : 0 ≡ p = same_Some 0 p (sym up ∙ e) in
    record {
      before = omega arith;
      low = omega arith;
      lesser = λ j kinds. (let z = kinds.zeroth (omega arith) in omega arith);
      of_device = λ c. absurd (omega arith);
    }
over_by count v p x (deviced at id low high past k l up s d) e =
    let is : at ≡ p = same_Some at p (sym up ∙ e) in
    record {
      before = omega arith;
      low = omega arith;
      lesser = λ j kinds. (let z = kinds.first (omega arith) (omega arith) in omega arith);
      of_device = λ c. omega arith;
    }

size_by : (count v : ℕ) (x : Vertex) → Told count v x → x.size ≡ 1
size_by count v x (top at k p s) = s
size_by count v x (noded rank low high k p s r) = s
size_by count v x (deviced at id low high past k l p s d) = s

root_at : (count v : ℕ) (x : Vertex) → Told count v x → x.parent ≡ None → v ≡ 0
root_at count v x (top at k p s) none = at
root_at count v x (noded rank low high k p s r) none = absurd (none-some 0 (sym none ∙ p))
root_at count v x (deviced at id low high past k l p s d) none = absurd (none-some at (sym none ∙ p))

top_parent : (count : ℕ) (x : Vertex) → Told count 0 x → x.parent ≡ None
top_parent count x (top at k p s) = p
top_parent count x (noded rank low high k p s r) = absurd (omega arith)
top_parent count x (deviced at id low high past k l p s d) = absurd (omega arith)

device_parent : (count v : ℕ) (x : Vertex) → Told count v x → 2 ≤ x.kind →
    (at : ℕ) × (x.parent ≡ Some at) × ((id : ℕ) × (x.id ≡ Some id))
device_parent count v x (top at k p s) kind = absurd (omega arith)
device_parent count v x (noded rank low high k p s r) kind = absurd (omega arith)
device_parent count v x (deviced at id low high past k l p s d) kind = (at, p, (id, d))

node_rank : (count v : ℕ) (x : Vertex) → Told count v x → x.kind ≡ 1 → (rank : ℕ) × (x.rank ≡ Some rank)
node_rank count v x (top at k p s) kind = absurd (omega arith)
node_rank count v x (noded rank low high k p s r) kind = (rank, r)
node_rank count v x (deviced at id low high past k l p s d) kind = absurd (omega arith)

device_told : (nodes : List RNode) (v k : ℕ) (r : RawVertex) → v ≡ suc (length nodes + k) →
    (d : IsDeviceFrom 1 (suc (length nodes)) r) → IsOf d.at d.id r → Told (length nodes) v (shape_of r)
device_told nodes v k r at d (inl is) = deviced d.at d.id d.low (let high = d.high in omega arith) (omega arith)
    (let kind : r.kind ≡ 2 = ap (λ (w : RawVertex). w.kind) is in omega arith)
    (let kind : r.kind ≡ 2 = ap (λ (w : RawVertex). w.kind) is in omega arith)
    (ap (λ (w : RawVertex). w.parent) is) (ap (λ (w : RawVertex). w.size) is) (ap (λ (w : RawVertex). w.id) is)
device_told nodes v k r at d (inr is) = deviced d.at d.id d.low (let high = d.high in omega arith) (omega arith)
    (let kind : r.kind ≡ 3 = ap (λ (w : RawVertex). w.kind) is in omega arith)
    (let kind : r.kind ≡ 3 = ap (λ (w : RawVertex). w.kind) is in omega arith)
    (ap (λ (w : RawVertex). w.parent) is) (ap (λ (w : RawVertex). w.size) is) (ap (λ (w : RawVertex). w.id) is)

told_by : (nodes : List RNode) (v : ℕ) (r : RawVertex) → Spot nodes v r → Told (length nodes) v (shape_of r)
told_by nodes v r (is_cluster at is) = top at (ap (λ (w : RawVertex). w.kind) is)
    (ap (λ (w : RawVertex). w.parent) is) (ap (λ (w : RawVertex). w.size) is)
told_by nodes v r (is_node k node at there is) =
    let lt = slice_get_within nodes k node there in
    noded node.rank (omega arith) (omega arith) (ap (λ (w : RawVertex). w.kind) is)
    (ap (λ (w : RawVertex). w.parent) is) (ap (λ (w : RawVertex). w.size) is) (ap (λ (w : RawVertex). w.rank) is)
told_by nodes v r (is_device k at there d) = device_told nodes v k r at d d.is

module _ (nodes : List RNode) (fair : AreFairNodes nodes) (distinct : IsRepeatedName nodes None) where
  abbrev raw : List RawVertex
  raw = r_vertices nodes

  abbrev shapes : List Vertex
  shapes = map shape_of raw

  abbrev graph : ResourceGraph
  graph = raw_graph r_kinds raw

  abbrev texts : List (List ℕ)
  texts = raw_names raw

  spot : (v : ℕ) (x : Vertex) → slice_get shapes v ≡ Some x →
      (r : RawVertex) × (slice_get raw v ≡ Some r) × (x ≡ shape_of r) × Spot nodes v r
  spot v x there =
      let r = raw_of raw v x there in (r.0, r.1, r.2, spot_of nodes fair.each v r.0 r.1)

  told : (v : ℕ) (x : Vertex) → slice_get shapes v ≡ Some x → Told (length nodes) v x
  told v x there = let r = spot v x there in
      subst (Told (length nodes) v) (sym r.2) (told_by nodes v r.0 r.3)

  kinds_of : (v : ℕ) (x : Vertex) → slice_get shapes v ≡ Some x → Kinds (length nodes) v x.kind
  kinds_of v x there = kinds_by (length nodes) v x (told v x there)

  -- ---- parents

  -- the vertex of which a parent is read
  child_of : (v p : ℕ) → parent_of shapes v ≡ Some p →
      (x : Vertex) × (slice_get shapes v ≡ Some x) × (x.parent ≡ Some p)
  child_of v p e = by (slice_get shapes v) refl e
    where
      by : (o : Option Vertex) → slice_get shapes v ≡ o → option_and_then (λ (x : Vertex). x.parent) o ≡ Some p →
          (x : Vertex) × (slice_get shapes v ≡ Some x) × (x.parent ≡ Some p)
      by None there up = absurd (none-some p up)
      by (Some x) there up = (x, there, up)

  parent_read : (v : ℕ) (x : Vertex) → slice_get shapes v ≡ Some x → parent_of shapes v ≡ x.parent
  parent_read v x there = ap (option_and_then (λ (y : Vertex). y.parent)) there

  over : (v p : ℕ) → parent_of shapes v ≡ Some p →
      (x : Vertex) × (slice_get shapes v ≡ Some x) × Over (length nodes) v p x.kind
  over v p e = let child = child_of v p e in
      (child.0, child.1, over_by (length nodes) v p child.0 (told v child.0 child.1) child.2)

  first : ParentsFirst shapes
  first v p e = (over v p e).2.before

  there_is : (v : ℕ) → v < length shapes → (x : Vertex) × (slice_get shapes v ≡ Some x)
  there_is v lt = get_some shapes v lt

  within : (v : ℕ) (x : Vertex) → slice_get shapes v ≡ Some x → v < length shapes
  within v x there = slice_get_within shapes v x there

  -- ---- lines of parents

  -- a line has no more vertices than its first one's kind and one
  depth : (most v : ℕ) (x : Vertex) → slice_get shapes v ≡ Some x → length (chain shapes most (Some v)) ≤ suc x.kind
  depth zero v x there = omega arith
  depth (suc most) v x there = by (parent_of shapes v) refl (depth most)
    where
      by : (o : Option ℕ) → parent_of shapes v ≡ o → ((p : ℕ) (y : Vertex) → slice_get shapes p ≡ Some y →
          length (chain shapes most (Some p)) ≤ suc y.kind) → suc (length (chain shapes most o)) ≤ suc x.kind
      by None e upper = let none = chain_none shapes most in omega (arith, none)
      by (Some p) e upper =
          let o = over_by (length nodes) v p x (told v x there) (sym (parent_read v x there) ∙ e) in
          let lt = within v x there in
          let before = o.before in
          let y = there_is p (omega arith) in
          let rest = upper p y.0 y.1 in
          let less : y.0.kind < x.kind = o.lesser y.0.kind (kinds_of p y.0 y.1) in
          omega (arith, rest, less)

  -- what is above is of a lesser kind
  above : (n v u : ℕ) (x y : Vertex) → slice_get shapes v ≡ Some x → slice_get shapes u ≡ Some y →
      up shapes n (Some v) ≡ Some u → (v ≡ u) ⊎ (y.kind < x.kind)
  above zero v u x y at_v at_u e = inl (same_Some v u e)
  above (suc n) v u x y at_v at_u e = by (parent_of shapes v) refl e (λ p z at f. above n p u z y at at_u f)
    where
      by : (o : Option ℕ) → parent_of shapes v ≡ o → up shapes n o ≡ Some u →
          ((p : ℕ) (z : Vertex) → slice_get shapes p ≡ Some z → up shapes n (Some p) ≡ Some u →
          (p ≡ u) ⊎ (y.kind < z.kind)) →
          (v ≡ u) ⊎ (y.kind < x.kind)
      by None none f upper = absurd (none-some u (sym (up-None shapes n) ∙ f))
      by (Some p) some f upper =
          let o = over_by (length nodes) v p x (told v x at_v) (sym (parent_read v x at_v) ∙ some) in
          let lt = within v x at_v in
          let before = o.before in
          let z = there_is p (omega arith) in
          let less : z.0.kind < x.kind = o.lesser z.0.kind (kinds_of p z.0 z.1) in
          elim (upper p z.0 z.1 f) [
            | inl same ↦ inr (let is : z.0 ≡ y = same_Some z.0 y (sym z.1 ∙ (ap (slice_get shapes) same ∙ at_u)) in
                let kinds : z.0.kind ≡ y.kind = ap (λ (w : Vertex). w.kind) is in omega (arith, less, kinds))
            | inr lower ↦ inr (omega (arith, less, lower))
          ]

  -- the kind of a vertex below another is greater
  below_kind : (v u : ℕ) (x y : Vertex) → slice_get shapes v ≡ Some x → slice_get shapes u ≡ Some y →
      IsTrue (is_below shapes v u) → y.kind < x.kind
  below_kind v u x y at_v at_u below =
      let apart = below_to shapes first v u below in
      let steps = steps_of shapes first v u apart.0 in
      elim (above steps.0 v u x y at_v at_u steps.1) [ inl same ↦ absurd (apart.1 same) | inr less ↦ less ]

  -- ---- types

  -- a vertex whose type is called so
  typed : (name : List ℕ) (v : ℕ) → HasType graph name v →
      (x : Vertex) × (slice_get shapes v ≡ Some x) × Named x.kind (key name)
  typed name v has =
      let x = value_of (slice_get shapes v) (λ x. slice_get r_kinds x.kind ≡ Some name) has in
      (x.0, x.1, named x.0.kind name x.2)

  of_node : (v : ℕ) → IsNodeType graph v → (x : Vertex) × (slice_get shapes v ≡ Some x) × (x.kind ≡ 1)
  of_node v has = let x = typed (codes "node") v has in
      (x.0, x.1, (kind_by x.0.kind (key (codes "node")) x.2).node refl)

  of_device : (v : ℕ) → IsDevice graph v → (x : Vertex) × (slice_get shapes v ≡ Some x) × (2 ≤ x.kind)
  of_device v (inl has) = let x = typed (codes "core") v has in
      let kind = (kind_by x.0.kind (key (codes "core")) x.2).core refl in (x.0, x.1, omega (arith, kind))
  of_device v (inr has) = let x = typed (codes "gpu") v has in
      let kind = (kind_by x.0.kind (key (codes "gpu")) x.2).gpu refl in (x.0, x.1, omega (arith, kind))

  a_node : (v : ℕ) (x : Vertex) → slice_get shapes v ≡ Some x → x.kind ≡ 1 → IsNodeType graph v
  a_node v x there kind = from_value (slice_get shapes v) (λ x. slice_get r_kinds x.kind ≡ Some (codes "node")) x there
      (ap (slice_get r_kinds) kind)

  -- ---- sizes

  size_of : (v : ℕ) (x : Vertex) → slice_get shapes v ≡ Some x → x.size ≡ 1
  size_of v x there = size_by (length nodes) v x (told v x there)

  -- no type is a pool type
  no_pool : (kind : ℕ) → is_pool_kind shapes kind ≡ false
  no_pool kind = list_any_none (λ (x : Vertex). (x.kind == kind) && not (x.size == 1)) shapes
      (λ k d lt. plain (get_or shapes k d) (size_of k (get_or shapes k d) (slice_get-get_or shapes k d lt)))
    where
      whole : (x : Vertex) (a b : Bool) → (x.size == 1) ≡ b → x.size ≡ 1 → (a && not b) ≡ false
      whole x false b sizes one = refl
      whole x true true sizes one = refl
      whole x true false sizes one = absurd (true≢false (sym (eq-eqb x.size 1 one) ∙ sizes))

      plain : (x : Vertex) → x.size ≡ 1 → ((x.kind == kind) && not (x.size == 1)) ≡ false
      plain x one = whole x (x.kind == kind) (x.size == 1) refl one

  leaf : (v w : ℕ) → IsTrue (is_pool shapes v) → parent_of shapes w ≡ Some v → ⊥
  leaf v w pool e =
      let o = over w v e in
      let before = o.2.before in
      let lt = within w o.0 o.1 in
      let x = there_is v (omega arith) in
      let own : is_pool shapes v ≡ is_pool_kind shapes x.0.kind =
      ap (λ (p : Option Vertex). option_map_or (λ (y : Vertex). is_pool_kind shapes y.kind) p false) x.1 in
      true≢false (sym pool ∙ (own ∙ no_pool x.0.kind))

  -- ---- nodes above cores and gpus

  node_above : (v : ℕ) (x : Vertex) → slice_get shapes v ≡ Some x → 2 ≤ x.kind →
      (p : ℕ) × (x.parent ≡ Some p) × IsNodeType graph p × IsTrue (is_below shapes v p)
  node_above v x there kind =
      let d = device_parent (length nodes) v x (told v x there) kind in
      let o = over_by (length nodes) v d.0 x (told v x there) d.1 in
      let low = o.low in
      let high = o.of_device kind in
      let before = o.before in
      let lt : v < length shapes = within v x there in
      let y = there_is d.0 (omega arith) in (
        d.0,
        d.1,
        a_node d.0 y.0 y.1 ((kinds_of d.0 y.0 y.1).first high low),
        below_from shapes first v d.0 (λ same. omega arith) (below_parent shapes first v d.0 lt (parent_read v x there
            ∙ d.1)),
      )

  -- the node above a core or gpu is its parent
  only_node : (v n : ℕ) (x : Vertex) → slice_get shapes v ≡ Some x → 2 ≤ x.kind → IsNodeType graph n →
      IsTrue (is_below shapes v n) → x.parent ≡ Some n
  only_node v n x there kind node below =
      let p = node_above v x there kind in
      let lt : v < length shapes = within v x there in
      let up_to = parent_below shapes first v n lt below in
      let same : up_to.0 ≡ p.0 = same_Some up_to.0 p.0 (sym up_to.1 ∙ (parent_read v x there ∙ p.1)) in
      let own = of_node p.0 p.2 in
      let other = of_node n node in
      elim (eqb_tells p.0 n) [
        | inl is ↦ p.1 ∙ ap Some is.1
        | inr differ ↦ absurd (
            let under = below_from shapes first p.0 n differ.1 (subst (λ (q : ℕ). IsTrue
            (is_at_or_below shapes q n)) same up_to.2) in
            let less = below_kind p.0 n own.0 other.0 own.1 other.1 under in
            omega (arith, less, own.2, other.2))
      ]

  -- ---- ids, names and ranks

  -- two cores or gpus, the first before the second, differ
  spots_apart : (u v : ℕ) (r s : RawVertex) → u < v → Spot nodes u r → Spot nodes v s → 2 ≤ r.kind → 2 ≤ s.kind →
      r.parent ≡ s.parent → r.kind ≡ s.kind → r.id ≡ s.id → ⊥
  spots_apart u v r s lt (is_cluster a is) other kind_r kind_s = λ p k i.
      (let low : r.kind ≡ 0 = ap (λ (w : RawVertex). w.kind) is in omega arith)
  spots_apart u v r s lt (is_node k node a there is) other kind_r kind_s = λ p k i.
      (let low : r.kind ≡ 1 = ap (λ (w : RawVertex). w.kind) is in omega arith)
  spots_apart u v r s lt (is_device k a there d) (is_cluster b is) kind_r kind_s = λ p k i.
      (let low : s.kind ≡ 0 = ap (λ (w : RawVertex). w.kind) is in omega arith)
  spots_apart u v r s lt (is_device k a there d) (is_node j node b other is) kind_r kind_s = λ p k i.
      (let low : s.kind ≡ 1 = ap (λ (w : RawVertex). w.kind) is in omega arith)
  spots_apart u v r s lt (is_device k a there d) (is_device j b other e) kind_r kind_s =
      apart_at (devices_of 1 nodes) k j r s (devices_apart 1 nodes fair.each) (omega arith) there other

  double_id : Nowhere (HasDoubleId graph)
  double_id v (device_v, (u, before, kind, kind_v, kind_u, id, id_v, id_u, n, node, below_v, below_u)) =
      let x = of_device v device_v in
      let of_x : x.0.kind ≡ kind = at_value (slice_get shapes v) (λ (w : Vertex). w.kind ≡ kind) x.0 x.1 kind_v in
      let y = value_of (slice_get shapes u) (λ (w : Vertex). w.kind ≡ kind) kind_u in
      let device_u : 2 ≤ y.0.kind = omega (arith, of_x, x.2, y.2) in
      let up_v = only_node v n x.0 x.1 x.2 node below_v in
      let up_u = only_node u n y.0 y.1 device_u node below_u in
      let own_v : x.0.id ≡ Some id = at_value (slice_get shapes v) (λ (w : Vertex). w.id ≡ Some id) x.0 x.1 id_v in
      let own_u : y.0.id ≡ Some id = at_value (slice_get shapes u) (λ (w : Vertex). w.id ≡ Some id) y.0 y.1 id_u in
      let s = spot v x.0 x.1 in
      let r = spot u y.0 y.1 in
      let kinds_s : x.0.kind ≡ s.0.kind = ap (λ (w : Vertex). w.kind) s.2 in
      let kinds_r : y.0.kind ≡ r.0.kind = ap (λ (w : Vertex). w.kind) r.2 in
      spots_apart u v r.0 s.0 before r.3 s.3 (omega (arith, device_u, kinds_r)) (omega (arith, x.2, kinds_s))
      (sym (ap (λ (w : Vertex). w.parent) r.2) ∙ (up_u ∙ (sym up_v ∙ ap (λ (w : Vertex). w.parent) s.2)))
      (omega (arith, kinds_r, kinds_s, of_x, y.2))
      (sym (ap (λ (w : Vertex). w.id) r.2) ∙ (own_u ∙ (sym own_v ∙ ap (λ (w : Vertex). w.id) s.2)))

  -- two nodes are not called the same
  nodes_differ : (j k : ℕ) (a b : RNode) → j < k → slice_get nodes j ≡ Some a → slice_get nodes k ≡ Some b →
      a.name ≡ b.name → ⊥
  nodes_differ j k a b lt at_j at_k same = distinct k (record {
    earlier = j;
    before = lt;
    name = b.name;
    here = slice_get-map (λ (n : RNode). n.name) nodes k
        ∙ ap (λ (o : Option RNode). option_map (λ (n : RNode). n.name) o) at_k;
    there = slice_get-map (λ (n : RNode). n.name) nodes j
        ∙ (ap (λ (o : Option RNode). option_map (λ (n : RNode). n.name) o) at_j ∙ ap Some same);
  })

  -- what of two vertices with one parent, or of two nodes, are called the same
  spots_named : (u v : ℕ) (r s : RawVertex) → u < v → Spot nodes u r → Spot nodes v s →
      (r.parent ≡ s.parent) → (s.parent ≡ None → ⊥) → r.name ≡ s.name → ⊥
  spots_named u v r s lt at_u (is_cluster b is) parents some names = some (ap (λ (w : RawVertex). w.parent) is)
  spots_named u v r s lt (is_cluster a is) (is_node j node b there f) parents some names =
      none-some 0 (sym (ap (λ (w : RawVertex). w.parent) is) ∙ (parents ∙ ap (λ (w : RawVertex). w.parent) f))
  spots_named u v r s lt (is_node k first a at e) (is_node j node b there f) parents some names =
      nodes_differ k j first node (omega arith) at there
      (sym (ap (λ (w : RawVertex). w.name) e) ∙ (names ∙ ap (λ (w : RawVertex). w.name) f))
  spots_named u v r s lt (is_device k a at d) (is_node j node b there f) parents some names =
      let few = slice_get_within nodes j node there in omega arith
  spots_named u v r s lt (is_cluster a is) (is_device j b there f) parents some names =
      none-some f.at (sym (ap (λ (w : RawVertex). w.parent) is) ∙ (parents ∙ parent_is f.at f.id s f.is))
  spots_named u v r s lt (is_node k first a at e) (is_device j b there f) parents some names =
      let same : 0 ≡ f.at = same_Some 0 f.at (sym (ap (λ (w : RawVertex). w.parent) e) ∙ (parents
      ∙ parent_is f.at f.id s f.is)) in
      let low = f.low in omega arith
  spots_named u v r s lt (is_device k a at d) (is_device j b there f) parents some names =
      let both = called d.at f.at d.id f.id r s d.small f.small d.is f.is names in
      apart_at (devices_of 1 nodes) k j r s (devices_apart 1 nodes fair.each) (omega arith) at there
      parents both.0 both.1

  names_same : (v u : ℕ) (r s : RawVertex) → slice_get raw v ≡ Some r → slice_get raw u ≡ Some s →
      slice_get texts u ≡ slice_get texts v → s.name ≡ r.name
  names_same v u r s at_v at_u same =
      same_Some s.name r.name (sym (name_there raw u s at_u) ∙ (same ∙ name_there raw v r at_v))

  -- both are nodes, below the cluster
  node_parent : (v : ℕ) (x : Vertex) → Told (length nodes) v x → x.kind ≡ 1 → x.parent ≡ Some 0
  node_parent v x (top at k p s) kind = absurd (omega arith)
  node_parent v x (noded rank low high k p s r) kind = p
  node_parent v x (deviced at id low high past k l p s d) kind = absurd (omega arith)

  double_name : Nowhere (HasDoubleName graph texts)
  double_name v (u, before, same, inl (some, parents)) = by (parent_of shapes v) refl some
    where
      by : (o : Option ℕ) → parent_of shapes v ≡ o → IsSome o → ⊥
      by None e is = true≢false (sym is)
      by (Some p) e is =
          let x = child_of v p e in
          let y = child_of u p (parents ∙ e) in
          let s = spot v x.0 x.1 in
          let r = spot u y.0 y.1 in
          let up_s : s.0.parent ≡ Some p = sym (ap (λ (w : Vertex). w.parent) s.2) ∙ x.2 in
          let up_r : r.0.parent ≡ Some p = sym (ap (λ (w : Vertex). w.parent) r.2) ∙ y.2 in
          spots_named u v r.0 s.0 before r.3 s.3 (up_r ∙ sym up_s) (λ none. none-some p (sym none ∙ up_s))
          (names_same v u s.0 r.0 s.1 r.1 same)
  double_name v (u, before, same, inr (node_u, node_v)) =
      let x = of_node v node_v in
      let y = of_node u node_u in
      let s = spot v x.0 x.1 in
      let r = spot u y.0 y.1 in
      let up_s : s.0.parent ≡ Some 0 = sym (ap (λ (w : Vertex). w.parent) s.2)
      ∙ node_parent v x.0 (told v x.0 x.1) x.2 in
      let up_r : r.0.parent ≡ Some 0 = sym (ap (λ (w : Vertex). w.parent) r.2)
      ∙ node_parent u y.0 (told u y.0 y.1) y.2 in
      spots_named u v r.0 s.0 before r.3 s.3 (up_r ∙ sym up_s) (λ none. none-some 0 (sym none ∙ up_s))
      (names_same v u s.0 r.0 s.1 r.1 same)

  -- two nodes differ in their ranks
  ranks_differ : (j k : ℕ) (a b : RNode) → j < k → slice_get nodes j ≡ Some a → slice_get nodes k ≡ Some b →
      a.rank < b.rank
  ranks_differ j k a b lt at_j at_k =
      let list = map (λ (n : RNode). n.rank) nodes in
      let there : slice_get list k ≡ Some b.rank = slice_get-map (λ (n : RNode). n.rank) nodes k
      ∙ ap (λ (o : Option RNode). option_map (λ (n : RNode). n.rank) o) at_k in
      let here : slice_get list j ≡ Some a.rank = slice_get-map (λ (n : RNode). n.rank) nodes j
      ∙ ap (λ (o : Option RNode). option_map (λ (n : RNode). n.rank) o) at_j in
      let up = AllPairs-from_increasing list fair.ranks j k 0 lt (slice_get_within list k b.rank there) in
      let is_b = get_or_from_slice_get list k b.rank 0 there in
      let is_a = get_or_from_slice_get list j a.rank 0 here in
      omega (arith, up, is_a, is_b)

  spots_ranked : (u v rank : ℕ) (r s : RawVertex) → u < v → Spot nodes u r → Spot nodes v s →
      r.rank ≡ Some rank → s.rank ≡ Some rank → ⊥
  spots_ranked u v rank r s lt (is_cluster a is) other rank_r rank_s =
      none-some rank (sym (ap (λ (w : RawVertex). w.rank) is) ∙ rank_r)
  spots_ranked u v rank r s lt (is_node k first a at e) (is_cluster b is) rank_r rank_s =
      none-some rank (sym (ap (λ (w : RawVertex). w.rank) is) ∙ rank_s)
  spots_ranked u v rank r s lt (is_node k first a at e) (is_node j node b there f) rank_r rank_s =
      let up = ranks_differ k j first node (omega arith) at there in
      let is_r = same_Some first.rank rank (sym (ap (λ (w : RawVertex). w.rank) e) ∙ rank_r) in
      let is_s = same_Some node.rank rank (sym (ap (λ (w : RawVertex). w.rank) f) ∙ rank_s) in
      omega (arith, up, is_r, is_s)
  spots_ranked u v rank r s lt (is_node k first a at e) (is_device j b there f) rank_r rank_s =
      device_unranked f.at f.id s rank f.is rank_s
    where
      device_unranked : (at id : ℕ) (w : RawVertex) (rank : ℕ) → IsOf at id w → w.rank ≡ Some rank → ⊥
      device_unranked at id w rank (inl is) e = none-some rank (sym (ap (λ (z : RawVertex). z.rank) is) ∙ e)
      device_unranked at id w rank (inr is) e = none-some rank (sym (ap (λ (z : RawVertex). z.rank) is) ∙ e)
  spots_ranked u v rank r s lt (is_device k a at d) other rank_r rank_s =
      device_unranked d.at d.id r rank d.is rank_r
    where
      device_unranked : (at id : ℕ) (w : RawVertex) (rank : ℕ) → IsOf at id w → w.rank ≡ Some rank → ⊥
      device_unranked at id w rank (inl is) e = none-some rank (sym (ap (λ (z : RawVertex). z.rank) is) ∙ e)
      device_unranked at id w rank (inr is) e = none-some rank (sym (ap (λ (z : RawVertex). z.rank) is) ∙ e)

  bad_rank : Nowhere (HasBadRank graph)
  bad_rank v (some, node, inl none) =
      let x = of_node v node in
      let i = node_rank (length nodes) v x.0 (told v x.0 x.1) x.2 in
      none-some i.0 (sym (at_value (slice_get shapes v) (λ (w : Vertex). w.rank ≡ None) x.0 x.1 none) ∙ i.1)
  bad_rank v (some, node, inr (u, before, node_u, rank, rank_v, rank_u)) =
      let x = of_node v node in
      let y = of_node u node_u in
      let s = spot v x.0 x.1 in
      let r = spot u y.0 y.1 in
      let of_v : x.0.rank ≡ Some rank = at_value (slice_get shapes v) (λ
      (w : Vertex). w.rank ≡ Some rank) x.0 x.1 rank_v in
      let of_u : y.0.rank ≡ Some rank = at_value (slice_get shapes u) (λ
      (w : Vertex). w.rank ≡ Some rank) y.0 y.1 rank_u in
      spots_ranked u v rank r.0 s.0 before r.3 s.3 (sym (ap (λ (w : Vertex). w.rank) r.2) ∙ of_u)
      (sym (ap (λ (w : Vertex). w.rank) s.2) ∙ of_v)

  -- ---- all rows

  chain_falls : (most v : ℕ) → length (chain shapes most (Some v)) ≤ suc v
  chain_falls zero v = omega arith
  chain_falls (suc most) v = by (parent_of shapes v) refl (chain_falls most)
    where
      by : (o : Option ℕ) → parent_of shapes v ≡ o → ((p : ℕ) → length (chain shapes most (Some p)) ≤ suc p) →
          suc (length (chain shapes most o)) ≤ suc v
      by None e rest = let none = chain_none shapes most in omega (arith, none)
      by (Some p) e rest = let less = first v p e in let short = rest p in omega (arith, less, short)

  root_is : (v : ℕ) → v < length shapes → parent_of shapes v ≡ None → v ≡ 0
  root_is v lt none =
      let x = there_is v lt in
      root_at (length nodes) v x.0 (told v x.0 x.1) (sym (parent_read v x.0 x.1) ∙ none)

  no_parent : parent_of shapes 0 ≡ None
  no_parent = let x = there_is 0 (omega arith) in
      parent_read 0 x.0 x.1 ∙ top_parent (length nodes) x.0 (told 0 x.0 x.1)

  sized : (v : ℕ) → IsSomeAnd (slice_get shapes v) (λ (w : Vertex). w.size ≢ 1) → ⊥
  sized v other = let x = value_of (slice_get shapes v) (λ (w : Vertex). w.size ≢ 1) other in
      x.2 (size_of v x.0 x.1)

  pub facts : Facts graph texts
  facts = record {
    few = (let most = fair.few in let long = length-map raw shape_of in omega (arith, most, long));
    few_kinds = omega arith;
    parents = λ v has. (let o = over v has.0 has.1 in let before = o.2.before in let lt = within v o.0 o.1 in
        let past = has.2 in omega (arith, before, lt, past));
    known = λ v has. (let x = value_of (slice_get shapes v) (λ (w : Vertex). length r_kinds ≤ w.kind) has in
        let few = (kinds_of v x.0 x.1).few in let past : 4 ≤ x.0.kind = x.2 in omega (arith, few, past));
    root = (0, (omega arith, no_parent));
    alone = λ v has. (let one = root_is v has.0.0 has.0.1 in let before = has.1.1 in omega (arith, one, before));
    ends = λ v has. (let short = chain_falls (suc (length shapes)) v in let lt = has.0 in let past = has.1 in
        omega (arith, short, lt, past));
    shallow = λ v has. (let x = there_is v has.0 in
        let short = depth (length shapes) v x.0 x.1 in let few = (kinds_of v x.0 x.1).few in let past = has.1 in
        omega (arith, short, few, past));
    unnested = λ v has.
        (let x = value_of (slice_get shapes v) (λ (w : Vertex). w.kind ≡ has.1) has.2 in
        let y = value_of (slice_get shapes has.0) (λ (w : Vertex). w.kind ≡ has.1) has.3 in
        let less = below_kind v has.0 x.0 y.0 x.1 y.1 has.4 in omega (arith, less, x.2, y.2));
    unreserved = λ v has. (let x = typed (codes "slot") v has in
        (kind_by x.0.kind (key (codes "slot")) x.2).slot refl);
    leaves = λ v has. leaf v has.1.0 has.0 has.1.1;
    whole = λ v has. sized v has.1;
    most = λ v has. (let x = value_of (slice_get shapes v) (λ (w : Vertex). GREATEST_NUMBER < w.size) has in
        let one = size_of v x.0 x.1 in let past = x.2 in omega (arith, one, past));
    housed = λ v is. (let x = of_device v is in let p = node_above v x.0 x.1 x.2 in (p.0, p.2, p.3));
    identified = λ v has.
        (let x = of_device v has.0 in let i = (device_parent (length nodes) v x.0 (told v x.0 x.1) x.2).2 in
        none-some i.0 (sym (at_value (slice_get shapes v) (λ (w : Vertex). w.id ≡ None) x.0 x.1 has.1) ∙ i.1));
    ids = double_id;
    names_apart = double_name;
    ranks = bad_rank;
  }

  -- nothing is wrong with the list
  pub r_faultless : IsFaultless graph texts
  r_faultless = faultless graph texts facts
