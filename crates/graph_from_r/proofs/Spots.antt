-- What stands where in the list of vertices.
use Rattle.std.proofs.Common.{◌≡◌, ◌⊎◌, ℕ, zero, suc, ◌+◌, ◌<◌, ◌≤◌, List, [], ◌∷◌, ◌++◌, length, map, Option, Some}
use Rattle.std.proofs.Common.{None}
use Rattle.std.proofs.Common.{inl, inr, refl, sym, ◌∙◌, ap, subst, arith, codes}
use Rattle.std.specs.Prelude.{slice_get}
use Rattle.std.specs.Option.{option_map}
use Rattle.std.specs.List.{AllByRecursion}
use Rattle.std.proofs.lemmas.List.{length-map}
use Rattle.std.proofs.lemmas.Option.{slice_get-map, same_Some, none-some}
use Rattle.flux_defs.specs.declared.vertices.Vertex.{Vertex}
use Rattle.flux_defs.specs.declared.limits.TheConstants.{NO_ID}
use Rattle.list_laws.proofs.Lists.{all_append, all_along, all_at}
use Rattle.graph_build.specs.declared.raw.RawVertex.{RawVertex}
use Rattle.graph_build.specs.Raw.{shape_of, raw_names}
use Rattle.graph_from_r.specs.declared.nodes.RNode.{RNode}
use Rattle.graph_from_r.specs.Vertices.{cluster, node_vertex, device, own_devices, devices_of, r_vertices}
use Rattle.graph_from_r.specs.Graphs.{RiseFrom, IsFair}

-- an item of two lists is one of the first or of the second
pub get_append : {X : Type 0} (xs ys : List X) (i : ℕ) (x : X) → slice_get (xs ++ ys) i ≡ Some x →
    ((i < length xs) × (slice_get xs i ≡ Some x)) ⊎ ((j : ℕ) × (i ≡ length xs + j) × (slice_get ys j ≡ Some x))
get_append [] ys i x e = inr (i, omega arith, e)
get_append (y ∷ xs) ys zero x e = inl (omega arith, e)
get_append (y ∷ xs) ys (suc i) x e = elim (get_append xs ys i x e) [
  | inl here ↦ (let lt = here.0 in inl (omega arith, here.1))
  | inr behind ↦ (let at = behind.1 in inr (behind.0, omega arith, behind.2))
]

-- what an item was mapped from
pub get_mapped : {X Y : Type 0} (f : X → Y) (xs : List X) (i : ℕ) (y : Y) → slice_get (map f xs) i ≡ Some y →
    (x : X) × (slice_get xs i ≡ Some x) × (y ≡ f x)
get_mapped {X} {Y} f xs i y e = by (slice_get xs i) refl (sym (slice_get-map f xs i) ∙ e)
  where
    by : (o : Option X) → slice_get xs i ≡ o → option_map f o ≡ Some y →
        (x : X) × (slice_get xs i ≡ Some x) × (y ≡ f x)
    by None there up = absurd (none-some y up)
    by (Some x) there up = (x, there, sym (same_Some (f x) y up))

-- ---- cores and gpus

-- a core or a gpu with this id
abbrev pub IsOf : ℕ → ℕ → RawVertex → Type 0
IsOf at id r = (r ≡ device 2 (codes "core") at id) ⊎ (r ≡ device 3 (codes "gpu") at id)

-- it is one of a node from one number on and before another
pub record IsDeviceFrom (from to : ℕ) (r : RawVertex) : Type 0 where
  pub at : ℕ
  pub low : from ≤ at
  pub high : at < to
  pub id : ℕ
  pub small : id < NO_ID
  pub is : IsOf at id r

-- ids are small
ids_small : (least : ℕ) (ids : List ℕ) → RiseFrom least ids → AllByRecursion (λ id. id < NO_ID) ids
ids_small least [] rise = tt
ids_small least (id ∷ ids) rise = (rise.1, ids_small (id + 1) ids rise.2)

own_cores : (at : ℕ) (ids : List ℕ) → AllByRecursion (λ id. id < NO_ID) ids →
    AllByRecursion (IsDeviceFrom at (suc at)) (map (device 2 (codes "core") at) ids)
own_cores at [] small = tt
own_cores at (id ∷ ids) small = (
  record { at = at; low = omega arith; high = omega arith; id = id; small = small.0; is = inl refl },
  own_cores at ids small.1,
)

own_gpus : (at : ℕ) (ids : List ℕ) → AllByRecursion (λ id. id < NO_ID) ids →
    AllByRecursion (IsDeviceFrom at (suc at)) (map (device 3 (codes "gpu") at) ids)
own_gpus at [] small = tt
own_gpus at (id ∷ ids) small = (
  record { at = at; low = omega arith; high = omega arith; id = id; small = small.0; is = inr refl },
  own_gpus at ids small.1,
)

pub own_are : (at : ℕ) (node : RNode) → IsFair node → AllByRecursion (IsDeviceFrom at (suc at)) (own_devices at node)
own_are at node fair = all_append (IsDeviceFrom at (suc at))
    (map (device 2 (codes "core") at) node.cores) (map (device 3 (codes "gpu") at) node.gpus)
    (own_cores at node.cores (ids_small 0 node.cores fair.0)) (own_gpus at node.gpus (ids_small 0 node.gpus fair.1))

wider : (from to low high : ℕ) → low ≤ from → to ≤ high → (r : RawVertex) → IsDeviceFrom from to r →
    IsDeviceFrom low high r
wider from to low high l h r d = record {
  at = d.at;
  low = (let is = d.low in omega arith);
  high = (let is = d.high in omega arith);
  id = d.id;
  small = d.small;
  is = d.is;
}

pub devices_are : (at : ℕ) (nodes : List RNode) → AllByRecursion IsFair nodes →
    AllByRecursion (IsDeviceFrom at (at + length nodes)) (devices_of at nodes)
devices_are at [] fair = tt
devices_are at (node ∷ nodes) fair = all_append (IsDeviceFrom at (at + suc (length nodes)))
    (own_devices at node) (devices_of (suc at) nodes)
    (all_along (IsDeviceFrom at (suc at)) (IsDeviceFrom at (at + suc (length nodes)))
    (wider at (suc at) at (at + suc (length nodes)) (omega arith) (omega arith)) (own_devices at node)
    (own_are at node fair.0))
    (all_along (IsDeviceFrom (suc at) (suc at + length nodes)) (IsDeviceFrom at (at + suc (length nodes)))
    (wider (suc at) (suc at + length nodes) at (at + suc (length nodes)) (omega arith) (omega arith))
    (devices_of (suc at) nodes) (devices_are (suc at) nodes fair.1))

-- ---- devices differ

-- of one node and of one type, they differ in their ids
abbrev pub Differ : RawVertex → RawVertex → Type 0
Differ r s = r.parent ≡ s.parent → r.kind ≡ s.kind → r.id ≡ s.id → ⊥

-- each differs from those behind it
abbrev pub Apart : List RawVertex → Type 0
Apart [] = Unit {0}
Apart (r ∷ rs) = AllByRecursion (Differ r) rs × Apart rs

apart_append : (xs ys : List RawVertex) → Apart xs → Apart ys →
    AllByRecursion (λ x. AllByRecursion (Differ x) ys) xs → Apart (xs ++ ys)
apart_append [] ys a b across = b
apart_append (x ∷ xs) ys a b across =
    (all_append (Differ x) xs ys a.0 across.0, apart_append xs ys a.1 b across.1)

pub apart_at : (rs : List RawVertex) (u v : ℕ) (r s : RawVertex) → Apart rs → u < v → slice_get rs u ≡ Some r →
    slice_get rs v ≡ Some s → Differ r s
apart_at [] u v r s apart lt at_u at_v = absurd (none-some r at_u)
apart_at (x ∷ xs) zero zero r s apart lt at_u at_v = absurd (omega arith)
apart_at (x ∷ xs) zero (suc v) r s apart lt at_u at_v =
    subst (λ (y : RawVertex). Differ y s) (same_Some x r at_u) (all_at (Differ x) xs v s apart.0 at_v)
apart_at (x ∷ xs) (suc u) zero r s apart lt at_u at_v = absurd (omega arith)
apart_at (x ∷ xs) (suc u) (suc v) r s apart lt at_u at_v = apart_at xs u v r s apart.1 (omega arith) at_u at_v

above_all : (least low : ℕ) (ids : List ℕ) → RiseFrom least ids → low ≤ least → AllByRecursion (λ id. low ≤ id) ids
above_all least low [] rise le = tt
above_all least low (id ∷ ids) rise le =
    let here = rise.0 in (omega arith, above_all (id + 1) low ids rise.2 (omega arith))

one_apart : (kind : ℕ) (base : List ℕ) (at id : ℕ) (ids : List ℕ) → AllByRecursion (λ other. id + 1 ≤ other) ids →
    AllByRecursion (Differ (device kind base at id)) (map (device kind base at) ids)
one_apart kind base at id [] above = tt
one_apart kind base at id (other ∷ ids) above = (
  λ parents kinds ids_same. (let same : id ≡ other = same_Some id other ids_same in let far = above.0 in omega arith),
  one_apart kind base at id ids above.1,
)

kind_apart : (kind : ℕ) (base : List ℕ) (at least : ℕ) (ids : List ℕ) → RiseFrom least ids →
    Apart (map (device kind base at) ids)
kind_apart kind base at least [] rise = tt
kind_apart kind base at least (id ∷ ids) rise = (
  one_apart kind base at id ids (above_all (id + 1) (id + 1) ids rise.2 (omega arith)),
  kind_apart kind base at (id + 1) ids rise.2,
)

core_or_gpu : (at id : ℕ) (gpus : List ℕ) →
    AllByRecursion (Differ (device 2 (codes "core") at id)) (map (device 3 (codes "gpu") at) gpus)
core_or_gpu at id [] = tt
core_or_gpu at id (gpu ∷ gpus) = (λ parents kinds ids. omega arith, core_or_gpu at id gpus)

cores_or_gpus : (at : ℕ) (cores gpus : List ℕ) →
    AllByRecursion (λ x. AllByRecursion (Differ x) (map (device 3 (codes "gpu") at) gpus))
    (map (device 2 (codes "core") at) cores)
cores_or_gpus at [] gpus = tt
cores_or_gpus at (core ∷ cores) gpus = (core_or_gpu at core gpus, cores_or_gpus at cores gpus)

own_apart : (at : ℕ) (node : RNode) → IsFair node → Apart (own_devices at node)
own_apart at node fair = apart_append
    (map (device 2 (codes "core") at) node.cores) (map (device 3 (codes "gpu") at) node.gpus)
    (kind_apart 2 (codes "core") at 0 node.cores fair.0) (kind_apart 3 (codes "gpu") at 0 node.gpus fair.1)
    (cores_or_gpus at node.cores node.gpus)

-- its parent is the node that it is of
pub parent_is : (at id : ℕ) (r : RawVertex) → IsOf at id r → r.parent ≡ Some at
parent_is at id r (inl is) = ap (λ (w : RawVertex). w.parent) is
parent_is at id r (inr is) = ap (λ (w : RawVertex). w.parent) is

pub id_is : (at id : ℕ) (r : RawVertex) → IsOf at id r → r.id ≡ Some id
id_is at id r (inl is) = ap (λ (w : RawVertex). w.id) is
id_is at id r (inr is) = ap (λ (w : RawVertex). w.id) is

far_apart : (at to : ℕ) (r s : RawVertex) → IsDeviceFrom at (suc at) r → IsDeviceFrom (suc at) to s → Differ r s
far_apart at to r s d e parents kinds ids =
    let same : d.at ≡ e.at = same_Some d.at e.at (sym (parent_is d.at d.id r d.is) ∙ (parents
    ∙ parent_is e.at e.id s e.is)) in
    let low = e.low in let high = d.high in omega arith

all_far : (at to : ℕ) (r : RawVertex) (ss : List RawVertex) → IsDeviceFrom at (suc at) r →
    AllByRecursion (IsDeviceFrom (suc at) to) ss → AllByRecursion (Differ r) ss
all_far at to r [] d es = tt
all_far at to r (s ∷ ss) d es = (far_apart at to r s d es.0, all_far at to r ss d es.1)

pub devices_apart : (at : ℕ) (nodes : List RNode) → AllByRecursion IsFair nodes → Apart (devices_of at nodes)
devices_apart at [] fair = tt
devices_apart at (node ∷ nodes) fair = apart_append (own_devices at node) (devices_of (suc at) nodes)
    (own_apart at node fair.0) (devices_apart (suc at) nodes fair.1)
    (all_along (IsDeviceFrom at (suc at)) (λ x. AllByRecursion (Differ x) (devices_of (suc at) nodes))
    (λ r d. all_far at (suc at + length nodes) r (devices_of (suc at) nodes) d (devices_are (suc at) nodes fair.1))
    (own_devices at node) (own_are at node fair.0))

-- ---- places

-- what stands at a number
pub data Spot (nodes : List RNode) (v : ℕ) (r : RawVertex) : Type 0 where
  is_cluster : v ≡ 0 → r ≡ cluster → Spot nodes v r
  is_node : (k : ℕ) (node : RNode) → v ≡ suc k → slice_get nodes k ≡ Some node → r ≡ node_vertex node → Spot nodes v r
  is_device : (k : ℕ) → v ≡ suc (length nodes + k) → slice_get (devices_of 1 nodes) k ≡ Some r →
      IsDeviceFrom 1 (suc (length nodes)) r → Spot nodes v r

pub spot_of : (nodes : List RNode) → AllByRecursion IsFair nodes → (v : ℕ) (r : RawVertex) →
    slice_get (r_vertices nodes) v ≡ Some r → Spot nodes v r
spot_of nodes fair zero r e = is_cluster refl (sym (same_Some cluster r e))
spot_of nodes fair (suc i) r e = elim (get_append (map node_vertex nodes) (devices_of 1 nodes) i r e) [
  | inl node ↦ (let x = get_mapped node_vertex nodes i r node.1 in is_node i x.0 refl x.1 x.2)
  | inr other ↦ (let long = length-map nodes node_vertex in let at = other.1 in
      is_device other.0 (omega arith) other.2
      (all_at (IsDeviceFrom 1 (suc (length nodes))) (devices_of 1 nodes) other.0 r
      (subst (λ n. AllByRecursion (IsDeviceFrom 1 n) (devices_of 1 nodes)) (omega arith) (devices_are 1 nodes fair))
      other.2))
]

-- a shape is that of a raw vertex
pub raw_of : (raw : List RawVertex) (v : ℕ) (x : Vertex) → slice_get (map shape_of raw) v ≡ Some x →
    (r : RawVertex) × (slice_get raw v ≡ Some r) × (x ≡ shape_of r)
raw_of raw v x e = get_mapped shape_of raw v x e

-- a name of the list is that of its vertex
pub name_there : (raw : List RawVertex) (v : ℕ) (r : RawVertex) → slice_get raw v ≡ Some r →
    slice_get (raw_names raw) v ≡ Some r.name
name_there raw v r there = slice_get-map (λ (x : RawVertex). x.name) raw v
    ∙ ap (option_map (λ (x : RawVertex). x.name)) there
