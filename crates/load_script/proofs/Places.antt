-- Where each vertex of a load's graph stands in its list, and what it has.
use Rattle.std.proofs.Common.{◌≡◌, ℕ, ◌+◌, ◌-◌, ◌<◌, ◌≤◌, nat_lt, cond, List, map, length, Some, inl, inr, refl}
use Rattle.std.proofs.Common.{sym, ◌∙◌, ap, arith}
use Rattle.std.specs.Prelude.{slice_get}
use Rattle.std.specs.Option.{option_map}
use Rattle.std.proofs.lemmas.Bool.{cases_lt, lt-ltb, le-ltb}
use Rattle.std.proofs.lemmas.List.{length-map}
use Rattle.std.proofs.lemmas.List.FromFn.{length-map-range_with_len, get_or-map-range_with_len}
use Rattle.std.proofs.lemmas.Option.{slice_get-map, slice_get-get_or, slice_get_within, same_Some}
use Rattle.flux_defs.specs.declared.vertices.Vertex.{Vertex}
use Rattle.graph_build.specs.declared.raw.RawVertex.{RawVertex}
use Rattle.graph_build.specs.Raw.{shape_of, raw_names}
use Rattle.load_script.specs.Vertices.{cluster, rack, node, core, memory, vertex_at, vertex_count, load_vertices}

pub count_is : vertex_count ≡ 4625
unfolding vertex_count
count_is = refl

-- the vertices without their texts
abbrev pub shapes : List Vertex
shapes = map shape_of load_vertices

-- ---- the five ranges

pub data Spot (v : ℕ) (r : RawVertex) : Type 0 where
  is_cluster : v ≡ 0 → r ≡ cluster → Spot v r
  is_rack : (i : ℕ) → i < 16 → v ≡ 1 + i → r ≡ rack i → Spot v r
  is_node : (i : ℕ) → i < 256 → v ≡ 17 + i → r ≡ node i → Spot v r
  is_core : (i : ℕ) → i < 4096 → v ≡ 273 + i → r ≡ core i → Spot v r
  is_memory : (i : ℕ) → i < 256 → v ≡ 4369 + i → r ≡ memory i → Spot v r

less : {X : Type 0} (m n : ℕ) (x y : X) → m < n → cond (nat_lt m n) x y ≡ x
less m n x y lt = ap (λ b. cond b x y) (lt-ltb m n lt)

more : {X : Type 0} (m n : ℕ) (x y : X) → n ≤ m → cond (nat_lt m n) x y ≡ y
more m n x y le = ap (λ b. cond b x y) (le-ltb m n le)

pub at_cluster : (v : ℕ) → v < 1 → vertex_at v ≡ cluster
unfolding vertex_at
at_cluster v a = less v 1 cluster _ a

pub at_rack : (v : ℕ) → 1 ≤ v → v < 17 → vertex_at v ≡ rack (v - 1)
unfolding vertex_at
at_rack v a b = more v 1 cluster _ a ∙ less v 17 (rack (v - 1)) _ b

pub at_node : (v : ℕ) → 17 ≤ v → v < 273 → vertex_at v ≡ node (v - 17)
unfolding vertex_at
at_node v b c = more v 1 cluster _ (omega arith) ∙ (more v 17 (rack (v - 1)) _ b ∙ less v 273 (node (v - 17)) _ c)

pub at_core : (v : ℕ) → 273 ≤ v → v < 4369 → vertex_at v ≡ core (v - 273)
unfolding vertex_at
at_core v c d =
    more v 1 cluster _ (omega arith) ∙ (more v 17 (rack (v - 1)) _ (omega arith)
    ∙ (more v 273 (node (v - 17)) _ c ∙ less v 4369 (core (v - 273)) _ d))

pub at_memory : (v : ℕ) → 4369 ≤ v → vertex_at v ≡ memory (v - 4369)
unfolding vertex_at
at_memory v d =
    more v 1 cluster _ (omega arith) ∙ (more v 17 (rack (v - 1)) _ (omega arith)
    ∙ (more v 273 (node (v - 17)) _ (omega arith) ∙ more v 4369 (core (v - 273)) (memory (v - 4369)) d))

spot_of : (v : ℕ) → v < 4625 → Spot v (vertex_at v)
spot_of v within = elim (cases_lt v 1) [
  | inl a ↦ is_cluster (omega arith) (at_cluster v a)
  | inr a ↦ elim (cases_lt v 17) [
    | inl b ↦ is_rack (v - 1) (omega arith) (omega arith) (at_rack v a b)
    | inr b ↦ elim (cases_lt v 273) [
      | inl c ↦ is_node (v - 17) (omega arith) (omega arith) (at_node v b c)
      | inr c ↦ elim (cases_lt v 4369) [
        | inl d ↦ is_core (v - 273) (omega arith) (omega arith) (at_core v c d)
        | inr d ↦ is_memory (v - 4369) (omega arith) (omega arith) (at_memory v d)
      ]
    ]
  ]
]

-- ---- look-ups

pub long : length load_vertices ≡ 4625
long = length-map-range_with_len vertex_at 0 vertex_count ∙ count_is

pub vertex_there : (v : ℕ) → v < 4625 → slice_get load_vertices v ≡ Some (vertex_at v)
vertex_there v within =
    let lt : v < length load_vertices = omega (arith, long) in
    let few : v < vertex_count = omega (arith, count_is) in
    slice_get-get_or load_vertices v cluster lt
    ∙ ap Some (get_or-map-range_with_len vertex_at 0 vertex_count v v cluster few (omega arith))

pub shapes_long : length shapes ≡ 4625
shapes_long = length-map load_vertices shape_of ∙ long

-- a vertex of the list is that of its number
pub spot : (v : ℕ) (x : Vertex) → slice_get shapes v ≡ Some x →
    (r : RawVertex) × (slice_get load_vertices v ≡ Some r) × (x ≡ shape_of r) × (v < 4625) × Spot v r
spot v x there =
    let within : v < 4625 = let lt = slice_get_within shapes v x there in omega (arith, lt, shapes_long) in
    let own : slice_get shapes v ≡ Some (shape_of (vertex_at v)) =
    slice_get-map shape_of load_vertices v ∙ ap (option_map shape_of) (vertex_there v within) in (
      vertex_at v,
      vertex_there v within,
      same_Some x (shape_of (vertex_at v)) (sym there
          ∙ own),
      within,
      spot_of v within,
    )

-- a name of the list is that of its vertex
pub name_there : (v : ℕ) (r : RawVertex) → slice_get load_vertices v ≡ Some r →
    slice_get (raw_names load_vertices) v ≡ Some r.name
name_there v r there = slice_get-map (λ (x : RawVertex). x.name) load_vertices v
    ∙ ap (option_map (λ (x : RawVertex). x.name)) there
