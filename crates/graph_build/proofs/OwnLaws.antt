-- What is wrong with a vertex is wrong with one of the list.
use Rattle.std.proofs.Common.{◌≡◌, ℕ, ◌<◌, List, length, get_or, Some, None, Option, inl, inr, refl, sym, ◌∙◌, ap}
use Rattle.std.proofs.Common.{IsTrue, Bool, true≢false, true, false}
use Rattle.std.specs.Prelude.{slice_get, codes}
use Rattle.std.specs.Option.{IsSomeAnd, option_map_or}
use Rattle.std.proofs.lemmas.Option.{slice_get_within, slice_get-get_or, same_Some}
use Rattle.std.proofs.lemmas.Slice.Eq.{bytes_eq-Decides}
use Rattle.std.specs.Str.{bytes_eq}
use Rattle.flux_defs.specs.declared.vertices.Vertex.{Vertex}
use Rattle.flux_defs.specs.Graph.{is_pool_kind}
use Rattle.flux_defs.specs.ValidGraph.{HasType, IsDevice}
use Rattle.graph_build.specs.Faults.{IsNestedInKind, IsPoolWithChild, IsLoose}
use Rattle.graph_build.specs.Checks.{graph_in}
use Rattle.resource_graph.proofs.ChainLaws.{no_vertex}
use Rattle.list_laws.proofs.Values.{from_value, at_value, fact_within}

-- a fact on the vertex that was read
pub fact_here : (vertices : List Vertex) (v : ℕ) (P : Vertex → Type 0) → v < length vertices →
    P (get_or vertices v no_vertex) → IsSomeAnd (slice_get vertices v) P
fact_here vertices v P lt h = from_value (slice_get vertices v) P (get_or vertices v no_vertex)
    (slice_get-get_or vertices v no_vertex lt) h

pub fact_read : (vertices : List Vertex) (v : ℕ) (P : Vertex → Type 0) → v < length vertices →
    IsSomeAnd (slice_get vertices v) P → P (get_or vertices v no_vertex)
fact_read vertices v P lt h = at_value (slice_get vertices v) P (get_or vertices v no_vertex)
    (slice_get-get_or vertices v no_vertex lt) h

module _ (kinds : List (List ℕ)) (vertices : List Vertex) (v : ℕ) where
  pub type_within : (name : List ℕ) → HasType (graph_in kinds vertices) name v → v < length vertices
  type_within name h = fact_within vertices v (λ x. slice_get kinds x.kind ≡ Some name) h

  pub device_within : IsDevice (graph_in kinds vertices) v → v < length vertices
  device_within (inl core) = type_within (codes "core") core
  device_within (inr gpu) = type_within (codes "gpu") gpu

  pub nested_within : IsNestedInKind (graph_in kinds vertices) v → v < length vertices
  nested_within h = fact_within vertices v (λ x. x.kind ≡ h.1) h.2

  pub loose_within : IsLoose (graph_in kinds vertices) v → v < length vertices
  loose_within h = device_within h.0

  pub parent_pool_within : IsPoolWithChild (graph_in kinds vertices) v → v < length vertices
  parent_pool_within h = go (slice_get vertices v) refl h.0
    where
      go : (o : Option Vertex) → slice_get vertices v ≡ o →
          option_map_or (λ x. is_pool_kind vertices x.kind) o false ≡ true → v < length vertices
      go None e t = absurd (true≢false (sym t))
      go (Some x) e t = slice_get_within vertices v x e

-- whether a type is called so, by its bytes
pub called : (kinds : List (List ℕ)) (kind : ℕ) (text bytes name : List ℕ) (r : Bool) → kind < length kinds →
    text ≡ get_or kinds kind text → bytes ≡ text → r ≡ bytes_eq bytes name →
    (IsTrue r → slice_get kinds kind ≡ Some name) × (slice_get kinds kind ≡ Some name → IsTrue r)
called kinds kind text bytes name r lt read same e =
    let at : slice_get kinds kind ≡ Some text = slice_get-get_or kinds kind text lt ∙ ap Some (sym read) in (
      (λ h. at ∙ ap Some (sym same ∙ (bytes_eq-Decides bytes name).0 (sym e ∙ h))),
      (λ is. e ∙ (bytes_eq-Decides bytes name).1 (same ∙ same_Some _ _ (sym at ∙ is))),
    )

-- a test of a vertex's kind is one of the vertex
pub type_test : (kinds : List (List ℕ)) (vertices : List Vertex) (v : ℕ) (name : List ℕ) (r : Bool) →
    v < length vertices →
    (IsTrue r → slice_get kinds (get_or vertices v no_vertex).kind ≡ Some name)
    × (slice_get kinds (get_or vertices v no_vertex).kind ≡ Some name → IsTrue r) →
    (IsTrue r → HasType (graph_in kinds vertices) name v) × (HasType (graph_in kinds vertices) name v → IsTrue r)
type_test kinds vertices v name r lt test = (
  (λ h. fact_here vertices v (λ x. slice_get kinds x.kind ≡ Some name) lt (test.0 h)),
  (λ t. test.1 (fact_read vertices v (λ x. slice_get kinds x.kind ≡ Some name) lt t)),
)
