-- From what a search finds to the first bad vertex.
use Rattle.std.proofs.Common.{◌≡◌, ◌↔◌, IsTrue, ℕ, ◌<◌, not, Bool, true, false, List, length, get_or, Option, Some}
use Rattle.std.proofs.Common.{None, inl, inr, refl, sym, ◌∙◌, ap, arith, true≢false, option_and_then, leb}
use Rattle.std.specs.Prelude.{slice_get, is_some, position}
use Rattle.std.specs.Option.{option_map_or}
use Rattle.std.proofs.lemmas.Bool.{cases_lt, leb-true, le-leb}
use Rattle.flux_defs.specs.declared.vertices.Vertex.{Vertex}
use Rattle.graph_build.specs.Faults.{HasUnknownParent, IsRoot, IsSecondRoot}
use Rattle.graph_build.specs.Checks.{graph_in, has_parent_from}
use Rattle.resource_graph.specs.Finds.{IsFirstOf}
use Rattle.resource_graph.specs.Preorder.{plain}
use Rattle.resource_graph.proofs.ChainLaws.{parent_read, parent_at, no_vertex}
use Rattle.resource_graph.proofs.Finds.{Passes, finds_position, finds_same}
use Rattle.list_laws.proofs.Values.{from_value, value_of}

module _ (kinds : List (List ℕ)) (vertices : List Vertex) where
  pub parent_to : (v : ℕ) → Passes (has_parent_from (length vertices)) vertices v →
      HasUnknownParent (graph_in kinds vertices) v
  parent_to v h =
      let x = value_of (slice_get vertices v) (λ x. has_parent_from (length vertices) x ≡ true) h in
      go x.0 x.1 x.0.parent refl x.2
    where
      go : (x : Vertex) → slice_get vertices v ≡ Some x → (o : Option ℕ) → x.parent ≡ o →
          option_map_or (leb (length vertices)) o false ≡ true → HasUnknownParent (graph_in kinds vertices) v
      go x at None e t = absurd (true≢false (sym t))
      go x at (Some p) e t = (p, parent_read vertices v x at ∙ e, leb-true _ _ t)

  pub parent_from : (v : ℕ) → HasUnknownParent (graph_in kinds vertices) v →
      Passes (has_parent_from (length vertices)) vertices v
  parent_from v h = go (slice_get vertices v) refl
    where
      go : (o : Option Vertex) → slice_get vertices v ≡ o → Passes (has_parent_from (length vertices)) vertices v
      go None e = absurd (let clash : None ≡ Some h.0 = sym (ap (option_and_then (λ x. x.parent)) e) ∙ h.1 in cc)
      go (Some x) e =
          let parent : x.parent ≡ Some h.0 = sym (parent_read vertices v x e) ∙ h.1 in
          from_value (slice_get vertices v) (λ x. has_parent_from (length vertices) x ≡ true) x e
          (ap (λ o. option_map_or (leb (length vertices)) o false) parent ∙ le-leb (length vertices) h.0 h.2)

pub finds_unknown_parent : (kinds : List (List ℕ)) (vertices : List Vertex) (found : Option ℕ) →
    found ≡ position (has_parent_from (length vertices)) vertices →
    IsFirstOf (HasUnknownParent (graph_in kinds vertices)) found
finds_unknown_parent kinds vertices found e = finds_same _ _ found (parent_to kinds vertices)
    (parent_from kinds vertices) (finds_position (has_parent_from (length vertices)) vertices found e)

-- a second root comes after the first
pub after_first : (vertices : List Vertex) (first : ℕ) → IsRoot (plain vertices) first →
    ((u : ℕ) → u < first → IsRoot (plain vertices) u → ⊥) → (v : ℕ) → IsSecondRoot (plain vertices) v → first < v
after_first vertices first root least v second = elim (cases_lt first v) [
  | inl less ↦ less
  | inr not_less ↦ absurd (least second.1.0 (let lt : second.1.0 < v = second.1.1 in omega arith) second.1.2)
]

-- the test of its parent tells whether a vertex is a root
pub root_test : (vertices : List Vertex) (v : ℕ) → v < length vertices → (b : Bool) →
    is_some (get_or vertices v no_vertex).parent ≡ not b → IsTrue b ↔ IsRoot (plain vertices) v
root_test vertices v lt true t = (
  λ h. (lt, sym (parent_at vertices v no_vertex lt) ∙ none_of (get_or vertices v no_vertex).parent t),
  λ root. refl,
)
  where
    none_of : (o : Option ℕ) → is_some o ≡ false → o ≡ None
    none_of None t = refl
    none_of (Some p) t = absurd (true≢false t)
root_test vertices v lt false t = (
  λ h. absurd (true≢false (sym h)),
  λ root. absurd (true≢false (sym t ∙ ap is_some (parent_at vertices v no_vertex lt ∙ root.1))),
)
