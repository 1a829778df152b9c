-- Containment of any two numbers: past the graph nothing is below another.
use Rattle.std.proofs.Common.{◌≡◌, ◌≢◌, ℕ, zero, suc, ◌≤◌, true, false, not, ◌&&◌, List, length, Some, None}
use Rattle.std.proofs.Common.{option_and_then, ◌⊎◌, inl, inr, refl, sym, ◌∙◌, ap, arith, IsTrue}
use Rattle.std.proofs.lemmas.Bool.{cases_lt, ne_eqb, false_from_ne_true}
use Rattle.std.proofs.lemmas.Option.{slice_get_past}
use Rattle.std.proofs.Math.Bool.{and-true}
use Rattle.flux_defs.specs.declared.vertices.Vertex.{Vertex}
use Rattle.flux_defs.specs.Graph.{ResourceGraph, parent_of, is_at_or_below, is_below}
use Rattle.flux_defs.specs.ValidGraph.{StandsInPreorder}
use Rattle.graph_laws.proofs.Containment.{on_chain, at_or_below-opens, below_le, steps_of, up-None, up}
use Rattle.graph_laws.proofs.Preorder.{parents_first}

-- a number is at or below itself, in a graph with a vertex
pub self_below : (g : ResourceGraph) → StandsInPreorder g → (v : ℕ) → is_at_or_below g.vertices v v ≡ true
self_below g o v = at_or_below-opens g.vertices v v ∙ on_chain g.vertices 0 (length g.vertices) v (Some v) o.some refl

-- a number past the graph has no parent, so it is below no other
past_steps : (vertices : List Vertex) (v u n : ℕ) → length vertices ≤ v → v ≢ u → up vertices n (Some v) ≡ Some u → ⊥
past_steps vertices v u zero past ne e = ne (let same : v ≡ u = cc in same)
past_steps vertices v u (suc n) past ne e =
    let none : parent_of vertices v ≡ None = ap (option_and_then (λ x. x.parent)) (slice_get_past vertices v past) in
    let clash : None ≡ Some u = sym (up-None vertices n) ∙ (ap (up vertices n) (sym none) ∙ e) in
    cc

pub past_below : (g : ResourceGraph) → StandsInPreorder g →
    (v u : ℕ) → v ≢ u → (length g.vertices ≤ v) ⊎ (length g.vertices ≤ u) → is_at_or_below g.vertices v u ≡ false
past_below g o v u ne past = false_from_ne_true (is_at_or_below g.vertices v u) (refuted past)
  where
    refuted : (length g.vertices ≤ v) ⊎ (length g.vertices ≤ u) → IsTrue (is_at_or_below g.vertices v u) → ⊥
    refuted (inl lower) h = let s = steps_of g.vertices (parents_first g o) v u h in
        past_steps g.vertices v u s.0 lower ne s.1
    refuted (inr upper) h =
        elim (cases_lt v (length g.vertices)) [
          | inl within ↦ (let le : u ≤ v = below_le g.vertices (parents_first g o) v u h in omega arith)
          | inr lower ↦
              (let s = steps_of g.vertices (parents_first g o) v u h in past_steps g.vertices v u s.0 lower ne s.1)
        ]

-- of two different vertices, being below is being at or below
pub differ_below : (vertices : List Vertex) (v u : ℕ) → v ≢ u → is_below vertices v u ≡ is_at_or_below vertices v u
differ_below vertices v u ne =
    ap (λ b. is_at_or_below vertices v u && not b) (ne_eqb v u ne) ∙ and-true (is_at_or_below vertices v u)
