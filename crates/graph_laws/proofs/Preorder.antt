-- What preorder says of containment: parents stand first, and what is at or below a vertex follows it without a gap.
use Rattle.std.proofs.Common.{◌≡◌, ◌≢◌, ℕ, zero, suc, ◌+◌, ◌<◌, ◌≤◌, List, length, Some, None, inl, inr, sym, ◌∙◌, ap}
use Rattle.std.proofs.Common.{subst, arith, IsTrue, option_and_then}
use Rattle.std.proofs.lemmas.Bool.{cases_lt}
use Rattle.std.proofs.lemmas.Option.{slice_get_past}
use Rattle.flux_defs.specs.declared.vertices.Vertex.{Vertex}
use Rattle.flux_defs.specs.Graph.{ResourceGraph, parent_of, is_at_or_below}
use Rattle.flux_defs.specs.ValidGraph.{StandsInPreorder}
use Rattle.graph_laws.proofs.Containment.{ParentsFirst, ParentsFirstTo, falls_up_to, steps_to, at_or_below-opens}
use Rattle.graph_laws.proofs.Containment.{below_from, below_trans, parent_below}

pub has_parent : (vertices : List Vertex) (v p : ℕ) → parent_of vertices v ≡ Some p → v < length vertices
has_parent vertices v p e =
    elim (cases_lt v (length vertices)) [
      | inl within ↦ within
      | inr past ↦ absurd (let none : parent_of vertices v ≡ None = ap (option_and_then (λ x. x.parent))
          (slice_get_past vertices v past) in let clash : None ≡ Some p = sym none ∙ e in cc)
    ]

module _ (g : ResourceGraph) (o : StandsInPreorder g) where
  -- the parent of the next vertex is the one before it, or one above that
  parent_within : (v p : ℕ) → ParentsFirstTo g.vertices v → parent_of g.vertices (suc v) ≡ Some p → p ≤ v
  parent_within v p first e =
      let next = o.next v (has_parent g.vertices (suc v) p e) in
      let same : next.0 ≡ p = (let both : Some next.0 ≡ Some p = sym next.1 ∙ e in cc) in
      let steps = steps_to g.vertices
      (length g.vertices) next.0 (Some v) (sym (at_or_below-opens g.vertices v next.0) ∙ next.2) in
      let le : next.0 + steps.0 ≤ v = falls_up_to g.vertices v first steps.0 v next.0 (omega arith) steps.1 in
      omega arith

  first_to : (most : ℕ) → ParentsFirstTo g.vertices most
  first_to zero v p le e =
      let root : v ≡ 0 = omega arith in
      absurd (let clash : None ≡ Some p = sym o.root ∙ (ap (parent_of g.vertices) (sym root) ∙ e) in cc)
  first_to (suc most) v p le e =
      let before = first_to most in
      elim (cases_lt v (suc most)) [
        | inl lesser ↦ before v p (omega arith) e
        | inr last ↦ (
            let is : v ≡ suc most = omega arith in
            let within : p ≤ most = parent_within most p before (ap (parent_of g.vertices) (sym is) ∙ e) in omega arith)
      ]

  -- parents stand before their children
  pub parents_first : ParentsFirst g.vertices
  parents_first v p e = first_to v v p (omega arith) e

  -- where the next vertex is at or below one that stands before it, so is this vertex: what is below follows without a
  -- gap
  pub stays_below : (u v : ℕ) → suc v < length g.vertices →
      u ≤ v → IsTrue (is_at_or_below g.vertices (suc v) u) → IsTrue (is_at_or_below g.vertices v u)
  stays_below u v lt le h =
      let differ : suc v ≢ u = λ e. omega arith in
      let above =
      parent_below g.vertices parents_first (suc v) u lt (below_from g.vertices parents_first (suc v) u differ h) in
      let next = o.next v lt in
      let same : next.0 ≡ above.0 = (let both : Some next.0 ≡ Some above.0 = sym next.1 ∙ above.1 in cc) in
      let to_parent : IsTrue (is_at_or_below g.vertices v above.0) =
      subst (λ (p : ℕ). IsTrue (is_at_or_below g.vertices v p)) same next.2 in
      below_trans g.vertices parents_first v above.0 u (omega arith) to_parent above.2

  -- so what lies between a vertex and one at or below it is at or below it too
  pub between_below : (u v w : ℕ) → u ≤ v →
      v ≤ w → w < length g.vertices → IsTrue (is_at_or_below g.vertices w u) → IsTrue (is_at_or_below g.vertices v u)
  between_below u v zero lo hi lt h = let e : 0 ≡ v = omega arith in
      subst (λ (x : ℕ). IsTrue (is_at_or_below g.vertices x u)) e h
  between_below u v (suc w) lo hi lt h =
      elim (cases_lt w v) [
        | inl last ↦ (let e : suc w ≡ v = omega arith in subst (λ (x : ℕ). IsTrue (is_at_or_below g.vertices x u)) e h)
        | inr more ↦ between_below u v w lo more (omega arith) (stays_below u w lt (omega arith) h)
      ]
