-- The number after the last vertex at or below each, from the last vertex back.
use Rattle.std.proofs.Common.{◌≡◌, ◌≢◌, ℕ, zero, suc, ◌+◌, ◌<◌, ◌≤◌, List, length, get_or, set, max, Option, Some, None}
use Rattle.std.proofs.Common.{inl, inr, refl, sym, ◌∙◌, ap, subst, arith, IsTrue}
use Rattle.std.proofs.lemmas.Bool.{cases_lt, cases_eq}
use Rattle.std.proofs.lemmas.List.{get_or-set_same, get_or-set_other, length-set}
use Rattle.flux_defs.specs.declared.vertices.Vertex.{Vertex}
use Rattle.flux_defs.specs.Graph.{parent_of, is_at_or_below}
use Rattle.graph_laws.proofs.Containment.{ParentsFirst, below_self, below_parent, below_trans, up, up-None, steps_of}
use Rattle.graph_laws.proofs.Preorder.{parents_first, has_parent, between_below}
use Rattle.resource_graph.specs.Preorder.{plain, InPreorder}
use Rattle.resource_graph.specs.Holds.{HasPasts, CountsUp}

-- each number is after a vertex at or below, and no child from `left` on goes past its parent
pub record HasPastsFrom (vertices : List Vertex) (left : ℕ) (past : List ℕ) : Type 0 where
  pub as_many : length past ≡ length vertices
  pub own : (u : ℕ) → u < length vertices → u < get_or past u 0
  pub within : (u : ℕ) → u < length vertices → get_or past u 0 ≤ length vertices
  pub sound : (u w : ℕ) → u < length vertices → u ≤ w → w < get_or past u 0 → IsTrue (is_at_or_below vertices w u)
  pub grown : (w p : ℕ) →
      left ≤ w → w < length vertices → parent_of vertices w ≡ Some p → get_or past w 0 ≤ get_or past p 0

module _ (vertices : List Vertex) (o : InPreorder vertices) where
  first : ParentsFirst vertices
  first = parents_first (plain vertices) o

  pub pasts_none : (past : List ℕ) → CountsUp past (length vertices) → HasPastsFrom vertices (length vertices) past
  pasts_none past counts = record {
    as_many = counts.as_many;
    own = λ u lt. let e : get_or past u 0 ≡ u + 1 = counts.each u lt in omega arith;
    within = λ u lt. let e : get_or past u 0 ≡ u + 1 = counts.each u lt in omega arith;
    sound = λ u w lt le before.
        let e : get_or past u 0 ≡ u + 1 = counts.each u lt in
        let is : u ≡ w = omega arith in
        subst (λ (x : ℕ). IsTrue (is_at_or_below vertices x u)) is (below_self vertices first u lt);
    grown = λ w p ge lt e. absurd (omega arith);
  }

  pub pasts_root : (v : ℕ) (past : List ℕ) → v < length vertices →
      parent_of vertices v ≡ None → HasPastsFrom vertices (v + 1) past → HasPastsFrom vertices v past
  pasts_root v past lt root from = record {
    as_many = from.as_many;
    own = from.own;
    within = from.within;
    sound = from.sound;
    grown = λ w p ge within e.
        elim (cases_eq w v) [
          | inl same ↦ absurd (let clash : None ≡ Some p = sym root ∙ (ap (parent_of vertices) (sym same) ∙ e) in cc)
          | inr differ ↦ from.grown w p (omega arith) within e
        ];
  }

  pub pasts_more : (v p : ℕ) (past : List ℕ) →
      v < length vertices → parent_of vertices v ≡ Some p → HasPastsFrom vertices (v + 1) past →
      HasPastsFrom vertices v (set past p (max (get_or past p 0) (get_or past v 0)))
  pasts_more v p past lt parent from =
      let before : p < v = first v p parent in
      let most = max (get_or past p 0) (get_or past v 0) in
      let p_in : p < length past = omega (arith, from.as_many) in
      let here : get_or (set past p most) p 0 ≡ most = get_or-set_same past p most 0 p_in in
      let there : (u : ℕ) → u ≢ p → get_or (set past p most) u 0 ≡ get_or past u 0 =
      λ u ne. get_or-set_other past p u most 0 ne in
      let p_own : p < get_or past p 0 = from.own p (omega arith) in
      let p_within : get_or past p 0 ≤ length vertices = from.within p (omega arith) in
      let v_within : get_or past v 0 ≤ length vertices = from.within v lt in
      let at_p : (w : ℕ) → p ≤ w → w < most → IsTrue (is_at_or_below vertices w p) = λ w le below.
      elim (cases_lt w (get_or past p 0)) [
        | inl old ↦ from.sound p w (omega arith) le old
        | inr new ↦ (
            elim (cases_lt w v) [
              | inl between ↦
                  between_below (plain vertices) o p w v le (omega arith) lt (below_parent vertices first v p lt parent)
              | inr after ↦ (
                  let w_below : w < get_or past v 0 = omega arith in
                  below_trans vertices first w v p
                  (omega arith) (from.sound v w lt after w_below) (below_parent vertices first v p lt parent))
            ])
      ] in
      let grow : (u : ℕ) → get_or past u 0 ≤ get_or (set past p most) u 0 = λ u.
      elim (cases_eq u p) [
        | inl same ↦ (let e : get_or (set past p most) u 0 ≡ most = ap (λ i. get_or (set past p most) i 0) same
            ∙ here in let f : get_or past u 0 ≡ get_or past p 0 = ap (λ i. get_or past i 0) same in omega arith)
        | inr differ ↦ (let e = there u differ in omega arith)
      ] in
      record {
        as_many = length-set past p most ∙ from.as_many;
        own = λ u u_in. let old : u < get_or past u 0 = from.own u u_in in let le = grow u in omega arith;
        within = λ u u_in.
            elim (cases_eq u p) [
              | inl same ↦ (let e : get_or (set past p most) u 0 ≡ most = ap (λ i. get_or (set past p most) i 0) same
                  ∙ here in omega arith)
              | inr differ ↦ (let e = there u differ in
                  let old : get_or past u 0 ≤ length vertices = from.within u u_in in omega arith)
            ];
        sound = λ u w u_in le below.
            elim (cases_eq u p) [
              | inl same ↦ (
                  let e : get_or (set past p most) u 0 ≡ most = ap (λ i. get_or (set past p most) i 0) same ∙ here in
                  subst (λ (x : ℕ). IsTrue (is_at_or_below vertices w x))
                  (sym same) (at_p w (omega arith) (omega arith)))
              | inr differ ↦ (let e = there u differ in from.sound u w u_in le (omega arith))
            ];
        grown = λ w q ge w_in e.
            elim (cases_eq w v) [
              | inl same ↦ (
                  let is : q ≡ p =
                  (let both : Some q ≡ Some p = sym e ∙ (ap (parent_of vertices) same ∙ parent) in cc) in
                  let at_w : get_or (set past p most) w 0 ≡ get_or past w 0 = there w (omega arith) in
                  let at_v : get_or past w 0 ≡ get_or past v 0 = ap (λ i. get_or past i 0) same in
                  let at_q : get_or (set past p most) q 0 ≡ most = ap (λ i. get_or (set past p most) i 0) is ∙ here in
                  omega arith)
              | inr differ ↦ (
                  let at_w : get_or (set past p most) w 0 ≡ get_or past w 0 = there w (omega arith) in
                  let old : get_or past w 0 ≤ get_or past q 0 = from.grown w q (omega arith) w_in e in
                  let le = grow q in omega arith)
            ];
      }

  -- no vertex below goes past
  grown_up : (past : List ℕ) →
      HasPastsFrom vertices 0 past → (n w u : ℕ) → up vertices n (Some w) ≡ Some u → get_or past w 0 ≤ get_or past u 0
  grown_up past from zero w u e = let same : w ≡ u = cc in
      let f : get_or past w 0 ≡ get_or past u 0 = ap (λ i. get_or past i 0) same in omega arith
  grown_up past from (suc n) w u e = at_parent (parent_of vertices w) refl e (λ p g. grown_up past from n p u g)
    where
      at_parent : (q : Option ℕ) → parent_of vertices w ≡ q → up vertices n q ≡ Some u → ((p : ℕ) →
          up vertices n (Some p) ≡ Some u → get_or past p 0 ≤ get_or past u 0) → get_or past w 0 ≤ get_or past u 0
      at_parent None f g rest = absurd (let none : None ≡ Some u = sym (up-None vertices n) ∙ g in cc)
      at_parent (Some p) f g rest =
          let a : get_or past w 0 ≤ get_or past p 0 = from.grown w p (omega arith) (has_parent vertices w p f) f in
          let b : get_or past p 0 ≤ get_or past u 0 = rest p g in omega arith

  pub pasts_all : (left : ℕ) (past : List ℕ) → left ≡ 0 → HasPastsFrom vertices left past → HasPasts vertices past
  pasts_all left past none from' =
      let from : HasPastsFrom vertices 0 past = subst (λ (l : ℕ). HasPastsFrom vertices l past) none from' in
      record {
        as_many = from.as_many;
        each = λ v lt. record {
          later = from.own v lt;
          within = from.within v lt;
          covered = λ w le below. from.sound v w lt le below;
          whole = λ w w_in h.
              let steps = steps_of vertices first w v h in
              let le : get_or past w 0 ≤ get_or past v 0 = grown_up past from steps.0 w v steps.1 in
              let own : w < get_or past w 0 = from.own w w_in in omega arith;
        };
      }
