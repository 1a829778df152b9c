-- What a claim gives.
use Rattle.std.proofs.Common.{◌≡◌, ℕ, ◌+◌, ◌-◌, ◌<◌, ◌≤◌, ◌==◌, true, false, List, [], ◌∷◌, length, inl, inr, refl, sym}
use Rattle.std.proofs.Common.{◌∙◌, ap, arith, true≢false}
use Rattle.std.proofs.lemmas.Bool.{false_from_ne_true, or_cases, or_left, or_right, eqb-true, eq-eqb}
use Rattle.flux_defs.specs.declared.vertices.Vertex.{Vertex}
use Rattle.flux_defs.specs.declared.claims.Claim.{Claim}
use Rattle.flux_defs.specs.declared.claims.Claim.TheVariants.{Take, Hold, Pass}
use Rattle.flux_defs.specs.Graph.{is_at_or_below}
use Rattle.flux_defs.specs.Jobs.{vertex_of, holds_over}
use Rattle.graph_laws.proofs.Containment.{ParentsFirst, below_le}
use Rattle.resource_graph.specs.Tables.{IsPast}
use Rattle.idset_text.specs.Idsets.{ids_from}
use Rattle.resource_set_r.specs.Rows.{is_given_by, given_by}
use Rattle.resource_set_r.proofs.Filtered.{filter_none, filter_range}

module _ (vertices : List Vertex) (first : ParentsFirst vertices) where
  -- what is given by a claim is not before its vertex
  given_later : (c : Claim) (w : ℕ) → is_given_by vertices c w ≡ true → vertex_of c ≤ w
  given_later c w h =
      elim (or_cases (vertex_of c == w) (holds_over vertices w c) h) [
        | inl same ↦ (let e : vertex_of c ≡ w = eqb-true (vertex_of c) w same in omega arith)
        | inr held ↦ by c held
      ]
    where
      by : (c : Claim) → holds_over vertices w c ≡ true → vertex_of c ≤ w
      by (Take v q) h = absurd (true≢false (sym h))
      by (Hold v) h = below_le vertices first w v h
      by (Pass v) h = absurd (true≢false (sym h))

  -- a claim past the graph gives nothing
  pub given_past : (c : Claim) → length vertices ≤ vertex_of c → given_by vertices c ≡ []
  given_past c past =
      filter_none (is_given_by vertices c) (length vertices) 0
      (λ w lo hi. false_from_ne_true _ (λ h. let le : vertex_of c ≤ w = given_later c w h in omega arith))

  -- exactly the vertices before a number are given
  given_range : (c : Claim) (after : ℕ) → vertex_of c ≤ after →
      after ≤ length vertices → ((w : ℕ) → vertex_of c ≤ w → w < after → is_given_by vertices c w ≡ true) →
      ((w : ℕ) → after ≤ w → w < length vertices → is_given_by vertices c w ≡ true → ⊥) →
      given_by vertices c ≡ ids_from (after - vertex_of c) (vertex_of c)
  given_range c after lo hi inside outside =
      filter_range (is_given_by vertices c)
      (length vertices) 0 (vertex_of c) after (omega arith) lo (omega arith) inside
      (λ w l h. false_from_ne_true _ (λ t. let le : vertex_of c ≤ w = given_later c w t in omega arith))
      (λ w l h. false_from_ne_true _ (outside w l (omega arith)))

  pub given_hold : (v after : ℕ) → IsPast vertices v after → given_by vertices (Hold v) ≡ ids_from (after - v) v
  given_hold v after past =
      given_range (Hold v) after (omega (arith, past.later)) past.within
      (λ w lo hi. or_right (v == w) (is_at_or_below vertices w v) (past.covered w lo hi))
      (λ w lo hi h. elim (or_cases (v == w) (is_at_or_below vertices w v) h) [
        | inl same ↦ (let e : v ≡ w = eqb-true v w same in omega (arith, past.later))
        | inr held ↦ (let lt : w < after = past.whole w hi held in omega arith)
      ])

  given_alone : (c : Claim) → vertex_of c < length vertices →
      ((w : ℕ) → holds_over vertices w c ≡ false) → given_by vertices c ≡ vertex_of c ∷ []
  given_alone c within none =
      let v = vertex_of c in
      let e : v + 1 - v ≡ 1 = omega arith in
      given_range c (v + 1) (omega arith)
      (omega arith) (λ w lo hi. or_left (v == w) (holds_over vertices w c) (eq-eqb v w (omega arith)))
      (λ w lo hi h. elim (or_cases (v == w) (holds_over vertices w c) h) [
        | inl same ↦ (let e : v ≡ w = eqb-true v w same in omega arith)
        | inr held ↦ true≢false (sym held ∙ none w)
      ]) ∙ ap (λ n. ids_from n v) e

  pub given_take : (v q : ℕ) → v < length vertices → given_by vertices (Take v q) ≡ v ∷ []
  given_take v q within = given_alone (Take v q) within (λ w. refl)

  pub given_pass : (v : ℕ) → v < length vertices → given_by vertices (Pass v) ≡ v ∷ []
  given_pass v within = given_alone (Pass v) within (λ w. refl)
