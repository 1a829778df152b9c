-- Containment: what is at or below what, by steps up the chain of parents.
use Rattle.std.proofs.Common.{◌≡◌, ◌≢◌, ℕ, zero, suc, ◌+◌, ◌-◌, ◌<◌, ◌≤◌, ◌==◌, nat_eq, Bool, true, false, not, List}
use Rattle.std.proofs.Common.{length, Option, Some, None, ◌⊎◌, inl, inr, refl, sym, ◌∙◌, ap, arith, IsTrue, true≢false}
use Rattle.std.proofs.lemmas.Bool.{cases_lt, and_parts, and_from, or_cases, or_left, or_right, eqb-true, eq-eqb}
use Rattle.flux_defs.specs.declared.vertices.Vertex.{Vertex}
use Rattle.flux_defs.specs.Graph.{Scope, Everywhere, Beneath, IsIn, parent_of, chain, has_on_chain, is_at_or_below}
use Rattle.flux_defs.specs.Graph.{is_below}

pub not_from : (b : Bool) → (IsTrue b → ⊥) → IsTrue (not b)
not_from true h = absurd (h refl)
not_from false h = refl

pub not_to : (b : Bool) → IsTrue (not b) → IsTrue b → ⊥
not_to true h e = true≢false (sym h)
not_to false h e = true≢false (sym e)

-- parents stand before their children, up to a vertex
abbrev pub ParentsFirstTo : List Vertex → ℕ → Type 0
ParentsFirstTo vertices most = (v p : ℕ) → v ≤ most → parent_of vertices v ≡ Some p → p < v

-- parents stand before their children
abbrev pub ParentsFirst : List Vertex → Type 0
ParentsFirst vertices = (v p : ℕ) → parent_of vertices v ≡ Some p → p < v

pub at_or_below-opens : (vertices : List Vertex) (v u : ℕ) →
    is_at_or_below vertices v u ≡ has_on_chain vertices (length vertices) (Some v) u
unfolding is_at_or_below
at_or_below-opens vertices v u = refl

-- what is in a scope is in the graph
pub in_graph : (vertices : List Vertex) (scope : Scope) (v : ℕ) → IsIn vertices scope v → v < length vertices
in_graph vertices Everywhere v h = h
in_graph vertices (Beneath u) v h = h.0

-- nothing is on the chain of no vertex
pub chain_none : (vertices : List Vertex) (most : ℕ) → length (chain vertices most None) ≤ 0
chain_none vertices zero = omega arith
chain_none vertices (suc most) = omega arith

module _ (vertices : List Vertex) where
  -- the vertex so many steps up
  abbrev pub up : ℕ → Option ℕ → Option ℕ
  up zero o = o
  up (suc n) None = None
  up (suc n) (Some v) = up n (parent_of vertices v)

  pub up-None : (n : ℕ) → up n None ≡ None
  up-None zero = refl
  up-None (suc n) = refl

  pub up-up : (n m : ℕ) (o : Option ℕ) → up m (up n o) ≡ up (n + m) o
  up-up zero m o = let e : m ≡ 0 + m = omega arith in ap (λ k. up k o) e
  up-up (suc n) m None = up-None m ∙ sym (up-None (suc n + m))
  up-up (suc n) m (Some v) =
      let e : suc (n + m) ≡ suc n + m = omega arith in
      up-up n m (parent_of vertices v) ∙ ap (λ k. up k (Some v)) e

  -- what stands on a chain is so many steps up, and less than so many are on it
  pub steps_to : (most u : ℕ) (o : Option ℕ) → IsTrue (has_on_chain vertices most o u) → (n : ℕ) × (up n o ≡ Some u)
  steps_to zero u o h = absurd (true≢false (sym h))
  steps_to (suc most) u None h = absurd (true≢false (sym h))
  steps_to (suc most) u (Some v) h =
      elim (or_cases (nat_eq u v) (has_on_chain vertices most (parent_of vertices v) u) h) [
        | inl here ↦ (0, ap Some (sym (eqb-true u v here)))
        | inr above ↦ (let r = steps_to most u (parent_of vertices v) above in (suc r.0, r.1))
      ]

  pub on_chain : (n most u : ℕ) (o : Option ℕ) → n < most → up n o ≡ Some u → IsTrue (has_on_chain vertices most o u)
  on_chain n zero u o lt e = absurd (omega arith)
  on_chain zero (suc most) u None lt e = absurd (cc)
  on_chain zero (suc most) u (Some v) lt e =
      let same : u ≡ v = cc in
      or_left (nat_eq u v) (has_on_chain vertices most (parent_of vertices v) u) (eq-eqb u v same)
  on_chain (suc n) (suc most) u None lt e = absurd (cc)
  on_chain (suc n) (suc most) u (Some v) lt e =
      or_right (nat_eq u v) (has_on_chain vertices most (parent_of vertices v) u)
      (on_chain n most u (parent_of vertices v) (omega arith) e)

  -- each step up comes to a lesser number
  pub falls_up_to : (most : ℕ) →
      ParentsFirstTo vertices most → (n v u : ℕ) → v ≤ most → up n (Some v) ≡ Some u → u + n ≤ v
  falls_up_to most first zero v u le e = let same : v ≡ u = cc in omega arith
  falls_up_to most first (suc n) v u le e =
      at_parent (parent_of vertices v) refl e (λ p small f. falls_up_to most first n p u small f)
    where
      at_parent : (o : Option ℕ) → parent_of vertices v ≡ o →
          up n o ≡ Some u → ((p : ℕ) → p ≤ most → up n (Some p) ≡ Some u → u + n ≤ p) → u + suc n ≤ v
      at_parent None p f rest = let none : None ≡ Some u = sym (up-None n) ∙ f in absurd (cc)
      at_parent (Some p) q f rest = let lt : p < v = first v p le q in
          let under : u + n ≤ p = rest p (omega arith) f in omega arith

module _ (vertices : List Vertex) (first : ParentsFirst vertices) where
  pub falls_up : (n v u : ℕ) → up vertices n (Some v) ≡ Some u → u + n ≤ v
  falls_up n v u e = falls_up_to vertices v (λ w p le. first w p) n v u (omega arith) e

  pub steps_of : (v u : ℕ) → IsTrue (is_at_or_below vertices v u) → (n : ℕ) × (up vertices n (Some v) ≡ Some u)
  steps_of v u h = steps_to vertices (length vertices) u (Some v) (sym (at_or_below-opens vertices v u) ∙ h)

  pub at_or_below : (v u n : ℕ) →
      v < length vertices → up vertices n (Some v) ≡ Some u → IsTrue (is_at_or_below vertices v u)
  at_or_below v u n lt e = at_or_below-opens vertices v u
      ∙ on_chain vertices n (length vertices) u (Some v) (let le : u + n ≤ v = falls_up n v u e in omega arith) e

  pub below_self : (v : ℕ) → v < length vertices → IsTrue (is_at_or_below vertices v v)
  below_self v lt = at_or_below v v 0 lt refl

  pub below_parent : (v p : ℕ) →
      v < length vertices → parent_of vertices v ≡ Some p → IsTrue (is_at_or_below vertices v p)
  below_parent v p lt e = at_or_below v p 1 lt e

  pub below_trans : (w v u : ℕ) → w < length vertices →
      IsTrue (is_at_or_below vertices w v) → IsTrue (is_at_or_below vertices v u) → IsTrue (is_at_or_below vertices w u)
  below_trans w v u lt a b =
      let s = steps_of w v a in
      let t = steps_of v u b in
      at_or_below w u (s.0 + t.0) lt (sym (up-up vertices s.0 t.0 (Some w)) ∙ (ap (up vertices t.0) s.1 ∙ t.1))

  -- what is above has a lesser number
  pub below_le : (w v : ℕ) → IsTrue (is_at_or_below vertices w v) → v ≤ w
  below_le w v a = let s = steps_of w v a in let le : v + s.0 ≤ w = falls_up s.0 w v s.1 in omega arith

  between : (w a b n m : ℕ) →
      n ≤ m → up vertices n (Some w) ≡ Some a → up vertices m (Some w) ≡ Some b → up vertices (m - n) (Some a) ≡ Some b
  between w a b n m le ea eb =
      let e : n + (m - n) ≡ m = omega arith in
      ap (up vertices (m - n)) (sym ea)
      ∙ (up-up vertices n (m - n) (Some w) ∙ (ap (λ k. up vertices k (Some w)) e ∙ eb))

  -- of two vertices above a third, one is at or below the other
  pub above_is_chain : (w a b : ℕ) →
      w < length vertices → IsTrue (is_at_or_below vertices w a) → IsTrue (is_at_or_below vertices w b) →
      IsTrue (is_at_or_below vertices a b) ⊎ IsTrue (is_at_or_below vertices b a)
  above_is_chain w a b lt ha hb =
      let s = steps_of w a ha in
      let t = steps_of w b hb in
      let la : a ≤ w = below_le w a ha in
      let lb : b ≤ w = below_le w b hb in
      elim (cases_lt t.0 s.0) [
        | inl more ↦ inr (at_or_below b a (s.0 - t.0) (omega arith) (between w b a t.0 s.0 (omega arith) t.1 s.1))
        | inr fewer ↦ inl (at_or_below a b (t.0 - s.0) (omega arith) (between w a b s.0 t.0 fewer s.1 t.1))
      ]

  -- a vertex other than u that is at or below u is below it, and so back
  pub below_from : (v u : ℕ) → v ≢ u → IsTrue (is_at_or_below vertices v u) → IsTrue (is_below vertices v u)
  below_from v u ne h =
      and_from (is_at_or_below vertices v u) (not (v == u)) h (not_from (v == u) (λ e. ne (eqb-true v u e)))

  pub below_to : (v u : ℕ) → IsTrue (is_below vertices v u) → IsTrue (is_at_or_below vertices v u) × (v ≢ u)
  below_to v u h =
      let b = and_parts (is_at_or_below vertices v u) (not (v == u)) h in
      (b.0, λ e. not_to (v == u) b.1 (eq-eqb v u e))

  -- a vertex below u has a parent at or below u
  pub parent_below : (v u : ℕ) → v < length vertices →
      IsTrue (is_below vertices v u) → (p : ℕ) × (parent_of vertices v ≡ Some p) × IsTrue (is_at_or_below vertices p u)
  parent_below v u lt h = from_steps (below_to v u h)
    where
      from_parent : (n : ℕ) (o : Option ℕ) → parent_of vertices v ≡ o →
          up vertices n o ≡ Some u → (p : ℕ) × (parent_of vertices v ≡ Some p) × IsTrue (is_at_or_below vertices p u)
      from_parent n None e f = absurd (let none : None ≡ Some u = sym (up-None vertices n) ∙ f in cc)
      from_parent n (Some p) e f = (p, e, at_or_below p u n (let lt' : p < v = first v p e in omega arith) f)

      by_steps : (n : ℕ) → up vertices n (Some v) ≡ Some u →
          v ≢ u → (p : ℕ) × (parent_of vertices v ≡ Some p) × IsTrue (is_at_or_below vertices p u)
      by_steps zero e ne = absurd (ne (let same : v ≡ u = cc in same))
      by_steps (suc n) e ne = from_parent n (parent_of vertices v) refl e

      from_steps : IsTrue (is_at_or_below vertices v u) × (v ≢ u) →
          (p : ℕ) × (parent_of vertices v ≡ Some p) × IsTrue (is_at_or_below vertices p u)
      from_steps b = let s = steps_of v u b.0 in by_steps s.0 s.1 b.1
