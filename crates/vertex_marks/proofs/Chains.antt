-- What is at or above a vertex: itself, and what is at or above its parent.
use Rattle.std.proofs.Common.{◌≡◌, ℕ, zero, suc, ◌<◌, Bool, true, false}
use Rattle.std.proofs.Common.{◌||◌, nat_eq, List, [], ◌∷◌, length, Some, None}
use Rattle.std.proofs.Common.{refl, sym, ◌∙◌, ap, subst, inl, inr, IsTrue}
use Rattle.std.proofs.Common.{◌≤◌, arith}
use Rattle.std.specs.List.{list_any}
use Rattle.std.proofs.lemmas.Bool.{cases_eq, eq-eqb, eqb-true, or_left, or_right, or_cases}
use Rattle.list_laws.proofs.Tests.{same_tests}
use Rattle.flux_defs.specs.declared.vertices.Vertex.{Vertex}
use Rattle.flux_defs.specs.Graph.{parent_of, chain, is_at_or_below}
use Rattle.graph_laws.proofs.Containment.{ParentsFirst, below_self, below_parent, below_trans, below_from, parent_below}
use Rattle.resource_graph.specs.Chains.{chain_of}
use Rattle.resource_graph.proofs.PathLaws.{chain_below}
use Rattle.vertex_marks.specs.Down.{is_among, is_shut}

module _ (vertices : List Vertex) (first : ParentsFirst vertices) where
  pub above_root : (v u : ℕ) → v < length vertices → parent_of vertices v ≡ None →
      is_at_or_below vertices v u ≡ nat_eq u v
  above_root v u lt root = same_tests (is_at_or_below vertices v u) (nat_eq u v)
      (λ h. elim (cases_eq v u) [
        | inl same ↦ eq-eqb u v (sym same)
        | inr differ ↦ (
            let up = parent_below vertices first v u lt (below_from vertices first v u differ h) in
            let e : None ≡ Some up.0 = sym root ∙ up.1 in absurd (cc))
      ])
      (λ h. subst (λ (w : ℕ). IsTrue (is_at_or_below vertices v w)) (sym (eqb-true u v h))
      (below_self vertices first v lt))

  pub above_below : (v p u : ℕ) → v < length vertices → parent_of vertices v ≡ Some p →
      is_at_or_below vertices v u ≡ (nat_eq u v || is_at_or_below vertices p u)
  above_below v p u lt parent =
      same_tests (is_at_or_below vertices v u) (nat_eq u v || is_at_or_below vertices p u)
      (λ h. elim (cases_eq v u) [
        | inl same ↦ or_left (nat_eq u v) (is_at_or_below vertices p u) (eq-eqb u v (sym same))
        | inr differ ↦ (
            let up = parent_below vertices first v u lt (below_from vertices first v u differ h) in
            let is : up.0 ≡ p = (let e : Some up.0 ≡ Some p = sym up.1 ∙ parent in cc) in
            or_right (nat_eq u v) (is_at_or_below vertices p u)
            (subst (λ (w : ℕ). IsTrue (is_at_or_below vertices w u)) is up.2))
      ])
      (λ h. elim (or_cases (nat_eq u v) (is_at_or_below vertices p u) h) [
        | inl here ↦ subst (λ (w : ℕ). IsTrue (is_at_or_below vertices v w)) (sym (eqb-true u v here))
            (below_self vertices first v lt)
        | inr up ↦ below_trans vertices first v p u lt (below_parent vertices first v p lt parent) up
      ])

  pub chain_some : (v : ℕ) → v < length vertices → 1 ≤ length (chain_of vertices v)
  chain_some v = long (length vertices)
    where
      long : (n : ℕ) → v < n → 1 ≤ length (chain vertices n (Some v))
      long zero lt = absurd (omega arith)
      long (suc m) lt = omega arith

  pub chain_long : (v p : ℕ) → v < length vertices → parent_of vertices v ≡ Some p →
      length (chain_of vertices v) ≡ suc (length (chain_of vertices p))
  chain_long v p lt parent = ap length (chain_below vertices first (length vertices) v p refl lt parent)

-- the order of what is compared doesn't count
pub eq_turned : (a b : ℕ) → nat_eq a b ≡ nat_eq b a
eq_turned a b = same_tests (nat_eq a b) (nat_eq b a) (λ h. eq-eqb b a (sym (eqb-true a b h)))
    (λ h. eq-eqb a b (sym (eqb-true b a h)))

four : (a b c d : Bool) → ((a || b) || (c || d)) ≡ ((a || c) || (b || d))
four true b c d = refl
four false true true d = refl
four false true false d = refl
four false false true d = refl
four false false false d = refl

-- a test of either kind
pub any_split : (p a b : ℕ → Bool) → ((u : ℕ) → p u ≡ (a u || b u)) → (us : List ℕ) →
    list_any p us ≡ (list_any a us || list_any b us)
any_split p a b is [] = refl
any_split p a b is (u ∷ us) =
    ap (λ t. t || list_any p us) (is u) ∙ (ap (λ t. (a u || b u) || t) (any_split p a b is us)
    ∙ four (a u) (b u) (list_any a us) (list_any b us))

pub any_same : (p q : ℕ → Bool) → ((u : ℕ) → p u ≡ q u) → (us : List ℕ) → list_any p us ≡ list_any q us
any_same p q is [] = refl
any_same p q is (u ∷ us) = ap (λ t. t || list_any p us) (is u) ∙ ap (λ t. q u || t) (any_same p q is us)

module _ (vertices : List Vertex) (first : ParentsFirst vertices) (down : List ℕ) where
  pub shut_root : (v : ℕ) → v < length vertices → parent_of vertices v ≡ None →
      is_shut vertices down v ≡ is_among down v
  shut_root v lt root = any_same (is_at_or_below vertices v) (nat_eq v)
      (λ u. above_root vertices first v u lt root ∙ eq_turned u v) down

  pub shut_below : (v p : ℕ) → v < length vertices → parent_of vertices v ≡ Some p →
      is_shut vertices down v ≡ (is_among down v || is_shut vertices down p)
  shut_below v p lt parent = any_split (is_at_or_below vertices v) (nat_eq v) (is_at_or_below vertices p)
      (λ u. above_below vertices first v p u lt parent ∙ ap (λ t. t || is_at_or_below vertices p u) (eq_turned u v))
      down

  -- what is down itself is shut
  pub shut_here : (v : ℕ) → v < length vertices → true ≡ is_among down v → true ≡ is_shut vertices down v
  shut_here v lt among = sym (any_more down (sym among))
    where
      any_more : (us : List ℕ) → list_any (nat_eq v) us ≡ true → list_any (is_at_or_below vertices v) us ≡ true
      any_more [] h = h
      any_more (u ∷ us) h = elim (or_cases (nat_eq v u) (list_any (nat_eq v) us) h) [
        | inl here ↦ or_left (is_at_or_below vertices v u) (list_any (is_at_or_below vertices v) us)
            (subst (λ (w : ℕ). IsTrue (is_at_or_below vertices v w)) (eqb-true v u here)
            (below_self vertices first v lt))
        | inr later ↦ or_right (is_at_or_below vertices v u) (list_any (is_at_or_below vertices v) us)
            (any_more us later)
      ]
