-- Preorder is the order of the chains from the root down, compared from their first numbers on.
use Rattle.std.proofs.Common.{◌≡◌, ℕ, zero, suc, ◌+◌, ◌-◌, ◌<◌, ◌≤◌, nat_eq, Bool, true, false, List, [], ◌∷◌, ◌++◌}
use Rattle.std.proofs.Common.{length, get_or, reverse, Option, Some, None, inl, inr, refl, sym, ◌∙◌, ap, subst, arith}
use Rattle.std.proofs.Common.{IsTrue, true≢false}
use Rattle.std.specs.Prelude.{slice_get}
use Rattle.std.specs.Ordering.{nat_cmp, is_lt, ordering_then}
use Rattle.std.specs.Cmp.Lexicographic.{slice_cmp}
use Rattle.std.specs.List.{list_any}
use Rattle.std.proofs.lemmas.Bool.{cases_lt, cases_order, or_right, or_left, eq-eqb}
use Rattle.std.proofs.lemmas.List.{reverse-append, reverse-reverse, append_assoc, length_push, get_or_push}
use Rattle.std.proofs.lemmas.List.Folds.{list_any-append}
use Rattle.graph_build.proofs.OrderLaws.{itself_number}
use Rattle.flux_defs.specs.declared.vertices.Vertex.{Vertex}
use Rattle.flux_defs.specs.Graph.{parent_of, chain, is_at_or_below}
use Rattle.graph_laws.proofs.Containment.{at_or_below-opens}
use Rattle.resource_graph.specs.Chains.{chain_of}
use Rattle.graph_build.specs.Orders.{IsRooted, IsOrderOf, IsPreorderOf}
use Rattle.resource_graph.proofs.ChainLaws.{chains_agree, chain_short, chain-None}
use Rattle.list_laws.proofs.Tests.{below_is_less}

-- xs stands before ys
abbrev pub stands_before : List ℕ → List ℕ → Bool
stands_before xs ys = is_lt (slice_cmp nat_cmp xs ys)

-- a list stands before what it begins
pub before_longer : (xs : List ℕ) (y : ℕ) (ys : List ℕ) → stands_before xs (xs ++ y ∷ ys) ≡ true
before_longer [] y ys = refl
before_longer (x ∷ xs) y ys = ap (λ o. is_lt (ordering_then o (slice_cmp nat_cmp xs (xs ++ y ∷ ys)))) (itself_number x)
    ∙ before_longer xs y ys

-- after one beginning the lesser number stands first
pub before_by_last : (p : List ℕ) (a b : ℕ) → a < b → stands_before (p ++ a ∷ []) (p ++ b ∷ []) ≡ true
before_by_last [] a b lt = ap (λ o. is_lt (ordering_then o (slice_cmp nat_cmp [] []))) (below_is_less a b lt)
before_by_last (x ∷ p) a b lt = ap (λ o. is_lt (ordering_then o (slice_cmp nat_cmp (p ++ a ∷ []) (p ++ b ∷ []))))
    (itself_number x) ∙ before_by_last p a b lt

-- what stands between a list and one that is longer by one number begins with it
pub begins_between : (p b : List ℕ) (w : ℕ) → stands_before b p ≡ false → stands_before (p ++ w ∷ []) b ≡ false →
    (ys : List ℕ) × (b ≡ p ++ ys)
begins_between [] b w low high = (b, refl)
begins_between (x ∷ p) [] w low high = absurd (true≢false low)
begins_between (x ∷ p) (y ∷ b) w low high =
    elim (cases_order x y) [
      | inl same ↦ (
          let at_low : stands_before b p ≡ false = sym
          (ap (λ o. is_lt (ordering_then o (slice_cmp nat_cmp b p)))
          (ap (λ z. nat_cmp z x) (sym same) ∙ itself_number x)) ∙ low in
          let at_high : stands_before (p ++ w ∷ []) b ≡ false =
          sym (ap (λ o. is_lt (ordering_then o (slice_cmp nat_cmp (p ++ w ∷ []) b)))
          (ap (λ z. nat_cmp x z) (sym same) ∙ itself_number x)) ∙ high in
          let rest = begins_between p b w at_low at_high in
          (rest.0, ap (λ z. z ∷ b) (sym same) ∙ ap (λ l. x ∷ l) rest.1))
      | inr differ ↦ elim differ [
        | inl less ↦ absurd (true≢false (sym (ap (λ o. is_lt (ordering_then o (slice_cmp nat_cmp (p ++ w ∷ []) b)))
            (below_is_less x y less)) ∙ high))
        | inr more ↦ absurd (true≢false (sym (ap (λ o. is_lt (ordering_then o (slice_cmp nat_cmp b p)))
            (below_is_less y x more)) ∙ low))
      ]
    ]

module _ (vertices : List Vertex) (rooted : IsRooted vertices) where
  -- the chain from the root down
  abbrev pub path_to : ℕ → List ℕ
  path_to v = reverse (chain_of vertices v)

  -- a chain is the vertex and its parent's chain
  chain_step : (v : ℕ) → v < length vertices → chain_of vertices v ≡ v
      ∷ chain vertices (length vertices) (parent_of vertices v)
  chain_step v lt = by_length (length vertices) refl
    where
      by_length : (n : ℕ) → length vertices ≡ n → chain_of vertices v ≡ v
          ∷ chain vertices (length vertices) (parent_of vertices v)
      by_length zero e = absurd (let none : v < 0 = subst (λ (n : ℕ). v < n) e lt in omega arith)
      by_length (suc n) e =
          let ends : length (chain vertices (suc (suc n)) (Some v)) ≤ suc n =
          subst (λ (m : ℕ). length (chain vertices (suc m) (Some v)) ≤ m) e (rooted.ends v lt) in
          let above : length (chain vertices (suc n) (parent_of vertices v)) ≤ n = omega arith in
          let short : length (chain vertices n (parent_of vertices v)) ≤ n =
          chain_short vertices n (parent_of vertices v) in
          let same : chain vertices n (parent_of vertices v) ≡ chain vertices (suc n) (parent_of vertices v) =
          chains_agree vertices n (suc n) (parent_of vertices v) (omega arith) (omega arith) in
          ap (λ m. chain vertices m (Some v)) e ∙ (ap (λ l. v ∷ l) same
          ∙ ap (λ m. v ∷ chain vertices m (parent_of vertices v)) (sym e))

  pub path_below : (v p : ℕ) → v < length vertices → parent_of vertices v ≡ Some p → path_to v ≡ path_to p ++ v ∷ []
  path_below v p lt e =
      let found : chain_of vertices v ≡ v ∷ chain_of vertices p = chain_step v lt
      ∙ ap (λ o. v ∷ chain vertices (length vertices) o) e in
      ap reverse found ∙ reverse-append (v ∷ []) (chain_of vertices p)

  pub path_root : (v : ℕ) → v < length vertices → parent_of vertices v ≡ None → path_to v ≡ v ∷ []
  path_root v lt e =
      let found : chain_of vertices v ≡ v ∷ [] = chain_step v lt
      ∙ (ap (λ o. v ∷ chain vertices (length vertices) o) e
      ∙ ap (λ l. v ∷ l) (chain-None vertices (length vertices))) in
      ap reverse found

  -- each path ends in its vertex
  pub path_ends : (v : ℕ) → v < length vertices → (above : List ℕ) × (path_to v ≡ above ++ v ∷ [])
  path_ends v lt = at (parent_of vertices v) refl
    where
      at : (o : Option ℕ) → parent_of vertices v ≡ o → (above : List ℕ) × (path_to v ≡ above ++ v ∷ [])
      at None e = ([], path_root v lt e)
      at (Some p) e = (path_to p, path_below v p lt e)

  pub path_last : (v : ℕ) → v < length vertices → get_or (path_to v) (length (path_to v) - 1) 0 ≡ v
  path_last v lt =
      let ends = path_ends v lt in
      let long : length (ends.0 ++ v ∷ []) ≡ length ends.0 + 1 = length_push ends.0 v in
      let at : length ends.0 ≡ length (ends.0 ++ v ∷ []) - 1 = omega arith in
      ap (λ l. get_or l (length l - 1) 0) ends.1 ∙ get_or_push ends.0 v 0 (length (ends.0 ++ v ∷ []) - 1) at

  -- a vertex whose path begins with another's path is at or below that one
  pub begins_below : (v p : ℕ) (ys : List ℕ) → p < length vertices → path_to v ≡ path_to p ++ ys →
      IsTrue (is_at_or_below vertices v p)
  begins_below v p ys lt e =
      let ends = path_ends p lt in
      let split : path_to v ≡ ends.0 ++ (p ∷ ys) = e ∙ (ap (λ l. l ++ ys) ends.1 ∙ append_assoc ends.0 (p ∷ []) ys) in
      let found : chain_of vertices v ≡ (reverse (p ∷ ys) ++ reverse ends.0) =
      sym (reverse-reverse (chain_of vertices v)) ∙ (ap reverse split ∙ reverse-append ends.0 (p ∷ ys)) in
      let turned : reverse (p ∷ ys) ≡ (reverse ys ++ p ∷ []) = reverse-append (p ∷ []) ys in
      let here : list_any (nat_eq p) (reverse ys ++ p ∷ []) ≡ true =
      list_any-append (nat_eq p) (reverse ys) (p ∷ [])
      ∙ or_right (list_any (nat_eq p) (reverse ys)) (list_any (nat_eq p) (p ∷ []))
      (or_left (nat_eq p p) false (eq-eqb p p refl)) in
      let there : list_any (nat_eq p) (chain_of vertices v) ≡ true =
      ap (list_any (nat_eq p)) found ∙ (list_any-append (nat_eq p) (reverse (p ∷ ys)) (reverse ends.0) ∙
      or_left (list_any (nat_eq p) (reverse (p ∷ ys))) (list_any (nat_eq p) (reverse ends.0))
      (ap (list_any (nat_eq p)) turned ∙ here)) in
      at_or_below-opens vertices v p ∙ there

  -- an order by the paths
  pub record IsByPath (order : List ℕ) : Type 0 where
    pub indices : IsOrderOf (length vertices) order
    pub sorted : (a b i j : ℕ) → a ≤ b → slice_get order a ≡ Some i → slice_get order b ≡ Some j →
        stands_before (path_to j) (path_to i) ≡ false

  module _ (list : List ℕ) (by : IsByPath list) where
    parent_first : (m k p j : ℕ) → slice_get list m ≡ Some p → slice_get list k ≡ Some j →
        parent_of vertices j ≡ Some p → m < k
    parent_first m k p j at_m at_k e =
        elim (cases_lt m k) [
          | inl less ↦ less
          | inr more ↦ (
              let j_in : j < length vertices = by.indices.known k j at_k in
              let below = path_below j p j_in e in
              absurd (true≢false (sym (ap (stands_before (path_to p)) below ∙ before_longer (path_to p) j [])
              ∙ by.sorted k m j p more at_k at_m)))
        ]

    root_first : (i : ℕ) → slice_get list 0 ≡ Some i → parent_of vertices i ≡ None
    root_first i at = go (parent_of vertices i) refl
      where
        go : (o : Option ℕ) → parent_of vertices i ≡ o → parent_of vertices i ≡ None
        go None e = e
        go (Some p) e =
            let there = by.indices.each p (rooted.known i p e) in
            let less : there.0 < 0 = parent_first there.0 0 p i there.1 at e in absurd (omega arith)

    next_below : (k i j : ℕ) → slice_get list k ≡ Some i → slice_get list (suc k) ≡ Some j → (p : ℕ)
        × (parent_of vertices j ≡ Some p) × IsTrue (is_at_or_below vertices i p)
    next_below k i j at_k at_next = go (parent_of vertices j) refl
      where
        first_at : (l : List ℕ) (i : ℕ) → slice_get l (suc k) ≡ Some j → (f : ℕ) × (slice_get l 0 ≡ Some f)
        first_at [] i e = absurd (cc)
        first_at (x ∷ l) i e = (x, refl)

        go : (o : Option ℕ) → parent_of vertices j ≡ o → (p : ℕ) × (parent_of vertices j ≡ Some p)
            × IsTrue (is_at_or_below vertices i p)
        go None e =
            let f = first_at list i at_next in
            let same : f.0 ≡ j = rooted.alone f.0 j (by.indices.known 0 f.0 f.1) (by.indices.known (suc k) j at_next)
            (root_first f.0 f.1) e in
            let index : 0 ≡ suc k = by.indices.apart 0 (suc k) j (f.1 ∙ ap Some same) at_next in
            absurd (omega arith)
        go (Some p) e =
            let p_in : p < length vertices = rooted.known j p e in
            let there = by.indices.each p p_in in
            let less : there.0 < suc k = parent_first there.0 (suc k) p j there.1 at_next e in
            let low : stands_before (path_to i) (path_to p) ≡ false = by.sorted there.0 k p i (omega arith) there.1
            at_k in
            let below = path_below j p (by.indices.known (suc k) j at_next) e in
            let high : stands_before (path_to p ++ j ∷ []) (path_to i) ≡ false = ap (λ l. stands_before l (path_to i))
            (sym below) ∙ by.sorted k (suc k) i j (omega arith) at_k at_next in
            let begins = begins_between (path_to p) (path_to i) j low high in
            (p, e, begins_below i p begins.0 p_in begins.1)

    siblings_rise : (j k u v : ℕ) → j < k → slice_get list j ≡ Some u → slice_get list k ≡ Some v →
        parent_of vertices u ≡ parent_of vertices v → u < v
    siblings_rise j k u v lt at_j at_k same =
        elim (cases_order u v) [
          | inl equal ↦ absurd (let index : j ≡ k = by.indices.apart j k v (at_j ∙ ap Some equal) at_k in omega arith)
          | inr differ ↦ elim differ [
            | inl less ↦ less
            | inr more ↦ go (parent_of vertices v) refl more
          ]
        ]
      where
        u_in : u < length vertices
        u_in = by.indices.known j u at_j

        v_in : v < length vertices
        v_in = by.indices.known k v at_k

        go : (o : Option ℕ) → parent_of vertices v ≡ o → v < u → u < v
        go None e more = absurd (let one : u ≡ v = rooted.alone u v u_in v_in (same ∙ e) e in omega arith)
        go (Some p) e more =
            let a = path_below u p u_in (same ∙ e) in
            let b = path_below v p v_in e in
            let clash : stands_before (path_to v) (path_to u) ≡ true = ap (λ l. stands_before l (path_to u)) b
            ∙ (ap (stands_before (path_to p ++ v ∷ [])) a ∙ before_by_last (path_to p) v u more) in
            absurd (true≢false (sym clash ∙ by.sorted j k u v (omega arith) at_j at_k))

    pub preorder_by_path : IsPreorderOf vertices list
    preorder_by_path = record {
      indices = by.indices;
      first = root_first;
      next = next_below;
      before =
          parent_first;
      siblings = siblings_rise;
    }
