-- Sums over claims, and along chains of parents.
use Rattle.std.proofs.Common.{◌≡◌, ◌≢◌, ℕ, zero, suc, ◌+◌, ◌-◌, ◌<◌, ◌==◌, nat_eq, Bool, true, false, ◌||◌, ◌&&◌}
use Rattle.std.proofs.Common.{◌≤◌, nat_lt, cond, List, [], ◌∷◌, length, take, get_or, Option, Some, None, IfSome}
use Rattle.std.proofs.Common.{inl, inr, refl, sym, ◌∙◌, ap, subst, arith}
use Rattle.std.specs.List.{AllByRecursion, sum_by}
use Rattle.std.proofs.lemmas.Bool.Decides.{eqb_tells}
use Rattle.std.proofs.lemmas.List.Sums.{sum_by-cons, sum_by_more}
use Rattle.std.proofs.lemmas.List.Elements.{All-from_recursion}
use Rattle.flux_defs.specs.declared.vertices.Vertex.{Vertex}
use Rattle.flux_defs.specs.declared.claims.Claim.{Claim}
use Rattle.flux_defs.specs.declared.claims.Claim.TheVariants.{Hold}
use Rattle.flux_defs.specs.Graph.{parent_of, chain, has_on_chain, is_at_or_below}
use Rattle.flux_defs.specs.Jobs.{vertex_of, is_on_or_below}
use Rattle.graph_laws.proofs.Containment.{ParentsFirst, at_or_below-opens}
use Rattle.graph_laws.proofs.Preorder.{has_parent}
use Rattle.vertex_planners.specs.Chains.{sum_on, ParentsIn}
use Rattle.vertex_planners.specs.Counting.{counts_at}
use Rattle.book_laws.specs.Amounts.{is_hold}
use Rattle.std.proofs.lemmas.Bool.{cases_lt, lt-ltb}
use Rattle.resource_graph.proofs.ChainLaws.{chain-None, chain_short, chains_agree}

-- one claim more
pub claim_step : (f : Claim → ℕ) (xs : List Claim) (i : ℕ) (d : Claim) (old new more : ℕ) →
    i < length xs → new ≡ old + more → old ≡ sum_by f (take i xs) → more ≡ f (get_or xs i d) →
    new ≡ sum_by f (take (i + 1) xs)
claim_step f xs i d old new more lt e was is = omega (arith, sum_by_more f xs i d lt)

pub on_step : (f : Claim → ℕ) (v : ℕ) (xs : List Claim) (i : ℕ) (d : Claim) (old new x n : ℕ) →
    i < length xs → new ≡ old + cond (x == v) n 0 →
    old ≡ sum_by (λ c. cond (vertex_of c == v) (f c) 0) (take i xs) →
    x ≡ vertex_of (get_or xs i d) → n ≡ f (get_or xs i d) →
    new ≡ sum_by (λ c. cond (vertex_of c == v) (f c) 0) (take (i + 1) xs)
on_step f v xs i d old new x n lt e was at is =
    claim_step (λ c. cond (vertex_of c == v) (f c) 0) xs i d old new (cond (x == v) n 0) lt e was
    (ap (λ y. cond (y == v) n 0) at ∙ ap (λ k. cond (vertex_of (get_or xs i d) == v) k 0) is)

pub none_more : (b : Bool) (n more : ℕ) → more ≡ 0 → n ≡ n + cond b more 0
none_more true n more e = omega arith
none_more false n more e = omega arith

-- parents that stand first are vertices
pub parents_in : (vertices : List Vertex) → ParentsFirst vertices → ParentsIn vertices
parents_in vertices first v p e = let below = first v p e in let within = has_parent vertices v p e in omega arith

pub inside_item : (most : ℕ) (xs : List Claim) (i : ℕ) (d : Claim) (x : ℕ) →
    i < length xs → x ≡ vertex_of (get_or xs i d) → AllByRecursion (λ c. vertex_of c < most) xs → x < most
inside_item most xs i d x lt e all =
    subst (λ (n : ℕ). n < most) (sym e) (All-from_recursion (λ c. vertex_of c < most) xs all i d lt)

-- along a chain
pub chain_opens : (vertices : List Vertex) (most v : ℕ) →
    (most ≡ 0 → ⊥) → chain vertices most (Some v) ≡ v ∷ chain vertices (most - 1) (parent_of vertices v)
chain_opens vertices zero v h = absurd (h refl)
chain_opens vertices (suc k) v h = let e : k ≡ suc k - 1 = omega arith in
    ap (λ n. v ∷ chain vertices n (parent_of vertices v)) e

pub chain_step : (vertices : List Vertex) (most u v more old mid new : ℕ) (above : Option ℕ) →
    (most ≡ 0 → ⊥) → mid ≡ old + cond (u == v) more 0 → above ≡ parent_of vertices u →
    new ≡ mid + sum_on v more (chain vertices (most - 1) above) →
    new ≡ old + sum_on v more (chain vertices most (Some u))
chain_step vertices most u v more old mid new above some e up f =
    let opens = ap (sum_on v more) (chain_opens vertices most u some) in
    let first = sum_by-cons (λ (w : ℕ). cond (w == v) more 0) u (chain vertices (most - 1) (parent_of vertices u)) in
    let same : sum_on v more (chain vertices (most - 1) above)
    ≡ sum_on v more (chain vertices (most - 1) (parent_of vertices u)) =
    ap (λ (o : Option ℕ). sum_on v more (chain vertices (most - 1) o)) up in
    omega arith

pub parent_inside : (vertices : List Vertex) (u : ℕ) (above : Option ℕ) →
    above ≡ parent_of vertices u → ParentsIn vertices → IfSome above (λ p. p < length vertices)
parent_inside vertices u None e inside = tt
parent_inside vertices u (Some p) e inside = inside u p (sym e)

module _ (vertices : List Vertex) (first : ParentsFirst vertices) (v more : ℕ) where
  -- v stands once on a chain, if it does
  below_all : (most u : ℕ) → u < v → sum_on v more (chain vertices most (Some u)) ≡ 0
  below_all zero u lt = refl
  below_all (suc most) u lt = step (parent_of vertices u) refl (below_all most)
    where
      step : (o : Option ℕ) → parent_of vertices u ≡ o → ((w : ℕ) →
          w < v → sum_on v more (chain vertices most (Some w)) ≡ 0) → sum_on v more (u ∷ chain vertices most o) ≡ 0
      step o e rest =
          let a = sum_by-cons (λ (w : ℕ). cond (w == v) more 0) u (chain vertices most o) in
          let b : cond (u == v) more 0 ≡ 0 = other u (λ h. omega arith) in
          let c : sum_on v more (chain vertices most o) ≡ 0 = up o e rest in
          omega arith
        where
          other : (w : ℕ) → w ≢ v → cond (w == v) more 0 ≡ 0
          other w ne = elim (eqb_tells w v) [
            | inl same ↦ absurd (ne same.1)
            | inr differ ↦ ap (λ b. cond b more 0) differ.0
          ]

          up : (o : Option ℕ) → parent_of vertices u ≡ o → ((w : ℕ) →
              w < v → sum_on v more (chain vertices most (Some w)) ≡ 0) → sum_on v more (chain vertices most o) ≡ 0
          up None e rest = ap (sum_on v more) (chain-None vertices most)
          up (Some p) e rest = rest p (let below = first u p e in omega arith)

  once : (most : ℕ) (o : Option ℕ) →
      sum_on v more (chain vertices most o) ≡ cond (has_on_chain vertices most o v) more 0
  once zero o = refl
  once (suc most) None = refl
  once (suc most) (Some u) =
      sum_by-cons (λ (w : ℕ). cond (w == v) more 0) u (chain vertices most (parent_of vertices u))
      ∙ elim (eqb_tells u v) [
        | inl same ↦ (let a : cond (u == v) more 0 ≡ more = ap (λ b. cond b more 0) same.0 in
            let none : sum_on v more (chain vertices most (parent_of vertices u)) ≡ 0 =
            above (parent_of vertices u) refl same.1 in
            let t : cond (nat_eq v u || has_on_chain vertices most (parent_of vertices u) v) more 0 ≡ more =
            ap (λ b. cond (b || has_on_chain vertices most (parent_of vertices u) v) more 0) (turned u v same.1) in
            omega arith)
        | inr differ ↦ (let a : cond (u == v) more 0 ≡ 0 = ap (λ b. cond b more 0) differ.0 in
            let rest = once most (parent_of vertices u) in
            let t : cond (nat_eq v u || has_on_chain vertices most (parent_of vertices u) v) more 0
            ≡ cond (has_on_chain vertices most (parent_of vertices u) v) more 0 =
            ap (λ b. cond (b || has_on_chain vertices most (parent_of vertices u) v) more 0) (parted u v differ.1) in
            omega arith)
      ]
    where
      turned : (x y : ℕ) → x ≡ y → nat_eq y x ≡ true
      turned x y e = elim (eqb_tells y x) [ inl same ↦ same.0 | inr differ ↦ absurd (differ.1 (sym e)) ]

      parted : (x y : ℕ) → x ≢ y → nat_eq y x ≡ false
      parted x y ne = elim (eqb_tells y x) [ inl same ↦ absurd (ne (sym same.1)) | inr differ ↦ differ.0 ]

      above : (o : Option ℕ) → parent_of vertices u ≡ o → u ≡ v → sum_on v more (chain vertices most o) ≡ 0
      above None e same = ap (sum_on v more) (chain-None vertices most)
      above (Some p) e same = below_all most p (let below = first u p e in omega arith)

  pub once_above : (u : ℕ) →
      sum_on v more (chain vertices (length vertices) (Some u)) ≡ cond (is_at_or_below vertices u v) more 0
  once_above u = once (length vertices) (Some u) ∙ ap (λ b. cond b more 0) (sym (at_or_below-opens vertices u v))

  -- what is above a vertex is what its chain has but for the vertex
  pub above_once : (u : ℕ) (above : Option ℕ) → above ≡ parent_of vertices u →
      sum_on v more (chain vertices (length vertices - 1) above)
      ≡ cond (u == v) 0 (cond (is_at_or_below vertices u v) more 0)
  above_once u above up = elim (cases_lt 0 (length vertices)) [
    | inl some ↦
        parted (u == v) (is_at_or_below vertices u v) (sum_on v more (chain vertices (length vertices - 1) above)) (
        let opens = ap (sum_on v more) (chain_opens vertices (length vertices) u (λ e. omega (arith, e, some))) in
        let first = sum_by-cons
        (λ (w : ℕ). cond (w == v) more 0) u (chain vertices (length vertices - 1) (parent_of vertices u)) in
        let same = ap (λ (o : Option ℕ). sum_on v more (chain vertices (length vertices - 1) o)) up in
        let all = once_above u in
        omega (arith, opens, first, same, all))
    | inr none ↦ (let zero_is : length vertices ≡ 0 = omega (arith, none) in
        let all = sym (once_above u) ∙ ap (λ (k : ℕ). sum_on v more (chain vertices k (Some u))) zero_is in
        ap (λ (k : ℕ). sum_on v more (chain vertices (k - 1) above)) zero_is
        ∙ sym (both_none (u == v) (cond (is_at_or_below vertices u v) more 0) all))
  ]
    where
      parted : (own there : Bool) (s : ℕ) → cond own more 0 + s ≡ cond there more 0 → s ≡ cond own 0 (cond there more 0)
      parted true true s e = omega (arith, e)
      parted true false s e = omega (arith, e)
      parted false there s e = omega (arith, e)

      both_none : (own : Bool) (n : ℕ) → n ≡ 0 → cond own 0 n ≡ 0
      both_none true n e = refl
      both_none false n e = e

-- a claim that holds no vertex of its own
not_own : (b there : Bool) (more : ℕ) → cond there more 0 ≡ cond (cond (b && false) false there) more 0
not_own true there more = refl
not_own false there more = refl

-- a hold counts above the vertex that it holds, and where that is the root there too
pub hold_counts : (vertices : List Vertex) (u v more : ℕ) → u ≢ 0 →
    cond (u == v) 0 (cond (is_at_or_below vertices u v) more 0) ≡ cond (counts_at vertices v (Hold u)) more 0
hold_counts vertices u v more some = elim (eqb_tells u v) [
  | inl same ↦ (let lt : nat_lt 0 v ≡ true = lt-ltb 0 v (omega (arith, same.1, some)) in rw (same.0, lt) refl)
  | inr differ ↦ rw differ.0 (not_own (nat_lt 0 v) (is_at_or_below vertices u v) more)
]

pub root_counts : (vertices : List Vertex) (u v more : ℕ) → u ≡ 0 →
    cond (is_at_or_below vertices u v) more 0 ≡ cond (counts_at vertices v (Hold u)) more 0
root_counts vertices u zero more is = refl
root_counts vertices u (suc v) more is = elim (eqb_tells u (suc v)) [
  | inl same ↦ absurd (omega (arith, same.1, is))
  | inr differ ↦ rw differ.0 (not_own (nat_lt 0 (suc v)) (is_at_or_below vertices u (suc v)) more)
]

-- every other claim counts at its own vertex too
pub soft_counts : (vertices : List Vertex) (v more : ℕ) (c : Claim) → is_hold v c ≡ false →
    cond (is_on_or_below vertices v c) more 0 ≡ cond (counts_at vertices v c) more 0
soft_counts vertices v more c soft = rw soft (not_own (nat_lt 0 v) (is_on_or_below vertices v c) more)

-- sums along a chain
cond_add : (t : Bool) (a b : ℕ) → cond t (a + b) 0 ≡ cond t a 0 + cond t b 0
cond_add true a b = refl
cond_add false a b = refl

pub sum_on_add : (v a b : ℕ) (us : List ℕ) → sum_on v (a + b) us ≡ sum_on v a us + sum_on v b us
sum_on_add v a b [] = refl
sum_on_add v a b (u ∷ us) =
    let both = sum_by-cons (λ (w : ℕ). cond (w == v) (a + b) 0) u us in
    let one = sum_by-cons (λ (w : ℕ). cond (w == v) a 0) u us in
    let other = sum_by-cons (λ (w : ℕ). cond (w == v) b 0) u us in
    let here = cond_add (u == v) a b in
    let rest = sum_on_add v a b us in
    omega (arith, both, one, other, here, rest)

cond_none : (t : Bool) (none : ℕ) → none ≡ 0 → cond t none 0 ≡ 0
cond_none true none e = e
cond_none false none e = refl

pub sum_on_none : (v none : ℕ) (us : List ℕ) → none ≡ 0 → sum_on v none us ≡ 0
sum_on_none v none [] e = refl
sum_on_none v none (u ∷ us) e =
    let all = sum_by-cons (λ (w : ℕ). cond (w == v) none 0) u us in
    let here = cond_none (u == v) none e in
    let rest = sum_on_none v none us e in
    omega (arith, all, here, rest)

-- a chain of vertices that stand before one another is no longer than the number of its first vertex and one more
chain_falls : (vertices : List Vertex) → ParentsFirst vertices → (most v : ℕ) →
    length (chain vertices most (Some v)) ≤ v + 1
chain_falls vertices first zero v = omega arith
chain_falls vertices first (suc most) v = step (parent_of vertices v) refl (chain_falls vertices first most)
  where
    step : (o : Option ℕ) → parent_of vertices v ≡ o → ((w : ℕ) → length (chain vertices most (Some w)) ≤ w + 1) →
        suc (length (chain vertices most (parent_of vertices v))) ≤ v + 1
    step None e falls =
        let none = ap (λ (x : Option ℕ). length (chain vertices most x)) e in
        let nil = ap (λ (us : List ℕ). length us) (chain-None vertices most) in omega (arith, none, nil)
    step (Some p) e falls =
        let same = ap (λ (x : Option ℕ). length (chain vertices most x)) e in
        let rest = falls p in
        let before = first v p e in omega (arith, same, rest, before)

-- the chain above a vertex of the list is whole
pub whole_above : (vertices : List Vertex) → ParentsFirst vertices → (u : ℕ) →
    chain vertices (length vertices - 1) (parent_of vertices u)
    ≡ chain vertices (length vertices) (parent_of vertices u)
whole_above vertices first u = by_parent (parent_of vertices u) refl
  where
    by_parent : (o : Option ℕ) → parent_of vertices u ≡ o →
        chain vertices (length vertices - 1) (parent_of vertices u)
        ≡ chain vertices (length vertices) (parent_of vertices u)
    by_parent None e =
        ap (chain vertices (length vertices - 1)) e ∙ chain-None vertices (length vertices - 1)
        ∙ sym (ap (chain vertices (length vertices)) e ∙ chain-None vertices (length vertices))
    by_parent (Some p) e =
        let inside = has_parent vertices u p e in
        let before = first u p e in
        let short = chain_falls vertices first (length vertices) p in
        let less = chain_short vertices (length vertices - 1) (Some p) in
        ap (chain vertices (length vertices - 1)) e
        ∙ chains_agree vertices (length vertices - 1) (length vertices) (Some p)
        (omega (arith, less)) (omega (arith, short, before, inside))
        ∙ sym (ap (chain vertices (length vertices)) e)
