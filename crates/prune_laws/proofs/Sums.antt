-- Sums over sets of vertices, each given by its test.
use Rattle.std.proofs.Common.{◌≡◌, ℕ, zero, suc, ◌+◌, ◌<◌, ◌≤◌, ◌==◌, Bool, true, false, ◌&&◌, cond, List, [], ◌∷◌}
use Rattle.std.proofs.Common.{length, Option, Some, None, slice_get, refl, sym, ◌∙◌, ap, subst, arith, IsTrue}
use Rattle.std.proofs.Common.{true≢false}
use Rattle.std.specs.List.{sum_by, enumerate_from}
use Rattle.std.specs.Option.{IsSomeAnd}
use Rattle.std.proofs.lemmas.List.Sums.{sum_by-cons}
use Rattle.std.proofs.lemmas.Bool.{eq-eqb}
use Rattle.flux_defs.specs.declared.vertices.Vertex.{Vertex}

-- what the vertices of a kind in a set weigh together
module _ (kind : ℕ) (weight : ℕ → ℕ) where
  abbrev weighs : (ℕ → Bool) → ℕ → Vertex → ℕ
  weighs set u x = cond ((x.kind == kind) && set u) (weight u) 0

  abbrev sum_from : (ℕ → Bool) → ℕ → List Vertex → ℕ
  sum_from set at xs = sum_by (λ (u, x). weighs set u x) (enumerate_from at xs)

  abbrev pub set_sum : List Vertex → (ℕ → Bool) → ℕ
  set_sum vertices set = sum_from set 0 vertices

  from_next : (set : ℕ → Bool) (at : ℕ) (x : Vertex) (xs : List Vertex) →
      sum_from set at (x ∷ xs) ≡ weighs set at x + sum_from set (at + 1) xs
  from_next set at x xs = sum_by-cons (λ (p : ℕ × Vertex). weighs set p.0 p.1) (at, x) (enumerate_from (at + 1) xs)

  two_parts : (k a b c : Bool) (n : ℕ) → (IsTrue a → IsTrue c) → (IsTrue b → IsTrue c) → (IsTrue a → IsTrue b → ⊥) →
      cond (k && a) n 0 + cond (k && b) n 0 ≤ cond (k && c) n 0
  two_parts false a b c n f g h = omega arith
  two_parts true false false c n f g h = omega arith
  two_parts true true b true n f g h = cases b (h refl)
    where
      cases : (b : Bool) → (IsTrue b → ⊥) → n + cond b n 0 ≤ n
      cases true no' = absurd (no' refl)
      cases false no' = omega arith
  two_parts true true b false n f g h = absurd (true≢false (sym (f refl)))
  two_parts true false true true n f g h = omega arith
  two_parts true false true false n f g h = absurd (true≢false (sym (g refl)))

  -- two sets with no vertex in common weigh no more than a set that has both
  parts_from : (most : ℕ) (a b c : ℕ → Bool) → ((u : ℕ) → u < most → IsTrue (a u) → IsTrue (c u)) →
      ((u : ℕ) → u < most → IsTrue (b u) → IsTrue (c u)) → ((u : ℕ) → u < most → IsTrue (a u) → IsTrue (b u) → ⊥) →
      (at : ℕ) (xs : List Vertex) → at + length xs ≤ most → sum_from a at xs + sum_from b at xs ≤ sum_from c at xs
  parts_from most a b c f g h at [] le = omega arith
  parts_from most a b c f g h at (x ∷ xs) le =
      let here = two_parts (x.kind == kind) (a at) (b at) (c at) (weight at) (f at (omega arith)) (g at (omega arith))
      (h at (omega arith)) in
      let rest = parts_from most a b c f g h (at + 1) xs (omega arith) in
      omega (arith, here, rest, from_next a at x xs, from_next b at x xs, from_next c at x xs)

  pub parts_sum : (vertices : List Vertex) (a b c : ℕ → Bool) →
      ((u : ℕ) → u < length vertices → IsTrue (a u) → IsTrue (c u)) →
      ((u : ℕ) → u < length vertices → IsTrue (b u) → IsTrue (c u)) →
      ((u : ℕ) → u < length vertices → IsTrue (a u) → IsTrue (b u) → ⊥) →
      set_sum vertices a + set_sum vertices b ≤ set_sum vertices c
  parts_sum vertices a b c f g h = parts_from (length vertices) a b c f g h 0 vertices (omega arith)

  -- a set that another has weighs no more
  pub part_sum : (vertices : List Vertex) (a c : ℕ → Bool) →
      ((u : ℕ) → u < length vertices → IsTrue (a u) → IsTrue (c u)) →
      set_sum vertices a ≤ set_sum vertices c
  part_sum vertices a c f =
      let both = parts_sum vertices a (λ u. false) c f (λ u lt t. absurd (true≢false (sym t)))
      (λ u lt t s. true≢false (sym s)) in
      omega (arith, both)

  weighs_one : (k a : Bool) (n : ℕ) → IsTrue k → IsTrue a → n ≤ cond (k && a) n 0
  weighs_one true true n h i = omega arith
  weighs_one true false n h i = absurd (true≢false (sym i))
  weighs_one false a n h i = absurd (true≢false (sym h))

  -- a vertex of the kind in the set weighs no more than the set
  one_from : (set : ℕ → Bool) (at : ℕ) (xs : List Vertex) (i : ℕ) (x : Vertex) → slice_get xs i ≡ Some x →
      x.kind ≡ kind → IsTrue (set (at + i)) →
      weight (at + i) ≤ sum_from set at xs
  one_from set at [] i x e is h = absurd (cc)
  one_from set at (y ∷ ys) zero x e is h =
      let same : y ≡ x = cc in
      let place : at + 0 ≡ at = omega arith in
      let k : y.kind ≡ kind = ap (λ z. z.kind) same ∙ is in
      let one = weighs_one (y.kind == kind) (set at) (weight at) (eq-eqb y.kind kind k)
      (subst (λ (n : ℕ). IsTrue (set n)) place h) in
      subst (λ (n : ℕ). weight n ≤ sum_from set at (y ∷ ys)) (sym place) (omega (arith, one, from_next set at y ys))
  one_from set at (y ∷ ys) (suc i) x e is h =
      let place : at + 1 + i ≡ at + suc i = omega arith in
      let rest = one_from set (at + 1) ys i x e is (subst (λ (n : ℕ). IsTrue (set n)) (sym place) h) in
      subst (λ (n : ℕ). weight n ≤ sum_from set at (y ∷ ys)) place (omega (arith, rest, from_next set at y ys))

  pub one_sum : (vertices : List Vertex) (set : ℕ → Bool) (v : ℕ) →
      IsSomeAnd (slice_get vertices v) (λ x. x.kind ≡ kind) → IsTrue (set v) →
      weight v ≤ set_sum vertices set
  one_sum vertices set v is h = here (slice_get vertices v) refl is
    where
      here : (o : Option Vertex) → slice_get vertices v ≡ o → IsSomeAnd o (λ x. x.kind ≡ kind) →
          weight v ≤ set_sum vertices set
      here None e k = elim k [ ]
      here (Some x) e k =
          let place : 0 + v ≡ v = omega arith in
          subst (λ (n : ℕ). weight n ≤ set_sum vertices set) place
          (one_from set 0 vertices v x e k (subst (λ (n : ℕ). IsTrue (set n)) (sym place) h))
