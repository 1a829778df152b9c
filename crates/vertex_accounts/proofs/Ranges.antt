-- The capacity of a kind at a vertex is a difference of two sums: the vertices at and below it follow it without a gap.
use Rattle.std.proofs.Common.{◌≡◌, ℕ, zero, suc, ◌+◌, ◌<◌, ◌≤◌, ◌==◌, nat_le, nat_lt, Bool, true, false, ◌&&◌, cond}
use Rattle.std.proofs.Common.{List, [], ◌∷◌, length, take, Some, slice_get, inl, inr, refl, ◌∙◌, ap, arith, IsTrue}
use Rattle.std.specs.List.{sum_by, enumerate_from}
use Rattle.std.specs.Option.{option_map_or}
use Rattle.std.proofs.lemmas.Bool.{and_parts, and_from, false_from_ne_true}
use Rattle.std.proofs.lemmas.Bool.Decides.{nat_tests, leb_tells}
use Rattle.std.proofs.lemmas.List.Sums.{sum_by-cons}
use Rattle.std.proofs.Math.Bool.{and-false}
use Rattle.std.proofs.lemmas.Option.{slice_get_within}
use Rattle.flux_defs.specs.declared.vertices.Vertex.{Vertex}
use Rattle.flux_defs.specs.Graph.{ResourceGraph, is_at_or_below, size_of}
use Rattle.flux_defs.specs.ValidGraph.{StandsInPreorder}
use Rattle.list_laws.proofs.Tests.{same_tests}
use Rattle.graph_laws.proofs.Containment.{below_le}
use Rattle.graph_laws.proofs.Preorder.{parents_first}
use Rattle.resource_graph.specs.Tables.{IsPast}
use Rattle.book_laws.specs.Amounts.{capacity}
use Rattle.book_laws.proofs.Totals.{all_same}
use Rattle.book_laws.proofs.Sums.{sum_none}
use Rattle.vertex_accounts.specs.Prefixes.{units_in, units_before}

-- the units of those from `low` on and before `past`, and of those before `low`, are the units of those before `past`
module _ (kind low past : ℕ) (le : low ≤ past) where
  abbrev ranged : ℕ → Vertex → ℕ
  ranged u x = cond (nat_le low u && nat_lt u past) (units_in kind x) 0

  within_range : (u : ℕ) (x : Vertex) → low ≤ u → u < past → ranged u x ≡ units_in kind x
  within_range u x lo hi = ap (λ b. cond b (units_in kind x) 0)
      (and_from (nat_le low u) (nat_lt u past) (grind (arith, nat_tests)) (grind (arith, nat_tests)))

  before_range : (u : ℕ) (x : Vertex) → u < low → ranged u x ≡ 0
  before_range u x lt = elim (leb_tells low u) [
    | inl reaches ↦ absurd (let h : low ≤ u = reaches.1 in omega arith)
    | inr short ↦ ap (λ b. cond (b && nat_lt u past) (units_in kind x) 0) short.0
  ]

  after_range : (u : ℕ) (x : Vertex) → past ≤ u → ranged u x ≡ 0
  after_range u x ge = elim (leb_tells (suc u) past) [
    | inl within ↦ absurd (let h : suc u ≤ past = within.1 in omega arith)
    | inr over ↦ ap (λ b. cond (nat_le low u && b) (units_in kind x) 0) over.0
        ∙ ap (λ b. cond b (units_in kind x) 0) (and-false (nat_le low u))
  ]

  none_after : (at : ℕ) (xs : List Vertex) → past ≤ at → sum_by (λ (u, x). ranged u x) (enumerate_from at xs) ≡ 0
  none_after at [] ge = refl
  none_after at (x ∷ xs) ge =
      let a = sum_by-cons (λ (p : ℕ × Vertex). ranged p.0 p.1) (at, x) (enumerate_from (at + 1) xs) in
      let b = after_range at x ge in
      let c = none_after (at + 1) xs (omega arith) in
      omega arith

  -- from one of them on
  range_from : (at : ℕ) (xs : List Vertex) (n : ℕ) → low ≤ at →
      at + n ≡ past → sum_by (λ (u, x). ranged u x) (enumerate_from at xs) ≡ sum_by (units_in kind) (take n xs)
  range_from at [] zero lo e = refl
  range_from at [] (suc n) lo e = refl
  range_from at (x ∷ xs) zero lo e = none_after at (x ∷ xs) (omega arith)
  range_from at (x ∷ xs) (suc n) lo e =
      let a = sum_by-cons (λ (p : ℕ × Vertex). ranged p.0 p.1) (at, x) (enumerate_from (at + 1) xs) in
      let b = within_range at x lo (omega arith) in
      let c = range_from (at + 1) xs n (omega arith) (omega arith) in
      let d = sum_by-cons (units_in kind) x (take n xs) in
      omega arith

  range_sum : (at : ℕ) (xs : List Vertex) (m n : ℕ) → at + m ≡ low → at + n ≡ past →
      sum_by (λ (u, x). ranged u x) (enumerate_from at xs) + sum_by (units_in kind) (take m xs)
      ≡ sum_by (units_in kind) (take n xs)
  range_sum at xs zero n e f = let a = range_from at xs n (omega arith) f in
      let b : sum_by (units_in kind) (take 0 xs) ≡ 0 = none xs in omega arith
    where
      none : (xs : List Vertex) → sum_by (units_in kind) (take 0 xs) ≡ 0
      none [] = refl
      none (x ∷ xs) = refl
  range_sum at xs (suc m) zero e f = absurd (omega arith)
  range_sum at [] (suc m) (suc n) e f = refl
  range_sum at (x ∷ xs) (suc m) (suc n) e f =
      let a = sum_by-cons (λ (p : ℕ × Vertex). ranged p.0 p.1) (at, x) (enumerate_from (at + 1) xs) in
      let b = before_range at x (omega arith) in
      let c = range_sum (at + 1) xs m n (omega arith) (omega arith) in
      let d = sum_by-cons (units_in kind) x (take m xs) in
      let g = sum_by-cons (units_in kind) x (take n xs) in
      omega arith

module _ (g : ResourceGraph) (o : StandsInPreorder g) (kind v : ℕ) where
  by_tests : (a b c : Bool) (n k : ℕ) → n ≡ k → b ≡ c → cond (a && b) n 0 ≡ cond c (cond a k 0) 0
  by_tests true true c n k e f = e ∙ ap (λ x. cond x k 0) f
  by_tests true false c n k e f = ap (λ x. cond x k 0) f
  by_tests false b true n k e f = refl
  by_tests false b false n k e f = refl

  size_here : (u : ℕ) (x : Vertex) → slice_get g.vertices u ≡ Some x → size_of g.vertices u ≡ x.size
  size_here u x e = ap (λ s. option_map_or (λ y. y.size) s 0) e

  module _ (past : ℕ) (is : IsPast g.vertices v past) where
    below_is : (u : ℕ) → u < length g.vertices → is_at_or_below g.vertices u v ≡ (nat_le v u && nat_lt u past)
    below_is u lt = same_tests (is_at_or_below g.vertices u v) (nat_le v u && nat_lt u past) to from
      where
        to : IsTrue (is_at_or_below g.vertices u v) → IsTrue (nat_le v u && nat_lt u past)
        to h =
            let lo : v ≤ u = below_le g.vertices (parents_first g o) u v h in
            let hi : u < past = is.whole u lt h in
            and_from (nat_le v u) (nat_lt u past) (grind (arith, nat_tests)) (grind (arith, nat_tests))

        from : IsTrue (nat_le v u && nat_lt u past) → IsTrue (is_at_or_below g.vertices u v)
        from h =
            let b = and_parts (nat_le v u) (nat_lt u past) h in
            let lo : v ≤ u = grind (arith, nat_tests) in
            let hi : u < past = grind (arith, nat_tests) in
            is.covered u lo hi

    pub capacity_between : capacity g.vertices kind v + units_before g.vertices kind v
        ≡ units_before g.vertices kind past
    capacity_between =
        let later : v ≤ past = (let h = is.later in omega arith) in
        let same : capacity g.vertices kind v
        ≡ sum_by (λ (u, x). ranged kind v past later u x) (enumerate_from 0 g.vertices) =
        all_same g.vertices (λ u x. cond ((x.kind == kind) && is_at_or_below g.vertices u v) (size_of g.vertices u) 0)
        (λ u x. ranged kind v past later u x)
        (λ u x e. by_tests (x.kind == kind) (is_at_or_below g.vertices u v) (nat_le v u && nat_lt u past)
        (size_of g.vertices u) x.size (size_here u x e) (below_is u (slice_get_within g.vertices u x e))) in
        let sum = range_sum kind v past later 0 g.vertices v past (omega arith) (omega arith) in
        omega arith

  -- past the last vertex nothing stands
  pub capacity_past : length g.vertices ≤ v → capacity g.vertices kind v ≡ 0
  capacity_past over =
      all_same g.vertices
      (λ u x. cond ((x.kind == kind) && is_at_or_below g.vertices u v) (size_of g.vertices u) 0) (λ u x. 0)
      (λ u x e. by_none (x.kind == kind)
      (is_at_or_below g.vertices u v) (size_of g.vertices u) (none u (slice_get_within g.vertices u x e)))
      ∙ sum_none (enumerate_from 0 g.vertices)
    where
      by_none : (a b : Bool) (n : ℕ) → b ≡ false → cond (a && b) n 0 ≡ 0
      by_none true b n e = ap (λ x. cond x n 0) e
      by_none false b n e = refl

      none : (u : ℕ) → u < length g.vertices → is_at_or_below g.vertices u v ≡ false
      none u lt = false_from_ne_true (is_at_or_below g.vertices u v)
          (λ h. (let le : v ≤ u = below_le g.vertices (parents_first g o) u v h in omega arith))
