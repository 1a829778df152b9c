-- The total of a kind at a vertex: its capacity there less what live jobs have of it at the vertex and below it.
use Rattle.std.proofs.Common.{◌≡◌, ◌≢◌, ℕ, zero, suc, ◌+◌, ◌-◌, ◌<◌, ◌≤◌, ◌==◌, Bool, true, false, ◌&&◌, cond, List, []}
use Rattle.std.proofs.Common.{◌∷◌, length, Some, None, slice_get, inl, inr, refl, sym, ◌∙◌, ap}
use Rattle.std.proofs.Common.{arith, IsTrue, true≢false}
use Rattle.std.specs.List.{AllByRecursion, sum_by, enumerate_from}
use Rattle.std.specs.Option.{option_map_or}
use Rattle.std.proofs.lemmas.Bool.Decides.{eqb_tells}
use Rattle.std.proofs.lemmas.List.Sums.{sum_by-cons}
use Rattle.std.proofs.lemmas.Option.{slice_get_within}
use Rattle.flux_defs.specs.declared.vertices.Vertex.{Vertex}
use Rattle.flux_defs.specs.declared.claims.Claim.{Claim}
use Rattle.flux_defs.specs.declared.claims.Claim.TheVariants.{Take, Hold, Pass}
use Rattle.flux_defs.specs.declared.claims.Job.{Job}
use Rattle.flux_defs.specs.Graph.{ResourceGraph, is_at_or_below, is_pool, size_of}
use Rattle.flux_defs.specs.ValidGraph.{StandsInPreorder}
use Rattle.flux_defs.specs.Jobs.{some_live_claim, holds_over}
use Rattle.flux_defs.specs.Closed.{no_bars, is_closed}
use Rattle.flux_defs.specs.Free.{free_at, taken_at, total_at}
use Rattle.flux_defs.specs.Present.{up_with}
use Rattle.graph_laws.proofs.Containment.{below_trans, above_is_chain}
use Rattle.graph_laws.proofs.Preorder.{parents_first}
use Rattle.book_laws.specs.Amounts.{live_sum, kind_sum, capacity, part_within, use_of}
use Rattle.book_laws.specs.Amounts.{AreWithinSizes, TakesFromPool}
use Rattle.flux_laws.proofs.Live.{live_along}
use Rattle.book_laws.proofs.Sums.{cond_none, live_none, live_most, live_swap, live_unless, cond_add}
use Rattle.book_laws.proofs.Sums.{sum_none, sum_add}
use Rattle.book_laws.proofs.Within.{closed_is, adds_up}

-- sums over the vertices, by place
module _ (vertices : List Vertex) where
  -- the items from `at` on are those of the list from there
  abbrev StandsAt : ℕ → List Vertex → Type 0
  StandsAt at xs = (i : ℕ) (x : Vertex) → slice_get xs i ≡ Some x → slice_get vertices (at + i) ≡ Some x

  stands_next : (at : ℕ) (x : Vertex) (xs : List Vertex) → StandsAt at (x ∷ xs) → StandsAt (at + 1) xs
  stands_next at x xs h i y e = let same : at + suc i ≡ at + 1 + i = omega arith in
      ap (slice_get vertices) (sym same) ∙ h (suc i) y e

  stands_first : (at : ℕ) (x : Vertex) (xs : List Vertex) → StandsAt at (x ∷ xs) → slice_get vertices at ≡ Some x
  stands_first at x xs h = let same : at + 0 ≡ at = omega arith in ap (slice_get vertices) (sym same) ∙ h 0 x refl

  pub stands_all : StandsAt 0 vertices
  stands_all i x e = let same : 0 + i ≡ i = omega arith in ap (slice_get vertices) same ∙ e

  -- two sums over the vertices agree that agree at each
  pub each_same : (f g : ℕ → Vertex → ℕ) → ((u : ℕ) (x : Vertex) → slice_get vertices u ≡ Some x → f u x ≡ g u x) →
      (at : ℕ) (xs : List Vertex) → StandsAt at xs →
      sum_by (λ (u, x). f u x) (enumerate_from at xs) ≡ sum_by (λ (u, x). g u x) (enumerate_from at xs)
  each_same f g h at [] s = refl
  each_same f g h at (x ∷ xs) s =
      let a = sum_by-cons (λ (p : ℕ × Vertex). f p.0 p.1) (at, x) (enumerate_from (at + 1) xs) in
      let b = sum_by-cons (λ (p : ℕ × Vertex). g p.0 p.1) (at, x) (enumerate_from (at + 1) xs) in
      let r = each_same f g h (at + 1) xs (stands_next at x xs s) in
      let e = h at x (stands_first at x xs s) in
      omega arith

  pub all_same : (f g : ℕ → Vertex → ℕ) → ((u : ℕ) (x : Vertex) → slice_get vertices u ≡ Some x → f u x ≡ g u x) →
      sum_by (λ (u, x). f u x) (enumerate_from 0 vertices) ≡ sum_by (λ (u, x). g u x) (enumerate_from 0 vertices)
  all_same f g h = each_same f g h 0 vertices stands_all

  -- a sum in which one vertex has a number and the others none
  module _ (v q : ℕ) (test : ℕ → Vertex → Bool) where
    abbrev mine : ℕ → Vertex → ℕ
    mine u x = cond (test u x) (cond (v == u) q 0) 0

    elsewhere : (u : ℕ) (x : Vertex) → v ≢ u → mine u x ≡ 0
    elsewhere u x ne = elim (eqb_tells v u) [
      | inl same ↦ absurd (ne same.1)
      | inr differ ↦ ap (λ b. cond (test u x) (cond b q 0) 0) differ.0 ∙ cond_none (test u x)
    ]

    none_from : (at : ℕ) (xs : List Vertex) → v < at → sum_by (λ (u, x). mine u x) (enumerate_from at xs) ≡ 0
    none_from at [] lt = refl
    none_from at (x ∷ xs) lt =
        let a = sum_by-cons (λ (p : ℕ × Vertex). mine p.0 p.1) (at, x) (enumerate_from (at + 1) xs) in
        let e : mine at x ≡ 0 = elsewhere at x (λ h. omega arith) in
        let r = none_from (at + 1) xs (omega arith) in
        omega arith

    here : (u : ℕ) (x : Vertex) → v ≡ u → mine u x ≡ cond (test v x) q 0
    here u x is = elim (eqb_tells v u) [
      | inl same ↦ ap (λ b. cond (test u x) (cond b q 0) 0) same.0 ∙ ap (λ n. cond (test n x) q 0) (sym is)
      | inr differ ↦ absurd (differ.1 is)
    ]

    one_from : (k at : ℕ) (xs : List Vertex) → v ≡ at + k →
        sum_by (λ (u, x). mine u x) (enumerate_from at xs) ≡ option_map_or (λ x. cond (test v x) q 0) (slice_get xs k) 0
    one_from k at [] e = refl
    one_from zero at (x ∷ xs) e =
        let a = sum_by-cons (λ (p : ℕ × Vertex). mine p.0 p.1) (at, x) (enumerate_from (at + 1) xs) in
        let f : mine at x ≡ cond (test v x) q 0 = here at x (omega arith) in
        let r = none_from (at + 1) xs (omega arith) in
        omega arith
    one_from (suc k) at (x ∷ xs) e =
        let a = sum_by-cons (λ (p : ℕ × Vertex). mine p.0 p.1) (at, x) (enumerate_from (at + 1) xs) in
        let f : mine at x ≡ 0 = elsewhere at x (λ h. omega arith) in
        let r = one_from k (at + 1) xs (omega arith) in
        omega arith

    pub one_sum : sum_by (λ (u, x). mine u x) (enumerate_from 0 vertices)
        ≡ option_map_or (λ x. cond (test v x) q 0) (slice_get vertices v) 0
    one_sum = one_from v 0 vertices (omega arith)

-- what a claim uses of the vertices of a kind at v and below it
module _ (g : ResourceGraph) (o : StandsInPreorder g) (kind v : ℕ) where
  abbrev counts : ℕ → Vertex → Bool
  counts u x = (x.kind == kind) && is_at_or_below g.vertices u v

  -- a take
  take_part : (p q : ℕ) →
      kind_sum g.vertices kind v (λ u. use_of g.vertices u (Take p q)) ≡ part_within g.vertices kind v (Take p q)
  take_part p q = one_sum g.vertices p q counts ∙ by_place (slice_get g.vertices p)
    where
      by_test : (a b : Bool) → cond (a && b) q 0 ≡ cond b (cond a q 0) 0
      by_test true b = refl
      by_test false b = sym (cond_none b)

      by_place : (s : _) → option_map_or (λ (x : Vertex). cond (counts p x) q 0) s 0
          ≡ cond (is_at_or_below g.vertices p v) (cond (option_map_or (λ (x : Vertex). x.kind == kind) s false) q 0) 0
      by_place None = sym (cond_none (is_at_or_below g.vertices p v))
      by_place (Some x) = by_test (x.kind == kind) (is_at_or_below g.vertices p v)

  -- a hold at v or below it
  hold_inside : (h : ℕ) → IsTrue (is_at_or_below g.vertices h v) →
      kind_sum g.vertices kind v (λ u. use_of g.vertices u (Hold h)) ≡ capacity g.vertices kind h
  hold_inside h below =
      all_same g.vertices (λ u x. cond (counts u x) (use_of g.vertices u (Hold h)) 0)
      (λ u x. cond ((x.kind == kind) && is_at_or_below g.vertices u h) (size_of g.vertices u) 0)
      (λ u x e. by_tests
      (x.kind == kind) (is_at_or_below g.vertices u v) (is_at_or_below g.vertices u h) (size_of g.vertices u)
      (λ t. below_trans g.vertices (parents_first g o) u h v (slice_get_within g.vertices u x e) t below))
    where
      by_tests : (a b c : Bool) (n : ℕ) → (IsTrue c → IsTrue b) → cond (a && b) (cond c n 0) 0 ≡ cond (a && c) n 0
      by_tests true true c n h = refl
      by_tests true false true n h = absurd (true≢false (sym (h refl)))
      by_tests true false false n h = refl
      by_tests false b c n h = refl

  -- a hold of a vertex that is neither at v or below it nor above it
  hold_outside : (h : ℕ) → is_at_or_below g.vertices h v ≡ false →
      is_at_or_below g.vertices v h ≡ false → kind_sum g.vertices kind v (λ u. use_of g.vertices u (Hold h)) ≡ 0
  hold_outside h apart over =
      all_same g.vertices (λ u x. cond (counts u x) (use_of g.vertices u (Hold h)) 0) (λ u x. 0)
      (λ u x e. by_tests
      (x.kind == kind) (is_at_or_below g.vertices u v) (is_at_or_below g.vertices u h) (size_of g.vertices u)
      (λ a b. elim (above_is_chain g.vertices (parents_first g o) u v h (slice_get_within g.vertices u x e) a b) [
        | inl up ↦ true≢false (sym up ∙ over)
        | inr down ↦ true≢false (sym down ∙ apart)
      ]))
      ∙ sum_none (enumerate_from 0 g.vertices)
    where
      by_tests : (a b c : Bool) (n : ℕ) → (IsTrue b → IsTrue c → ⊥) → cond (a && b) (cond c n 0) 0 ≡ 0
      by_tests true true true n h = absurd (h refl refl)
      by_tests true true false n h = refl
      by_tests true false c n h = refl
      by_tests false b c n h = refl

  pass_part : (p : ℕ) → kind_sum g.vertices kind v (λ u. use_of g.vertices u (Pass p)) ≡ 0
  pass_part p =
      all_same g.vertices (λ u x. cond (counts u x) 0 0) (λ u x. 0) (λ u x e. cond_none (counts u x))
      ∙ sum_none (enumerate_from 0 g.vertices)

  -- what a claim uses there is its part of the total, where it holds neither v nor a vertex above it
  pub part_is : (c : Claim) → holds_over g.vertices v c ≡ false →
      kind_sum g.vertices kind v (λ u. use_of g.vertices u c) ≡ part_within g.vertices kind v c
  part_is (Take p q) apart = take_part p q
  part_is (Hold h) apart = by_test (is_at_or_below g.vertices h v) refl
    where
      by_test : (b : Bool) → is_at_or_below g.vertices h v ≡ b →
          kind_sum g.vertices kind v (λ u. use_of g.vertices u (Hold h)) ≡ cond b (capacity g.vertices kind h) 0
      by_test true e = hold_inside h e
      by_test false e = hold_outside h e apart
  part_is (Pass p) apart = pass_part p ∙ sym (cond_none (is_at_or_below g.vertices p v))

  -- and never less than that
  pub part_most : (c : Claim) →
      part_within g.vertices kind v c ≤ kind_sum g.vertices kind v (λ u. use_of g.vertices u c)
  part_most (Take p q) = let e = take_part p q in omega arith
  part_most (Hold h) = by_test (is_at_or_below g.vertices h v) refl
    where
      by_test : (b : Bool) → is_at_or_below g.vertices h v ≡ b →
          cond b (capacity g.vertices kind h) 0 ≤ kind_sum g.vertices kind v (λ u. use_of g.vertices u (Hold h))
      by_test true e = let same = hold_inside h e in omega arith
      by_test false e = omega arith
  part_most (Pass p) = let e = cond_none (is_at_or_below g.vertices p v) in omega arith

  module _ (jobs : List Job) (m : ℕ) (within : AreWithinSizes g.vertices jobs)
      (pools : AllByRecursion (λ job. AllByRecursion (TakesFromPool g.vertices) job.claims) jobs) where
    cond_live : (b : Bool) (f : Claim → ℕ) → cond b (live_sum f jobs m) 0 ≡ live_sum (λ c. cond b (f c) 0) jobs m
    cond_live true f = refl
    cond_live false f = sym (live_none jobs m)

    -- what live jobs use there, vertex by vertex and claim by claim
    uses_swap : kind_sum g.vertices kind v (λ u. live_sum (use_of g.vertices u) jobs m)
        ≡ live_sum (λ c. kind_sum g.vertices kind v (λ u. use_of g.vertices u c)) jobs m
    uses_swap =
        all_same g.vertices (λ u x. cond (counts u x) (live_sum (use_of g.vertices u) jobs m) 0)
        (λ u x. live_sum (λ c. cond (counts u x) (use_of g.vertices u c) 0) jobs m)
        (λ u x e. cond_live (counts u x) (use_of g.vertices u))
        ∙ live_swap (λ (p : ℕ × Vertex) c. cond (counts p.0 p.1) (use_of g.vertices p.0 c) 0)
        (enumerate_from 0 g.vertices) jobs m

    -- free and used add up to the capacity
    sums_up : total_at g.vertices (up_with jobs) kind m v + kind_sum g.vertices kind v
        (λ u. live_sum (use_of g.vertices u) jobs m) ≡ capacity g.vertices kind v
    sums_up =
        sym (sum_add (λ (p : ℕ × Vertex). cond (counts p.0 p.1) (free_at (no_bars g.vertices (up_with jobs)) m p.0) 0)
        (λ (p : ℕ × Vertex). cond (counts p.0 p.1) (live_sum (use_of g.vertices p.0) jobs m) 0)
        (enumerate_from 0 g.vertices))
        ∙ all_same g.vertices (λ u x. cond (counts u x) (free_at (no_bars g.vertices (up_with jobs)) m u) 0 + cond
        (counts u x) (live_sum (use_of g.vertices u) jobs m) 0) (λ u x. cond (counts u x) (size_of g.vertices u) 0)
        (λ u x e. cond_add (counts u x) _ _
        ∙ ap (λ n. cond (counts u x) n 0) (adds_up g.vertices u jobs m x e within pools))

    -- where neither v nor a vertex above it is held
    pub total_open : is_closed (no_bars g.vertices (up_with jobs)) m v ≡ false →
        total_at g.vertices (up_with jobs) kind m v + live_sum (part_within g.vertices kind v) jobs m ≡ capacity
        g.vertices kind v
    total_open open_ =
        let none : some_live_claim jobs m (holds_over g.vertices v) ≡ false =
        sym (closed_is g.vertices jobs m v) ∙ open_ in
        let swapped = uses_swap in
        let parts : live_sum (λ c. kind_sum g.vertices kind v (λ u. use_of g.vertices u c)) jobs m
        ≡ live_sum (part_within g.vertices kind v) jobs m =
        live_unless (holds_over g.vertices v) _ (part_within g.vertices kind v) part_is jobs m none in
        let all = sums_up in
        omega arith

    -- the parts of live jobs never exceed the capacity
    pub part_room : live_sum (part_within g.vertices kind v) jobs m ≤ capacity g.vertices kind v
    part_room =
        let swapped = uses_swap in
        let le : live_sum (part_within g.vertices kind v) jobs m ≤ live_sum
        (λ c. kind_sum g.vertices kind v (λ u. use_of g.vertices u c)) jobs m =
        live_most (part_within g.vertices kind v) _ jobs m part_most in
        let all = sums_up in
        omega arith

  -- where v or a vertex above it is held nothing is free
  pub total_closed : (jobs : List Job) (m : ℕ) →
      is_closed (no_bars g.vertices (up_with jobs)) m v ≡ true → total_at g.vertices (up_with jobs) kind m v ≡ 0
  total_closed jobs m closed =
      all_same g.vertices (λ u x. cond (counts u x) (free_at (no_bars g.vertices (up_with jobs)) m u) 0) (λ u x. 0)
      (λ u x e. by_tests (x.kind == kind) (is_at_or_below g.vertices u v)
      (free_at (no_bars g.vertices (up_with jobs)) m u)
      (λ below. none_free u (slice_get_within g.vertices u x e) below))
      ∙ sum_none (enumerate_from 0 g.vertices)
    where
      held_too : (u : ℕ) → u < length g.vertices → IsTrue (is_at_or_below g.vertices u v) →
          (c : Claim) → IsTrue (holds_over g.vertices v c) → IsTrue (holds_over g.vertices u c)
      held_too u lt below (Take p q) h = h
      held_too u lt below (Hold p) h = below_trans g.vertices (parents_first g o) u v p lt below h
      held_too u lt below (Pass p) h = h

      none_free : (u : ℕ) →
          u < length g.vertices → IsTrue (is_at_or_below g.vertices u v) → free_at (no_bars g.vertices (up_with jobs))
          m u ≡ 0
      none_free u lt below =
          let held = live_along (holds_over g.vertices v)
          (holds_over g.vertices u) (held_too u lt below) jobs m (sym (closed_is g.vertices jobs m v) ∙ closed) in
          ap (λ b. cond b 0 (cond (is_pool g.vertices u) (size_of g.vertices u - taken_at jobs m u) 1))
          (closed_is g.vertices jobs m u ∙ held)

      by_tests : (a b : Bool) (n : ℕ) → (IsTrue b → n ≡ 0) → cond (a && b) n 0 ≡ 0
      by_tests true true n h = h refl
      by_tests true false n h = refl
      by_tests false b n h = refl
