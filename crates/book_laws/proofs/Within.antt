-- Where no vertex is oversubscribed, what is free of each vertex and what live jobs use of it add up to its units, and
-- so do the totals of a kind.
use Rattle.std.proofs.Common.{◌≡◌, ℕ, zero, suc, ◌+◌, ◌-◌, ◌≤◌, ◌==◌, Bool, true, false, not, ◌&&◌, ◌||◌}
use Rattle.std.proofs.Common.{cond, List, [], ◌∷◌, Some, slice_get, inl, inr, refl, sym, ◌∙◌}
use Rattle.std.proofs.Common.{ap, arith, IsTrue, true≢false}
use Rattle.std.specs.List.{AllByRecursion, sum_by}
use Rattle.std.specs.Option.{option_map_or}
use Rattle.std.proofs.lemmas.Bool.{and_from, or_left}
use Rattle.std.proofs.lemmas.Bool.Decides.{eqb_tells}
use Rattle.std.proofs.lemmas.List.Sums.{sum_by-cons}
use Rattle.std.proofs.Math.Bool.{or-false}
use Rattle.flux_defs.specs.declared.vertices.Vertex.{Vertex}
use Rattle.flux_defs.specs.declared.claims.Claim.{Claim}
use Rattle.flux_defs.specs.declared.claims.Claim.TheVariants.{Take, Hold, Pass}
use Rattle.flux_defs.specs.declared.claims.Job.{Job}
use Rattle.flux_defs.specs.Graph.{is_pool, is_pool_kind, size_of}
use Rattle.flux_defs.specs.Jobs.{is_live, some_live_claim, holds_over, take_of}
use Rattle.flux_defs.specs.Closed.{no_bars, is_closed}
use Rattle.flux_defs.specs.Free.{free_at, taken_at}
use Rattle.flux_defs.specs.Present.{up_with}
use Rattle.book_laws.specs.Amounts.{live_sum, use_of}
use Rattle.book_laws.specs.Amounts.{AreWithinSizes, TakesFromPool}
use Rattle.book_laws.proofs.Sums.{cond_none, job_sum, live_cons, live_unless}
use Rattle.book_laws.proofs.Sums.{live_where}

-- a live job's hold closes a vertex, and nothing else does where nothing is barred
pub closed_is : (vertices : List Vertex) (jobs : List Job) (m v : ℕ) →
    is_closed (no_bars vertices (up_with jobs)) m v ≡ some_live_claim jobs m (holds_over vertices v)
closed_is vertices jobs m v = or-false (some_live_claim jobs m (holds_over vertices v))

-- one vertex
module _ (vertices : List Vertex) (v : ℕ) where
  use_covered : (c : Claim) → IsTrue (holds_over vertices v c) → size_of vertices v ≤ use_of vertices v c
  use_covered (Take u q) h = absurd (true≢false (sym h))
  use_covered (Hold u) h =
      let e : use_of vertices v (Hold u) ≡ size_of vertices v = ap (λ b. cond b (size_of vertices v) 0) h in omega arith
  use_covered (Pass u) h = absurd (true≢false (sym h))

  pub use_uncovered : (c : Claim) → holds_over vertices v c ≡ false → use_of vertices v c ≡ take_of v c
  use_uncovered (Take u q) h = refl
  use_uncovered (Hold u) h = ap (λ b. cond b (size_of vertices v) 0) h
  use_uncovered (Pass u) h = refl

  -- of what is no pool nothing is taken
  takes_none : is_pool vertices v ≡ false →
      (cs : List Claim) → AllByRecursion (TakesFromPool vertices) cs → sum_by (take_of v) cs ≡ 0
  takes_none plain [] t = refl
  takes_none plain (c ∷ cs) t =
      let one : take_of v c ≡ 0 = alone c t.0 in
      let r = takes_none plain cs t.1 in
      omega (arith, sum_by-cons (take_of v) c cs)
    where
      alone : (c : Claim) → TakesFromPool vertices c → take_of v c ≡ 0
      alone (Take u q) t = elim (eqb_tells u v) [
        | inl same ↦ absurd (true≢false (sym t ∙ (ap (is_pool vertices) same.1 ∙ plain)))
        | inr differ ↦ ap (λ b. cond b q 0) differ.0
      ]
      alone (Hold u) t = refl
      alone (Pass u) t = refl

  pub taken_none : is_pool vertices v ≡ false → (jobs : List Job) →
      AllByRecursion (λ job. AllByRecursion (TakesFromPool vertices) job.claims) jobs → (m : ℕ) → taken_at jobs m v ≡ 0
  taken_none plain [] t m = refl
  taken_none plain (job ∷ jobs) t m =
      let one : job_sum (take_of v) m job ≡ 0 =
      ap (λ n. cond (is_live m job) n 0) (takes_none plain job.claims t.0) ∙ cond_none (is_live m job) in
      let r = taken_none plain jobs t.1 m in
      omega (arith, live_cons (take_of v) job jobs m)

  -- a vertex of no pool type has size 1
  size_one : (x : Vertex) → slice_get vertices v ≡ Some x → is_pool vertices v ≡ false → size_of vertices v ≡ 1
  size_one x here plain =
      ap (λ o. option_map_or (λ y. y.size) o 0) here
      ∙ unpooled vertices v x here
      (sym (ap (λ o. option_map_or (λ y. is_pool_kind vertices y.kind) o false) here) ∙ plain)
    where
      unpooled : (all : List Vertex) (i : ℕ) (x : Vertex) →
          slice_get all i ≡ Some x → is_pool_kind all x.kind ≡ false → x.size ≡ 1
      unpooled [] i x e plain = absurd (cc)
      unpooled (y ∷ ys) zero x e plain =
          let same : y ≡ x = cc in
          elim (eqb_tells x.size 1) [
            | inl one ↦ one.1
            | inr other ↦
                absurd (true≢false (sym (or_left ((y.kind == x.kind) && not (y.size == 1)) (is_pool_kind ys x.kind)
                (and_from _ _ (ap (λ z. z.kind == x.kind) same ∙ itself x.kind)
                (ap (λ z. not (z.size == 1)) same ∙ ap not other.0))) ∙ plain))
          ]
        where
          itself : (n : ℕ) → (n == n) ≡ true
          itself n = elim (eqb_tells n n) [ inl y ↦ y.0 | inr d ↦ absurd (d.1 refl) ]
      unpooled (y ∷ ys) (suc i) x e plain =
          unpooled ys i x e (neither ((y.kind == x.kind) && not (y.size == 1)) (is_pool_kind ys x.kind) plain)
        where
          neither : (a b : Bool) → (a || b) ≡ false → b ≡ false
          neither true b h = absurd (true≢false h)
          neither false b h = h

  -- what is free and what is used add up to the vertex's units
  pub adds_up : (jobs : List Job) (m : ℕ) (x : Vertex) → slice_get vertices v ≡ Some x → AreWithinSizes vertices jobs →
      AllByRecursion (λ job. AllByRecursion (TakesFromPool vertices) job.claims) jobs →
      free_at (no_bars vertices (up_with jobs)) m v + live_sum (use_of vertices v) jobs m ≡ size_of vertices v
  adds_up jobs m x here within pools = by_close (is_closed (no_bars vertices (up_with jobs)) m v)
      (closed_is vertices jobs m v)
    where
      within_here : live_sum (use_of vertices v) jobs m ≤ size_of vertices v
      within_here = within m v

      open_free : (pool : Bool) → is_pool vertices v ≡ pool → live_sum (use_of vertices v) jobs m ≡ taken_at jobs m v →
          cond pool (size_of vertices v - taken_at jobs m v) 1 + live_sum (use_of vertices v) jobs m
          ≡ size_of vertices v
      open_free true e same = let le = within_here in omega arith
      open_free false e same = let none = taken_none e jobs pools m in let one = size_one x here e in omega arith

      by_close : (b : Bool) → b ≡ some_live_claim jobs m (holds_over vertices v) →
          cond b 0 (cond (is_pool vertices v) (size_of vertices v - taken_at jobs m v) 1) + live_sum
          (use_of vertices v) jobs m ≡ size_of vertices v
      by_close true e =
          let le = within_here in
          let ge : size_of vertices v ≤ live_sum (use_of vertices v) jobs m =
          live_where (holds_over vertices v) (use_of vertices v) (size_of vertices v) use_covered jobs m (sym e) in
          omega arith
      by_close false e =
          open_free (is_pool vertices v) refl
          (live_unless (holds_over vertices v) (use_of vertices v) (take_of v) use_uncovered jobs m (sym e))
