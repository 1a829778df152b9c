-- More jobs only take away; but at a vertex that may still be held, and below it, nothing was taken.
use Rattle.std.proofs.Common.{◌≡◌, ℕ, zero, suc, ◌+◌, ◌-◌, ◌<◌, ◌≤◌, nat_le, if◌then◌else◌, Bool, true, false, not}
use Rattle.std.proofs.Common.{◌&&◌, ◌||◌, List, [], ◌∷◌, ◌++◌, length, Option, Some, None, ◌⊎◌, inl, inr, refl, sym}
use Rattle.std.proofs.Common.{◌∙◌, ap, subst, arith, IsTrue, true≢false}
use Rattle.std.specs.List.{list_any, sum_by}
use Rattle.std.proofs.lemmas.Bool.{and_parts, and_from, or_cases, or_left, or_right}
use Rattle.std.proofs.lemmas.Bool.Decides.{nat_tests, eqb_tells}
use Rattle.std.proofs.lemmas.List.Sums.{sum_by-cons, sum_by-append}
use Rattle.std.proofs.lemmas.List.Folds.{list_any-append}
use Rattle.flux_defs.specs.declared.vertices.Vertex.{Vertex}
use Rattle.flux_defs.specs.declared.claims.Claim.{Claim}
use Rattle.flux_defs.specs.declared.claims.Claim.TheVariants.{Take, Hold, Pass}
use Rattle.flux_defs.specs.declared.claims.Job.{Job}
use Rattle.flux_defs.specs.declared.claims.Window.{Window}
use Rattle.flux_defs.specs.Graph.{parent_of, is_at_or_below, is_pool, size_of}
use Rattle.flux_defs.specs.Jobs.{vertex_of, is_live, some_live_claim, holds_over, is_on_or_below, take_of}
use Rattle.flux_defs.specs.Closed.{Scene, is_withheld, has_withheld, is_closed, is_touched}
use Rattle.flux_defs.specs.Free.{taken_at}
use Rattle.flux_defs.specs.Available.{is_available_at, IsAvailable}
use Rattle.flux_defs.specs.Present.{up_with}
use Rattle.graph_laws.proofs.Containment.{ParentsFirst, not_to, up, up-None, steps_of, below_trans}
use Rattle.graph_laws.proofs.Containment.{above_is_chain}
use Rattle.graph_laws.proofs.Preorder.{has_parent}
use Rattle.flux_laws.proofs.Live.{live_either}
use Rattle.list_laws.proofs.Tests.{not_along, or_along}

-- what the ask meets with these jobs
abbrev pub with_bars : List Vertex → List Job → List ℕ → Scene
with_bars vertices jobs barred = record { vertices = vertices; present = up_with jobs; barred = barred }

-- so much can be had where no more is closed and no more is taken
pub had_along : (q : ℕ) (a b pool : Bool) (size x y : ℕ) → (IsTrue a → IsTrue b) → x ≤ y →
    IsTrue (nat_le q (if b then 0 else (if pool then (size - y) else 1))) →
    IsTrue (nat_le q (if a then 0 else (if pool then (size - x) else 1)))
had_along q true true pool size x y f le h = h
had_along q true false pool size x y f le h = absurd (true≢false (sym (f refl)))
had_along q false true pool size x y f le h = grind (arith, nat_tests)
had_along q false false true size x y f le h = grind (arith, nat_tests)
had_along q false false false size x y f le h = h

-- at a moment one scene eases to another at a vertex: there it is closed, touched and taken from no more
pub record Eases (vertices : List Vertex) (jobs less : List Job) (barred other : List ℕ) (m v : ℕ) : Type 0 where
  pub closed : IsTrue (is_closed (with_bars vertices less other) m v) →
      IsTrue (is_closed (with_bars vertices jobs barred) m v)
  pub touched : IsTrue (is_touched (with_bars vertices less other) m v) →
      IsTrue (is_touched (with_bars vertices jobs barred) m v)
  pub taken : taken_at less m v ≤ taken_at jobs m v

-- then what is available in the one is available in the other
module _ (vertices : List Vertex) (jobs less : List Job) (barred other : List ℕ) (m : ℕ) where
  abbrev s : Scene
  s = with_bars vertices jobs barred

  abbrev t : Scene
  t = with_bars vertices less other

  pub eased : (c : Claim) → Eases vertices jobs less barred other m (vertex_of c) → IsTrue (is_available_at s m c) →
      IsTrue (is_available_at t m c)
  eased (Take v q) e h =
      had_along q (is_closed t m v) (is_closed s m v) (is_pool vertices v) (size_of vertices v) (taken_at less m v)
      (taken_at jobs m v) e.closed e.taken h
  eased (Hold v) e h =
      let b = and_parts (not (is_closed s m v)) (not (is_touched s m v)) h in
      and_from _ _ (not_along (is_closed t m v) (is_closed s m v) e.closed b.0)
      (not_along (is_touched t m v) (is_touched s m v) e.touched b.1)
  eased (Pass v) e h = not_along (is_closed t m v) (is_closed s m v) e.closed h

-- whether a job is live and has a claim that passes the test
abbrev pub lives_with : ℕ → (Claim → Bool) → Job → Bool
lives_with m test job = is_live m job && list_any test job.claims

-- what a job takes of a vertex where it is live
abbrev pub takes_live : ℕ → ℕ → Job → ℕ
takes_live m v job = if is_live m job then sum_by (take_of v) job.claims else 0

module _ (vertices : List Vertex) (jobs extra : List Job) where
  pub live_append : (m : ℕ) (test : Claim → Bool) →
      some_live_claim (jobs ++ extra) m test ≡ (some_live_claim jobs m test || some_live_claim extra m test)
  live_append m test = list_any-append (lives_with m test) jobs extra

  live_more : (m : ℕ) (test : Claim → Bool) → IsTrue (some_live_claim jobs m test) →
      IsTrue (some_live_claim (jobs ++ extra) m test)
  live_more m test h = live_append m test ∙ or_left _ (some_live_claim extra m test) h

  pub taken_append : (m v : ℕ) → taken_at (jobs ++ extra) m v ≡ taken_at jobs m v + taken_at extra m v
  taken_append m v = sum_by-append (takes_live m v) jobs extra

  eases_back : (barred : List ℕ) (m v : ℕ) → Eases vertices (jobs ++ extra) jobs barred barred m v
  eases_back barred m v = record {
    closed = or_along (some_live_claim jobs m (holds_over vertices v)) (is_withheld (with_bars vertices jobs barred) v)
        (some_live_claim (jobs ++ extra) m (holds_over vertices v)) _ (live_more m (holds_over vertices v)) (λ h. h);
    touched = or_along (some_live_claim jobs m (is_on_or_below vertices v))
        (has_withheld (with_bars vertices jobs barred) v)
        (some_live_claim (jobs ++ extra) m (is_on_or_below vertices v)) _ (live_more m (is_on_or_below vertices v))
        (λ h. h);
    taken = omega (arith, taken_append m v);
  }

  -- what is available with more jobs was available with fewer
  pub available_back : (barred : List ℕ) (w : Window) (c : Claim) →
      IsAvailable (with_bars vertices (jobs ++ extra) barred) w c → IsAvailable (with_bars vertices jobs barred) w c
  available_back barred w c a m lo hi =
      eased vertices (jobs ++ extra) jobs barred barred m c (eases_back barred m (vertex_of c)) (a m lo hi)

-- where no live claim passes the test, and a claim that doesn't takes nothing, nothing is taken
module _ (m v : ℕ) (test : Claim → Bool) (none : (x : Claim) → (IsTrue (test x) → ⊥) → take_of v x ≡ 0) where
  claims_take_none : (claims : List Claim) → (IsTrue (list_any test claims) → ⊥) → sum_by (take_of v) claims ≡ 0
  claims_take_none [] n = refl
  claims_take_none (x ∷ xs) n =
      let a : take_of v x ≡ 0 = none x (λ h. n (or_left (test x) (list_any test xs) h)) in
      let b : sum_by (take_of v) xs ≡ 0 = claims_take_none xs (λ h. n (or_right (test x) (list_any test xs) h)) in
      omega (arith, sum_by-cons (take_of v) x xs)

  if_live : (live : Bool) (n : ℕ) → (IsTrue live → n ≡ 0) → (if live then n else 0) ≡ 0
  if_live true n f = f refl
  if_live false n f = refl

  pub none_taken : (jobs : List Job) → (IsTrue (some_live_claim jobs m test) → ⊥) → taken_at jobs m v ≡ 0
  none_taken [] n = refl
  none_taken (job ∷ jobs) n =
      let a : takes_live m v job ≡ 0 = if_live (is_live m job) (sum_by (take_of v) job.claims)
      (λ l. claims_take_none job.claims
      (λ h. n (or_left (lives_with m test job) (some_live_claim jobs m test) (and_from _ _ l h)))) in
      let b : taken_at jobs m v ≡ 0 =
      none_taken jobs (λ h. n (or_right (lives_with m test job) (some_live_claim jobs m test) h)) in
      omega (arith, sum_by-cons (takes_live m v) job jobs)

module _ (vertices : List Vertex) (first : ParentsFirst vertices) where
  -- what is at or below a vertex of the graph is a vertex of the graph
  below_in_graph : (w u : ℕ) → u < length vertices → IsTrue (is_at_or_below vertices w u) → w < length vertices
  below_in_graph w u lt h = let s = steps_of vertices first w u h in from_steps s.0 s.1
    where
      from_parent : (n : ℕ) (o : Option ℕ) → parent_of vertices w ≡ o → up vertices n o ≡ Some u → w < length vertices
      from_parent n None e f = absurd (let none : None ≡ Some u = sym (up-None vertices n) ∙ f in cc)
      from_parent n (Some p) e f = has_parent vertices w p e

      from_steps : (n : ℕ) → up vertices n (Some w) ≡ Some u → w < length vertices
      from_steps zero e = let same : w ≡ u = cc in subst (λ (x : ℕ). x < length vertices) (sym same) lt
      from_steps (suc n) e = from_parent n (parent_of vertices w) refl e

  module _ (jobs : List Job) (m v u : ℕ) (lt : u < length vertices) (under : IsTrue (is_at_or_below vertices u v)) where
    -- a hold over a vertex below v is over v, or is on v or below it
    hold_over : (x : Claim) → IsTrue (holds_over vertices u x) →
        IsTrue (holds_over vertices v x) ⊎ IsTrue (is_on_or_below vertices v x)
    hold_over (Take y q) k = absurd (true≢false (sym k))
    hold_over (Pass y) k = absurd (true≢false (sym k))
    hold_over (Hold y) k = elim (above_is_chain vertices first u v y lt under k) [ inl a ↦ inl a | inr b ↦ inr b ]

    on_below : (x : Claim) → IsTrue (is_on_or_below vertices u x) → IsTrue (is_on_or_below vertices v x)
    on_below x k =
        below_trans vertices first (vertex_of x) u v (below_in_graph (vertex_of x) u lt k) k under

    no_take : (x : Claim) → (IsTrue (is_on_or_below vertices v x) → ⊥) → take_of u x ≡ 0
    no_take (Hold y) n = refl
    no_take (Pass y) n = refl
    no_take (Take y q) n = elim (eqb_tells y u) [
      | inl is ↦ absurd (n (subst (λ (z : ℕ). IsTrue (is_at_or_below vertices z v)) (sym is.1) under))
      | inr differ ↦ ap (λ b. if b then q else 0) differ.0
    ]

    -- where v is neither closed nor touched, no live claim is in the way at a vertex below it
    module _ (before : List Job) (barred : List ℕ)
        (open' : IsTrue (is_closed (with_bars vertices jobs barred) m v) → ⊥)
        (clear : IsTrue (is_touched (with_bars vertices jobs barred) m v) → ⊥) where
      no_hold : IsTrue (some_live_claim jobs m (holds_over vertices v)) → ⊥
      no_hold k = open' (or_left _ (is_withheld (with_bars vertices jobs barred) v) k)

      no_claim : IsTrue (some_live_claim jobs m (is_on_or_below vertices v)) → ⊥
      no_claim k = clear (or_left _ (has_withheld (with_bars vertices jobs barred) v) k)

      none_over : IsTrue (some_live_claim jobs m (holds_over vertices u)) → ⊥
      none_over k =
          elim (live_either (holds_over vertices u) (holds_over vertices v) (is_on_or_below vertices v) hold_over jobs m
          k) [
            | inl x ↦ no_hold x
            | inr y ↦ no_claim y
          ]

      none_on : IsTrue (some_live_claim jobs m (is_on_or_below vertices u)) → ⊥
      none_on k =
          elim (live_either (is_on_or_below vertices u) (is_on_or_below vertices v) (is_on_or_below vertices v)
          (λ x h. inl (on_below x h)) jobs m k) [ inl x ↦ no_claim x | inr y ↦ no_claim y ]

      eases_below : Eases vertices before jobs barred barred m u
      eases_below = record {
        closed = or_along (some_live_claim jobs m (holds_over vertices u))
            (is_withheld (with_bars vertices jobs barred) u) (some_live_claim before m (holds_over vertices u)) _
            (λ k. absurd (none_over k)) (λ h. h);
        touched = or_along (some_live_claim jobs m (is_on_or_below vertices u))
            (has_withheld (with_bars vertices jobs barred) u) (some_live_claim before m (is_on_or_below vertices u)) _
            (λ k. absurd (none_on k)) (λ h. h);
        taken = (let z : taken_at jobs m u ≡ 0 = none_taken m u (is_on_or_below vertices v) no_take jobs no_claim in
            omega arith);
      }

  -- where a vertex may still be held, what was available at it and below it still is
  pub held_opens : (before jobs : List Job) (barred : List ℕ) (w : Window) (v : ℕ) →
      IsAvailable (with_bars vertices jobs barred) w (Hold v) → (c : Claim) → vertex_of c < length vertices →
      IsTrue (is_at_or_below vertices (vertex_of c) v) → IsAvailable (with_bars vertices before barred) w c →
      IsAvailable (with_bars vertices jobs barred) w c
  held_opens before jobs barred w v held c lt under a m lo hi =
      let s = with_bars vertices jobs barred in
      let k = and_parts (not (is_closed s m v)) (not (is_touched s m v)) (held m lo hi) in
      eased vertices before jobs barred barred m c
      (eases_below jobs m v (vertex_of c) lt under before barred (not_to (is_closed s m v) k.0)
      (not_to (is_touched s m v) k.1)) (a m lo hi)
