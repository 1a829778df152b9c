-- A job whose claims are separate and available, and whose takes are from pools, oversubscribes no vertex; and no fewer
-- jobs do.
use Rattle.std.proofs.Common.{◌≡◌, ℕ, ◌+◌, ◌-◌, ◌<◌, ◌≤◌, nat_le, nat_lt, Bool, true, false, not}
use Rattle.std.proofs.Common.{◌||◌, cond, List, [], ◌∷◌, ◌++◌, length, inl, inr, refl}
use Rattle.std.proofs.Common.{sym, ◌∙◌, ap, subst, arith, IsTrue, true≢false}
use Rattle.std.specs.List.{AllByRecursion, list_any, sum_by}
use Rattle.std.specs.Option.{option_map_or}
use Rattle.std.proofs.lemmas.Bool.{cases_lt, and_parts, or_cases, or_left, or_right, false_from_ne_true}
use Rattle.std.proofs.lemmas.Bool.Decides.{nat_tests, eqb_tells}
use Rattle.std.proofs.lemmas.Option.{slice_get_past}
use Rattle.std.proofs.lemmas.List.Sums.{sum_by-cons}
use Rattle.flux_defs.specs.declared.vertices.Vertex.{Vertex}
use Rattle.flux_defs.specs.declared.claims.Claim.{Claim}
use Rattle.flux_defs.specs.declared.claims.Claim.TheVariants.{Take, Hold, Pass}
use Rattle.flux_defs.specs.declared.claims.Job.{Job}
use Rattle.flux_defs.specs.declared.claims.Window.{Window}
use Rattle.flux_defs.specs.Graph.{ResourceGraph, is_at_or_below, is_pool, is_pool_kind, size_of}
use Rattle.flux_defs.specs.ValidGraph.{StandsInPreorder}
use Rattle.flux_defs.specs.Jobs.{is_live, some_live_claim, holds_over, is_on_or_below, take_of}
use Rattle.flux_defs.specs.Closed.{no_bars, is_closed, is_touched, is_withheld, has_withheld}
use Rattle.flux_defs.specs.Free.{taken_at}
use Rattle.flux_defs.specs.Available.{IsAvailable}
use Rattle.flux_defs.specs.Sound.{AreSeparate, AreAllSeparate}
use Rattle.flux_defs.specs.Present.{up_with}
use Rattle.list_laws.proofs.Lists.{all_append}
use Rattle.graph_laws.proofs.Containment.{above_is_chain, not_to}
use Rattle.graph_laws.proofs.Preorder.{parents_first}
use Rattle.sound_laws.proofs.Sounds.{takes_one}
use Rattle.book_laws.specs.Amounts.{live_sum, use_of, TakesFromPool}
use Rattle.book_laws.specs.TotalLaws.{AreFair}
use Rattle.book_laws.proofs.Sums.{cond_none, live_none, live_cons, live_append, live_push}
use Rattle.flux_laws.proofs.Live.{live_either}
use Rattle.book_laws.proofs.Sums.{live_unless, sum_same, sum_unless}
use Rattle.book_laws.proofs.Within.{closed_is, use_uncovered}

module _ (g : ResourceGraph) (o : StandsInPreorder g) where
  -- of separate claims one that covers a vertex leaves the others nothing of it
  covered_apart : (u : ℕ) → u < length g.vertices →
      (c d : Claim) → IsTrue (holds_over g.vertices u c) → AreSeparate g.vertices c d → use_of g.vertices u d ≡ 0
  covered_apart u lt (Take p q) d covers apart = absurd (true≢false (sym covers))
  covered_apart u lt (Pass p) d covers apart = absurd (true≢false (sym covers))
  covered_apart u lt (Hold h) (Pass p) covers apart = refl
  covered_apart u lt (Hold h) (Take p q) covers apart = elim (eqb_tells p u) [
    | inl same ↦ absurd (apart.1.first (subst (λ (x : ℕ). IsTrue (is_at_or_below g.vertices x h)) (sym same.1) covers))
    | inr differ ↦ ap (λ b. cond b q 0) differ.0
  ]
  covered_apart u lt (Hold h) (Hold k) covers apart =
      ap (λ b. cond b (size_of g.vertices u) 0)
      (false_from_ne_true (is_at_or_below g.vertices u k)
      (λ both. elim (above_is_chain g.vertices (parents_first g o) u h k lt covers both) [
        | inl up ↦ apart.1.second up
        | inr down ↦ apart.1.first down
      ]))

  apart_swap : (c d : Claim) → AreSeparate g.vertices c d → AreSeparate g.vertices d c
  apart_swap c d apart = ((λ e. apart.0 (sym e)), record { first = apart.1.second; second = apart.1.first })

  others_none : (u : ℕ) → u < length g.vertices → (c : Claim) → IsTrue (holds_over g.vertices u c) →
      (cs : List Claim) → AllByRecursion (AreSeparate g.vertices c) cs → sum_by (use_of g.vertices u) cs ≡ 0
  others_none u lt c covers [] apart = refl
  others_none u lt c covers (d ∷ ds) apart =
      let one = covered_apart u lt c d covers apart.0 in
      let rest = others_none u lt c covers ds apart.1 in
      omega (arith, sum_by-cons (use_of g.vertices u) d ds)

  -- nor does it leave an earlier one anything
  earlier_none : (u : ℕ) → u < length g.vertices → (c : Claim) (cs : List Claim) → AllByRecursion
      (AreSeparate g.vertices c) cs → IsTrue (list_any (holds_over g.vertices u) cs) → use_of g.vertices u c ≡ 0
  earlier_none u lt c [] apart some = absurd (true≢false (sym some))
  earlier_none u lt c (d ∷ ds) apart some =
      elim (or_cases (holds_over g.vertices u d) (list_any (holds_over g.vertices u) ds) some) [
        | inl here ↦ covered_apart u lt d c here (apart_swap c d apart.0)
        | inr later ↦ earlier_none u lt c ds apart.1 later
      ]

  use_most : (u : ℕ) (c : Claim) → IsTrue (holds_over g.vertices u c) → use_of g.vertices u c ≤ size_of g.vertices u
  use_most u (Take p q) covers = absurd (true≢false (sym covers))
  use_most u (Pass p) covers = absurd (true≢false (sym covers))
  use_most u (Hold h) covers = let e : use_of g.vertices u (Hold h) ≡ size_of g.vertices u =
      ap (λ b. cond b (size_of g.vertices u) 0) covers in omega arith

  -- separate claims of which one covers a vertex use at most its units
  covered_most : (u : ℕ) → u < length g.vertices → (cs : List Claim) → AreAllSeparate g.vertices cs →
      IsTrue (list_any (holds_over g.vertices u) cs) → sum_by (use_of g.vertices u) cs ≤ size_of g.vertices u
  covered_most u lt [] apart some = absurd (true≢false (sym some))
  covered_most u lt (c ∷ cs) apart some = go (holds_over g.vertices u c) refl (covered_most u lt cs apart.1)
    where
      go : (b : Bool) → holds_over g.vertices u c ≡ b →
          (IsTrue (list_any (holds_over g.vertices u) cs) → sum_by (use_of g.vertices u) cs ≤ size_of g.vertices u) →
          sum_by (use_of g.vertices u) (c ∷ cs) ≤ size_of g.vertices u
      go true e rest =
          let le = use_most u c e in
          let none = others_none u lt c e cs apart.0 in
          omega (arith, sum_by-cons (use_of g.vertices u) c cs)
      go false e rest =
          let later : IsTrue (list_any (holds_over g.vertices u) cs) =
          sym (ap (λ b. b || list_any (holds_over g.vertices u) cs) e) ∙ some in
          let none = earlier_none u lt c cs apart.0 later in
          let le = rest later in
          omega (arith, sum_by-cons (use_of g.vertices u) c cs)

  module _ (jobs : List Job) (job : Job) (fair : AreFair g.vertices jobs) where
    abbrev span : Window
    span = record { from = job.start; to = job.end }

    abbrev MayHave : Claim → Type 0
    MayHave c = IsAvailable (no_bars g.vertices (up_with jobs)) span c × TakesFromPool g.vertices c

    -- where a hold of the job covers a vertex, the other jobs use nothing of it
    free_under : (m u h : ℕ) → u < length g.vertices → IsTrue (is_at_or_below g.vertices u h) →
        is_closed (no_bars g.vertices (up_with jobs)) m h ≡ false → is_touched (no_bars g.vertices (up_with jobs)) m h
        ≡ false →
        live_sum (use_of g.vertices u) jobs m ≡ 0
    free_under m u h lt under closed touched =
        live_unless (λ c. holds_over g.vertices h c || is_on_or_below g.vertices h c)
        (use_of g.vertices u) (λ c. 0) unused jobs m
        (false_from_ne_true (some_live_claim jobs m (λ c. holds_over g.vertices h c || is_on_or_below g.vertices h c))
        (λ some. elim (live_either (λ c. holds_over g.vertices h c || is_on_or_below g.vertices h c)
        (holds_over g.vertices h) (is_on_or_below g.vertices h)
        (λ c both. or_cases (holds_over g.vertices h c) (is_on_or_below g.vertices h c) both) jobs m some) [
          | inl held ↦ true≢false (sym (or_left _ (is_withheld (no_bars g.vertices (up_with jobs)) h) held) ∙ closed)
          | inr on ↦ true≢false (sym (or_left _ (has_withheld (no_bars g.vertices (up_with jobs)) h) on) ∙ touched)
        ]))
        ∙ live_none jobs m
      where
        unused : (c : Claim) →
            (holds_over g.vertices h c || is_on_or_below g.vertices h c) ≡ false → use_of g.vertices u c ≡ 0
        unused (Pass p) none = refl
        unused (Take p q) none = elim (eqb_tells p u) [
          | inl same ↦ absurd
              (true≢false (sym (subst (λ (x : ℕ). IsTrue (is_at_or_below g.vertices x h)) (sym same.1) under) ∙ none))
          | inr differ ↦ ap (λ b. cond b q 0) differ.0
        ]
        unused (Hold k) none =
            ap (λ b. cond b (size_of g.vertices u) 0)
            (false_from_ne_true (is_at_or_below g.vertices u k)
            (λ both. elim (above_is_chain g.vertices (parents_first g o) u h k lt under both) [
              | inl up ↦
                  true≢false (sym (or_left (is_at_or_below g.vertices h k) (is_at_or_below g.vertices k h) up) ∙ none)
              | inr down ↦ true≢false
                  (sym (or_right (is_at_or_below g.vertices h k) (is_at_or_below g.vertices k h) down) ∙ none)
            ]))

    -- a claim that covers a vertex and may be had
    covered_free : (m u : ℕ) → u < length g.vertices → job.start ≤ m → m < job.end →
        (c : Claim) → MayHave c → IsTrue (holds_over g.vertices u c) → live_sum (use_of g.vertices u) jobs m ≡ 0
    covered_free m u lt lo hi (Take p q) had covers = absurd (true≢false (sym covers))
    covered_free m u lt lo hi (Pass p) had covers = absurd (true≢false (sym covers))
    covered_free m u lt lo hi (Hold h) had covers =
        let both = and_parts (not (is_closed (no_bars g.vertices (up_with jobs)) m h))
        (not (is_touched (no_bars g.vertices (up_with jobs)) m h)) (had.0 m lo hi) in
        free_under m u h lt covers
        (false_from_ne_true (is_closed (no_bars g.vertices (up_with jobs)) m h)
        (not_to (is_closed (no_bars g.vertices (up_with jobs)) m h) both.0))
        (false_from_ne_true (is_touched (no_bars g.vertices (up_with jobs)) m h)
        (not_to (is_touched (no_bars g.vertices (up_with jobs)) m h) both.1))

    some_covers : (m u : ℕ) → u < length g.vertices → job.start ≤ m → m < job.end → (cs : List Claim) → AllByRecursion
        MayHave cs → IsTrue (list_any (holds_over g.vertices u) cs) → live_sum (use_of g.vertices u) jobs m ≡ 0
    some_covers m u lt lo hi [] had some = absurd (true≢false (sym some))
    some_covers m u lt lo hi (c ∷ cs) had some =
        elim (or_cases (holds_over g.vertices u c) (list_any (holds_over g.vertices u) cs) some) [
          | inl here ↦ covered_free m u lt lo hi c had.0 here
          | inr later ↦ some_covers m u lt lo hi cs had.1 later
        ]

    -- a take that may be had
    take_fits : (m u q : ℕ) → job.start ≤ m →
        m < job.end → MayHave (Take u q) → live_sum (use_of g.vertices u) jobs m + q ≤ size_of g.vertices u
    take_fits m u q lo hi had =
        by_close (is_closed (no_bars g.vertices (up_with jobs)) m u) refl (is_pool g.vertices u) had.1 (had.0 m lo hi)
      where
        by_close : (b : Bool) → is_closed (no_bars g.vertices (up_with jobs)) m u ≡ b → (pool : Bool) → pool ≡ true →
            IsTrue (nat_le q (cond b 0 (cond pool (size_of g.vertices u - taken_at jobs m u) 1))) →
            live_sum (use_of g.vertices u) jobs m + q ≤ size_of g.vertices u
        by_close true e pool is h = let le = fair.within m u in
            let none : q ≤ 0 = grind (arith, nat_tests) in omega arith
        by_close false e true is h =
            let same : live_sum (use_of g.vertices u) jobs m ≡ taken_at jobs m u =
            live_unless (holds_over g.vertices u) (use_of g.vertices u)
            (take_of u) (use_uncovered g.vertices u) jobs m (sym (closed_is g.vertices jobs m u) ∙ e) in
            let le = fair.within m u in
            let room : q ≤ size_of g.vertices u - taken_at jobs m u = grind (arith, nat_tests) in
            omega arith
        by_close false e false is h = absurd (true≢false (sym is))

    -- past the graph there is no pool
    unpooled : (u : ℕ) → length g.vertices ≤ u → is_pool g.vertices u ≡ false
    unpooled u past =
        ap (λ s. option_map_or (λ x. is_pool_kind g.vertices x.kind) s false) (slice_get_past g.vertices u past)

    takes_fit : (m u : ℕ) → job.start ≤ m → m < job.end → AllByRecursion MayHave job.claims →
        AreAllSeparate g.vertices job.claims → list_any (holds_over g.vertices u) job.claims ≡ false →
        live_sum (use_of g.vertices u) jobs m + sum_by (use_of g.vertices u) job.claims ≤ size_of g.vertices u
    takes_fit m u lo hi had apart none =
        let same = sum_unless
        (holds_over g.vertices u) (use_of g.vertices u) (take_of u) (use_uncovered g.vertices u) job.claims none in
        elim (takes_one g.vertices MayHave u job.claims apart had) [
          | inl nothing ↦ (let le = fair.within m u in omega arith)
          | inr some ↦ (let fits = take_fits m u some.0 lo hi some.2 in
              let e : sum_by (take_of u) job.claims ≡ some.0 = some.1 in omega arith)
        ]

    past_fits : (m u : ℕ) →
        length g.vertices ≤ u → AllByRecursion MayHave job.claims → AreAllSeparate g.vertices job.claims →
        live_sum (use_of g.vertices u) jobs m + sum_by (use_of g.vertices u) job.claims ≤ size_of g.vertices u
    past_fits m u past had apart =
        let le = fair.within m u in
        let size : size_of g.vertices u ≡ 0 =
        ap (λ s. option_map_or (λ x. x.size) s 0) (slice_get_past g.vertices u past) in
        let same : sum_by (use_of g.vertices u) job.claims ≡ sum_by (take_of u) job.claims =
        sum_same (use_of g.vertices u) (take_of u) job.claims (nothing size) in
        elim (takes_one g.vertices MayHave u job.claims apart had) [
          | inl none ↦ omega arith
          | inr some ↦ absurd (true≢false (sym some.2.1 ∙ unpooled u past))
        ]
      where
        nothing : size_of g.vertices u ≡ 0 → (c : Claim) → use_of g.vertices u c ≡ take_of u c
        nothing e (Take p q) = refl
        nothing e (Hold h) =
            ap (λ n. cond (is_at_or_below g.vertices u h) n 0) e ∙ cond_none (is_at_or_below g.vertices u h)
        nothing e (Pass p) = refl

    module _ (had : AllByRecursion MayHave job.claims) (apart : AreAllSeparate g.vertices job.claims) where
      job_fits : (m u : ℕ) → (live : Bool) → is_live m job ≡ live → live_sum
          (use_of g.vertices u) jobs m + cond live (sum_by (use_of g.vertices u) job.claims) 0 ≤ size_of g.vertices u
      job_fits m u false e = let le = fair.within m u in omega arith
      job_fits m u true e =
          let b = and_parts (nat_le job.start m) (nat_lt m job.end) e in
          let lo : job.start ≤ m = grind (arith, nat_tests) in
          let hi : m < job.end = grind (arith, nat_tests) in
          elim (cases_lt u (length g.vertices)) [
            | inl lt ↦ by_cover lt lo hi (list_any (holds_over g.vertices u) job.claims) refl
            | inr past ↦ past_fits m u past had apart
          ]
        where
          by_cover : u < length g.vertices →
              job.start ≤ m → m < job.end → (c : Bool) → list_any (holds_over g.vertices u) job.claims ≡ c →
              live_sum (use_of g.vertices u) jobs m + sum_by (use_of g.vertices u) job.claims ≤ size_of g.vertices u
          by_cover lt lo hi true some =
              let none = some_covers m u lt lo hi job.claims had some in
              let le = covered_most u lt job.claims apart some in
              omega arith
          by_cover lt lo hi false none = takes_fit m u lo hi had apart none

      pools_of : (cs : List Claim) → AllByRecursion MayHave cs → AllByRecursion (TakesFromPool g.vertices) cs
      pools_of [] h = tt
      pools_of (c ∷ cs) h = (h.0.1, pools_of cs h.1)

      pub fair_added : AreFair g.vertices (jobs ++ job ∷ [])
      fair_added = record {
        within = λ m u. (let fits = job_fits m u (is_live m job) refl in
            omega (arith, live_push (use_of g.vertices u) jobs job m));
        pools = all_append (λ j. AllByRecursion (TakesFromPool g.vertices) j.claims) jobs
            (job ∷ []) fair.pools (pools_of job.claims had, tt);
      }

-- without one of them
pub all_removed : {X : Type 0} (P : X → Type 0) (before : List X) (x : X) (after : List X) →
    AllByRecursion P (before ++ x ∷ after) → AllByRecursion P (before ++ after)
all_removed P [] x after h = h.1
all_removed P (y ∷ ys) x after h = (h.0, all_removed P ys x after h.1)

pub fair_removed : (vertices : List Vertex) (before : List Job) (job : Job) (after : List Job) →
    AreFair vertices (before ++ job ∷ after) → AreFair vertices (before ++ after)
fair_removed vertices before job after fair = record {
  within = λ m u. (let f = use_of vertices u in let le = fair.within m u in
      omega (arith, live_append f before (job ∷ after) m, live_append f before after m, live_cons f job after m));
  pools = all_removed (λ j. AllByRecursion (TakesFromPool vertices) j.claims) before job after fair.pools;
}

pub fair_none : (vertices : List Vertex) → AreFair vertices []
fair_none vertices = record { within = λ m u. omega arith; pools = tt }
