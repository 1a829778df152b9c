-- The accounts of a job more and of a job less.
use Rattle.std.proofs.Common.{◌≡◌, ℕ, ◌+◌, ◌-◌, ◌<◌, ◌≤◌, cond, Bool, true, false, List, [], ◌∷◌, ◌++◌, length}
use Rattle.std.proofs.Common.{append-nil, sym, ◌∙◌, ap, subst, arith}
use Rattle.std.specs.List.{AllByRecursion, sum_by}
use Rattle.std.specs.Arc.{arc_value}
use Rattle.std.proofs.lemmas.List.Sums.{sum_by-cons, sum_by-append, sum_by-le-sum_by}
use Rattle.std.proofs.lemmas.Option.{slice_get_within}
use Rattle.flux_defs.specs.declared.vertices.Vertex.{Vertex}
use Rattle.flux_defs.specs.declared.claims.Claim.{Claim}
use Rattle.flux_defs.specs.declared.claims.Claim.TheVariants.{Take, Hold, Pass}
use Rattle.flux_defs.specs.declared.claims.Job.{Job}
use Rattle.flux_defs.specs.Graph.{ResourceGraph}
use Rattle.flux_defs.specs.ValidGraph.{StandsInPreorder}
use Rattle.flux_defs.specs.Jobs.{is_live, take_of}
use Rattle.list_laws.proofs.Lists.{all_append}
use Rattle.list_laws.proofs.Tests.{one_at_most}
use Rattle.planner_points.specs.declared.spans.Span.{Span}
use Rattle.planner_points.specs.Spans.{span_of, free_at}
use Rattle.book_laws.specs.Amounts.{live_sum, is_hold, hold_of, part_within, use_of}
use Rattle.book_laws.specs.Grouped.{time_of, grouped, times_of, count_claims}
use Rattle.book_laws.specs.TotalLaws.{AreFair}
use Rattle.book_laws.proofs.Sums.{job_sum, live_most}
use Rattle.book_laws.proofs.Totals.{part_room}
use Rattle.book_laws.proofs.Adding.{all_removed, fair_removed}
use Rattle.book_laws.proofs.GroupedLaws.{times_append}
use Rattle.book_laws.proofs.Views.{room_for}
use Rattle.vertex_planners.specs.declared.amounts.Amounts.{Amounts}
use Rattle.vertex_planners.specs.Numbers.{amount_at}
use Rattle.vertex_planners.specs.Lists.{items_of, AreWide, at_place}
use Rattle.vertex_planners.specs.Kept.{Gains, Loses, RoomAt, SpansAt, AtPlaces}
use Rattle.vertex_planners.proofs.PlaceLaws.{same_place, place_len}
use Rattle.vertex_accounts.specs.declared.quantities.Quantity.{Quantity}
use Rattle.vertex_accounts.specs.declared.quantities.Quantity.TheVariants.{Holds, Claims, Takes, Units}
use Rattle.vertex_accounts.specs.declared.counted.Counted.{Counted}
use Rattle.vertex_accounts.specs.declared.books.Accounts.{Accounts}
use Rattle.vertex_accounts.specs.Quantities.{amount_in, total_in, claim_count, part_count, most_claims}
use Rattle.vertex_accounts.specs.Counts.{AreNumbers}
use Rattle.vertex_accounts.specs.Books.{ArePlanned, AreAllKept, IsOnGraph, AreAccounts, OfEachClaim, HoldsNoWider}
use Rattle.vertex_accounts.specs.Books.{HoldNoWider, CountsNoNarrower, CountNoNarrower}
use Rattle.vertex_accounts.proofs.AccountLaws.{gained_kept, lost_kept, spans_there}
use Rattle.vertex_accounts.proofs.OwnLaws.{part_less}
use Rattle.vertex_accounts.proofs.WidthLaws.{each_claim, claim_wider, claim_narrower}

-- a number of at most 1 for each claim sums to at most the number of claims
few_sum : (f : Claim → ℕ) → ((c : Claim) → f c ≤ 1) → (cs : List Claim) → sum_by f cs ≤ length cs
few_sum f h [] = omega arith
few_sum f h (c ∷ cs) = let a = sum_by-cons f c cs in let b = h c in let r = few_sum f h cs in omega (arith, a, b, r)

live_few : (f : Claim → ℕ) → ((c : Claim) → f c ≤ 1) → (jobs : List Job) (m : ℕ) → live_sum f jobs m ≤ count_claims jobs
live_few f h jobs m =
    sum_by-le-sum_by (job_sum f m) (λ job. length job.claims) jobs (λ job. by_life (is_live m job) job)
  where
    by_life : (b : Bool) (job : Job) → cond b (sum_by f job.claims) 0 ≤ length job.claims
    by_life true job = few_sum f h job.claims
    by_life false job = omega arith

take_used : (vertices : List Vertex) (v : ℕ) (c : Claim) → take_of v c ≤ use_of vertices v c
take_used vertices v (Take u q) = omega arith
take_used vertices v (Hold u) = omega arith
take_used vertices v (Pass u) = omega arith

-- fair jobs of few claims fit every total
pub fits_all : (g : ResourceGraph) → StandsInPreorder g →
    (jobs : List Job) → AreFair g.vertices jobs → count_claims jobs ≤ most_claims → (q : Quantity) (v m : ℕ) →
    live_sum (amount_in g.vertices q v) jobs m ≤ total_in g.vertices q v
fits_all g o jobs fair few Holds v m = let le = live_few (hold_of v) (λ c. one_at_most (is_hold v c)) jobs m in
    omega (arith, le, few)
fits_all g o jobs fair few Claims v m = let le = live_few (claim_count g.vertices v) (λ c. one_at_most _) jobs m in
    omega (arith, le, few)
fits_all g o jobs fair few Takes v m =
    let le = live_most (take_of v) (use_of g.vertices v) jobs m (take_used g.vertices v) in
    let within = fair.within m v in
    omega (arith, le, within)
fits_all g o jobs fair few (Units capacities) v m =
    let le = live_most (part_count g.vertices capacities.kind v) (part_within g.vertices capacities.kind v) jobs m
    (part_less g.vertices capacities.kind v) in
    let room = part_room g o capacities.kind v jobs m fair.within fair.pools in
    omega (arith, le, room)

-- the counts of claims
pub count_middle : (before : List Job) (job : Job) (after : List Job) →
    count_claims (before ++ job ∷ after) ≡ length job.claims + count_claims (before ++ after)
count_middle before job after =
    let n = λ (j : Job). length j.claims in
    let a = sum_by-append n before (job ∷ after) in
    let b = sum_by-append n before after in
    let c = sum_by-cons n job after in
    omega (arith, a, b, c)

pub count_push : (jobs : List Job) (job : Job) → count_claims (jobs ++ job ∷ []) ≡ count_claims jobs + length job.claims
count_push jobs job = let a = count_middle jobs job [] in
    let b = ap count_claims (append-nil jobs) in omega (arith, a, b)

module _ {P : Type 0} (total_of : P → ℕ) (stands_for : P → List Span → Type 0) where
  -- every planner has room for what the claims of a job amount to that fits beside the others
  pub room_in : ((p : P) (some others : List Span) →
      stands_for p some → stands_for p others → (m : ℕ) → free_at (total_of p) some m ≡ free_at (total_of p) others m) →
      (g : ResourceGraph) → StandsInPreorder g → (jobs : List Job) (job : Job) →
      AreFair g.vertices (jobs ++ job ∷ []) → count_claims (jobs ++ job ∷ []) ≤ most_claims →
      (counted : Counted) (items : List (List P)) (places : List Amounts) →
      AreNumbers g.vertices counted.quantities job.claims places →
      AreAllKept total_of stands_for g.vertices jobs counted items →
      RoomAt total_of stands_for (time_of job) places items
  room_in same_free g
      o jobs job fair few counted items places numbers kept k amounts at v p there spans stands m lo hi =
      let (q, of) = same_place places counted.quantities k amounts numbers.len at in
      let f = amount_in g.vertices q v in
      let is = kept k q of in
      let same = same_free p spans (grouped f jobs) stands (is.spans v p there) m in
      let total = is.totals v p there in
      let fits =
      room_for f jobs job (total_in g.vertices q v) (λ j. fits_all g o (jobs ++ job ∷ []) fair few q v j) m lo hi in
      let sum = numbers.sums k q amounts of at v in
      subst (λ (n : ℕ). amount_at amounts v ≤ n) (sym (same ∙ ap (λ (t : ℕ). free_at t (grouped f jobs) m) total))
      (subst (λ (n : ℕ). n ≤ free_at (total_in g.vertices q v) (grouped f jobs) m) (sym sum) fits)

  module _ (vertices : List Vertex)
      (before : List Job) (job : Job) (after : List Job) (counted : Counted) (places : List Amounts)
      (numbers : AreNumbers vertices counted.quantities job.claims places) where
    -- every planner has the job's span
    pub spans_in : (items : List (List P)) → AreAllKept total_of stands_for vertices
        (before ++ job ∷ after) counted items → SpansAt stands_for (time_of job) places items
    spans_in items kept k amounts at =
        let (q, of) = same_place places counted.quantities k amounts numbers.len at in
        spans_there total_of stands_for (total_in vertices q) (amount_in vertices q) job
        (amount_at amounts) before after (at_place k items) (numbers.sums k q amounts of at) (kept k q of)

    module _ (old new : List (List P)) (len : length new ≡ length old)
        (was : AreWide (length counted.quantities) old) (wide : AreWide (length counted.quantities) new) where
      lens : (k : ℕ) → k < length counted.quantities → length (at_place k new) ≡ length (at_place k old)
      lens k lt = place_len (length counted.quantities) k lt new wide
          ∙ len ∙ sym (place_len (length counted.quantities) k lt old was)

      pub joined_kept : AtPlaces (Gains total_of stands_for (time_of job)) places old new →
          AreAllKept total_of stands_for vertices (before ++ after) counted old →
          AreAllKept total_of stands_for vertices (before ++ job ∷ after) counted new
      joined_kept gains kept k q of =
          let (amounts, at) = same_place counted.quantities places k q (sym numbers.len) of in
          gained_kept total_of stands_for (total_in vertices q)
          (amount_in vertices q) job (amount_at amounts) before after (at_place k old) (at_place k new)
          (lens k (slice_get_within counted.quantities k q of))
          (numbers.sums k q amounts of at) (gains k amounts at) (kept k q of)

      pub left_kept : AtPlaces (Loses total_of stands_for (time_of job)) places old new →
          AreAllKept total_of stands_for vertices (before ++ job ∷ after) counted old →
          AreAllKept total_of stands_for vertices (before ++ after) counted new
      left_kept loses kept k q of =
          let (amounts, at) = same_place counted.quantities places k q (sym numbers.len) of in
          lost_kept total_of stands_for (total_in vertices q)
          (amount_in vertices q) job (amount_at amounts) before after (at_place k old) (at_place k new)
          (lens k (slice_get_within counted.quantities k q of))
          (numbers.sums k q amounts of at) (loses k amounts at) (kept k q of)

  module _ (vertices : List Vertex)
      (job : Job) (old new : Accounts P) (counted : arc_value new.counted ≡ arc_value old.counted)
      (len : length (items_of new.planners) ≡ length (items_of old.planners))
      (wide : AreWide (length (arc_value old.counted).quantities) (items_of new.planners)) where
    changed : (js ks : List Job) → AreAccounts total_of stands_for vertices js old →
        AreAllKept total_of stands_for vertices ks (arc_value old.counted) (items_of new.planners) →
        stands_for new.times (times_of ks) → new.count ≡ count_claims ks → AreFair vertices ks →
        AllByRecursion (IsOnGraph vertices) ks → HoldNoWider vertices new.widest ks →
        CountNoNarrower vertices new.narrowest ks → AreAccounts total_of stands_for vertices ks new
    changed js ks is kept times count fair on_graph widths counting = record {
      graph = subst (λ (c : Counted). ArePlanned vertices c (items_of new.planners)) (sym counted)
          (record { counts = is.graph.counts; len = len ∙ is.graph.len; places = wide });
      kept = subst (λ (c : Counted). AreAllKept total_of stands_for vertices ks c (items_of new.planners))
          (sym counted) kept;
      times = times;
      count = count;
      widths = widths;
      counting = counting;
      fair = fair;
      on_graph = on_graph;
    }

    pub joined : (jobs : List Job) → IsOnGraph vertices job → AreFair vertices (jobs ++ job ∷ []) →
        (AreAllKept total_of stands_for vertices (jobs ++ []) (arc_value old.counted) (items_of old.planners) →
        AreAllKept total_of stands_for vertices (jobs ++ job ∷ []) (arc_value old.counted) (items_of new.planners)) →
        ((before after : List Span) → stands_for old.times (before ++ after) → stands_for new.times
        (before ++ span_of (time_of job) 0 ∷ after)) → new.count ≡ old.count + length job.claims →
        (old.widest ≤ new.widest) × AllByRecursion (HoldsNoWider vertices new.widest) job.claims →
        (new.narrowest ≤ old.narrowest) × AllByRecursion (CountsNoNarrower vertices new.narrowest) job.claims →
        AreAccounts total_of stands_for vertices jobs old →
        AreAccounts total_of stands_for vertices (jobs ++ job ∷ []) new
    joined jobs on_graph fair step times count (wider, held) (narrower, counted_at) is =
        changed jobs (jobs ++ job ∷ []) is
        (step (subst (λ (js : List Job). AreAllKept total_of stands_for vertices js
        (arc_value old.counted) (items_of old.planners)) (sym (append-nil jobs)) is.kept))
        (subst (stands_for new.times) (sym (times_append jobs (job ∷ [])))
        (times (times_of jobs) [] (subst (stands_for old.times) (sym (append-nil (times_of jobs))) is.times)))
        (count ∙ ap (λ n. n + length job.claims) is.count ∙ sym (count_push jobs job)) fair
        (all_append (IsOnGraph vertices) jobs (job ∷ []) is.on_graph (on_graph, tt))
        (one_more (HoldsNoWider vertices old.widest) (HoldsNoWider vertices new.widest)
        (claim_wider vertices old.widest new.widest wider) is.widths held)
        (one_more (CountsNoNarrower vertices old.narrowest) (CountsNoNarrower vertices new.narrowest)
        (claim_narrower vertices new.narrowest old.narrowest narrower) is.counting counted_at)
      where
        one_more : (P Q : Claim → Type 0) → ((c : Claim) → P c → Q c) → OfEachClaim P jobs →
            AllByRecursion Q job.claims → OfEachClaim Q (jobs ++ job ∷ [])
        one_more P Q h all own =
            all_append (λ (j : Job). AllByRecursion Q j.claims) jobs (job ∷ []) (each_claim P Q h jobs all) (own, tt)

    pub left : (before after : List Job) →
        (AreAllKept total_of stands_for vertices
        (before ++ job ∷ after) (arc_value old.counted) (items_of old.planners) →
        AreAllKept total_of stands_for vertices (before ++ after) (arc_value old.counted) (items_of new.planners)) →
        ((xs ys : List Span) → stands_for old.times (xs ++ span_of (time_of job) 0 ∷ ys) →
        stands_for new.times (xs ++ ys)) → new.count ≡ old.count - length job.claims →
        new.widest ≡ old.widest → new.narrowest ≡ old.narrowest →
        AreAccounts total_of stands_for vertices (before ++ job ∷ after) old →
        AreAccounts total_of stands_for vertices (before ++ after) new
    left before after step times count widest narrowest is =
        let middle = count_middle before job after in
        let was = is.count in
        changed (before ++ job ∷ after) (before ++ after) is (step is.kept)
        (subst (stands_for new.times) (sym (times_append before after)) (times (times_of before)
        (times_of after) (subst (stands_for old.times) (times_append before (job ∷ after)) is.times)))
        (omega (arith, count, middle, was)) (fair_removed vertices before job after is.fair)
        (all_removed (IsOnGraph vertices) before job after is.on_graph)
        (subst (λ (n : ℕ). HoldNoWider vertices n (before ++ after)) (sym widest)
        (one_less (HoldsNoWider vertices old.widest) is.widths))
        (subst (λ (n : ℕ). CountNoNarrower vertices n (before ++ after)) (sym narrowest)
        (one_less (CountsNoNarrower vertices old.narrowest) is.counting))
      where
        one_less : (P : Claim → Type 0) → OfEachClaim P (before ++ job ∷ after) → OfEachClaim P (before ++ after)
        one_less P all = all_removed (λ (j : Job). AllByRecursion P j.claims) before job after all
