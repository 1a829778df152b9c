use Rattle.std.proofs.Common.{◌≡◌, refl, ◌+◌, ◌*◌, ◌≤◌, ◌∷◌, ◌++◌, [], ℕ, List, length, ◌∙◌, ap, subst, arith}
use Rattle.std.specs.List.{AllByRecursion, sum_by}
use Rattle.flux_defs.specs.declared.claims.Claim.{Claim}
use Rattle.flux_defs.specs.declared.claims.Job.{Job}
use Rattle.book_laws.specs.Grouped.{count_claims}
use Rattle.vertex_planners.specs.Lists.{items_of, AreWide}
use Rattle.vertex_planners.specs.Rows.{places_of, count_all}
use Rattle.vertex_accounts.specs.declared.quantities.Quantity.{Quantity}
use Rattle.vertex_accounts.specs.declared.counted.Counted.{Counted}
use Rattle.vertex_accounts.specs.Quantities.{most_claims}
use Rattle.vertex_accounts.specs.Counts.{AreNumbers}
use Rattle.vertex_accounts.specs.Costs.{reach_of}
use Rattle.vertex_accounts.specs.Books.{counted_of, types_of, HoldsNoWider, CountsNoNarrower}
use Rattle.vertex_accounts.proofs.JoinLaws.{room_in, joined_kept, joined, count_push}
use Rattle.vertex_accounts.proofs.WorkLaws.{numbers_cost}
use Rattle.vertex_accounts.proofs.books.Accounts.with_job.Goals as goal

few_claims : (jobs : List Job) (job : Job) (count more : ℕ) → count ≡ count_claims jobs →
    more ≡ length job.claims → count + more ≤ most_claims → count_claims (jobs ++ job ∷ []) ≤ most_claims
few_claims jobs job count more is e fits = let p = count_push jobs job in omega (arith, p, is, e, fits)

pub gain-requires-clause-room : goal.gain-requires-clause-room
gain-requires-clause-room g c =
    let vertices = c.args.graph.now.resources.vertices in
    let (jobs, is, fair) = c.requires.there in
    let quantities = c.items-quantities.ensures ∙ ap (λ (k : Counted). k.quantities) c.counted.ensures in
    let numbers = subst (λ (cs : List Claim). AreNumbers vertices
    (counted_of c.args.self).quantities cs (places_of c.in_ok-rows.rows)) c.items-claims.ensures
    (subst (λ (qs : List Quantity). AreNumbers vertices qs c.items-claims.result.now (places_of c.in_ok-rows.rows))
    quantities c.in_ok-rows.ensures.numbers) in
    room_in g.P.Planner.total_of g.P.Planner.stands_for
    g.met.P.Planner.same_free c.args.graph.now.resources c.is_valid.ensures.valid.preorder jobs c.args.job.now fair
    (few_claims jobs c.args.job.now c.args.self.count c.len.result is.count c.len.ensures
    (omega (arith, c.in-Some.ensures.0)))
    (counted_of c.args.self) (items_of c.args.self.planners) (places_of c.in_ok-rows.rows) numbers is.kept

pub returns-clause-accounts : goal.returns-clause-accounts
returns-clause-accounts g c = λ jobs is fair.
    let vertices = c.args.graph.now.resources.vertices in
    let job = c.args.job.now in
    let quantities = c.items-quantities.ensures ∙ ap (λ (k : Counted). k.quantities) c.counted.ensures in
    let numbers = subst (λ (cs : List Claim). AreNumbers vertices
    (counted_of c.args.self).quantities cs (places_of c.in_ok-rows.rows)) c.items-claims.ensures
    (subst (λ (qs : List Quantity). AreNumbers vertices qs c.items-claims.result.now (places_of c.in_ok-rows.rows))
    quantities c.in_ok-rows.ensures.numbers) in
    let new = items_of c.gain.new.self in
    let wide = subst (λ (n : ℕ). AreWide n new) numbers.len c.in_ok-gain.ensures.places in
    joined g.P.Planner.total_of g.P.Planner.stands_for vertices job c.args.self
    (record {
      counted = c.args.self.counted;
      planners = c.gain.new.self;
      times = c.renew_with.new.planner;
      count = c.in-Some.count;
      widest = c.widest_with-widest.result;
      narrowest = c.narrowest_with-narrowest.result;
    })
    refl c.in_ok-gain.ensures.len wide jobs c.requires.on_graph fair
    (joined_kept g.P.Planner.total_of g.P.Planner.stands_for vertices jobs job []
    (counted_of c.args.self) (places_of c.in_ok-rows.rows) numbers (items_of c.args.self.planners) new
    c.in_ok-gain.ensures.len is.graph.places wide c.in_ok-gain.ensures.gains)
    c.in_ok-renew_with.ensures.spans (c.in-Some.ensures.1 ∙ ap (λ n. c.args.self.count + n) c.len.ensures) (
      c.widest_with-widest.ensures.0,
      subst (AllByRecursion (HoldsNoWider vertices c.widest_with-widest.result))
          c.items-claims.ensures c.widest_with-widest.ensures.1,
    ) (
      c.narrowest_with-narrowest.ensures.0,
      subst (AllByRecursion (CountsNoNarrower vertices c.narrowest_with-narrowest.result))
          c.items-claims.ensures c.narrowest_with-narrowest.ensures.1,
    ) is

pub returns-in_err-gain-clause-work : goal.returns-in_err-gain-clause-work
returns-in_err-gain-clause-work g c = λ most within.
    let (jobs, is, fair) = c.requires.there in
    let quantities = c.items-quantities.ensures ∙ ap (λ (k : Counted). k.quantities) c.counted.ensures in
    let few = subst (λ (cs : List Claim). count_all (places_of c.in_ok-rows.rows) ≤ sum_by reach_of
    (counted_of c.args.self).quantities * length cs) c.items-claims.ensures
    (subst (λ (qs : List Quantity). count_all (places_of c.in_ok-rows.rows) ≤ sum_by
    reach_of qs * length c.items-claims.result.now) quantities c.in_ok-rows.ensures.few) in
    let all = numbers_cost (length (items_of c.args.self.planners)) (length c.args.graph.now.resources.vertices)
    most (types_of c.args.self) (sum_by reach_of (counted_of c.args.self).quantities)
    (length c.args.job.now.claims) (count_all (places_of c.in_ok-rows.rows)) c.args.steps.now
    c.gain.new.steps is.graph.len is.graph.counts.reach few (c.gain.ensures.work most within) in
    omega (arith, all)

pub returns-in_err-renew_with-clause-work : goal.returns-in_err-renew_with-clause-work
returns-in_err-renew_with-clause-work g c = λ most within.
    let (jobs, is, fair) = c.requires.there in
    let quantities = c.items-quantities.ensures ∙ ap (λ (k : Counted). k.quantities) c.counted.ensures in
    let few = subst (λ (cs : List Claim). count_all (places_of c.in_ok-rows.rows) ≤ sum_by reach_of
    (counted_of c.args.self).quantities * length cs) c.items-claims.ensures
    (subst (λ (qs : List Quantity). count_all (places_of c.in_ok-rows.rows) ≤ sum_by
    reach_of qs * length c.items-claims.result.now) quantities c.in_ok-rows.ensures.few) in
    let all = numbers_cost (length (items_of c.args.self.planners)) (length c.args.graph.now.resources.vertices)
    most (types_of c.args.self) (sum_by reach_of (counted_of c.args.self).quantities)
    (length c.args.job.now.claims) (count_all (places_of c.in_ok-rows.rows)) c.args.steps.now
    c.gain.new.steps is.graph.len is.graph.counts.reach few (c.gain.ensures.work most within) in
    let times = c.renew_with.ensures.work in
    omega (arith, all, times)

pub returns-clause-work : goal.returns-clause-work
returns-clause-work g c = λ most within.
    let (jobs, is, fair) = c.requires.there in
    let quantities = c.items-quantities.ensures ∙ ap (λ (k : Counted). k.quantities) c.counted.ensures in
    let few = subst (λ (cs : List Claim). count_all (places_of c.in_ok-rows.rows) ≤ sum_by reach_of
    (counted_of c.args.self).quantities * length cs) c.items-claims.ensures
    (subst (λ (qs : List Quantity). count_all (places_of c.in_ok-rows.rows) ≤ sum_by
    reach_of qs * length c.items-claims.result.now) quantities c.in_ok-rows.ensures.few) in
    let all = numbers_cost (length (items_of c.args.self.planners)) (length c.args.graph.now.resources.vertices)
    most (types_of c.args.self) (sum_by reach_of (counted_of c.args.self).quantities)
    (length c.args.job.now.claims) (count_all (places_of c.in_ok-rows.rows)) c.args.steps.now
    c.gain.new.steps is.graph.len is.graph.counts.reach few (c.gain.ensures.work most within) in
    let times = c.renew_with.ensures.work in
    omega (arith, all, times)
