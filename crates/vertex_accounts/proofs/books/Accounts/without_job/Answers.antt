use Rattle.std.proofs.Common.{refl, ◌-◌, ◌*◌, ◌≤◌, ◌∷◌, ℕ, List, length, ◌∙◌, ap, subst, arith}
use Rattle.std.specs.List.{sum_by}
use Rattle.flux_defs.specs.declared.claims.Claim.{Claim}
use Rattle.book_laws.specs.Grouped.{times_of}
use Rattle.book_laws.proofs.GroupedLaws.{times_append}
use Rattle.vertex_planners.specs.Lists.{items_of, AreWide}
use Rattle.vertex_planners.specs.Rows.{places_of, count_all}
use Rattle.vertex_accounts.specs.declared.quantities.Quantity.{Quantity}
use Rattle.vertex_accounts.specs.declared.counted.Counted.{Counted}
use Rattle.vertex_accounts.specs.Counts.{AreNumbers}
use Rattle.vertex_accounts.specs.Costs.{reach_of}
use Rattle.vertex_accounts.specs.Books.{counted_of, types_of}
use Rattle.vertex_accounts.proofs.JoinLaws.{spans_in, left_kept, left}
use Rattle.vertex_accounts.proofs.WorkLaws.{numbers_cost}
use Rattle.vertex_accounts.proofs.books.Accounts.without_job.Goals as goal

pub lose-requires-clause-span : goal.lose-requires-clause-span
lose-requires-clause-span g c =
    let vertices = c.args.graph.now.resources.vertices in
    let (before, after, is) = c.requires.there in
    let quantities = c.items-quantities.ensures ∙ ap (λ (k : Counted). k.quantities) c.counted.ensures in
    let numbers = subst (λ (cs : List Claim). AreNumbers vertices
    (counted_of c.args.self).quantities cs (places_of c.in_ok-rows.rows)) c.items-claims.ensures
    (subst (λ (qs : List Quantity). AreNumbers vertices qs c.items-claims.result.now (places_of c.in_ok-rows.rows))
    quantities c.in_ok-rows.ensures.numbers) in
    spans_in g.P.Planner.total_of g.P.Planner.stands_for vertices before c.args.job.now after
    (counted_of c.args.self) (places_of c.in_ok-rows.rows) numbers (items_of c.args.self.planners) is.kept

pub renew_without-requires-clause-span : goal.renew_without-requires-clause-span
renew_without-requires-clause-span g c =
    let (before, after, is) = c.requires.there in (
      times_of before,
      times_of after,
      subst (g.P.Planner.stands_for c.args.self.times) (times_append before (c.args.job.now ∷ after)) is.times,
    )

pub returns-clause-accounts : goal.returns-clause-accounts
returns-clause-accounts g c = λ before after is.
    let vertices = c.args.graph.now.resources.vertices in
    let job = c.args.job.now in
    let quantities = c.items-quantities.ensures ∙ ap (λ (k : Counted). k.quantities) c.counted.ensures in
    let numbers = subst (λ (cs : List Claim). AreNumbers vertices
    (counted_of c.args.self).quantities cs (places_of c.in_ok-rows.rows)) c.items-claims.ensures
    (subst (λ (qs : List Quantity). AreNumbers vertices qs c.items-claims.result.now (places_of c.in_ok-rows.rows))
    quantities c.in_ok-rows.ensures.numbers) in
    let new = items_of c.lose.new.self in
    let wide = subst (λ (n : ℕ). AreWide n new) numbers.len c.in_ok-lose.ensures.places in
    left g.P.Planner.total_of g.P.Planner.stands_for vertices job c.args.self
    (record {
      counted = c.args.self.counted;
      planners = c.lose.new.self;
      times = c.renew_without.new.planner;
      count = c.args.self.count - c.len.result;
      widest = c.args.self.widest;
      narrowest = c.args.self.narrowest;
    })
    refl c.in_ok-lose.ensures.len wide before after
    (left_kept g.P.Planner.total_of g.P.Planner.stands_for vertices before job after
    (counted_of c.args.self) (places_of c.in_ok-rows.rows) numbers (items_of c.args.self.planners) new
    c.in_ok-lose.ensures.len is.graph.places wide c.in_ok-lose.ensures.loses)
    c.in_ok-renew_without.ensures.spans (ap (λ n. c.args.self.count - n) c.len.ensures) refl refl is

pub returns-in_err-lose-clause-work : goal.returns-in_err-lose-clause-work
returns-in_err-lose-clause-work g c = λ most within.
    let (before, after, is) = c.requires.there in
    let quantities = c.items-quantities.ensures ∙ ap (λ (k : Counted). k.quantities) c.counted.ensures in
    let few = subst (λ (cs : List Claim). count_all (places_of c.in_ok-rows.rows) ≤ sum_by reach_of
    (counted_of c.args.self).quantities * length cs) c.items-claims.ensures
    (subst (λ (qs : List Quantity). count_all (places_of c.in_ok-rows.rows) ≤ sum_by
    reach_of qs * length c.items-claims.result.now) quantities c.in_ok-rows.ensures.few) in
    let all = numbers_cost (length (items_of c.args.self.planners)) (length c.args.graph.now.resources.vertices)
    most (types_of c.args.self) (sum_by reach_of (counted_of c.args.self).quantities)
    (length c.args.job.now.claims) (count_all (places_of c.in_ok-rows.rows))
    c.args.steps.now c.lose.new.steps is.graph.len is.graph.counts.reach few (c.lose.ensures.work most within) in
    omega (arith, all)

pub returns-in_err-renew_without-clause-work : goal.returns-in_err-renew_without-clause-work
returns-in_err-renew_without-clause-work g c = λ most within.
    let (before, after, is) = c.requires.there in
    let quantities = c.items-quantities.ensures ∙ ap (λ (k : Counted). k.quantities) c.counted.ensures in
    let few = subst (λ (cs : List Claim). count_all (places_of c.in_ok-rows.rows) ≤ sum_by reach_of
    (counted_of c.args.self).quantities * length cs) c.items-claims.ensures
    (subst (λ (qs : List Quantity). count_all (places_of c.in_ok-rows.rows) ≤ sum_by
    reach_of qs * length c.items-claims.result.now) quantities c.in_ok-rows.ensures.few) in
    let all = numbers_cost (length (items_of c.args.self.planners)) (length c.args.graph.now.resources.vertices)
    most (types_of c.args.self) (sum_by reach_of (counted_of c.args.self).quantities)
    (length c.args.job.now.claims) (count_all (places_of c.in_ok-rows.rows))
    c.args.steps.now c.lose.new.steps is.graph.len is.graph.counts.reach few (c.lose.ensures.work most within) in
    let times = c.renew_without.ensures.work in
    omega (arith, all, times)

pub returns-clause-work : goal.returns-clause-work
returns-clause-work g c = λ most within.
    let (before, after, is) = c.requires.there in
    let quantities = c.items-quantities.ensures ∙ ap (λ (k : Counted). k.quantities) c.counted.ensures in
    let few = subst (λ (cs : List Claim). count_all (places_of c.in_ok-rows.rows) ≤ sum_by reach_of
    (counted_of c.args.self).quantities * length cs) c.items-claims.ensures
    (subst (λ (qs : List Quantity). count_all (places_of c.in_ok-rows.rows) ≤ sum_by
    reach_of qs * length c.items-claims.result.now) quantities c.in_ok-rows.ensures.few) in
    let all = numbers_cost (length (items_of c.args.self.planners)) (length c.args.graph.now.resources.vertices)
    most (types_of c.args.self) (sum_by reach_of (counted_of c.args.self).quantities)
    (length c.args.job.now.claims) (count_all (places_of c.in_ok-rows.rows))
    c.args.steps.now c.lose.new.steps is.graph.len is.graph.counts.reach few (c.lose.ensures.work most within) in
    let times = c.renew_without.ensures.work in
    omega (arith, all, times)
