use Rattle.std.proofs.Common.{◌+◌, ◌*◌, refl, arith, length}
use Rattle.dfu_match.specs.Tables.{needs_all}
use Rattle.dfu_match.specs.Pairs.{asked_totals}
use Rattle.dfu_match.proofs.BarLaws.{rises, nodes_of}
use Rattle.flux_defs.specs.Asks.{SomeFit}
use Rattle.dfu_match.proofs.ReachLaws.{reach_all, told_later, told_or}
use Rattle.dfu_match.proofs.LookLaws.{looks_first, looks_twice}
use Rattle.dfu_match.proofs.StepLaws.{clear_everywhere, each_open, first_place}
use Rattle.dfu_match.proofs.matching.Matcher.walked.Goals as goal

pub invariant_of-search : goal.invariant_of-search
invariant_of-search g c =
    let matcher = c.args.self.now in
    let ask = matcher.ask.now in
    let vs = matcher.graph.now.resources.vertices in
    record {
      over = c.requires.over;
      tells = rw c.items.ensures matcher.tells;
      fits = c.items.type_inv.0;
      whole = λ some. rw c.items.ensures matcher.all;
      shuts = matcher.shuts;
      opens = c.requires.opens;
      rising = rises 0 ask.barred c.requires.proper.rising;
      nodes = nodes_of vs ask.barred c.requires.proper.nodes;
    }

pub returns-in_err-write_top-clause-work : goal.returns-in_err-write_top-clause-work
returns-in_err-write_top-clause-work g c = λ present stands pairs has.
    let matcher = c.args.self.now in
    let vs = matcher.graph.now.resources.vertices in
    let needs = matcher.ask.now.needs in
    let all = needs_all needs in
    let keeps = g.F.FreeView.keeps c.args.view.now in
    let table = c.items.result.now in
    let work = looks_twice _ ((length all + 2) * g.F.FreeView.cost c.args.view.now) needs (length vs) pairs
    (each_open vs present c.args.window keeps all table pairs (rw c.items.ensures matcher.all) has)
    c.args.steps.now c.refuted_first.new.steps c.write_top.new.steps (c.refuted_first.ensures.work present stands)
    (λ times looks. c.write_top.ensures.work present stands 0 0 (length vs) times (first_place needs)
    (clear_everywhere vs present c.args.window (asked_totals table keeps) needs) (refl, refl) looks) in
    omega (arith, work)

pub returns-then-not-branch-clause-work : goal.returns-then-not-branch-clause-work
returns-then-not-branch-clause-work g c = λ present stands pairs has.
    let matcher = c.args.self.now in
    let vs = matcher.graph.now.resources.vertices in
    let needs = matcher.ask.now.needs in
    let all = needs_all needs in
    let keeps = g.F.FreeView.keeps c.args.view.now in
    let table = c.items.result.now in
    let work = looks_twice _ ((length all + 2) * g.F.FreeView.cost c.args.view.now) needs (length vs) pairs
    (each_open vs present c.args.window keeps all table pairs (rw c.items.ensures matcher.all) has)
    c.args.steps.now c.refuted_first.new.steps c.write_top.new.steps (c.refuted_first.ensures.work present stands)
    (λ times looks. c.write_top.ensures.work present stands 0 0 (length vs) times (first_place needs)
    (clear_everywhere vs present c.args.window (asked_totals table keeps) needs) (refl, refl) looks) in
    omega (arith, work)

pub returns-clause-work : goal.returns-clause-work
returns-clause-work g c = λ present stands pairs has.
    let matcher = c.args.self.now in
    let vs = matcher.graph.now.resources.vertices in
    let needs = matcher.ask.now.needs in
    let all = needs_all needs in
    let keeps = g.F.FreeView.keeps c.args.view.now in
    let table = c.items.result.now in
    let work = looks_twice _ ((length all + 2) * g.F.FreeView.cost c.args.view.now) needs (length vs) pairs
    (each_open vs present c.args.window keeps all table pairs (rw c.items.ensures matcher.all) has)
    c.args.steps.now c.refuted_first.new.steps c.write_top.new.steps (c.refuted_first.ensures.work present stands)
    (λ times looks. c.write_top.ensures.work present stands 0 0 (length vs) times (first_place needs)
    (clear_everywhere vs present c.args.window (asked_totals table keeps) needs) (refl, refl) looks) in
    omega (arith, work)

pub returns-in-Some-clause-work : goal.returns-in-Some-clause-work
returns-in-Some-clause-work g c = λ present stands pairs has.
    let matcher = c.args.self.now in
    let vs = matcher.graph.now.resources.vertices in
    let needs = matcher.ask.now.needs in
    let all = needs_all needs in
    let keeps = g.F.FreeView.keeps c.args.view.now in
    let table = c.items.result.now in
    let work = looks_first _ ((length all + 2) * g.F.FreeView.cost c.args.view.now) needs (length vs) pairs
    (each_open vs present c.args.window keeps all table pairs (rw c.items.ensures matcher.all) has)
    c.args.steps.now c.refuted_first.new.steps (c.refuted_first.ensures.work present stands) in
    omega (arith, work)

-- none fit, as what is known tells, the root isn't short, and none fit over later windows either
pub returns-in-Some-clause-matched : goal.returns-in-Some-clause-matched
returns-in-Some-clause-matched g c = λ present stands.
    let w = c.args.window in (
      c.in-Some.ensures.none present stands w (reach_all w c.in-Some.until c.in-Some.ensures.later c.requires.opens),
      c.requires.enough present stands,
      λ lt other reach. c.in-Some.ensures.none present stands other reach,
    )

-- none fit, the root isn't short, and none fit over later windows either, as far as what is known tells
pub returns-then-not-branch-clause-matched : goal.returns-then-not-branch-clause-matched
returns-then-not-branch-clause-matched g c = λ present stands.
    let matcher = c.args.self.now in
    let never = rw c.if-not-branch.true at (c.in_ok-write_top.ensures.written.2 present stands) in (
      never,
      c.requires.enough present stands,
      told_or (λ w. SomeFit matcher.graph.now.resources.vertices present matcher.ask.now w) c.args.window
          c.refuted_known.result c.told_or-until.result c.told_or-until.ensures
          (λ w. c.refuted_known.ensures.none present stands w),
    )

pub returns-then-not-branch-clause-kept : goal.returns-then-not-branch-clause-kept
returns-then-not-branch-clause-kept g c =
    told_later c.args.window c.refuted_known.result c.told_or-until.result c.told_or-until.ensures
    c.refuted_known.ensures.later
