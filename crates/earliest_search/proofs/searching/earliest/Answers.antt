use Rattle.std.proofs.Common.{◌+◌, ◌*◌, List, arith, inl, inr, refl, subst, sym, ◌∙◌, true≢false}
use Rattle.flux_defs.specs.declared.vertices.Vertex.{Vertex}
use Rattle.flux_defs.specs.Asks.{window_of, IsLowestFirst}
use Rattle.flux_laws.proofs.Determined.{lowest_fits}
use Rattle.earliest_search.specs.Tried.{IsNextTry, IsNextTryOrNone}
use Rattle.dfu_match.proofs.RowLaws.{knows_later, knows_nothing}
use Rattle.earliest_search.proofs.StartLaws.{ends_no_sooner, is_earliest, no_fit, none_ever, none_past}
use Rattle.earliest_search.proofs.StartLaws.{none_to_next, worth_try}
use Rattle.earliest_search.proofs.TriedLaws.{before_all, before_more, each_before, each_counted, try_more, try_all}
use Rattle.earliest_search.proofs.searching.earliest.Goals as goal

pub returns-in-Fits-clause-found : goal.returns-in-Fits-clause-found
returns-in-Fits-clause-found g c = λ present stands.
    let vs = c.args.graph.now.resources.vertices in
    let ask = c.args.ask.now in
    let t = c.starts.start in
    let low : IsLowestFirst vs present ask (window_of c.args.horizon ask t) c.in-Fits.claims = rw
    (c.in_ok-matcher.ensures.graph, c.in_ok-matcher.ensures.ask, c.window_at-window.ensures.window, c.in-Fits.is) at
    (c.in_ok-matched.ensures.matched present stands) in (
      is_earliest vs present c.args.horizon ask c.args.now t (c.starts.invariant.before present stands)
          c.starts.invariant.later (
            c.counts.ensures.0 c.starts-test.true,
            (c.in-Fits.claims, lowest_fits vs present ask (window_of c.args.horizon ask t) c.in-Fits.claims low),
          ),
      low,
    )

pub returns-in-None : goal.returns-in-None
returns-in-None g c =
    let graph = c.args.graph.now in
    let vs = graph.resources.vertices in
    let ask = c.args.ask.now in
    let t = c.starts.start in
    let keeps = g.F.FreeView.keeps c.args.view.now in
    record {
      found = λ present stands.
          let is = rw (c.in_ok-matcher.ensures.graph, c.in_ok-matcher.ensures.ask, c.window_at-window.ensures.window) at
          (c.in_ok-matched.ensures.matched present stands) in
          let next = subst (λ (us : List Vertex). IsNextTryOrNone us present c.in_ok-matched.matched t
          c.next_try.result)
          c.requires.over (c.next_try.ensures.next present stands) in
          let none = rw c.in-None.is at next in
          none_ever vs present c.args.horizon ask c.args.now t (c.starts.invariant.before present stands)
          (no_fit vs present keeps ask (window_of c.args.horizon ask t) c.in_ok-matched.matched is
          (λ claims e. c.in_default.not-Fits claims e))
          (λ u lo point s. none u lo point (worth_try graph.resources graph.names c.is_valid.ensures.valid present
          c.args.horizon ask c.requires.proper keeps t u lo s c.in_ok-matched.matched is));
      work = λ present stands tried looks has opens.
          let cost = g.F.FreeView.cost c.args.view.now in
          let counts = c.counts.ensures.0 c.starts-test.true in
          let there = has t (c.starts.invariant.point present stands) counts (omega (arith, counts.0)) in
          let more = try_more cost (λ u. (looks u + 1) * cost) tried t c.args.steps.now c.starts.steps
          c.over.new.steps (looks t) refl there
          (c.starts.invariant.spent present stands tried looks
          (each_counted present c.args.horizon c.args.ask.now c.args.now
          tried t has) opens)
          (c.over.ensures.work present stands (looks t) (rw (
            c.in_ok-matcher.ensures.graph,
            c.in_ok-matcher.ensures.ask,
            c.window_at-window.ensures.window,
          ) (opens t there counts))) in
          let next = c.next_try.ensures.work in
          let all = before_all (λ u. (looks u + 1) * cost) (t + 1) tried in
          omega (arith, more, next, all);
      soon = λ present stands. tt;
    }

pub starts-preserved : goal.starts-preserved
starts-preserved g c =
    let graph = c.args.graph.now in
    let vs = graph.resources.vertices in
    let ask = c.args.ask.now in
    let t = c.starts.start in
    let keeps = g.F.FreeView.keeps c.args.view.now in
    let lt = c.in-Some.ensures.later in
    let le = c.starts.invariant.later in
    record {
      later = omega arith;
      before = λ present stands.
          let is = rw (c.in_ok-matcher.ensures.graph, c.in_ok-matcher.ensures.ask, c.window_at-window.ensures.window) at
          (c.in_ok-matched.ensures.matched present stands) in
          let next = subst (λ (us : List Vertex). IsNextTry us present c.in_ok-matched.matched t c.in-Some.next)
          c.requires.over (c.in-Some.ensures.next present stands) in
          none_to_next vs present c.args.horizon ask c.args.now t (c.starts.invariant.before present stands)
          (no_fit vs present keeps ask (window_of c.args.horizon ask t) c.in_ok-matched.matched is
          (λ claims e. c.in_default.not-Fits claims e)) c.in-Some.next
          (λ u lo hi point s. next.least u lo hi point (worth_try graph.resources graph.names c.is_valid.ensures.valid
          present c.args.horizon ask c.requires.proper keeps t u lo s c.in_ok-matched.matched is));
      point = λ present stands.
          let next = c.in-Some.ensures.next present stands in
          inr (omega (arith, le, lt), next.point);
      known = (let matcher = c.in_ok-matcher.matcher in knows_later matcher.graph.now.resources.vertices
          (g.F.FreeView.stands_for c.args.view.now) matcher.ask.now.barred matcher.ask.now.needs
          (window_of c.args.horizon ask t) (window_of c.args.horizon ask c.in-Some.next) c.over.new.known
          (ends_no_sooner c.args.horizon ask t c.in-Some.next lt)
          (rw c.window_at-window.ensures.window at c.over.ensures.known));
      spent = λ present stands tried looks has opens.
          let cost = g.F.FreeView.cost c.args.view.now in
          let counts = c.counts.ensures.0 c.starts-test.true in
          let there = has t (c.starts.invariant.point present stands) counts lt in
          let more = try_more cost (λ u. (looks u + 1) * cost) tried t c.args.steps.now c.starts.steps
          c.over.new.steps (looks t) refl there
          (c.starts.invariant.spent present stands tried looks (λ u is count less. has u is count (omega (
            arith,
            less,
            lt,
          ))) opens)
          (c.over.ensures.work present stands (looks t) (rw (
            c.in_ok-matcher.ensures.graph,
            c.in_ok-matcher.ensures.ask,
            c.window_at-window.ensures.window,
          ) (opens t there counts))) in
          let work = c.next_try.ensures.work in
          let after = before_more (λ u. (looks u + 1) * cost) (t + 1) c.in-Some.next tried (omega (arith, lt)) in
          omega (arith, more, work, after);
    }

pub returns-clause-found : goal.returns-clause-found
returns-clause-found g c = λ present stands.
    none_past c.args.graph.now.resources.vertices present c.args.horizon c.args.ask.now c.args.now c.starts.start
    (c.starts.invariant.before present stands) (λ counts. true≢false (sym (c.counts.ensures.1 counts) ∙
    c.starts-test.false))

pub returns-in_err-matched-clause-work : goal.returns-in_err-matched-clause-work
returns-in_err-matched-clause-work g c = λ present stands tried looks has opens.
    let cost = g.F.FreeView.cost c.args.view.now in
    let t = c.starts.start in
    let counts = c.counts.ensures.0 c.starts-test.true in
    let there = has t (c.starts.invariant.point present stands) counts (omega (arith, counts.0)) in
    try_all cost (λ u. (looks u + 1) * cost) tried t c.args.steps.now c.starts.steps
    c.over.new.steps (looks t) refl there
    (c.starts.invariant.spent present stands tried looks (each_counted present c.args.horizon c.args.ask.now c.args.now
    tried t has) opens)
    (c.over.ensures.work present stands (looks t) (rw (
      c.in_ok-matcher.ensures.graph,
      c.in_ok-matcher.ensures.ask,
      c.window_at-window.ensures.window,
    ) (opens t there counts)))

pub returns-in-Fits-clause-work : goal.returns-in-Fits-clause-work
returns-in-Fits-clause-work g c = λ present stands tried looks has opens.
    let cost = g.F.FreeView.cost c.args.view.now in
    let t = c.starts.start in
    let counts = c.counts.ensures.0 c.starts-test.true in
    let there = has t (c.starts.invariant.point present stands) counts (omega (arith, counts.0)) in
    try_all cost (λ u. (looks u + 1) * cost) tried t c.args.steps.now c.starts.steps
    c.over.new.steps (looks t) refl there
    (c.starts.invariant.spent present stands tried looks (each_counted present c.args.horizon c.args.ask.now c.args.now
    tried t has) opens)
    (c.over.ensures.work present stands (looks t) (rw (
      c.in_ok-matcher.ensures.graph,
      c.in_ok-matcher.ensures.ask,
      c.window_at-window.ensures.window,
    ) (opens t there counts)))

pub returns-in-Fits-clause-soon : goal.returns-in-Fits-clause-soon
returns-in-Fits-clause-soon g c = λ present stands tried looks has opens.
    let cost = g.F.FreeView.cost c.args.view.now in
    let t = c.starts.start in
    let counts = c.counts.ensures.0 c.starts-test.true in
    let there = has t (c.starts.invariant.point present stands) counts (omega arith) in
    try_all cost (λ u. (looks u + 1) * cost) tried t c.args.steps.now c.starts.steps
    c.over.new.steps (looks t) refl there
    (c.starts.invariant.spent present stands tried looks (each_before present c.args.horizon c.args.ask.now c.args.now
    tried
    t t (omega arith) has) opens)
    (c.over.ensures.work present stands (looks t) (rw (
      c.in_ok-matcher.ensures.graph,
      c.in_ok-matcher.ensures.ask,
      c.window_at-window.ensures.window,
    ) (opens t there counts)))

pub returns-clause-work : goal.returns-clause-work
returns-clause-work g c = λ present stands tried looks has opens.
    let cost = g.F.FreeView.cost c.args.view.now in
    let t = c.starts.start in
    let spent = c.starts.invariant.spent present stands tried looks
    (each_counted present c.args.horizon c.args.ask.now c.args.now tried t has) opens in
    let all = before_all (λ u. (looks u + 1) * cost) t tried in
    omega (arith, spent, all)

pub starts-init : goal.starts-init
starts-init g c = record {
  later = omega arith;
  before = λ present stands u lo hi. absurd (omega (arith, lo, hi));
  point = λ present stands. inl refl;
  known = (let matcher = c.in_ok-matcher.matcher in knows_nothing matcher.graph.now.resources.vertices
      (g.F.FreeView.stands_for c.args.view.now) matcher.ask.now.barred matcher.ask.now.needs
      (window_of c.args.horizon c.args.ask.now c.args.now) c.nothing-known.result c.nothing-known.ensures.rows
      c.nothing-known.ensures.end);
  spent = λ present stands tried looks has opens. omega arith;
}

pub over-requires-clause-known : goal.over-requires-clause-known
over-requires-clause-known g c = rw c.window_at-window.ensures.window c.starts.invariant.known
