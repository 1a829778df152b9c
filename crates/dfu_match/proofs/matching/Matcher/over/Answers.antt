use Rattle.std.proofs.Common.{List, length, inl, inr, subst}
use Rattle.flux_defs.specs.declared.vertices.Vertex.{Vertex}
use Rattle.prune_filters.specs.Demands.{needs_demand}
use Rattle.prune_filters.specs.Shorts.{IsShortInAt}
use Rattle.dfu_match.specs.Tables.{needs_all}
use Rattle.dfu_match.proofs.DemandLaws.{below_from}
use Rattle.dfu_match.proofs.MatchedLaws.{short_is}
use Rattle.dfu_match.proofs.StepLaws.{look_both, look_first, look_root, needs_open}
use Rattle.dfu_match.proofs.matching.Matcher.over.Goals as goal

pub returns-in-Some-clause-matched : goal.returns-in-Some-clause-matched
returns-in-Some-clause-matched g c = λ present stands.
    let matcher = c.args.self.now in
    let graph = matcher.graph.now in
    let keeps = g.F.FreeView.keeps c.args.view.now in
    let within = c.in-Some.ensures.within in
    let short = subst (λ (us : List Vertex). IsShortInAt us present keeps matcher.whole 0 c.in-Some.shortage)
    c.requires.over (c.in-Some.ensures.answer present stands) in
    short_is graph.resources graph.names c.is_valid.ensures.valid present keeps matcher.ask.now c.args.window
    matcher.whole
    matcher.demands c.requires.proper c.in-Some.shortage within.0 within.1 short

pub walked-requires-clause-enough : goal.walked-requires-clause-enough
walked-requires-clause-enough g c = λ present stands root.
    let matcher = c.args.self.now in
    let vs = matcher.graph.now.resources.vertices in
    let keeps = g.F.FreeView.keeps c.args.view.now in
    let none = rw c.in-None.is at (c.first_short.ensures.answer present stands) in
    none (rw c.requires.over
    (below_from vs present c.args.window keeps 0 (λ kind. needs_demand vs kind matcher.ask.now.needs)
    matcher.whole matcher.demands.each matcher.demands.all root.0 root.1))

pub returns-in-Some-clause-work : goal.returns-in-Some-clause-work
returns-in-Some-clause-work g c = λ present stands looks enough.
    let matcher = c.args.self.now in
    let graph = matcher.graph.now in
    let all = needs_all matcher.ask.now.needs in
    let keeps = g.F.FreeView.keeps c.args.view.now in
    let cost = g.F.FreeView.cost c.args.view.now in
    let old = c.args.steps.now in
    elim enough [
      | inl root ↦ look_root (length all) cost looks (length matcher.whole) old c.first_short.new.steps root.1
          matcher.few c.first_short.ensures.work
      | inr some ↦ look_first (length all) cost (length some.0) looks some.2
          (needs_open graph.resources graph.names c.is_valid.ensures.valid present c.args.window keeps all some.0
          some.1)
          (length matcher.whole) old c.first_short.new.steps matcher.few c.first_short.ensures.work
    ]

pub returns-in-None-clause-work : goal.returns-in-None-clause-work
returns-in-None-clause-work g c = λ present stands looks enough.
    let matcher = c.args.self.now in
    let graph = matcher.graph.now in
    let vs = graph.resources.vertices in
    let all = needs_all matcher.ask.now.needs in
    let keeps = g.F.FreeView.keeps c.args.view.now in
    let cost = g.F.FreeView.cost c.args.view.now in
    let old = c.args.steps.now in
    let none = rw c.in-None.is at (c.first_short.ensures.answer present stands) in
    elim enough [
      | inl root ↦ absurd (none (rw c.requires.over (below_from vs present c.args.window keeps 0
          (λ kind. needs_demand vs kind matcher.ask.now.needs) matcher.whole matcher.demands.each matcher.demands.all
          root.0.0 root.0.1)))
      | inr some ↦ look_both (length all) cost (length some.0) looks some.2
          (needs_open graph.resources graph.names c.is_valid.ensures.valid present c.args.window keeps all some.0
          some.1)
          (length matcher.whole) old c.first_short.new.steps c.walked.new.steps matcher.few
          c.first_short.ensures.work (c.walked.ensures.work present stands some.0 some.1)
    ]
