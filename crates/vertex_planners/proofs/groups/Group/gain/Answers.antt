use Rattle.std.proofs.Common.{sym, ◌∙◌, arith}
use Rattle.vertex_planners.specs.Kept.{Gains}
use Rattle.vertex_planners.proofs.ItemLaws.{at_index, still_in, one_in, all_in, steps_more, steps_all, steps_within}
use Rattle.vertex_planners.proofs.groups.Group.gain.Goals as goal

pub gain-requires-clause-room : goal.gain-requires-clause-room
gain-requires-clause-room g c = λ p there.
    let at = at_index c.loop-place.self-inside.planners c.args.slot c.loop-place.place c.index_of-index.result
    c.index_of-index.ensures.index in
    c.requires.room c.loop-place.place c.in-Some.number.now p (sym c.in-Some.ensures.value)
    (sym (c.loop-place.invariant.each.here.same c.loop-place.place (omega arith)) ∙ (sym at ∙ there))

pub returns-in_err-gain-clause-work : goal.returns-in_err-gain-clause-work
returns-in_err-gain-clause-work g c = λ most within.
    let at = at_index c.loop-place.self-inside.planners c.args.slot c.loop-place.place c.index_of-index.result
    c.index_of-index.ensures.index in
    let (p, is, was) = still_in (Gains g.P.Planner.total_of g.P.Planner.stands_for c.args.window)
    c.args.row.now c.args.slot c.args.self.now
    c.loop-place.self-inside.planners c.loop-place.place c.loop-place.invariant.each c.in-Some.ensures.within
    c.requires.places in
    steps_all c.args.row.now c.loop-place.place _ most c.args.steps.now c.loop-place.steps c.gain.new.steps _
    (sym c.in-Some.ensures.value) (within c.loop-place.place p was) c.gain.ensures.none
    (c.gain.ensures.work p (at ∙ is)) (c.loop-place.invariant.work most within)

pub loop-place-preserved : goal.loop-place-preserved
loop-place-preserved g c = record {
  each = one_in (Gains g.P.Planner.total_of g.P.Planner.stands_for c.args.window)
      c.args.row.now c.args.slot c.args.self.now
      c.loop-place.self-inside.planners c.loop-place.place c.loop-place.invariant.each
      c.gain.new.planners c.in-Some.number.now c.index_of-index.result c.requires.slot c.index_of-index.ensures.index
      (sym c.in-Some.ensures.value) c.in_ok-gain.ensures.len c.in_ok-gain.ensures.here c.in_ok-gain.ensures.others;
  work = λ most within.
      let at = at_index c.loop-place.self-inside.planners c.args.slot c.loop-place.place c.index_of-index.result
      c.index_of-index.ensures.index in
      let (p, is, was) = still_in (Gains g.P.Planner.total_of g.P.Planner.stands_for c.args.window)
      c.args.row.now c.args.slot c.args.self.now
      c.loop-place.self-inside.planners c.loop-place.place c.loop-place.invariant.each c.in-Some.ensures.within
      c.requires.places in
      steps_more c.args.row.now c.loop-place.place _ most c.args.steps.now c.loop-place.steps c.gain.new.steps _
      (sym c.in-Some.ensures.value) (within c.loop-place.place p was) c.gain.ensures.none
      (c.gain.ensures.work p (at ∙ is)) (c.loop-place.invariant.work most within);
}

pub returns-clause-gains : goal.returns-clause-gains
returns-clause-gains g c =
    let done = c.loop-place-test.false in
    let end = c.len-place-end.ensures in
    all_in (Gains g.P.Planner.total_of g.P.Planner.stands_for c.args.window) c.args.row.now c.args.slot c.args.self.now
    c.loop-place.self-inside.planners c.loop-place.place c.loop-place.invariant.each (omega (arith, done, end))

pub returns-clause-work : goal.returns-clause-work
returns-clause-work g c = λ most within.
    steps_within c.args.row.now c.loop-place.place most c.args.steps.now c.loop-place.steps
    (c.loop-place.invariant.work most within)
