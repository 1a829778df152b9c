use Rattle.std.proofs.Common.{sym, subst, ◌+◌, ◌≤◌}
use Rattle.sched_core.specs.Courses.{journal_in, setting_in, course_in}
use Rattle.sched_core.specs.Searched.{Searched}
use Rattle.sched_core.specs.Candidates.{IsFor}
use Rattle.sched_core.proofs.Committed.{found_there, moment_there}
use Rattle.sched_core.specs.Costs.{judge_most}
use Rattle.sched_core.proofs.CommitCounts.{judge_covered}
use Rattle.sched_core.proofs.committing.judge_candidate.Goals as goal

pub judge-requires : goal.judge-requires
judge-requires g c =
    let d = c.candidate.inside in
    let site = c.args.site.now in
    let kept = c.args.kept.now in
    let h = subst (λ (x : Searched). IsFor (course_in site kept) x) (sym c.candidate.view_is) c.requires.candidate in
    record {
      core = c.requires.core;
      moment = moment_there d.command d.snap d.place d.verdict c.candidate.invariant (setting_in site kept)
          (journal_in kept) h.later h.setting h.begins c.now-moment.result c.now-moment.ensures;
      found = found_there d.command d.snap d.place d.verdict c.candidate.invariant (setting_in site kept)
          (journal_in kept) h.later h.setting h.begins;
    }

pub returns-clause-work : goal.returns-clause-work
returns-clause-work g c =
    let d = c.candidate.inside in
    let site = c.args.site.now in
    let kept = c.args.kept.now in
    let old = c.args.steps.now in
    let new = c.judge.new.steps in
    let told =
    judge_covered site kept c.requires.core d.command d.snap d.place d.verdict old new c.judge.ensures.work in
    subst (λ (x : Searched). new ≤ old + judge_most (course_in site kept) x) c.candidate.view_is told
