use Rattle.std.proofs.Common.{sym, subst}
use Rattle.flux_defs.specs.declared.journal.Command.{Command}
use Rattle.flux_defs.specs.Histories.{state_at}
use Rattle.flux_defs.specs.Verdicts.{Finds, Yields}
use Rattle.sched_core.specs.Courses.{left_by, journal_in, setting_in}
use Rattle.sched_core.proofs.committing.yielded.Goals as goal

pub yield_job-requires : goal.yield_job-requires
yield_job-requires g c =
    let site = c.args.site.now in
    let kept = c.args.kept.now in
    record {
      core = c.requires.core;
      found = subst
          (λ (k : Command). Finds (setting_in site kept) (state_at (journal_in kept) c.args.place) k c.args.verdict)
          c.in-Allocate.is c.requires.found;
    }

pub yield_job-requires-in-Reserve : goal.yield_job-requires-in-Reserve
yield_job-requires-in-Reserve g c =
    let site = c.args.site.now in
    let kept = c.args.kept.now in
    record {
      core = c.requires.core;
      found = subst
          (λ (k : Command). Finds (setting_in site kept) (state_at (journal_in kept) c.args.place) k c.args.verdict)
          c.in-Reserve.is c.requires.found;
    }

pub returns-in-Allocate-clause-answer : goal.returns-in-Allocate-clause-answer
returns-in-Allocate-clause-answer g c = λ at.
    let site = c.args.site.now in
    let kept = c.args.kept.now in
    subst (λ (k : Command). Yields (setting_in site kept) (left_by (journal_in kept)) k c.args.verdict
    c.yield_job.result) (sym c.in-Allocate.is) (c.yield_job.ensures.answer at)

pub returns-in-Reserve-clause-answer : goal.returns-in-Reserve-clause-answer
returns-in-Reserve-clause-answer g c = λ at.
    let site = c.args.site.now in
    let kept = c.args.kept.now in
    subst (λ (k : Command). Yields (setting_in site kept) (left_by (journal_in kept)) k c.args.verdict
    c.yield_job-in-Reserve.result) (sym c.in-Reserve.is) (c.yield_job-in-Reserve.ensures.answer at)
