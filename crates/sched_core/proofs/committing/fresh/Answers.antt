use Rattle.std.proofs.Common.{length, subst}
use Rattle.flux_defs.specs.declared.verdicts.Verdict.{Verdict}
use Rattle.flux_defs.specs.Verdicts.{Yields}
use Rattle.sched_core.specs.Courses.{left_by, journal_in, setting_in}
use Rattle.overtaken_check.specs.Costs.{claims_found}
use Rattle.sched_core.specs.Costs.{AddsAtMost}
use Rattle.sched_core.proofs.Committed.{replies_now}
use Rattle.sched_core.proofs.committing.fresh.Goals as goal

pub returns-clause-answer : goal.returns-clause-answer
returns-clause-answer g c = λ at stands.
    let site = c.args.site.now in
    let kept = c.args.kept.now in
    let k = c.args.command.now in
    let r = c.yielded.result in (
      stands,
      replies_now site kept c.requires.core c.args.place k c.args.verdict.now r c.requires.found stands
          (subst (λ (v : Verdict). Yields (setting_in site kept) (left_by (journal_in kept)) k v r)
          c.in_ok-copied.ensures (c.yielded.ensures.answer at)),
    )

pub returns-clause-few : goal.returns-clause-few
returns-clause-few g c =
    subst (λ (v : Verdict). AddsAtMost (length (claims_found v)) c.yielded.result) c.in_ok-copied.ensures
    c.yielded.ensures.few
