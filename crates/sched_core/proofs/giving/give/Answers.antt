use Rattle.std.proofs.Common.{sym, subst}
use Rattle.sched_core.specs.Courses.{setting_of}
use Rattle.sched_core.specs.Answered.{Answers}
use Rattle.flux_defs.specs.declared.verdicts.Verdict.{Verdict}
use Rattle.sched_core.proofs.Decided.{given_found}
use Rattle.sched_core.proofs.giving.give.Goals as goal

pub returns-in-Found-clause-answer : goal.returns-in-Found-clause-answer
returns-in-Found-clause-answer c = λ graph rules s moment claims.
    let g = setting_of graph rules c.args.reached.horizon c.args.reached.claim_limit in
    subst (λ (v : Verdict). Answers g s c.args.id c.args.ask.now c.args.none v c.accept.result) (sym c.in-Found.is)
    (given_found g s c.args.id c.args.ask.now c.in-Found.start c.in-Found.claims c.args.none c.accept.result
    c.args.reached.moment c.args.reached.claim_count moment claims (c.accept.ensures.answer graph rules))
