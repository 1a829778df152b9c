use Rattle.std.proofs.Common.{sym, subst, IfOk}
use Rattle.flux_defs.specs.declared.journal.Command.{Command}
use Rattle.flux_defs.specs.Scheduler.{Replies}
use Rattle.sched_core.specs.Courses.{left_by, journal_in, setting_in}
use Rattle.sched_core.proofs.replying.reply.Goals as goal

pub returns-in-Allocate : goal.returns-in-Allocate
returns-in-Allocate g c =
    let site = c.args.site.now in
    let kept = c.args.kept.now in
    subst (λ (x : Command). IfOk c.job_reply.result (Replies (setting_in site kept) (left_by (journal_in kept)) x))
    (sym c.in-Allocate.is) c.job_reply.ensures

pub returns-in-Reserve : goal.returns-in-Reserve
returns-in-Reserve g c =
    let site = c.args.site.now in
    let kept = c.args.kept.now in
    subst (λ (x : Command). IfOk c.job_reply-in-Reserve.result
    (Replies (setting_in site kept) (left_by (journal_in kept)) x)) (sym c.in-Reserve.is)
    c.job_reply-in-Reserve.ensures

pub returns-in-Satisfy : goal.returns-in-Satisfy
returns-in-Satisfy g c =
    let site = c.args.site.now in
    let kept = c.args.kept.now in
    subst (λ (x : Command). Replies (setting_in site kept) (left_by (journal_in kept)) x c.satisfy.result)
    (sym c.in-Satisfy.is) (c.satisfy.ensures kept (left_by (journal_in kept)))

pub returns-in-Cancel : goal.returns-in-Cancel
returns-in-Cancel g c =
    let site = c.args.site.now in
    let kept = c.args.kept.now in
    subst (λ (x : Command). Replies (setting_in site kept) (left_by (journal_in kept)) x c.cancel.result)
    (sym c.in-Cancel.is) (c.cancel.ensures (setting_in site kept))

pub returns-in-Info : goal.returns-in-Info
returns-in-Info g c =
    let site = c.args.site.now in
    let kept = c.args.kept.now in
    subst (λ (x : Command). Replies (setting_in site kept) (left_by (journal_in kept)) x c.info.result)
    (sym c.in-Info.is) (c.info.ensures (setting_in site kept))
