use Rattle.std.proofs.Common.{sym, ◌∙◌, subst}
use Rattle.std.proofs.lemmas.Option.{same_Some}
use Rattle.flux_defs.specs.declared.journal.Entry.{Entry}
use Rattle.flux_defs.specs.Overtaken.{HasAccepted}
use Rattle.sched_core.proofs.settling.job_at.Goals as goal

pub returns-in-Some : goal.returns-in-Some
returns-in-Some g c = λ entry job there accepted.
    let here : Entry = c.in-Some.entry.now in
    c.accepted_job.ensures job
    (subst (λ (e : Entry). HasAccepted e job) (sym (same_Some here entry (c.in-Some.ensures.value ∙ there))) accepted)
