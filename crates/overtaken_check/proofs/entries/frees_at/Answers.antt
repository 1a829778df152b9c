use Rattle.std.proofs.Common.{◌≡◌}
use Rattle.flux_defs.specs.declared.journal.Reply.TheVariants as reply
use Rattle.overtaken_check.proofs.Walks.{tells_none, tells_some}
use Rattle.overtaken_check.proofs.entries.frees_at.Goals as goal

pub returns-in-None-clause-answer : goal.returns-in-None-clause-answer
returns-in-None-clause-answer g c =
    tells_none c.args.journal.now c.args.at (λ e. e.reply ≡ reply.Cancelled) c.in-None.ensures.value

pub returns-in-Some-clause-answer : goal.returns-in-Some-clause-answer
returns-in-Some-clause-answer g c =
    tells_some c.args.journal.now c.args.at (λ e. e.reply ≡ reply.Cancelled) c.in-Some.entry.now c.is_cancel.result
    c.in-Some.ensures.value c.is_cancel.ensures
