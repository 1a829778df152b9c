use Rattle.std.proofs.Common.{Some, sym, ◌∙◌, ap}
use Rattle.flux_defs.specs.declared.journal.Entry.{Entry}
use Rattle.sched_core.proofs.Remains.{replies_next, made_next}
use Rattle.sched_core.proofs.remaking.next.Goals as goal

pub append-requires-clause-reply : goal.append-requires-clause-reply
append-requires-clause-reply g c =
    replies_next c.args.site.now c.args.left.now c.requires.left c.args.at c.args.kept c.requires.made
    c.in_ok-entry.entry (sym c.in-Some.ensures.value ∙ ap (λ (e : Entry). Some e) (sym c.in_ok-entry.ensures))

pub returns-in-Ok : goal.returns-in-Ok
returns-in-Ok g c =
    made_next c.args.site.now c.args.left.now c.requires.left c.args.at c.args.kept c.requires.made
    c.in_ok-entry.entry (sym c.in-Some.ensures.value ∙ ap (λ (e : Entry). Some e) (sym c.in_ok-entry.ensures))
    c.in-Ok.next c.in-Ok.ensures.ok
