use Rattle.std.proofs.Common.{◌∙◌}
use Rattle.flux_defs.specs.declared.journal.Entry.{Entry}
use Rattle.overtaken_check.proofs.Walks.{told_along, moment_next, to_delay, from_delay}
use Rattle.overtaken_check.proofs.entries.moment_past.Goals as goal

pub returns-clause-answer : goal.returns-clause-answer
returns-clause-answer g c =
    let journal = c.args.journal.now in
    let at = c.args.at in
    let last = c.args.last in
    let moment = c.args.moment in
    let e : Entry = c.in-Some.entry.now in
    let is = c.in-Some.ensures.value in
    let h = c.requires.moment in
    told_along c.moment_after.result (to_delay last journal at moment e is h)
    (λ next told.
    (told.0 ∙ moment_next journal at moment e is h, λ d. told.1 (from_delay last journal at moment e is h d)))
    c.moment_after.ensures
