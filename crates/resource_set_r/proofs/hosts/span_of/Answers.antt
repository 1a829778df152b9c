use Rattle.std.proofs.Common.{sym, ap, ◌∙◌, ◌+◌, ◌-◌}
use Rattle.resource_set_r.proofs.ReadLaws.{length-ids_from}
use Rattle.resource_set_r.proofs.hosts.span_of.Goals as goal

pub returns-clause-value : goal.returns-clause-value
returns-clause-value c =
    let range = c.args.range.now in
    c.saturating_sub.ensures ∙ ap (λ n. n + 1 - c.from-2.result) c.from.ensures
    ∙ ap (λ n. range.hi + 1 - n) c.from-2.ensures ∙ sym (length-ids_from (range.hi + 1 - range.lo) range.lo)
