use Rattle.std.proofs.Common.{sym, ap, ◌∙◌, ◌+◌, ◌-◌, length}
use Rattle.idset_text.specs.Hostlists.{own_names}
use Rattle.resource_set_r.proofs.ReadLaws.{length-names_from}
use Rattle.resource_set_r.proofs.hosts.count_of.Goals as goal

pub returns-in-Many-clause-value : goal.returns-in-Many-clause-value
returns-in-Many-clause-value c =
    let m = c.in-Many in
    c.saturating_sub.ensures
    ∙ ap (λ n. n + 1 - c.from-in-Many.result) c.from.ensures ∙ ap (λ n. m.hi + 1 - n) c.from-in-Many.ensures
    ∙ sym (length-names_from m.prefix m.width (m.hi + 1 - m.lo) m.lo) ∙ sym (ap (λ h. length (own_names h)) m.is)
