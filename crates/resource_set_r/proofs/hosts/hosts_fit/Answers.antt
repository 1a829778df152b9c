use Rattle.std.proofs.Common.{sym, ap, ◌∙◌, ◌<◌, length, nat_eq}
use Rattle.idset_text.specs.Hostlists.{names_of}
use Rattle.resource_set_r.proofs.ReadLaws.{fit_some, some_length}
use Rattle.resource_set_r.proofs.hosts.hosts_fit.Goals as goal

pub returns-else-is_empty : goal.returns-else-is_empty
returns-else-is_empty c rows same =
    let some : 0 < length c.args.values.now =
    some_length c.args.values.now (sym c.is_empty.ensures ∙ c.if-is_empty.false) in
    ap (λ n. nat_eq n c.args.ranks) c.host_count.ensures ∙ ap (nat_eq (length (names_of c.args.hosts.now))) same
    ∙ sym (fit_some c.args.values.now rows c.args.hosts.now some)
