use Rattle.std.proofs.Common.{sym, ap, ◌∙◌, fold, ◌-◌, ◌+◌, arith}
use Rattle.std.specs.Ordering.{nat_cmp}
use Rattle.std.specs.BTreeSet.{insert_key}
use Rattle.idset_text.specs.Idsets.{ids_from}
use Rattle.resource_set_r.proofs.Filtered.{ids_step}
use Rattle.resource_set_r.specs.Rows.{rising}
use Rattle.resource_set_r.proofs.sets.add_all.Goals as goal

pub numbers-preserved : goal.numbers-preserved
numbers-preserved c =
    let n = c.numbers.number in
    let rest = ids_from (c.args.to - (n + 1)) (n + 1) in
    ap (λ ks. fold (insert_key nat_cmp) ks rest) c.in_ok-add.ensures
    ∙ sym (ap (λ ns. fold (insert_key nat_cmp) (rising c.numbers.numbers.items) ns)
    (ids_step n c.args.to (omega arith)))
    ∙ c.numbers.invariant
