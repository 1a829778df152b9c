use Rattle.std.proofs.Common.{◌≡◌, ◌-◌, fold}
use Rattle.std.specs.Ordering.{nat_cmp}
use Rattle.std.specs.BTreeSet.{insert_key}
use Rattle.idset_text.specs.Idsets.{ids_from}
use Rattle.resource_set_r.specs.Rows.{rising}
use Rattle.resource_set_r.proofs.sets.add_all.Given as goal

abbrev pub invariant-numbers : goal.invariant-numbers
invariant-numbers l = fold (insert_key nat_cmp) (rising l.numbers.items) (ids_from (l.to - l.number) l.number)
    ≡ fold (insert_key nat_cmp) (rising l.fn.numbers.items) (ids_from (l.to - l.from) l.from)
