use Rattle.std.proofs.Common.{◌≡◌, ◌++◌, ◌+◌, ◌-◌}
use Rattle.idset_text.specs.Idsets.{ids_from, ids_between}
use Rattle.graph_from_r.proofs.ids.add_ids.Given as goal

-- what was added, and what is left to add
abbrev pub invariant-one_by_one : goal.invariant-one_by_one
invariant-one_by_one l = l.ids.items ++ ids_from (l.range.hi + 1 - l.id) l.id ≡ l.fn.ids.items ++ ids_between l.range
