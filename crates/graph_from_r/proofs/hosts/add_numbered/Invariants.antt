use Rattle.std.proofs.Common.{◌≡◌, ◌++◌, ◌+◌, ◌-◌}
use Rattle.idset_text.specs.Hostlists.{names_from}
use Rattle.graph_from_r.proofs.hosts.add_numbered.Given as goal

-- what was added, and what is left to add
abbrev pub invariant-numbers : goal.invariant-numbers
invariant-numbers l = l.names.items ++ names_from l.prefix l.width (l.hi + 1 - l.number) l.number
    ≡ l.fn.names.items ++ names_from l.prefix l.width (l.hi + 1 - l.lo) l.lo
