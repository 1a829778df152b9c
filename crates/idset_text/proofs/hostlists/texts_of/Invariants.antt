use Rattle.std.proofs.Common.{◌≡◌, ◌++◌, false, drop}
use Rattle.idset_text.specs.Hostlists.{texts_from}
use Rattle.idset_text.proofs.hostlists.texts_of.Given as goal

-- the texts so far, and those of the run with the names that are left
abbrev pub invariant-names : goal.invariant-names
invariant-names l = l.texts.items ++ texts_from l.many l.first l.last (drop l.name-index l.others)
    ≡ texts_from false l.fn.first l.fn.first l.others
