-- The filter rules without an option.
use Rattle.std.proofs.Common.{[], ◌∷◌, codes, refl}
use Rattle.prune_filters.specs.declared.rules.Rule.{Rule}
use Rattle.prune_filters.specs.Filters.{Spells, AreRulesOf}

abbrev pub all_cores : Rule
all_cores = record { high = codes "ALL"; low = codes "core" }

spelled : Spells (codes "ALL:core") all_cores
spelled = record { high = refl; low = refl; spelled = refl }

-- the text has one rule
pub core_rules : AreRulesOf (codes "ALL:core") (all_cores ∷ [])
core_rules = (spelled, tt)
