use Rattle.std.proofs.Common.{◌≡◌, ◌+◌, ◌++◌, ℕ, List, length}
use Rattle.std.specs.List.{AllZip}
use Rattle.prune_filters.specs.Names.{items_of}
use Rattle.prune_filters.specs.Filters.{Spells}
use Rattle.prune_filters.proofs.TextLaws.{bytes_of}
use Rattle.prune_filters.proofs.rules.Rules.read.Given as goal

-- the items before `at` are the rules so far, and `rest` has the others
abbrev pub invariant-items : goal.invariant-items
invariant-items l = record {
  sizes : l.at + length l.rest ≡ length l.text;
  read : (before : List (List ℕ))
      × (items_of l.text ≡ before ++ items_of l.rest) × AllZip Spells before l.rules.items × (l.at ≡ bytes_of before);
}

abbrev pub decreases-items : goal.decreases-items
decreases-items l = length l.rest
