use Rattle.std.proofs.Common.{◌≡◌, ℕ, ◌<◌, ◌++◌, List, length}
use Rattle.node_constraints.specs.Listed.{IsNumber}
use Rattle.node_constraints.proofs.listed.Listed.has_numbered.Given as goal

-- no shorter prefix has it
abbrev pub invariant-places : goal.invariant-places
invariant-places l = (prefix digits : List ℕ) → l.name ≡ prefix ++ digits → length prefix < l.place
    → IsNumber l.self.prefixes l.self.covered prefix digits → ⊥
