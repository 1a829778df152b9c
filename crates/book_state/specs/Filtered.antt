-- A graph with filter rules, and which totals these keep.
use Rattle.std.specs.Prelude.{ℕ, Bool, List, ◌↔◌, IsTrue}
use Rattle.std.specs.List.{AllZip}
use Rattle.resource_graph.specs.NamedGraph.{NamedGraph}
use Rattle.prune_filters.specs.declared.rules.Rule.{Rule}
use Rattle.prune_filters.specs.Filters.{IsKept}

-- a graph, and the filter rules
pub record Filtered : Type 0 where
  pub graph : NamedGraph
  pub rules : List Rule

-- by the number of the lower type, whether the rules keep totals of it at vertices of the type of this name
abbrev pub IsKeptRow : List (List ℕ) → List Rule → List ℕ → List Bool → Type 0
IsKeptRow kinds rules high row = AllZip (λ low kept. IsTrue kept ↔ IsKept rules high low) kinds row

-- by the number of the upper type, the row of its name
abbrev pub AreKeptRows : List (List ℕ) → List Rule → List (List Bool) → Type 0
AreKeptRows kinds rules rows = AllZip (IsKeptRow kinds rules) kinds rows
