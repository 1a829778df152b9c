-- What it is to keep, of a list of nodes, those for which a constraint is true.
use Rattle.std.specs.Prelude.{◌≡◌, ℕ, List, ◌++◌, Bool, not, Result, Ok, Err, ⊤, Option, Some, None}
use Rattle.std.specs.List.{filter}
use Rattle.node_constraints.specs.declared.faults.ConstraintFault.{ConstraintFault}
use Rattle.node_constraints.specs.declared.faults.ConstraintFault.TheVariants.{Form, Memory}
use Rattle.resource_graph.specs.NamedGraph.{NamedGraph}
use Rattle.node_constraints.specs.Truth.{NodeFacts, facts_of}

-- the nodes for which something is true
abbrev pub where_true : NamedGraph → (NodeFacts → Bool) → List ℕ → List ℕ
where_true g holds nodes = filter (λ v. holds (facts_of g v)) nodes

-- `some` are the nodes for which something is true, so `others` are those for which it is false
abbrev pub AreOthers : List ℕ → List ℕ → List ℕ → Type 0
AreOthers nodes some others =
    (holds : ℕ → Bool) → some ≡ filter holds nodes → others ≡ filter (λ v. not (holds v)) nodes

-- a fault that is told from a path on is the one that is meant; of want of memory nothing is said
abbrev pub Means : List ℕ → Option (List ℕ) → ConstraintFault → Type 0
Means path meant (Form rest) = meant ≡ Some (path ++ rest)
Means path meant Memory = ⊤

-- the answer is that there is no fault, or the fault that there is, told from a path on
abbrev pub Finds : {A : Type 0} → List ℕ → Result A ConstraintFault → Option (List ℕ) → Type 0
Finds path (Ok x) meant = meant ≡ None
Finds path (Err fault) meant = Means path meant fault
