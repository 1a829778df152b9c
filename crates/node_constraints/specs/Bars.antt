-- The nodes that a constraint bars.
use Rattle.std.specs.Prelude.{◌≡◌, ℕ, ◌&&◌, List, Bool, not, Option, Some, None, is_some, length, Result, Ok, Err}
use Rattle.std.specs.Prelude.{codes, ⊤}
use Rattle.std.specs.List.{filter, range_with_len}
use Rattle.serde_json.specs.Data.{Data}
use Rattle.resource_graph.specs.NamedGraph.{NamedGraph}
use Rattle.node_constraints.specs.declared.faults.ConstraintFault.{ConstraintFault}
use Rattle.node_constraints.specs.declared.faults.ConstraintFault.TheVariants.{Form, Memory}
use Rattle.node_constraints.specs.Truth.{facts_of, is_true}
use Rattle.node_constraints.specs.Faults.{fault_at}

-- a node for which the constraint is false: exactly the nodes have a rank
abbrev pub is_barred : NamedGraph → Data → ℕ → Bool
is_barred g d v = is_some (facts_of g v).rank && not (is_true (facts_of g v) d)

-- the nodes that it bars, in the order of their numbers
abbrev pub barred_by : NamedGraph → Data → List ℕ
barred_by g d = filter (is_barred g d) (range_with_len 0 (length g.resources.vertices))

-- where the constraint of a jobspec stands
abbrev pub root : List ℕ
root = codes "attributes.system.constraints"

abbrev pub unless_fault : List ℕ → Option (List ℕ) → Result (List ℕ) (List ℕ)
unless_fault bars None = Ok bars
unless_fault bars (Some path) = Err path

-- the nodes that the constraint of a jobspec bars, or the path of its first fault
abbrev pub bars_of : NamedGraph → Data → Result (List ℕ) (List ℕ)
bars_of g d = unless_fault (barred_by g d) (fault_at root d)

-- of want of memory nothing is said; any other fault is the one that is meant
abbrev pub IsFirstFault : {A : Type 0} → Result A (List ℕ) → ConstraintFault → Type 0
IsFirstFault meant (Form path) = meant ≡ Err path
IsFirstFault meant Memory = ⊤
