-- What rows of the table of faults say together, and what those that were checked say of the vertices.
use Rattle.std.proofs.Common.{◌≡◌, ℕ, ◌++◌, List, [], ◌∷◌, length, inl, inr}
use Rattle.std.proofs.lemmas.Bool.{cases_lt}
use Rattle.flux_defs.specs.Graph.{ResourceGraph}
use Rattle.resource_graph.specs.Finds.{Nowhere}
use Rattle.resource_graph.specs.Chains.{KnowsParents}
use Rattle.graph_build.specs.Faults.{HasUnknownParent}
use Rattle.graph_build.specs.Table.{Row, row, NoneHolds, IsFirstRow, IsFirstIn, IsFirstFault, IsFaultless, table}
use Rattle.graph_build.specs.declared.raw.GraphFault.{GraphFault}
use Rattle.graph_build.specs.declared.raw.GraphFault.TheVariants.{Memory}

pub none_append : (a b : List Row) → NoneHolds a → NoneHolds b → NoneHolds (a ++ b)
none_append [] b none rest = rest
none_append (row ∷ a) b none rest = (none.0, none_append a b none.1 rest)

first_left : (a b : List Row) (fault : GraphFault) → IsFirstRow a fault → IsFirstRow (a ++ b) fault
first_left [] b fault first = absurd first
first_left (row ∷ a) b fault (inl here) = inl here
first_left (row ∷ a) b fault (inr later) = inr (later.0, first_left a b fault later.1)

first_right : (a b : List Row) (fault : GraphFault) → NoneHolds a → IsFirstRow b fault → IsFirstRow (a ++ b) fault
first_right [] b fault none first = first
first_right (row ∷ a) b fault none first = inr (none.0, first_right a b fault none.1 first)

pub in_left : (a b : List Row) (fault : GraphFault) → IsFirstIn a fault → IsFirstIn (a ++ b) fault
in_left a b fault (inl memory) = inl memory
in_left a b fault (inr first) = inr (first_left a b fault first)

pub in_right : (a b : List Row) → NoneHolds a → (fault : GraphFault) → IsFirstIn b fault → IsFirstIn (a ++ b) fault
in_right a b none fault (inl memory) = inl memory
in_right a b none fault (inr first) = inr (first_right a b fault none first)

no_first : (rows : List Row) (fault : GraphFault) → NoneHolds rows → IsFirstRow rows fault → ⊥
no_first [] fault none first = first
no_first (row ∷ rows) fault none (inl here) = none.0 here.0 here.2.0
no_first (row ∷ rows) fault none (inr later) = no_first rows fault none.1 later.1

-- of a list with which nothing is wrong only want of memory is told
pub nothing_told : (g : ResourceGraph) (names : List (List ℕ)) (fault : GraphFault) → IsFaultless g names →
    IsFirstFault g names fault → fault ≡ Memory
nothing_told g names fault fine (inl memory) = memory
nothing_told g names fault fine (inr first) = absurd (no_first (table g names) fault fine first)

pub parents_clear : (g : ResourceGraph) → Nowhere (HasUnknownParent g) → KnowsParents g.vertices
parents_clear g clear v p e = elim (cases_lt p (length g.vertices))
    [ inl less ↦ less | inr past ↦ absurd (clear v (p, e, past)) ]
