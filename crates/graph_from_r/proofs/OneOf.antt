-- Bytes of a resource set have one graph, and no fault is told of them.
use Rattle.std.proofs.Common.{◌≡◌, ◌≢◌, ◌⊎◌, ℕ, ◌<◌, ◌≤◌, List, [], length, Option, Some, None, inl, inr, refl, sym}
use Rattle.std.proofs.Common.{◌∙◌}
use Rattle.std.proofs.Common.{ap, subst, arith}
use Rattle.serde_json.specs.Data.{Data}
use Rattle.json_whole.specs.Whole.{value_of}
use Rattle.flux_defs.specs.declared.limits.TheConstants.{MOST_VERTICES}
use Rattle.idset_text.specs.Idsets.{ids_of}
use Rattle.resource_graph.specs.NamedGraph.{NamedGraph}
use Rattle.resource_graph.specs.Finds.{IsLeast, Nowhere}
use Rattle.graph_build.specs.Raw.{IsBuiltFrom}
use Rattle.graph_build.proofs.OneGraph.{one_graph}
use Rattle.resource_set_r.specs.declared.sets_read.RSet.{RSet}
use Rattle.resource_set_r.specs.ReadRows.{ranges_in, IsRepeatedRank}
use Rattle.resource_set_r.specs.ReadR.{IsSetOf}
use Rattle.resource_set_r.proofs.OneSet.{one_set, no_fault}
use Rattle.resource_set_r.proofs.SetFacts.{facts_of}
use Rattle.graph_from_r.specs.declared.faults.LoadFault.{LoadFault}
use Rattle.graph_from_r.specs.declared.faults.LoadFault.TheVariants.{R, NoRanks, Large, Property, Name, Memory}
use Rattle.graph_from_r.specs.declared.nodes.RNode.{RNode}
use Rattle.graph_from_r.specs.declared.properties.Property.{Property as Prop}
use Rattle.graph_from_r.specs.Sizes.{vertex_count}
use Rattle.graph_from_r.specs.Properties.{properties_in}
use Rattle.graph_from_r.specs.Nodes.{AreNodesOf}
use Rattle.graph_from_r.specs.Names.{HasEarlierName, IsRepeatedName}
use Rattle.graph_from_r.specs.Vertices.{r_kinds, r_vertices}
use Rattle.graph_from_r.specs.Graphs.{HasSize, IsGraphWith, IsGraphOfValue, IsGraphOfR, IsOfSet, HasRepeatedName}
use Rattle.graph_from_r.specs.Graphs.{IsFirstFault}
use Rattle.graph_from_r.proofs.OneNodes.{one_list}

same_some : {X : Type 0} (o : Option X) (a b : X) → o ≡ Some a → o ≡ Some b → a ≡ b
same_some None a b p q = absurd (cc)
same_some (Some x) a b p q = let here : x ≡ a = cc in let there : x ≡ b = cc in sym here ∙ there

module _ (bytes : List ℕ) (d : Data) (value : value_of bytes ≡ Some d) where
  -- a value of the bytes is that value, and a set of theirs that set
  same_data : (e : Data) → value_of bytes ≡ Some e → e ≡ d
  same_data e other = same_some (value_of bytes) e d other value

  module _ (set : RSet) (is_set : IsSetOf d set) where
    same_set : (e : Data) (other : RSet) → IsOfSet bytes e other → other ≡ set
    same_set e other of_set = one_set bytes other set (e, of_set.value, of_set.is_set) (d, value, is_set)

    same_given : (e : Data) (a b : List Prop) → value_of bytes ≡ Some e → properties_in d ≡ Some a →
        properties_in e ≡ Some b → b ≡ a
    same_given e a b other has given =
        same_some (properties_in d) b a (subst (λ (x : Data). properties_in x ≡ Some b) (same_data e other) given) has

-- the ranks of a value's set are not repeated
apart_in : (d : Data) (set : RSet) → IsSetOf d set → IsRepeatedRank (ranges_in set.rows) None
apart_in d set is = (facts_of d set is).apart

-- no name is repeated and some name is
not_repeated : (nodes : List RNode) (rank : ℕ) → IsRepeatedName nodes None → IsRepeatedName nodes (Some rank) → ⊥
not_repeated nodes rank none some = none some.0 some.1.0

-- bytes have one graph
pub one_graph_of_r : (bytes : List ℕ) (g h : NamedGraph) → IsGraphOfR bytes g → IsGraphOfR bytes h → g ≡ h
one_graph_of_r bytes g h (d, value, a) (e, other, b) =
    let set : b.set ≡ a.set =
    same_set bytes d value a.set a.is_set e b.set (record { value = other; is_set = b.is_set }) in
    let given : b.properties ≡ a.properties =
    same_given bytes d value a.set a.is_set e a.properties b.properties other a.given b.given in
    let with_set = subst (λ (s : RSet). AreNodesOf s b.properties b.graph.nodes) set b.graph.are in
    let are = subst (λ (ps : List Prop). AreNodesOf a.set ps b.graph.nodes) given with_set in
    let nodes = one_list a.set a.properties (apart_in d a.set a.is_set) a.graph.nodes b.graph.nodes a.graph.are are in
    one_graph r_kinds (r_vertices a.graph.nodes) g h a.graph.built
    (subst (λ (ns : List RNode). IsBuiltFrom r_kinds (r_vertices ns) h) (sym nodes) b.graph.built)

-- and no fault is told of them
pub no_fault_of_r : (bytes : List ℕ) (g : NamedGraph) (fault : LoadFault) → IsGraphOfR bytes g →
    IsFirstFault bytes fault → fault ≡ Memory
no_fault_of_r bytes g (R fault) (d, value, a) told =
    absurd (told.1 (no_fault bytes a.set fault (d, value, a.is_set) told.0))
no_fault_of_r bytes g NoRanks (d, value, a) (e, other, of_set, none) =
    let set = same_set bytes d value a.set a.is_set e other of_set in
    let empty = ap length (subst (λ (s : RSet). ids_of (ranges_in s.rows) ≡ []) set none) in
    let some = a.size.some in
    absurd (omega (arith, empty, some))
no_fault_of_r bytes g Large (d, value, a) (e, other, of_set, many) =
    let set = same_set bytes d value a.set a.is_set e other of_set in
    let more = subst (λ (s : RSet). MOST_VERTICES < vertex_count s.rows) set many in
    let few = a.size.few in
    absurd (omega (arith, more, few))
no_fault_of_r bytes g Property (d, value, a) (e, other, of_set, size, none) =
    let same = same_data bytes d value e of_set.value in
    let clash : None ≡ Some a.properties =
    sym (subst (λ (x : Data). properties_in x ≡ None) same none) ∙ a.given in
    absurd (cc)
no_fault_of_r bytes g (Name rank) (d, value, a) (e, other, of_set, size, properties, given, has) =
    let nodes = has.0 in
    let set = same_set bytes d value a.set a.is_set e other of_set in
    let same = same_given bytes d value a.set a.is_set e a.properties properties of_set.value a.given given in
    let with_set = subst (λ (s : RSet). AreNodesOf s properties nodes) set has.1 in
    let here = subst (λ (ps : List Prop). AreNodesOf a.set ps nodes) same with_set in
    let list = one_list a.set a.properties (apart_in d a.set a.is_set) nodes a.graph.nodes here a.graph.are in
    absurd (not_repeated a.graph.nodes rank a.graph.apart
    (subst (λ (ns : List RNode). IsRepeatedName ns (Some rank)) list has.2))
no_fault_of_r bytes g Memory text told = refl
