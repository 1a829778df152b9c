use Rattle.std.proofs.Common.{ℕ, List, Result, Ok, Err, IfOk, IfErr}
use Rattle.serde_json.specs.Data.{Data}
use Rattle.json_whole.specs.Values.{view}
use Rattle.resource_graph.specs.NamedGraph.{NamedGraph}
use Rattle.graph_json.specs.GraphText.{IsValueOf, IsGraphText, IsFirstFault}
use Rattle.graph_json.specs.declared.faults.ReadFault.{ReadFault}
use Rattle.graph_json.proofs.TextLaws.{one_answer}
use Rattle.graph_json.proofs.reading.read_graph.Goals as goal

module _ (bytes : List ℕ) (d : Data) (is : IsValueOf bytes d) where
  graph_told : (r : Result NamedGraph ReadFault) →
      IfOk r (λ g. (bytes : List ℕ) → IsValueOf bytes d → IsGraphText bytes g) → IfOk r (IsGraphText bytes)
  graph_told (Ok g) told = told bytes is
  graph_told (Err e) told = tt

  fault_told : (r : Result NamedGraph ReadFault) →
      IfErr r (λ f. (bytes : List ℕ) → IsValueOf bytes d → IsFirstFault bytes f) → IfErr r (IsFirstFault bytes)
  fault_told (Ok g) told = tt
  fault_told (Err e) told = told bytes is

pub returns-in-Ok-clause-only : goal.returns-in-Ok-clause-only
returns-in-Ok-clause-only c =
    let bytes = c.args.bytes.now in
    let d = view c.in-Ok.value in
    let is : IsValueOf bytes d = c.in-Ok.ensures.value in
    one_answer bytes c.graph_of.result (graph_told bytes d is c.graph_of.result c.graph_of.ensures.graph)
    (fault_told bytes d is c.graph_of.result c.graph_of.ensures.fault)
