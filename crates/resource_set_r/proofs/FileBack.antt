-- Jobs on graphs of files can be read back.
use Rattle.std.proofs.Common.{ℕ, ◌<◌, ◌≤◌, List, [], ◌∷◌, Option, Some, None, IfSome, IsTrue, arith}
use Rattle.std.specs.List.{AllByRecursion, list_all}
use Rattle.std.proofs.lemmas.Bool.{and_parts}
use Rattle.flux_defs.specs.declared.limits.TheConstants.{GREATEST_ID, NO_ID}
use Rattle.flux_defs.specs.declared.vertices.Vertex.{Vertex}
use Rattle.flux_defs.specs.declared.claims.Job.{Job}
use Rattle.flux_defs.specs.declared.limits.TheConstants.{GREATEST_NUMBER, MOST_NAME_BYTES}
use Rattle.resource_graph.specs.NamedGraph.{NamedGraph}
use Rattle.text_forms.specs.Names.{is_name}
use Rattle.graph_json.specs.FileGraph.{HasFileNumbers, IsFileGraph}
use Rattle.idset_text.specs.Hostlists.{is_host_name}
use Rattle.resource_set_r.specs.ReadBack.{HasIdNumbers, HasSmallQuantity, CanBeRead}

names_named : (names : List (List ℕ)) →
    IsTrue (list_all (is_name MOST_NAME_BYTES) names) → AllByRecursion (λ name. IsTrue (is_host_name name)) names
names_named [] h = tt
names_named (name ∷ names) h = let both = and_parts
    (is_name MOST_NAME_BYTES name) (list_all (is_name MOST_NAME_BYTES) names) h in (both.0, names_named names both.1)

less : (o : Option ℕ) → IfSome o (λ n. n ≤ GREATEST_ID) → IfSome o (λ n. n < NO_ID)
less None h = h
less (Some n) h = let le : n ≤ GREATEST_ID = h in omega arith

numbers_small : (xs : List Vertex) → AllByRecursion HasFileNumbers xs → AllByRecursion HasIdNumbers xs
numbers_small [] all = tt
numbers_small (x ∷ xs) all = (record { id = less x.id all.0.0; rank = less x.rank all.0.1 }, numbers_small xs all.1)

pub can_be_read : (g : NamedGraph) (job : Job) → IsFileGraph g → AllByRecursion HasSmallQuantity job.claims →
    job.start ≤ GREATEST_NUMBER → job.end ≤ GREATEST_NUMBER → CanBeRead g job
can_be_read g job file small start end = record {
  named = file.whole.valid.named;
  names = names_named g.names file.names;
  numbers = numbers_small g.resources.vertices file.numbers;
  quantities = small;
  start = start;
  end = end;
}
