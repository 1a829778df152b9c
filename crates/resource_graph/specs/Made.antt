-- The graph that is made of types, vertices and texts.
use Rattle.std.specs.Prelude.{ℕ, List}
use Rattle.flux_defs.specs.declared.vertices.Vertex.{Vertex}
use Rattle.resource_graph.specs.NamedGraph.{NamedGraph}
use Rattle.resource_graph.specs.declared.graph.Texts.{Texts}

abbrev pub named_graph : List (List ℕ) → List Vertex → Texts → NamedGraph
named_graph kinds vertices texts = record {
  resources = record { kinds = kinds; vertices = vertices };
  names = texts.names;
  bases = texts.bases;
  units = texts.units;
  properties = texts.properties;
}
