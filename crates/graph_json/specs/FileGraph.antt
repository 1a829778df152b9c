-- Which graphs a graph file can hold.
use Rattle.std.specs.Prelude.{◌≡◌, ℕ, ◌≤◌, List, IfSome, IsTrue}
use Rattle.std.specs.List.{AllByRecursion, list_all}
use Rattle.flux_defs.specs.declared.vertices.Vertex.{Vertex}
use Rattle.flux_defs.specs.declared.limits.TheConstants.{MOST_NAME_BYTES, MOST_TYPE_BYTES, GREATEST_ID}
use Rattle.resource_graph.specs.NamedGraph.{NamedGraph, IsWhole}
use Rattle.graph_json.specs.Fields.{is_unit}
use Rattle.text_forms.specs.Names.{is_name}
use Rattle.graph_json.specs.Nodes.{in_order}

-- the properties of a vertex: names, in byte order, each once
abbrev pub AreProperties : List (List ℕ) → Type 0
AreProperties list = IsTrue (list_all (is_name MOST_NAME_BYTES) list) × (in_order list ≡ list)

-- the id and the rank of a vertex leave the greatest number of 32 bits free
abbrev pub HasFileNumbers : Vertex → Type 0
HasFileNumbers x = IfSome x.id (λ n. n ≤ GREATEST_ID) × IfSome x.rank (λ n. n ≤ GREATEST_ID)

-- A valid graph whose texts and numbers keep the rules of a graph file.
pub record IsFileGraph (g : NamedGraph) : Type 0 where
  pub whole : IsWhole g
  pub kinds : IsTrue (list_all (is_name MOST_TYPE_BYTES) g.resources.kinds)
  pub names : IsTrue (list_all (is_name MOST_NAME_BYTES) g.names)
  pub bases : IsTrue (list_all (is_name MOST_NAME_BYTES) g.bases)
  pub units : IsTrue (list_all is_unit g.units)
  pub properties : AllByRecursion AreProperties g.properties
  pub numbers : AllByRecursion HasFileNumbers g.resources.vertices
