-- What every graph has beside its vertices: the tables that answer its queries.
use Rattle.std.specs.Prelude.{length}
use Rattle.resource_graph.specs.NamedGraph.{NamedGraph, IsWhole}
use Rattle.resource_graph.specs.Holds.{HasPasts, HasNodes, HasLists, HasRanked, HasPools, HasNested}
use Rattle.resource_graph.specs.Paths.{HasPlaces}
use Rattle.resource_graph.specs.declared.graph.Graph.TheInside.{Inside}

-- the graph that contracts see
abbrev pub graph_of : Inside → NamedGraph
graph_of a = record {
  resources = record { kinds = a.kinds; vertices = a.vertices };
  names = a.names;
  bases = a.bases;
  units = a.units;
  properties = a.properties;
}

-- the graph is valid, and each table holds what it answers
pub record HasTables (a : Inside) : Type 0 where
  pub whole : IsWhole (graph_of a)
  pub past : HasPasts a.vertices a.past.items
  pub nodes : HasNodes a.vertices a.nodes.items
  pub lists : HasLists a.vertices (length a.kinds) a.lists.items
  pub ranked : HasRanked a.vertices a.ranked
  pub pools : HasPools a.vertices a.pools.items
  pub nested : HasNested a.vertices (length a.kinds) a.nested.items
  pub places : HasPlaces a.vertices a.names a.places.last.items a.places.earlier.items
