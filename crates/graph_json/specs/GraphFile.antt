-- What a graph file says: its nodes and its edges.
use Rattle.std.specs.Prelude.{List, Result, codes}
use Rattle.std.specs.Result.{result_map_both}
use Rattle.serde_json.specs.Data.{Data, Items}
use Rattle.json_whole.specs.Values.{items_view}
use Rattle.json_fields.specs.Values.{result_and_then, object_value, object_field, list_field}
use Rattle.json_fields.specs.Misfits.{at_field}
use Rattle.graph_json.specs.Nodes.{FileNode, nodes_of}
use Rattle.graph_json.specs.Edges.{FileEdge, edges_of}
use Rattle.graph_json.specs.declared.field_paths.FieldPath.TheVariants.{Whole, Graph, Nodes, Edges}
use Rattle.graph_json.specs.FieldPaths.{FileMisfit}
use Rattle.graph_json.specs.declared.reading.Lists.{Lists}

-- the values that the lists of a file hold
pub record FileLists : Type 0 where
  pub nodes : Items
  pub edges : Items

-- The nodes of a file, and its edges as they are read.
pub record GraphFile : Type 0 where
  pub nodes : List FileNode
  pub edges : List (Result FileEdge FileMisfit)

-- the lists in `graph`
abbrev pub lists_in : Data → Result FileLists FileMisfit
lists_in d =
    result_and_then (at_field Nodes (list_field (codes "nodes") d)) (λ nodes.
    result_map_both (λ edges. record { nodes = nodes; edges = edges }) (λ m. m)
    (at_field Edges (list_field (codes "edges") d)))

-- the lists of a file
abbrev pub lists_of : Data → Result FileLists FileMisfit
lists_of d =
    result_and_then (at_field Whole (object_value d)) (λ whole.
    result_and_then (at_field Graph (object_field (codes "graph") whole)) lists_in)

-- what a file says, or the first misfit of its lists and its nodes
abbrev pub file_of : Data → Result GraphFile FileMisfit
file_of d =
    result_and_then (lists_of d) (λ lists.
    result_map_both
    (λ nodes. record { nodes = nodes; edges = edges_of 0 lists.edges }) (λ m. m) (nodes_of 0 lists.nodes))

-- ---- what the code holds

abbrev pub lists_held : Lists → FileLists
lists_held l = record { nodes = items_view l.nodes.now.items; edges = items_view l.edges.now.items }
