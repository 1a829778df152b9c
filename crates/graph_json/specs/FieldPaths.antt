-- The fields of a graph file's value, and their paths.
use Rattle.std.specs.Prelude.{ℕ, List, ◌++◌, codes, Result}
use Rattle.json_whole.specs.declared.fields.FieldFault.{FieldFault}
use Rattle.json_fields.specs.Paths.{index}
use Rattle.json_fields.specs.Misfits.{at_field}
use Rattle.json_fields.specs.declared.misfits.Misfit.{Misfit}
use Rattle.graph_json.specs.declared.field_paths.NodeKey.{NodeKey}
use Rattle.graph_json.specs.declared.field_paths.NodeKey.TheVariants.{Id, Metadata, TypeName, Basename, Number, Name}
use Rattle.graph_json.specs.declared.field_paths.NodeKey.TheVariants.{Rank, Size, Unit, Properties}
use Rattle.graph_json.specs.declared.field_paths.EdgeKey.{EdgeKey}
use Rattle.graph_json.specs.declared.field_paths.EdgeKey.TheVariants.{Source, Target, EdgeMetadata}
use Rattle.graph_json.specs.declared.field_paths.FieldPath.{FieldPath}
use Rattle.graph_json.specs.declared.field_paths.FieldPath.TheVariants.{Whole, Graph, Nodes, Edges, Node, NodeField}
use Rattle.graph_json.specs.declared.field_paths.FieldPath.TheVariants.{Property, PropertyKey, Edge, EdgeField}

-- where a key stands, behind its node
abbrev pub node_key : NodeKey → List ℕ
node_key Id = codes ".id"
node_key Metadata = codes ".metadata"
node_key TypeName = codes ".metadata.type"
node_key Basename = codes ".metadata.basename"
node_key Number = codes ".metadata.id"
node_key Name = codes ".metadata.name"
node_key Rank = codes ".metadata.rank"
node_key Size = codes ".metadata.size"
node_key Unit = codes ".metadata.unit"
node_key Properties = codes ".metadata.properties"

-- where a key stands, behind its edge
abbrev pub edge_key : EdgeKey → List ℕ
edge_key Source = codes ".source"
edge_key Target = codes ".target"
edge_key EdgeMetadata = codes ".metadata"

-- the path of a field
abbrev pub path_text : FieldPath → List ℕ
path_text Whole = codes "."
path_text Graph = codes "graph"
path_text Nodes = codes "graph.nodes"
path_text Edges = codes "graph.edges"
path_text (Node at) = codes "graph.nodes" ++ index at
path_text (NodeField at key) = codes "graph.nodes" ++ index at ++ node_key key
path_text (Property at member) = codes "graph.nodes" ++ index at ++ codes ".metadata.properties" ++ index member
path_text (PropertyKey at) = codes "graph.nodes" ++ index at ++ codes ".metadata.properties.*"
path_text (Edge at) = codes "graph.edges" ++ index at
path_text (EdgeField at key) = codes "graph.edges" ++ index at ++ edge_key key

-- a field that breaks its rule
abbrev pub FileMisfit : Type 0
FileMisfit = Misfit FieldPath FieldFault

-- what is read at a key of a node, or its fault there
abbrev pub at_key : {A : Type 0} → ℕ → NodeKey → Result A FieldFault → Result A FileMisfit
at_key at key field = at_field (NodeField at key) field
