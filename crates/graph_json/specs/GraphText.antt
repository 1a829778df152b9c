-- Which bytes are a graph file and of which graph, and which fault other bytes have.
use Rattle.std.specs.Prelude.{◌≡◌, ◌≢◌, ◌⊎◌, ℕ, List, Some, None, Ok, Err}
use Rattle.json_whole.specs.Whole.{value_of}
use Rattle.serde_json.specs.Data.{Data}
use Rattle.resource_graph.specs.NamedGraph.{NamedGraph}
use Rattle.graph_build.specs.Raw.{IsBuiltFrom, raw_graph, raw_names}
use Rattle.graph_build.specs.Table.{IsFaultless}
use Rattle.graph_build.specs.Table.{IsFirstFault as IsFirstGraphFault}
use Rattle.resource_graph.specs.Finds.{IsLeast, Nowhere}
use Rattle.graph_build.specs.declared.raw.RawVertex.{RawVertex}
use Rattle.graph_build.specs.declared.raw.GraphFault.TheVariants.{Memory as NoRoom}
use Rattle.graph_json.specs.FieldPaths.{path_text, FileMisfit}
use Rattle.graph_json.specs.Edges.{counted, IsWrongEdge, IsFirstWrong}
use Rattle.graph_json.specs.Ids.{ids_of, IsRepeated}
use Rattle.graph_json.specs.RawLists.{kinds_of, vertices_of}
use Rattle.graph_json.specs.GraphFile.{GraphFile, file_of}
use Rattle.graph_json.specs.declared.edges.EdgeFault.{EdgeFault}
use Rattle.graph_json.specs.declared.edges.EdgeFault.TheVariants.{Unfit, Wrong}
use Rattle.graph_json.specs.declared.faults.ReadFault.{ReadFault}
use Rattle.graph_json.specs.declared.faults.ReadFault.TheVariants.{NotJson, Field, DuplicateNode, Edge, Graph, Memory}

-- the bytes are JSON of this value
abbrev pub IsValueOf : List ℕ → Data → Type 0
IsValueOf bytes d = value_of bytes ≡ Some d

-- the bytes are JSON, and the fields of its lists and nodes keep their rules: they say this
abbrev pub Says : List ℕ → GraphFile → Type 0
Says bytes file = (d : Data) × IsValueOf bytes d × (file_of d ≡ Ok file)

-- no two nodes of the file have the same id
abbrev pub HasDistinctIds : GraphFile → Type 0
HasDistinctIds file = Nowhere (IsRepeated (ids_of file.nodes))

-- and no edge is wrong
abbrev pub HasRightEdges : GraphFile → Type 0
HasRightEdges file = HasDistinctIds file × Nowhere (IsWrongEdge (ids_of file.nodes) file.edges)

-- the raw vertices of a file
abbrev pub raw_of : GraphFile → List RawVertex
raw_of file = vertices_of file.nodes (counted file.edges)

-- nothing is wrong with a file's raw vertices
abbrev pub HasFaultlessVertices : GraphFile → Type 0
HasFaultlessVertices file = IsFaultless (raw_graph (kinds_of file.nodes) (raw_of file)) (raw_names (raw_of file))

-- the bytes are a graph file, and this is its graph
abbrev pub IsGraphText : List ℕ → NamedGraph → Type 0
IsGraphText bytes graph = (file : GraphFile) × Says bytes file
    × HasRightEdges file × IsBuiltFrom (kinds_of file.nodes) (raw_of file) graph × HasFaultlessVertices file

-- a field of the file's lists or nodes breaks its rule, and it is the first
abbrev pub HasMisfit : List ℕ → FileMisfit → Type 0
HasMisfit bytes m = (d : Data) × IsValueOf bytes d × (file_of d ≡ Err m)

-- the first edge that is wrong is one with a field that breaks its rule
abbrev pub HasUnfitEdge : List ℕ → FileMisfit → Type 0
HasUnfitEdge bytes m =
    (file : GraphFile) × Says bytes file × HasDistinctIds file × IsFirstWrong (ids_of file.nodes) file.edges (Unfit m)

-- Which fault the bytes have: what is looked at first is told first. Of want of memory nothing is said.
abbrev pub IsFirstFault : List ℕ → ReadFault → Type 0
IsFirstFault bytes NotJson = value_of bytes ≡ None
IsFirstFault bytes (Field path fault) = (m : FileMisfit) × (path ≡ path_text m.field) × (fault ≡ m.fault)
    × (HasMisfit bytes m ⊎ HasUnfitEdge bytes m)
IsFirstFault bytes (DuplicateNode at) = (file : GraphFile) × Says bytes file
    × IsLeast (IsRepeated (ids_of file.nodes)) at
IsFirstFault bytes (Edge at) = (file : GraphFile) × Says bytes file × HasDistinctIds file
    × IsFirstWrong (ids_of file.nodes) file.edges (Wrong at)
IsFirstFault bytes (Graph fault) = (file : GraphFile) × Says bytes file × HasRightEdges file
    × IsFirstGraphFault (raw_graph (kinds_of file.nodes) (raw_of file)) (raw_names (raw_of file)) fault
    × (fault ≢ NoRoom)
IsFirstFault bytes Memory = Unit {0}

-- ---- for private clauses

-- the fault tells of this misfit, or of want of memory
abbrev pub IsToldAs : FileMisfit → ReadFault → Type 0
IsToldAs m NotJson = ⊥
IsToldAs m (Field path fault) = (path ≡ path_text m.field) × (fault ≡ m.fault)
IsToldAs m (DuplicateNode at) = ⊥
IsToldAs m (Edge at) = ⊥
IsToldAs m (Graph fault) = ⊥
IsToldAs m Memory = Unit {0}

-- the fault tells of what is wrong with an edge, or of want of memory
abbrev pub IsEdgeToldAs : EdgeFault → ReadFault → Type 0
IsEdgeToldAs (Unfit m) fault = IsToldAs m fault
IsEdgeToldAs (Wrong at) fault = fault ≡ Edge at

-- the fault is one of these raw vertices, or want of memory
abbrev pub IsFirstRawFault : List (List ℕ) → List RawVertex → ReadFault → Type 0
IsFirstRawFault kinds raw NotJson = ⊥
IsFirstRawFault kinds raw (Field path fault) = ⊥
IsFirstRawFault kinds raw (DuplicateNode at) = ⊥
IsFirstRawFault kinds raw (Edge at) = ⊥
IsFirstRawFault kinds raw (Graph fault) = IsFirstGraphFault (raw_graph kinds raw) (raw_names raw) fault
    × (fault ≢ NoRoom)
IsFirstRawFault kinds raw Memory = Unit {0}
