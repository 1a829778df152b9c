-- The number and the line that a run ends with.
use Rattle.std.specs.Prelude.{ℕ, List, [], ◌++◌, codes, decimal}
use Rattle.json_fields.specs.Words.{field_word}
use Rattle.graph_build.specs.declared.raw.GraphFault.{GraphFault}
use Rattle.graph_build.specs.declared.raw.GraphFault.TheVariants as graph_fault
use Rattle.graph_json.specs.declared.faults.ReadFault.{ReadFault}
use Rattle.graph_json.specs.declared.faults.ReadFault.TheVariants as fault
use Rattle.fluxion_shell.specs.declared.status.Status.{Status}
use Rattle.fluxion_shell.specs.declared.status.Status.TheVariants as status
use Rattle.fluxion_shell.specs.declared.status.Which.{Which}
use Rattle.fluxion_shell.specs.declared.status.Which.TheVariants.{GraphBytes, InputBytes, Lines, LineBytes, Clients}
use Rattle.fluxion_shell.specs.declared.status.Which.TheVariants.{Barred}

abbrev pub code_of : Status → ℕ
code_of status.Ok = 0
code_of status.Usage = 2
code_of (status.Graph fault) = 3
code_of status.Read = 4
code_of status.Write = 5
code_of status.Memory = 6
code_of (status.Limit limited) = 7
code_of status.NoGraphFile = 8

abbrev pub word_of : Which → List ℕ
word_of GraphBytes = codes "graph-bytes "
word_of InputBytes = codes "input-bytes "
word_of Lines = codes "lines "
word_of LineBytes = codes "line-bytes "
word_of Clients = codes "clients "
word_of Barred = codes "barred "

-- what is wrong with a list of vertices; want of memory is never told so
abbrev pub graph_words : GraphFault → List ℕ
graph_words (graph_fault.Vertices found) = codes "vertices " ++ decimal found
graph_words (graph_fault.Kinds found) = codes "kinds " ++ decimal found
graph_words (graph_fault.UnknownParent v) = codes "parent " ++ decimal v
graph_words (graph_fault.UnknownKind v) = codes "kind " ++ decimal v
graph_words graph_fault.NoRoot = codes "no root"
graph_words (graph_fault.ManyRoots v) = codes "roots " ++ decimal v
graph_words (graph_fault.Cycle v) = codes "cycle " ++ decimal v
graph_words (graph_fault.Depth v) = codes "depth " ++ decimal v
graph_words (graph_fault.NestedKind v) = codes "nested " ++ decimal v
graph_words (graph_fault.ReservedKind v) = codes "reserved " ++ decimal v
graph_words (graph_fault.PoolWithChild v) = codes "pool child " ++ decimal v
graph_words (graph_fault.Sized v) = codes "sized " ++ decimal v
graph_words (graph_fault.Large v) = codes "large " ++ decimal v
graph_words (graph_fault.Loose v) = codes "loose " ++ decimal v
graph_words (graph_fault.NoId v) = codes "no id " ++ decimal v
graph_words (graph_fault.DuplicateId v) = codes "id " ++ decimal v
graph_words (graph_fault.DuplicateName v) = codes "name " ++ decimal v
graph_words (graph_fault.Ranks v) = codes "ranks " ++ decimal v
graph_words graph_fault.Memory = codes "memory"

-- what is wrong with a graph file; want of memory is never told so
abbrev pub fault_words : ReadFault → List ℕ
fault_words fault.NotJson = codes "json"
fault_words (fault.Field path fault) = codes "field " ++ path ++ codes " " ++ field_word fault
fault_words (fault.DuplicateNode at) = codes "node " ++ decimal at
fault_words (fault.Edge at) = codes "edge " ++ decimal at
fault_words (fault.Graph fault) = graph_words fault
fault_words fault.Memory = codes "memory"

-- the line on standard error, with its line feed; none for a run that went well
abbrev pub line_of : Status → List ℕ
line_of status.Ok = []
line_of status.Usage = codes
    "usage: fluxion serve GRAPH [--horizon N] [--filters LIST] [--jobspec FORM] | fluxion graph GRAPH | fluxion load N\n"
line_of (status.Graph fault) = codes "fluxion: graph: " ++ fault_words fault ++ codes "\n"
line_of status.Read = codes "fluxion: read fault\n"
line_of status.Write = codes "fluxion: write fault\n"
line_of status.Memory = codes "fluxion: out of memory\n"
line_of (status.Limit limited) =
    codes "fluxion: limit: " ++ word_of limited.which ++ decimal limited.found ++ codes "\n"
line_of status.NoGraphFile = codes "fluxion: no such file\n"
