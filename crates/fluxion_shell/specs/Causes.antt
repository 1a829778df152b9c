-- Which answers a call may have, and what shows them.
use Rattle.std.specs.Prelude.{◌≡◌, ◌≢◌, ◌⊎◌, ℕ, ◌+◌, ◌<◌, ◌≤◌, ◌++◌, IsTrue, List, [], length, Option, Some, None}
use Rattle.std.specs.Prelude.{IfSome, MatchOption, option_and_then}
use Rattle.std.specs.Io.KnownBytes.{Appends, IsAtEnd}
use Rattle.flux_io.specs.Stores.{Stored, file_of}
use Rattle.resource_graph.specs.NamedGraph.{NamedGraph}
use Rattle.graph_build.specs.declared.raw.GraphFault.TheVariants as graph_fault
use Rattle.graph_json.specs.GraphText.{IsGraphText, IsFirstFault}
use Rattle.graph_json.specs.declared.faults.ReadFault.{ReadFault}
use Rattle.graph_json.specs.declared.faults.ReadFault.TheVariants as read_fault
use Rattle.fluxion_lines.specs.declared.commands.Form.{Form}
use Rattle.fluxion_lines.specs.declared.input.Over.{Over}
use Rattle.fluxion_lines.specs.declared.input.Over.TheVariants as over
use Rattle.fluxion_lines.specs.Inputs.{is_by_size, over_size_in, over_in}
use Rattle.flux_defs.specs.declared.limits.TheConstants.{MOST_FILE_BYTES, SHIPPED}
use Rattle.fluxion_shell.specs.declared.status.Status.{Status}
use Rattle.fluxion_shell.specs.declared.status.Status.TheVariants as status
use Rattle.fluxion_shell.specs.declared.status.Limited.{Limited}
use Rattle.fluxion_shell.specs.declared.status.Which.TheVariants.{GraphBytes, InputBytes, Lines, LineBytes, Clients}
use Rattle.fluxion_shell.specs.declared.status.Which.TheVariants.{Barred}
use Rattle.asked_calls.specs.Calls.{Served, Call, serve, print, load}

-- ---- what was written

-- some text of this kind was appended
abbrev pub AppendsSome : Option (List ℕ) → Option (List ℕ) → (List ℕ → Type 0) → Type 0
AppendsSome old new P = (text : List ℕ) × P text × Appends old new text

-- a front of a text of this kind was appended
abbrev pub AppendsFrontOfSome : Option (List ℕ) → Option (List ℕ) → (List ℕ → Type 0) → Type 0
AppendsFrontOfSome old new P = (front : List ℕ) × (rest : List ℕ) × P (front ++ rest) × Appends old new front

-- ---- what is told

-- the bytes of the file of this name, where the store tells them
abbrev pub told_file : Option Stored → List ℕ → Option (List ℕ)
told_file told name = option_and_then (λ files. file_of files name) told

-- What holds of the bytes that a call reads, where they are told: of the graph file's, and of the input's where it is
-- read.
abbrev pub WhereTold : Call → Option Stored → Option (List ℕ) → (List ℕ → List ℕ → Type 0) → Type 0
WhereTold (serve served) told left P = IfSome (told_file told served.name) (λ file. IfSome left (P file))
WhereTold (print name) told left P = IfSome (told_file told name) (λ file. P file [])
WhereTold (load commands) told left P = P [] []

-- what holds of a call that answers lines; no other is one
abbrev pub OfServing : Call → (Served → Type 0) → Type 0
OfServing (serve served) P = P served
OfServing (print name) P = ⊥
OfServing (load commands) P = ⊥

-- what holds of the name of the graph file that a call reads; a load reads none
abbrev pub OfNaming : Call → (List ℕ → Type 0) → Type 0
OfNaming (serve served) P = P served.name
OfNaming (print name) P = P name
OfNaming (load commands) P = ⊥

-- an input that is answered was read to its end; one that isn't asked for stays as it was
abbrev pub LeavesInput : Call → Status → (left left_now : Option (List ℕ)) → (faults faults_now : ℕ) → Type 0
LeavesInput (serve served) result left left_now faults faults_now = result ≡ status.Ok → IsAtEnd left_now
LeavesInput (print name) result left left_now faults faults_now = (left_now ≡ left) × (faults_now ≡ faults)
LeavesInput (load commands) result left left_now faults faults_now = (left_now ≡ left) × (faults_now ≡ faults)

-- files that aren't asked for count no failure and refuse no name
abbrev pub LeavesFiles : Call → (faults faults_now refused refused_now : ℕ) → Type 0
LeavesFiles (serve served) faults faults_now refused refused_now = Unit {0}
LeavesFiles (print name) faults faults_now refused refused_now = Unit {0}
LeavesFiles (load commands) faults faults_now refused refused_now = (faults_now ≡ faults) × (refused_now ≡ refused)

-- ---- answers and their causes

abbrev pub past_graph : Limited
past_graph = record { which = GraphBytes; found = MOST_FILE_BYTES + 1 }

abbrev pub long_graph : Status
long_graph = status.Limit past_graph

abbrev pub long_input : Status
long_input = status.Limit (record { which = InputBytes; found = MOST_FILE_BYTES + 1 })

-- the answer where a line is past a limit
abbrev pub limit_of : Over → Status
limit_of (over.Lines line) = status.Limit (record { which = Lines; found = line })
limit_of (over.LineBytes line) = status.Limit (record { which = LineBytes; found = line })
limit_of (over.Clients line) = status.Limit (record { which = Clients; found = line })
limit_of (over.Barred line) = status.Limit (record { which = Barred; found = line })

-- want of memory, also as the fault of a graph, is never told as a fault of the file
pub record IsOfFile (fault : ReadFault) : Type 0 where
  pub plain : fault ≢ read_fault.Memory
  pub wrapped : fault ≢ read_fault.Graph graph_fault.Memory

-- the fault of a graph file's bytes
abbrev pub HasFault : List ℕ → ReadFault → Type 0
HasFault bytes fault = IsFirstFault bytes fault × IsOfFile fault

-- this line of the input is the first past a limit, over the graph of the file
abbrev pub IsPastLimit : Form → List ℕ → List ℕ → Over → Type 0
IsPastLimit form file input over = (g : NamedGraph) × IsGraphText file g × (over_in SHIPPED g form input ≡ Some over)

-- What shows that a limit is passed: that of the graph's bytes; and, of a call that answers lines, those of the input's
-- bytes and of its lines.
abbrev pub ShowsLimit : Call → Option Stored → Option (List ℕ) → Type 0 → Limited → Type 0
ShowsLimit call told left Refused limited =
    OfNaming call (λ name. (limited ≡ past_graph) × Refused
    × IfSome (told_file told name) (λ file. MOST_FILE_BYTES < length file))
    ⊎ OfServing call (λ served.
    ((status.Limit limited ≡ long_input) × IfSome left (λ input. MOST_FILE_BYTES < length input))
    ⊎ ((over : Over) × (status.Limit limited ≡ limit_of over)
    × (IsTrue (is_by_size over) → IfSome left (λ input. over_size_in SHIPPED input ≡ Some over))
    × IfSome (told_file told served.name) (λ file. IfSome left (λ input. IsPastLimit served.form file input over))))

-- What an answer to a call rests on, status by status: that files failed, that they refused a name, that the input
-- failed or that the output did, each told by a count that rose in this run; and what told bytes show.
abbrev pub HasCause : Call → Option Stored → Option (List ℕ) → (FilesFailed Refused InputFailed OutFailed : Type 0) →
    Status → Type 0
HasCause call told left FilesFailed Refused InputFailed OutFailed status.Ok = Unit {0}
HasCause call told left FilesFailed Refused InputFailed OutFailed status.Usage = ⊥
HasCause call told left FilesFailed Refused InputFailed OutFailed (status.Graph fault) =
    OfNaming call (λ name. IsOfFile fault × IfSome (told_file told name) (λ file. IsFirstFault file fault))
HasCause call told left FilesFailed Refused InputFailed OutFailed status.Read = OfNaming call (λ name. FilesFailed) ⊎
    OfServing call (λ served. InputFailed)
HasCause call told left FilesFailed Refused InputFailed OutFailed status.Write = OutFailed
HasCause call told left FilesFailed Refused InputFailed OutFailed status.Memory = Unit {0}
HasCause call told left FilesFailed Refused InputFailed OutFailed
    (status.Limit limited) = ShowsLimit call told left Refused limited
HasCause call told left FilesFailed Refused InputFailed OutFailed status.NoGraphFile =
    OfNaming call (λ name. Refused × IfSome told (λ files. file_of files name ≡ None))

-- ---- the first answer that is shown

-- a failure to read or want of memory came before the answer that is shown
abbrev pub OrEarlier : Type 0 → Status → Type 0 → Type 0
OrEarlier Failed result Shown = ((result ≡ status.Read) × Failed) ⊎ ((result ≡ status.Memory) ⊎ Shown)

-- all was answered, unless the output failed
abbrev pub IsWritten : Status → Type 0
IsWritten result = (result ≡ status.Ok) ⊎ (result ≡ status.Write)

-- the answer that the input's lines show
abbrev pub ShowsLines : Type 0 → Status → Option Over → Type 0
ShowsLines Failed result past = MatchOption past (OrEarlier Failed result (IsWritten result))
    (λ over. OrEarlier Failed result (result ≡ limit_of over))

-- the answer that the input's told bytes show, over a graph
abbrev pub ShowsInput : Type 0 → Form → Status → NamedGraph → List ℕ → Type 0
ShowsInput Failed form result g input =
    (MOST_FILE_BYTES < length input → OrEarlier Failed result (result ≡ long_input))
    × (length input ≤ MOST_FILE_BYTES → ShowsLines Failed result (over_in SHIPPED g form input))

-- The answer that the graph file's told bytes show, and what its graph then shows. A failure to read stands in the
-- place of what the file shows only where reading files failed.
pub record ShowsFile (FilesFailed : Type 0) (result : Status) (file : List ℕ)
    (Then : NamedGraph → Type 0) : Type 0 where
  pub long : MOST_FILE_BYTES < length file → OrEarlier FilesFailed result (result ≡ long_graph)
  pub faulty : length file ≤ MOST_FILE_BYTES → (fault : ReadFault) → HasFault file fault →
      OrEarlier FilesFailed result ((told : ReadFault) × HasFault file told × (result ≡ status.Graph told))
  pub graph : length file ≤ MOST_FILE_BYTES → (g : NamedGraph) → IsGraphText file g → Then g

-- the answer that a store's files show, and what the graph of the file of this name then shows
abbrev pub ShowsStore : Type 0 → Status → Option Stored → List ℕ → (NamedGraph → Type 0) → Type 0
ShowsStore FilesFailed result told name Then =
    IfSome told (λ files. MatchOption (file_of files name) (OrEarlier FilesFailed result (result ≡ status.NoGraphFile))
    (λ file. ShowsFile FilesFailed result file Then))

-- The first answer that a call's told file and input show, in their order: the graph file, the graph, the input, its
-- lines. A load reads neither.
abbrev pub IsFirstShown : Call → Option Stored → Option (List ℕ) → (FilesFailed InputFailed : Type 0) → Status → Type 0
IsFirstShown (serve served) told left FilesFailed InputFailed result =
    ShowsStore FilesFailed result told served.name
    (λ g. IfSome left (ShowsInput (FilesFailed ⊎ InputFailed) served.form result g))
IsFirstShown (print name) told left FilesFailed InputFailed result =
    ShowsStore FilesFailed result told name (λ g. OrEarlier FilesFailed result (IsWritten result))
IsFirstShown (load commands) told left FilesFailed InputFailed result = OrEarlier ⊥ result (IsWritten result)

-- ---- what is in order

-- The store tells a graph's file that is not too long.
pub record HasGraphFile (told : Option Stored) (name : List ℕ) : Type 0 where
  pub file : List ℕ
  pub file-is : told_file told name ≡ Some file
  pub short : length file ≤ MOST_FILE_BYTES
  pub graph : NamedGraph
  pub graph-is : IsGraphText file graph

-- The input tells its bytes, they are not too many, and no line is past a limit, over this graph.
pub record HasShortInput (form : Form) (g : NamedGraph) (left : Option (List ℕ)) : Type 0 where
  pub input : List ℕ
  pub input-is : left ≡ Some input
  pub short : length input ≤ MOST_FILE_BYTES
  pub within : over_in SHIPPED g form input ≡ None

-- all that a call reads is told and in order
abbrev pub IsInOrder : Call → Option Stored → Option (List ℕ) → Type 0
IsInOrder (serve served) told left = (file : HasGraphFile told served.name) × HasShortInput served.form file.graph left
IsInOrder (print name) told left = HasGraphFile told name
IsInOrder (load commands) told left = Unit {0}

-- ---- what the code says of a graph that was read

-- where the store tells its files, it has such a file, not too long
abbrev pub Known : Option Stored → List ℕ → List ℕ → Type 0
Known told name bytes = IfSome told (λ files. (file_of files name ≡ Some bytes) × (length bytes ≤ MOST_FILE_BYTES))

abbrev pub IsLoaded : Option Stored → List ℕ → NamedGraph → Type 0
IsLoaded told name graph = (bytes : List ℕ) × Known told name bytes × IsGraphText bytes graph

-- it was not read, and this answer says why
abbrev pub FailsWith : Option Stored → List ℕ → (FilesFailed Refused : Type 0) → Status → Type 0
FailsWith told name FilesFailed Refused status.Ok = ⊥
FailsWith told name FilesFailed Refused status.Usage = ⊥
FailsWith told name FilesFailed Refused (status.Graph fault) =
    IsOfFile fault × IfSome told
    (λ files. (bytes : List ℕ) × (file_of files name ≡ Some bytes) × (length bytes ≤ MOST_FILE_BYTES)
    × IsFirstFault bytes fault)
FailsWith told name FilesFailed Refused status.Read = FilesFailed
FailsWith told name FilesFailed Refused status.Write = ⊥
FailsWith told name FilesFailed Refused status.Memory = Unit {0}
FailsWith told name FilesFailed Refused (status.Limit limited) =
    (limited ≡ past_graph) × Refused
    × IfSome told (λ files. (bytes : List ℕ) × (file_of files name ≡ Some bytes) × (MOST_FILE_BYTES < length bytes))
FailsWith told name FilesFailed Refused status.NoGraphFile = Refused × IfSome told (λ files. file_of files name ≡ None)
