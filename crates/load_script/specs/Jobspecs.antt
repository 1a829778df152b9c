-- The jobspecs of a load, as texts in the canonical form.
use Rattle.std.specs.Prelude.{ℕ, List, ◌++◌, codes, decimal}

-- so many cores
unfoldable pub core_request : ℕ → List ℕ
core_request count = codes "{\"type\":\"core\",\"count\":" ++ decimal count ++ codes "}"

-- so many units of memory
unfoldable pub memory_request : ℕ → List ℕ
memory_request count = codes "{\"type\":\"memory\",\"count\":" ++ decimal count ++ codes "}"

-- so many slots over these requests
unfoldable pub slot_request : ℕ → List ℕ → List ℕ
slot_request count within =
    codes "{\"type\":\"slot\",\"count\":" ++ decimal count ++ codes ",\"label\":\"task\",\"with\":[" ++ within ++
    codes "]}"

-- so many nodes over these requests
unfoldable pub node_request : ℕ → List ℕ → List ℕ
node_request count within =
    codes "{\"type\":\"node\",\"count\":" ++ decimal count ++ codes ",\"with\":[" ++ within ++ codes "]}"

-- the task of a jobspec, and its attributes up to the duration
unfoldable pub task_text : List ℕ
task_text =
    codes "],\"tasks\":[{\"command\":[\"app\"],\"slot\":\"task\",\"count\":{\"per_slot\":1}}],\"attributes\":{\"system\":{\"duration\":"

-- a jobspec of this request, for so many seconds
unfoldable pub jobspec : List ℕ → ℕ → List ℕ
jobspec resources seconds =
    codes "{\"version\":1,\"resources\":[" ++ resources ++ task_text ++ decimal seconds ++ codes "}}}"

-- nodes, in each a slot of so many cores
unfoldable pub nodes_jobspec : ℕ → ℕ → ℕ → List ℕ
nodes_jobspec nodes cores seconds = jobspec (node_request nodes (slot_request 1 (core_request cores))) seconds

-- slots of one core
unfoldable pub slots_jobspec : ℕ → ℕ → List ℕ
slots_jobspec slots seconds = jobspec (slot_request slots (core_request 1)) seconds

-- a core and two units of memory
unfoldable pub core_and_memory : List ℕ
core_and_memory = core_request 1 ++ codes "," ++ memory_request 2

-- slots of one core and two units of memory
unfoldable pub memory_jobspec : ℕ → ℕ → List ℕ
memory_jobspec slots seconds = jobspec (slot_request slots core_and_memory) seconds
