-- What a jobspec V1 (RFC 25) asks for, or the first fault of it, in the order in which faults are told.
use Rattle.std.specs.Prelude.{ℕ, ◌==◌, List, [], if◌then◌else◌, Bool, false, true, not, Option, Some, None, Result, Ok}
use Rattle.std.specs.Prelude.{Err, codes}
use Rattle.std.specs.Result.{result_map_both}
use Rattle.serde_json.specs.Data.{Data, Items, no_items, item}
use Rattle.json_whole.specs.Whole.{value_of}
use Rattle.json_whole.specs.Field.{u64_field}
use Rattle.json_fields.specs.Values.{result_and_then, object_value, some_field}
use Rattle.flux_defs.specs.declared.requests.Ask.{Ask}
use Rattle.flux_defs.specs.Graph.{ResourceGraph}
use Rattle.resource_graph.specs.NamedGraph.{NamedGraph}
use Rattle.need_shape.specs.declared.raw.RawNeed.{RawNeed}
use Rattle.need_shape.specs.declared.raw.ShapeFault.{ShapeFault}
use Rattle.need_shape.specs.Types.{types_for}
use Rattle.need_shape.specs.Shapes.{outside, needs_in}
use Rattle.need_shape.specs.Faults.{list_fault}
use Rattle.node_constraints.specs.Bars.{bars_of}
use Rattle.jobspec_v1.specs.declared.faults.SpecFault.{SpecFault}
use Rattle.jobspec_v1.specs.declared.faults.SpecFault.TheVariants.{NotJson, Version, Form, Task, Shape, Constraint}
use Rattle.jobspec_v1.specs.Faults.{at_path}
use Rattle.jobspec_v1.specs.Requests.{requests_of}
use Rattle.jobspec_v1.specs.declared.requests.Requested.{Requested}
use Rattle.flux_defs.specs.declared.limits.TheConstants.{GREATEST_NUMBER}
use Rattle.jobspec_v1.specs.Tasks.{task_list, tasks_fault}
use Rattle.jobspec_v1.specs.Attributes.{terms_of}
use Rattle.jobspec_v1.specs.Forms.{is_v1}

-- the fault, where there is one
abbrev pub unless_fault : Option SpecFault → Result Bool SpecFault
unless_fault None = Ok true
unless_fault (Some fault) = Err fault

abbrev pub unless : Bool → SpecFault → Result Bool SpecFault
unless wrong fault = if wrong then Err fault else Ok true

-- ---- the parts that every jobspec has

-- the version: a whole number from 1
abbrev pub version_of : Data → Result ℕ SpecFault
version_of d = at_path (codes "version") (u64_field (codes "version") 1 GREATEST_NUMBER d)

-- its request vertices, and the labels of its slots
abbrev pub resources_of : Data → Result Requested SpecFault
resources_of d =
    result_and_then (at_path (codes "resources") (some_field (codes "resources") d))
    (λ ds. requests_of ds false (codes "resources") 0 [])

-- the nodes that a constraint bars: none where there is none
abbrev pub bars_in : NamedGraph → Option Data → Result (List ℕ) SpecFault
bars_in g None = Ok []
bars_in g (Some d) = result_map_both (λ bars. bars) (λ path. Constraint path) (bars_of g d)

abbrev pub unless_shape : ResourceGraph → ℕ → List ℕ → List RawNeed → Option ShapeFault → Result Ask SpecFault
unless_shape g duration barred request None =
    Ok (record { needs = needs_in (types_for g request) outside request; duration = duration; barred = barred })
unless_shape g duration barred request (Some fault) = Err (Shape fault)

-- the ask of request vertices over a graph, for so many seconds and without the barred nodes
abbrev pub ask_for : ResourceGraph → ℕ → List ℕ → List RawNeed → Result Ask SpecFault
ask_for g duration barred request =
    unless_shape g duration barred request (list_fault (types_for g request) outside request)

-- what a jobspec with these request vertices asks for, by its attributes
abbrev pub ask_by : NamedGraph → List RawNeed → Data → Result Ask SpecFault
ask_by g request d =
    result_and_then (terms_of d) (λ terms.
    result_and_then (bars_in g terms.constraint) (λ bars.
    ask_for g.resources terms.duration bars request))

-- ---- those of V1

abbrev pub is_one : Items → Bool
is_one no_items = false
is_one (item d no_items) = true
is_one (item d (item e ds)) = false

-- one task or more, each of them well formed
abbrev pub tasks_in : List (List ℕ) → Data → Result Bool SpecFault
tasks_in labels d = result_and_then (task_list d) (λ tasks. unless_fault (tasks_fault labels 0 tasks))

-- V1 has one task
abbrev pub v1_tasks : List (List ℕ) → Data → Result Bool SpecFault
v1_tasks labels d =
    result_and_then (task_list d) (λ tasks.
    result_and_then (unless (not (is_one tasks)) (Task (codes "tasks"))) (λ _.
    unless_fault (tasks_fault labels 0 tasks)))

-- what a value asks for over a graph
abbrev pub v1_in : NamedGraph → Data → Result Ask SpecFault
v1_in g d =
    result_and_then (at_path (codes ".") (object_value d)) (λ _.
    result_and_then (version_of d) (λ version.
    result_and_then (unless (not (version == 1)) Version) (λ _.
    result_and_then (resources_of d) (λ requested.
    result_and_then (unless (not (is_v1 requested.needs)) Form) (λ _.
    result_and_then (v1_tasks requested.labels d) (λ _.
    ask_by g requested.needs d))))))

abbrev pub v1_or_no_json : NamedGraph → Option Data → Result Ask SpecFault
v1_or_no_json g None = Err NotJson
v1_or_no_json g (Some d) = v1_in g d

-- what the bytes of a jobspec ask for over a graph, or their first fault
abbrev pub v1_of : NamedGraph → List ℕ → Result Ask SpecFault
v1_of g bytes = v1_or_no_json g (value_of bytes)
