-- The tasks of a jobspec (RFC 14): which are well formed, and the first fault of them.
use Rattle.std.specs.Prelude.{ℕ, suc, ◌&&◌, ◌||◌, List, ◌++◌, Bool, true, false, if◌then◌else◌, Option, Some, None}
use Rattle.std.specs.Prelude.{is_some, Result, Ok, Err, codes}
use Rattle.std.specs.Option.{option_map_or, option_or}
use Rattle.serde_json.specs.Data.{Data, Items, no_items, item}
use Rattle.serde_json.specs.Find.{get, as_str, as_array, as_object}
use Rattle.json_whole.specs.Field.{u64_field}
use Rattle.json_whole.specs.declared.fields.FieldFault.TheVariants.{Kind}
use Rattle.json_fields.specs.Values.{some_field}
use Rattle.json_fields.specs.Paths.{index}
use Rattle.jobspec_v1.specs.declared.faults.SpecFault.{SpecFault}
use Rattle.jobspec_v1.specs.declared.faults.SpecFault.TheVariants.{Field, Task}
use Rattle.jobspec_v1.specs.Faults.{at_path}
use Rattle.jobspec_v1.specs.Requests.{is_among}
use Rattle.flux_defs.specs.declared.limits.TheConstants.{GREATEST_NUMBER}

-- each value is a text
abbrev pub are_texts : Items → Bool
are_texts no_items = true
are_texts (item d ds) = is_some (as_str d) && are_texts ds

abbrev pub is_some_items : Items → Bool
is_some_items no_items = false
is_some_items (item d ds) = true

-- a list of one or more texts
abbrev pub is_command : Data → Bool
is_command d = option_map_or (λ ds. is_some_items ds && are_texts ds) (as_array d) false

-- the label of some slot
abbrev pub is_label : List (List ℕ) → Data → Bool
is_label labels d = option_map_or (is_among labels) (as_str d) false

abbrev pub is_result_ok : {A E : Type 0} → Result A E → Bool
is_result_ok (Ok x) = true
is_result_ok (Err e) = false

-- a count from 1 to the greatest number, where the key is there
abbrev pub is_count_or_absent : List ℕ → Data → Bool
is_count_or_absent key d = if is_some (get key d) then is_result_ok (u64_field key 1 GREATEST_NUMBER d) else true

-- an object with a count for each slot or for all of them
abbrev pub is_task_count : Data → Bool
is_task_count d =
    is_some (as_object d) && ((is_some (get (codes "per_slot") d) || is_some (get (codes "total") d))
    && (is_count_or_absent (codes "per_slot") d && is_count_or_absent (codes "total") d))

-- an object is a task of a request with slots of these labels
abbrev pub is_task : List (List ℕ) → Data → Bool
is_task labels d =
    option_map_or is_command (get (codes "command") d) false
    && (option_map_or (is_label labels) (get (codes "slot") d) false
    && option_map_or is_task_count (get (codes "count") d) false)

abbrev pub task_path : ℕ → List ℕ
task_path at = codes "tasks" ++ index at

-- what is wrong with the task at an index
abbrev pub task_fault : List (List ℕ) → ℕ → Data → Option SpecFault
task_fault labels at d =
    if is_some (as_object d)
    then (if is_task labels d then None else Some (Task (task_path at))) else Some (Field (task_path at) Kind)

-- the first fault of tasks from an index on
abbrev pub tasks_fault : List (List ℕ) → ℕ → Items → Option SpecFault
tasks_fault labels at no_items = None
tasks_fault labels at (item d ds) = option_or (task_fault labels at d) (tasks_fault labels (suc at) ds)

-- the values of the tasks: a list with a value or more
abbrev pub task_list : Data → Result Items SpecFault
task_list d = at_path (codes "tasks") (some_field (codes "tasks") d)
