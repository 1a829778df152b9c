-- What is wrong with a value, and where.
use Rattle.std.specs.Prelude.{◌≡◌, ℕ, List, ◌++◌, codes, Result, Ok, Err, ⊤}
use Rattle.std.specs.Result.{result_map_both}
use Rattle.json_whole.specs.declared.fields.FieldFault.{FieldFault}
use Rattle.json_fields.specs.Paths.{index}
use Rattle.resource_set_r.specs.declared.faults.FieldPath.{FieldPath}
use Rattle.resource_set_r.specs.declared.faults.FieldPath.TheVariants.{Whole, Version, Execution, RLite, Row, Rank}
use Rattle.resource_set_r.specs.declared.faults.FieldPath.TheVariants.{Children, Core, Gpu, Nodelist, Host, Starttime}
use Rattle.resource_set_r.specs.declared.faults.FieldPath.TheVariants.{Expiration}
use Rattle.resource_set_r.specs.declared.faults.Misread.{Misread}
use Rattle.resource_set_r.specs.declared.faults.Misread.TheVariants.{Field}
use Rattle.resource_set_r.specs.declared.faults.ReadError.{ReadError}
use Rattle.resource_set_r.specs.declared.faults.ReadError.TheVariants as error

-- the path of a field
abbrev pub field_path : FieldPath → List ℕ
field_path Whole = codes "."
field_path Version = codes "version"
field_path Execution = codes "execution"
field_path RLite = codes "execution.R_lite"
field_path (Row at) = codes "execution.R_lite" ++ index at
field_path (Rank at) = codes "execution.R_lite" ++ index at ++ codes ".rank"
field_path (Children at) = codes "execution.R_lite" ++ index at ++ codes ".children"
field_path (Core at) = codes "execution.R_lite" ++ index at ++ codes ".children.core"
field_path (Gpu at) = codes "execution.R_lite" ++ index at ++ codes ".children.gpu"
field_path Nodelist = codes "execution.nodelist"
field_path (Host at) = codes "execution.nodelist" ++ index at
field_path Starttime = codes "execution.starttime"
field_path Expiration = codes "execution.expiration"

-- the fault stands at the field
abbrev pub field_misread : FieldPath → FieldFault → Misread
field_misread field fault = Field (record { field = field; fault = fault })

-- what is read of a field, or its fault there
abbrev pub at_field : {A : Type 0} → FieldPath → Result A FieldFault → Result A Misread
at_field field read = result_map_both (λ x. x) (field_misread field) read

-- the answer is what is read there, a value or what is wrong; want of memory may come at any time
abbrev pub IsResultOf : {X : Type 0} → Result X ReadError → Result X Misread → Type 0
IsResultOf (Ok value) read = read ≡ Ok value
IsResultOf (Err (error.Misread m)) read = read ≡ Err m
IsResultOf (Err error.Memory) read = ⊤
