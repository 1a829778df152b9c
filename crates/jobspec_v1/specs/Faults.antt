-- The paths of a jobspec's faults, and when a fault is told.
use Rattle.std.specs.Prelude.{◌≡◌, ◌⊎◌, ℕ, List, [], ◌++◌, codes, Result, Err}
use Rattle.std.specs.Result.{result_map_both}
use Rattle.json_whole.specs.declared.fields.FieldFault.{FieldFault}
use Rattle.json_fields.specs.Paths.{index}
use Rattle.jobspec_v1.specs.declared.faults.SpecFault.{SpecFault}
use Rattle.jobspec_v1.specs.declared.faults.SpecFault.TheVariants.{Field, Label, NotInProfile, Memory}
use Rattle.jobspec_v1.specs.declared.headers.VertexKey.{VertexKey}
use Rattle.jobspec_v1.specs.declared.headers.VertexKey.TheVariants as key
use Rattle.jobspec_v1.specs.declared.headers.KeyFault.{KeyFault}
use Rattle.jobspec_v1.specs.declared.headers.KeyFault.TheVariants as of_key
use Rattle.json_fields.specs.declared.misfits.Misfit.{Misfit}

-- Of want of memory nothing is said; any other fault is the one that is meant.
abbrev pub IsFirstFault : {A : Type 0} → Result A SpecFault → SpecFault → Type 0
IsFirstFault meant fault = (fault ≡ Memory) ⊎ (meant ≡ Err fault)

-- a fault of a request vertex whose path is told from a place on, told from where this front of it begins
abbrev pub told_behind : List ℕ → SpecFault → SpecFault
told_behind front (Field path fault) = Field (front ++ path) fault
told_behind front (Label path) = Label (front ++ path)
told_behind front (NotInProfile path) = NotInProfile (front ++ path)
told_behind front fault = fault

-- The fault is told from the list on: behind any path of the list it is the one that is meant there.
abbrev pub IsFirstBehind : {A : Type 0} → (List ℕ → Result A SpecFault) → SpecFault → Type 0
IsFirstBehind meant fault = (list : List ℕ) → IsFirstFault (meant list) (told_behind list fault)

-- what a field gives, or its fault at the path
abbrev pub at_path : {A : Type 0} → List ℕ → Result A FieldFault → Result A SpecFault
at_path path field = result_map_both (λ x. x) (λ fault. Field path fault) field

-- where a key stands, behind its request vertex
abbrev pub key_path : VertexKey → List ℕ
key_path key.Whole = []
key_path key.Foreign = codes ".*"
key_path key.TypeName = codes ".type"
key_path key.Count = codes ".count"
key_path key.Unit = codes ".unit"
key_path key.Exclusive = codes ".exclusive"
key_path key.Label = codes ".label"
key_path key.With = codes ".with"

-- the path of a key of a member of the list at a path
abbrev pub vertex_path : List ℕ → ℕ → VertexKey → List ℕ
vertex_path list at k = list ++ index at ++ key_path k

-- the fault of a key at the path
abbrev pub fault_at : List ℕ → KeyFault → SpecFault
fault_at path (of_key.Field fault) = Field path fault
fault_at path of_key.Label = Label path
fault_at path of_key.NotInProfile = NotInProfile path

-- a key that breaks its rule
abbrev pub KeyMisfit : Type 0
KeyMisfit = Misfit VertexKey KeyFault

-- what a member of the list at a path gives, or its fault there
abbrev pub at_vertex : {A : Type 0} → List ℕ → ℕ → Result A KeyMisfit → Result A SpecFault
at_vertex list at read = result_map_both (λ x. x) (λ m. fault_at (vertex_path list at m.field) m.fault) read
