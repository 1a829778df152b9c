-- Why a line can't be read.
use Rattle.std.specs.Prelude.{ℕ, List, ◌++◌, codes}
use Rattle.json_fields.specs.Words.{field_word}
use Rattle.need_shape.specs.declared.raw.ShapeFault.{ShapeFault}
use Rattle.need_shape.specs.declared.raw.ShapeFault.TheVariants as shape
use Rattle.jobspec_v1.specs.declared.faults.SpecFault.{SpecFault}
use Rattle.jobspec_v1.specs.declared.faults.SpecFault.TheVariants as spec

-- what is wrong with a request's shape; want of memory is no reason
abbrev pub shape_reason : ShapeFault → List ℕ
shape_reason (shape.SameSiblings kind) = codes "shape same " ++ kind
shape_reason (shape.NestedSiblings upper lower) = codes "shape nested " ++ upper ++ codes " " ++ lower
shape_reason (shape.HeldPool kind) = codes "shape held " ++ kind
shape_reason (shape.PoolWith kind) = codes "shape with " ++ kind
shape_reason shape.CountLimit = codes "shape count"
shape_reason shape.Memory = codes "memory"

-- what is wrong with a jobspec
abbrev pub spec_reason : SpecFault → List ℕ
spec_reason spec.NotJson = codes "json"
spec_reason (spec.Field path fault) = codes "field " ++ path ++ codes " " ++ field_word fault
spec_reason spec.Version = codes "version"
spec_reason spec.Form = codes "form"
spec_reason (spec.Label path) = codes "label " ++ path
spec_reason (spec.Task path) = codes "task " ++ path
spec_reason (spec.Shape fault) = shape_reason fault
spec_reason (spec.Constraint path) = codes "constraint " ++ path
spec_reason (spec.NotInProfile path) = codes "profile " ++ path
spec_reason spec.Memory = codes "memory"
