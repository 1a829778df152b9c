-- When two values are read as the same jobspec.
use Rattle.std.specs.Prelude.{◌≡◌, Option, Some, None, is_some}
use Rattle.serde_json.specs.Data.{Data}
use Rattle.serde_json.specs.Find.{as_object}
use Rattle.jobspec_v1.specs.Attributes.{terms_of}
use Rattle.jobspec_v1.specs.Jobspecs.{version_of, resources_of}
use Rattle.jobspec_v1.specs.Tasks.{task_list}

-- both are objects or neither is, and what each part gives is the same: the version, the request vertices, the tasks
-- and the attributes
pub record AreSame (d e : Data) : Type 0 where
  pub object : is_some (as_object d) ≡ is_some (as_object e)
  pub version : version_of d ≡ version_of e
  pub resources : resources_of d ≡ resources_of e
  pub tasks : task_list d ≡ task_list e
  pub terms : terms_of d ≡ terms_of e

-- there is a value, and it is the same jobspec as this one
abbrev pub IsReadAs : Option Data → Data → Type 0
IsReadAs None d = ⊥
IsReadAs (Some whole) d = AreSame whole d
