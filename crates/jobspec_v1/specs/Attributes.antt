-- The attributes of a jobspec (RFC 14).
use Rattle.std.specs.Prelude.{ℕ, List, if◌then◌else◌, Option, Some, None, is_some, option_map, option_and_then, Result}
use Rattle.std.specs.Prelude.{Ok, codes}
use Rattle.serde_json.specs.Data.{Data}
use Rattle.serde_json.specs.Find.{get}
use Rattle.json_whole.specs.Values.{view}
use Rattle.json_whole.specs.Field.{u64_field}
use Rattle.json_whole.specs.declared.fields.FieldFault.{FieldFault}
use Rattle.json_fields.specs.Values.{result_and_then, given, object_or_none}
use Rattle.jobspec_v1.specs.declared.faults.SpecFault.{SpecFault}
use Rattle.jobspec_v1.specs.declared.attributes.Attributes.{Attributes}
use Rattle.jobspec_v1.specs.Faults.{at_path}
use Rattle.flux_defs.specs.declared.limits.TheConstants.{GREATEST_NUMBER}

-- how long it runs, in seconds (0 sets no limit), and its constraint
pub record Terms : Type 0 where
  pub duration : ℕ
  pub constraint : Option Data

-- what an object that may be absent has at a key
abbrev pub given_in : List ℕ → Option Data → Option Data
given_in key d = option_and_then (given key) d

-- the seconds, 0 where none are said
abbrev pub duration_in : Option Data → Result ℕ FieldFault
duration_in None = Ok 0
duration_in (Some d) = if is_some (get (codes "duration") d) then u64_field
    (codes "duration") 0 GREATEST_NUMBER d else Ok 0

-- what the attributes say, or the first fault of them
abbrev pub terms_of : Data → Result Terms SpecFault
terms_of d =
    result_and_then (at_path (codes "attributes") (object_or_none (given (codes "attributes") d))) (λ attributes.
    result_and_then
    (at_path (codes "attributes.system") (object_or_none (given_in (codes "system") attributes))) (λ system.
    result_and_then (at_path (codes "attributes.system.duration") (duration_in system)) (λ duration.
    Ok (record { duration = duration; constraint = given_in (codes "constraints") system }))))

-- ---- what the code holds

abbrev pub terms_held : Attributes → Terms
terms_held a = record { duration = a.duration; constraint = option_map (λ v. view v.now) a.constraint }
