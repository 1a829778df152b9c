-- Texts that keep a rule, such as names.
use Rattle.std.specs.Prelude.{ℕ, List, Bool, Option, Some, None, if◌then◌else◌, Result, Ok, Err}
use Rattle.serde_json.specs.Data.{Data}
use Rattle.serde_json.specs.Find.{as_str}
use Rattle.json_whole.specs.Field.{text_or_kind, text_field}
use Rattle.json_whole.specs.declared.fields.FieldFault.{FieldFault}
use Rattle.json_whole.specs.declared.fields.FieldFault.TheVariants.{Text}
use Rattle.json_fields.specs.Values.{result_and_then, given}

-- a text that keeps a rule
abbrev pub ruled : (List ℕ → Bool) → List ℕ → Result (List ℕ) FieldFault
ruled rule text = if rule text then Ok text else Err Text

-- a value that is such a text
abbrev pub ruled_value : (List ℕ → Bool) → Data → Result (List ℕ) FieldFault
ruled_value rule d = result_and_then (text_or_kind (as_str d)) (ruled rule)

-- the text at a key, which is required
abbrev pub ruled_field : (List ℕ → Bool) → List ℕ → Data → Result (List ℕ) FieldFault
ruled_field rule key d = result_and_then (text_field key d) (ruled rule)

-- the text where one is given, else the default
abbrev pub ruled_or : (List ℕ → Bool) → List ℕ → Option Data → Result (List ℕ) FieldFault
ruled_or rule otherwise None = Ok otherwise
ruled_or rule otherwise (Some d) = ruled_value rule d

-- the text at a key with a default
abbrev pub ruled_given : (List ℕ → Bool) → List ℕ → List ℕ → Data → Result (List ℕ) FieldFault
ruled_given rule otherwise key d = ruled_or rule otherwise (given key d)
