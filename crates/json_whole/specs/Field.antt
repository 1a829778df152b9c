-- What the field of an object at a key gives, or what is wrong with it.
use Rattle.std.specs.Prelude.{ℕ, List, nat_lt, if◌then◌else◌, Option, Some, None, Result, Ok, Err}
use Rattle.serde_json.specs.Data.{Num, unsigned, negative, float, Data}
use Rattle.serde_json.specs.Find.{get, as_number, as_str}
use Rattle.json_whole.specs.declared.fields.FieldFault.{FieldFault}
use Rattle.json_whole.specs.declared.fields.FieldFault.TheVariants.{Missing, Kind, Small, Large}

-- a whole number from `least` to `most`; each negative one is Small
abbrev pub in_range : ℕ → ℕ → Num → Result ℕ FieldFault
in_range least most (unsigned n) = if nat_lt n least then Err Small else (if nat_lt most n then Err Large else Ok n)
in_range least most (negative z) = Err Small
in_range least most (float x) = Err Kind

abbrev pub number_or_kind : ℕ → ℕ → Option Num → Result ℕ FieldFault
number_or_kind least most None = Err Kind
number_or_kind least most (Some n) = in_range least most n

-- a value that is such a number; any other value is Kind, and none is Missing
abbrev pub u64_of : ℕ → ℕ → Option Data → Result ℕ FieldFault
u64_of least most None = Err Missing
u64_of least most (Some d) = number_or_kind least most (as_number d)

-- the whole number at the key, from `least` to `most`
abbrev pub u64_field : List ℕ → ℕ → ℕ → Data → Result ℕ FieldFault
u64_field key least most d = u64_of least most (get key d)

abbrev pub text_or_kind : Option (List ℕ) → Result (List ℕ) FieldFault
text_or_kind None = Err Kind
text_or_kind (Some s) = Ok s

-- a value that is a text; any other value is Kind, and none is Missing
abbrev pub text_of : Option Data → Result (List ℕ) FieldFault
text_of None = Err Missing
text_of (Some d) = text_or_kind (as_str d)

-- the text at the key
abbrev pub text_field : List ℕ → Data → Result (List ℕ) FieldFault
text_field key d = text_of (get key d)
