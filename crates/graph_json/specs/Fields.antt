-- The rules of single fields.
use Rattle.std.specs.Prelude.{ℕ, zero, suc, pos, negsuc, List, length, Bool, ◌&&◌, nat_le, if◌then◌else◌}
use Rattle.std.specs.Prelude.{Option, Some, None, is_some, Result, Ok, Err, decimal}
use Rattle.std.specs.List.{list_all}
use Rattle.std.specs.Char.{is_ascii_graphic}
use Rattle.std.specs.Result.{result_map_both}
use Rattle.flux_defs.specs.declared.limits.TheConstants.{GREATEST_NUMBER, GREATEST_ID, MOST_UNIT_BYTES}
use Rattle.serde_json.specs.Data.{Num, unsigned, negative, float, Data, null, boolean, number, string, array, object}
use Rattle.serde_json.specs.Find.{get, as_number}
use Rattle.json_whole.specs.Field.{number_or_kind, u64_field}
use Rattle.json_whole.specs.declared.fields.FieldFault.{FieldFault}
use Rattle.json_whole.specs.declared.fields.FieldFault.TheVariants.{Missing, Kind, Small, Large}
use Rattle.json_fields.specs.Values.{given}

-- a unit: at most so many visible ASCII characters
abbrev pub is_unit : List ℕ → Bool
is_unit text = nat_le (length text) MOST_UNIT_BYTES && list_all is_ascii_graphic text

-- the id of a node: a text, or a whole number, which counts as its decimal text
abbrev pub id_of : Option Data → Result (List ℕ) FieldFault
id_of None = Err Missing
id_of (Some null) = Err Kind
id_of (Some (boolean b)) = Err Kind
id_of (Some (number n)) = result_map_both decimal (λ fault. fault) (number_or_kind 0 GREATEST_NUMBER (Some n))
id_of (Some (string s)) = Ok s
id_of (Some (array ds)) = Err Kind
id_of (Some (object ms)) = Err Kind

-- the id at a key
abbrev pub id_field : List ℕ → Data → Result (List ℕ) FieldFault
id_field key d = id_of (get key d)

-- a number that leaves the greatest number of 32 bits free, or -1, which stands for none
abbrev pub small_number : Num → Result (Option ℕ) FieldFault
small_number (unsigned n) = if nat_le n (GREATEST_ID) then Ok (Some n) else Err Large
small_number (negative (pos n)) = Err Small
small_number (negative (negsuc zero)) = Ok None
small_number (negative (negsuc (suc n))) = Err Small
small_number (float x) = Err Kind

abbrev pub small_or_kind : Option Num → Result (Option ℕ) FieldFault
small_or_kind None = Err Kind
small_or_kind (Some n) = small_number n

abbrev pub small_or_none : Option Data → Result (Option ℕ) FieldFault
small_or_none None = Ok None
small_or_none (Some d) = small_or_kind (as_number d)

-- such a number at a key whose default is none
abbrev pub small_given : List ℕ → Data → Result (Option ℕ) FieldFault
small_given key d = small_or_none (given key d)

-- the size: a whole number, by default 1
abbrev pub size_given : List ℕ → Data → Result ℕ FieldFault
size_given key d = if is_some (given key d) then u64_field key 0 GREATEST_NUMBER d else Ok 1
