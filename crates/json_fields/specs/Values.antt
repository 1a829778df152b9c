-- What stands at a key of an object.
use Rattle.std.specs.Prelude.{ℕ, List, [], ◌∷◌, if◌then◌else◌, Option, Some, None, is_some, option_and_then, Result, Ok}
use Rattle.std.specs.Prelude.{Err}
use Rattle.serde_json.specs.Data.{Data, Items, no_items, item, Members, no_members, member}
use Rattle.serde_json.specs.Find.{get, as_null, as_array, as_object}
use Rattle.json_whole.specs.declared.fields.FieldFault.{FieldFault}
use Rattle.json_whole.specs.declared.fields.FieldFault.TheVariants.{Missing, Kind, Small}

-- go on with the value, or stay with the fault
abbrev pub result_and_then : {A B E : Type 0} → Result A E → (A → Result B E) → Result B E
result_and_then (Ok x) f = f x
result_and_then (Err e) f = Err e

-- the value at a key that has a default: null counts as absent
abbrev pub given : List ℕ → Data → Option Data
given key d = option_and_then (λ e. if is_some (as_null e) then None else Some e) (get key d)

-- the keys of an object
abbrev pub keys_of : Members → List (List ℕ)
keys_of no_members = []
keys_of (member k d ms) = k ∷ keys_of ms

-- a value that is an object
abbrev pub object_value : Data → Result Data FieldFault
object_value d = if is_some (as_object d) then Ok d else Err Kind

abbrev pub object_of : Option Data → Result Data FieldFault
object_of None = Err Missing
object_of (Some d) = object_value d

-- the object at a key
abbrev pub object_field : List ℕ → Data → Result Data FieldFault
object_field key d = object_of (get key d)

-- an object, where something is given
abbrev pub object_or_none : Option Data → Result (Option Data) FieldFault
object_or_none None = Ok None
object_or_none (Some d) = if is_some (as_object d) then Ok (Some d) else Err Kind

abbrev pub list_or_kind : Option Items → Result Items FieldFault
list_or_kind None = Err Kind
list_or_kind (Some ds) = Ok ds

-- a value that is a list
abbrev pub list_value : Data → Result Items FieldFault
list_value d = list_or_kind (as_array d)

abbrev pub list_of : Option Data → Result Items FieldFault
list_of None = Err Missing
list_of (Some d) = list_value d

-- the list at a key
abbrev pub list_field : List ℕ → Data → Result Items FieldFault
list_field key d = list_of (get key d)

-- a list with a value or more
abbrev pub some_items : Items → Result Items FieldFault
some_items no_items = Err Small
some_items (item d ds) = Ok (item d ds)

abbrev pub some_value : Data → Result Items FieldFault
some_value d = result_and_then (list_value d) some_items

-- such a list at a key
abbrev pub some_field : List ℕ → Data → Result Items FieldFault
some_field key d = result_and_then (list_field key d) some_items
