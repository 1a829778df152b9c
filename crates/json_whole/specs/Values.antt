-- What a value in memory stands for. Its numbers are texts, and an object keeps its members as they came.
use Rattle.std.specs.Prelude.{ℕ, List, [], ◌∷◌, map, Option, Some, None}
use Rattle.std.specs.Borrow.{Bor}
use Rattle.json.specs.Json as json
use Rattle.json.specs.Value.{value_view, items_of, members_view}
use Rattle.json.specs.declared.value.Value.{Value}
use Rattle.serde_json.specs.Data.{Num, unsigned, negative, float, Data, null, boolean, number, string, array, object}
use Rattle.serde_json.specs.Data.{Items, no_items, item, Members, no_members, member, put}
use Rattle.serde_json.specs.Read.{number_of}

-- a number that is no float; 0 stands for one that is
abbrev pub whole_or_zero : Option Num → Num
whole_or_zero None = unsigned 0
whole_or_zero (Some (unsigned n)) = unsigned n
whole_or_zero (Some (negative z)) = negative z
whole_or_zero (Some (float x)) = unsigned 0

-- the members go in one after another, so the last value of a key stays
abbrev mutual
  pub data_of : json.Json → Data
  data_of json.null = null
  data_of (json.boolean b) = boolean b
  data_of (json.number s) = number (whole_or_zero (number_of s))
  data_of (json.string s) = string s
  data_of (json.array js) = array (items_data js)
  data_of (json.object ms) = object (members_data ms no_members)

  pub items_data : json.Items → Items
  items_data json.no_items = no_items
  items_data (json.item j js) = item (data_of j) (items_data js)

  pub members_data : json.Members → Members → Members
  members_data json.no_members found = found
  members_data (json.member k j ms) found = members_data ms (put k (data_of j) found)

-- the data of a value
abbrev pub view : {A : Type 0} → Value A → Data
view v = data_of (value_view v)

-- the data of a list of values
abbrev pub items_view : {A : Type 0} → List (Value A) → Items
items_view vs = items_data (items_of (map value_view vs))

-- the data of the members of an object, each key once, in order
abbrev pub object_view : {A : Type 0} → List (Bor (List ℕ) × Value A) → Members
object_view ms = members_data (members_view ms) no_members

-- keys with values, as they stand
abbrev pub entries_view : {A : Type 0} → List (Bor (List ℕ) × Bor (Value A)) → Members
entries_view [] = no_members
entries_view (e ∷ es) = member e.0.now (view e.1.now) (entries_view es)
