-- The nodes of a graph file.
use Rattle.std.specs.Prelude.{ℕ, suc, nat_le, List, [], ◌∷◌, ◌++◌, length, if◌then◌else◌, Option, Some, None, Result}
use Rattle.std.specs.Prelude.{Ok, Err, codes, decimal}
use Rattle.std.specs.List.{fold, list_all}
use Rattle.std.specs.Option.{option_map_or, option_or}
use Rattle.std.specs.Ordering.{nat_cmp}
use Rattle.std.specs.Cmp.Lexicographic.{slice_cmp}
use Rattle.std.specs.BTreeSet.{insert_key}
use Rattle.std.specs.Result.{result_err, result_map_both}
use Rattle.flux_defs.specs.declared.limits.TheConstants.{MOST_NAME_BYTES, MOST_TYPE_BYTES}
use Rattle.serde_json.specs.Data.{Data, null, boolean, number, string, array, object, Items, no_items, item}
use Rattle.serde_json.specs.Find.{as_str}
use Rattle.json_whole.specs.Values.{items_view, object_view}
use Rattle.json_whole.specs.declared.fields.FieldFault.{FieldFault}
use Rattle.json_whole.specs.declared.fields.FieldFault.TheVariants.{Kind, Text}
use Rattle.graph_json.specs.Fields.{is_unit, id_field, small_given, size_given}
use Rattle.json_fields.specs.Values.{result_and_then, given, object_value, object_field, keys_of}
use Rattle.text_forms.specs.Names.{is_name}
use Rattle.json_fields.specs.Names.{ruled_value, ruled_field, ruled_given}
use Rattle.graph_json.specs.FieldPaths.{at_key, FileMisfit}
use Rattle.json_fields.specs.Misfits.{at_field}
use Rattle.graph_json.specs.declared.field_paths.NodeKey.TheVariants.{Id, Metadata, TypeName, Basename, Number, Name}
use Rattle.graph_json.specs.declared.field_paths.NodeKey.TheVariants.{Rank, Size, Unit, Properties}
use Rattle.graph_json.specs.declared.field_paths.FieldPath.TheVariants.{Node, NodeField, Property, PropertyKey}
use Rattle.graph_json.specs.declared.fields.NodeId.{NodeId}
use Rattle.graph_json.specs.declared.fields.NodeId.TheVariants.{Written, Numbered}
use Rattle.graph_json.specs.declared.nodes.NodeFields.{NodeFields}
use Rattle.graph_json.specs.declared.nodes.Properties.{Properties as Props}
use Rattle.graph_json.specs.declared.nodes.Properties.TheVariants.{NoProperties, Keys, Members as Listed}

-- A node of a file: its id, and what its metadata says.
pub record FileNode : Type 0 where
  pub id : List ℕ
  pub kind : List ℕ
  pub base : List ℕ
  pub number : Option ℕ
  pub name : List ℕ
  pub rank : Option ℕ
  pub size : ℕ
  pub unit : List ℕ
  pub properties : List (List ℕ)

-- ---- names

-- the name of a node that gives none: its basename and, where there is one, its number
abbrev pub default_name : List ℕ → Option ℕ → List ℕ
default_name base n = base ++ option_map_or decimal n []

-- a default name is no longer than other names
abbrev pub short_name : List ℕ → Result (List ℕ) FieldFault
short_name name = if nat_le (length name) MOST_NAME_BYTES then Ok name else Err Text

abbrev pub name_or_default : List ℕ → Option ℕ → Option Data → Result (List ℕ) FieldFault
name_or_default base n None = short_name (default_name base n)
name_or_default base n (Some d) = ruled_value (is_name MOST_NAME_BYTES) d

abbrev pub name_given : List ℕ → Option ℕ → Data → Result (List ℕ) FieldFault
name_given base n d = name_or_default base n (given (codes "name") d)

-- ---- properties

-- the texts of a list
abbrev pub texts_in : Items → List (List ℕ)
texts_in no_items = []
texts_in (item d ds) = option_map_or (λ s. s ∷ texts_in ds) (as_str d) (texts_in ds)

-- texts in byte order, each once
abbrev pub in_order : List (List ℕ) → List (List ℕ)
in_order texts = fold (insert_key (slice_cmp nat_cmp)) [] texts

-- the first of a list's members from `member` on that is no name
abbrev pub first_misfit : ℕ → ℕ → Items → Option FileMisfit
first_misfit at m no_items = None
first_misfit at m (item d ds) =
    option_or (result_err (at_field (Property at m) (ruled_value (is_name MOST_NAME_BYTES) d)))
    (first_misfit at (suc m) ds)

abbrev pub unless_misfit : {A : Type 0} → Option FileMisfit → A → Result A FileMisfit
unless_misfit None x = Ok x
unless_misfit (Some m) x = Err m

-- the properties that a value lists: an object's keys, or a list's texts
abbrev pub properties_of : ℕ → Data → Result (List (List ℕ)) FileMisfit
properties_of at null = Err (record { field = NodeField at Properties; fault = Kind })
properties_of at (boolean b) = Err (record { field = NodeField at Properties; fault = Kind })
properties_of at (number n) = Err (record { field = NodeField at Properties; fault = Kind })
properties_of at (string s) = Err (record { field = NodeField at Properties; fault = Kind })
properties_of at (array ds) = unless_misfit (first_misfit at 0 ds) (in_order (texts_in ds))
properties_of at (object ms) = if list_all (is_name MOST_NAME_BYTES) (keys_of ms) then Ok (keys_of ms) else Err
    (record { field = PropertyKey at; fault = Text })

abbrev pub properties_or_none : ℕ → Option Data → Result (List (List ℕ)) FileMisfit
properties_or_none at None = Ok []
properties_or_none at (Some d) = properties_of at d

abbrev pub properties_given : ℕ → Data → Result (List (List ℕ)) FileMisfit
properties_given at d = properties_or_none at (given (codes "properties") d)

-- ---- nodes

-- a node with this id and this metadata, key by key
abbrev pub node_with : ℕ → List ℕ → Data → Result FileNode FileMisfit
node_with at id d =
    result_and_then (at_key at TypeName (ruled_field (is_name MOST_TYPE_BYTES) (codes "type") d)) (λ kind.
    result_and_then (at_key at Basename (ruled_given (is_name MOST_NAME_BYTES) kind (codes "basename") d)) (λ base.
    result_and_then (at_key at Number (small_given (codes "id") d)) (λ n.
    result_and_then (at_key at Name (name_given base n d)) (λ name.
    result_and_then (at_key at Rank (small_given (codes "rank") d)) (λ rank.
    result_and_then (at_key at Size (size_given (codes "size") d)) (λ size.
    result_and_then (at_key at Unit (ruled_given is_unit [] (codes "unit") d)) (λ unit.
    result_map_both (λ properties. record {
      id = id;
      kind = kind;
      base = base;
      number = n;
      name = name;
      rank = rank;
      size = size;
      unit = unit;
      properties = properties;
    }) (λ m. m)
    (properties_given at d))))))))

-- the node that the value with this index is
abbrev pub node_of : ℕ → Data → Result FileNode FileMisfit
node_of at d =
    result_and_then (at_field (Node at) (object_value d)) (λ whole.
    result_and_then (at_key at Id (id_field (codes "id") whole)) (λ id.
    result_and_then (at_key at Metadata (object_field (codes "metadata") whole)) (node_with at id)))

-- the nodes of a list from this index on, and the first misfit where one can't be read
abbrev pub nodes_of : ℕ → Items → Result (List FileNode) FileMisfit
nodes_of at no_items = Ok []
nodes_of at (item d ds) =
    result_and_then (node_of at d) (λ x. result_map_both (λ xs. x ∷ xs) (λ m. m) (nodes_of (suc at) ds))

-- ---- what the code holds of a node

-- a node's id as a text
abbrev pub id_bytes : NodeId → List ℕ
id_bytes (Written s) = s.now
id_bytes (Numbered n) = decimal n

abbrev pub properties_held : Props → List (List ℕ)
properties_held NoProperties = []
properties_held (Keys m) = keys_of (object_view m.now.items)
properties_held (Listed v) = in_order (texts_in (items_view v.now.items))

abbrev pub name_held : NodeFields → List ℕ
name_held x = option_map_or (λ s. s.now) x.name (default_name x.base.now x.number)

abbrev pub node_held : NodeFields → FileNode
node_held x = record {
  id = id_bytes x.id;
  kind = x.kind.now;
  base = x.base.now;
  number = x.number;
  name = name_held x;
  rank = x.rank;
  size = x.size;
  unit = x.unit.now;
  properties = properties_held x.properties;
}
